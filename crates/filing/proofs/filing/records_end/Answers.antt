use Rattle.std.proofs.Common.{◌≡◌, ◌||◌, Ok, Err, sym, ap, ◌∙◌, rules}
use Rattle.std.proofs.lemmas.Result.{err_from_is_err_and}
use Rattle.systems.specs.Sets.{has, set_of}
use Rattle.systems.proofs.Sets.{set_of_none}
use Rattle.filing.specs.Contents.{objection, says_label}
use Rattle.filing.specs.Format.{entry_at}
use Rattle.filing.specs.Steps.{fault_at, unless}
use Rattle.filing.proofs.Steps.{faulted, checks_end, checks_fail, checks_less, checks_object, checks_on}
use Rattle.filing.proofs.Walk.{walk_begins}
use Rattle.filing.proofs.filing.records_end.Given as given
use Rattle.filing.proofs.filing.records_end.Goals as goal
use Rattle.filing.proofs.filing.records_end.Goals.{After-map_err, After-map_err-in-Some}

-- the entry that was read
entry_read : (g : given.Over) (c : After-map_err g) → fault_at c.loop-said.at (entry_at g.L.Label.WIDTH g.L.Label.read c.args.bytes.now c.loop-said.at) ≡ c.map_err.result
entry_read g c = sym (faulted c.loop-said.at _ _ _ (λ x f h. search rules) c.map_err.ensures.cases ∙ ap (fault_at c.loop-said.at) c.entry_at.ensures)

-- whether the record stands, and the states that have a label then
checked : (g : given.Over) (c : After-map_err-in-Some g) →
    fault_at c.loop-said.at (unless (objection c.args.header (has c.loop-said.labelled) c.in-Some.said) (set_of 64 (λ p. has c.loop-said.labelled p || says_label c.in-Some.said p)))
    ≡ c.map_err-in-Some.result
checked g c = sym (faulted c.loop-said.at _ _ _ (λ x f h. search rules) c.map_err-in-Some.ensures.cases ∙ ap (fault_at c.loop-said.at) c.labelled_after.ensures)

pub loop-said-init : goal.loop-said-init
loop-said-init g c = walk_begins _ _ _ _ _ _ _ (sym (set_of_none 64))

pub returns-in_err-said : goal.returns-in_err-said
returns-in_err-said g c =
    let p = err_from_is_err_and c.from_residual.result c.from_residual.ensures.1 in
    p.1 ∙ ap Err p.2
    ∙ checks_fail _ _ _ _ _ _ _ c.loop-said.invariant _
    (entry_read g (goal.at.returns-in_err-said g c).After-map_err ∙ c.in_err-said.was)

pub returns-in_err-labelled : goal.returns-in_err-labelled
returns-in_err-labelled g c =
    let at = goal.at.returns-in_err-labelled g c in
    let p = err_from_is_err_and c.from_residual-in_err-labelled.result c.from_residual-in_err-labelled.ensures.1 in
    p.1 ∙ ap Err p.2
    ∙ checks_object _ _ _ _ _ _ _ c.loop-said.invariant c.requires _
    (entry_read g at.After-map_err ∙ c.in_ok-said.was ∙ ap Ok c.in-Some.is)
    _ _ (checked g at.After-map_err-in-Some ∙ c.in_err-labelled.was)

pub loop-said-smaller : goal.loop-said-smaller
loop-said-smaller g c =
    checks_less _ _ _ _ _ _ _ c.loop-said.invariant c.requires _
    (entry_read g (goal.at.loop-said-smaller g c).After-map_err ∙ c.in_ok-said.was ∙ ap Ok c.in-Some.is)

pub loop-said-preserved : goal.loop-said-preserved
loop-said-preserved g c =
    let at = goal.at.loop-said-preserved g c in
    checks_on _ _ _ _ _ _ _ c.loop-said.invariant c.requires _
    (entry_read g at.After-map_err ∙ c.in_ok-said.was ∙ ap Ok c.in-Some.is)
    _ (checked g at.After-map_err-in-Some ∙ c.in_ok-labelled.was)

pub returns : goal.returns
returns g c =
    checks_end _ _ _ _ _ _ _ c.loop-said.invariant
    (entry_read g (goal.at.returns g c).After-map_err ∙ c.in_ok-said.was ∙ ap Ok c.in_default.is)
