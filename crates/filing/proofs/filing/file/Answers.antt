use Rattle.std.proofs.Common.{◌≡◌, Err, sym, refl, ap, ◌∙◌, arith, rules}
use Rattle.std.proofs.lemmas.Result.{err_from_is_err_and}
use Rattle.filing.specs.Contents.{header_at}
use Rattle.filing.specs.Steps.{fault_at}
use Rattle.filing.proofs.Steps.{faulted, refuses, no_header, header_ok, no_end, has-shape, files}
use Rattle.filing.proofs.filing.file.Given as given
use Rattle.filing.proofs.filing.file.Goals as goal
use Rattle.filing.proofs.filing.file.Goals.{After-map_err}

-- the header that was read
header_read : (g : given.Over) (c : After-map_err g) → fault_at c.args.begin (header_at g.L.Label.CODE c.args.bytes.now c.args.begin) ≡ c.map_err.result
header_read g c = sym (faulted c.args.begin _ _ _ (λ x f h. search rules) c.map_err.ensures.cases ∙ ap (fault_at c.args.begin) c.header_at.ensures)

pub returns-in_err-header : goal.returns-in_err-header
returns-in_err-header g c =
    let p = err_from_is_err_and c.from_residual.result c.from_residual.ensures.1 in
    let none = no_header g.L.Label.plain g.L.Label.CODE g.L.Label.WIDTH g.L.Label.read c.args.bytes.now c.args.begin _
    (header_read g (goal.at.returns-in_err-header g c).After-map_err ∙ c.in_err-header.was) in
    let r = refuses g.L.Label.plain g.L.Label.CODE g.L.Label.WIDTH g.L.Label.read c.args.bytes.now c.args.begin _ none c.args.place.now in
    record { answers = p.1 ∙ ap Err p.2 ∙ r.0; leaves = r.1 }

pub overflow_add-begin : goal.overflow_add-begin
overflow_add-begin g c =
    omega (
      arith,
      (header_ok g.L.Label.plain g.L.Label.CODE g.L.Label.WIDTH g.L.Label.read c.args.bytes.now c.args.begin _
          (header_read g (goal.at.overflow_add-begin g c).After-map_err ∙ c.in_ok-header.was)).inside,
    )

pub records_end-requires : goal.records_end-requires
records_end-requires g c =
    (header_ok g.L.Label.plain g.L.Label.CODE g.L.Label.WIDTH g.L.Label.read c.args.bytes.now c.args.begin _
    (header_read g (goal.at.records_end-requires g c).After-map_err ∙ c.in_ok-header.was)).few_states

pub returns-in_err-end : goal.returns-in_err-end
returns-in_err-end g c =
    let at = goal.at.returns-in_err-end g c in
    let p = err_from_is_err_and c.from_residual-in_err-end.result c.from_residual-in_err-end.ensures.1 in
    let none = no_end g.L.Label.plain g.L.Label.CODE g.L.Label.WIDTH g.L.Label.read c.args.bytes.now c.args.begin _
    (header_read g at.After-map_err ∙ c.in_ok-header.was) _ (sym c.in_err-end.was ∙ c.records_end.ensures) in
    let r = refuses g.L.Label.plain g.L.Label.CODE g.L.Label.WIDTH g.L.Label.read c.args.bytes.now c.args.begin _ none c.args.place.now in
    record { answers = p.1 ∙ ap Err p.2 ∙ r.0; leaves = r.1 }

pub new-requires : goal.new-requires
new-requires g c =
    let at = goal.at.new-requires g c in
    has-shape g.L.Label.plain g.L.Label.CODE g.L.Label.WIDTH g.L.Label.read c.args.bytes.now c.args.begin _
    (header_read g at.After-map_err ∙ c.in_ok-header.was) _ (sym c.in_ok-end.was ∙ c.records_end.ensures)

pub returns : goal.returns
returns g c =
    let at = goal.at.returns g c in
    let r = files g.L.Label.plain g.L.Label.CODE g.L.Label.WIDTH g.L.Label.read c.args.bytes.now c.args.begin _
    (header_read g at.After-map_err ∙ c.in_ok-header.was) _ (sym c.in_ok-end.was ∙ c.records_end.ensures)
    refl c.args.place.now c.new.result c.new.ensures.stands c.new.ensures.begins in
    record { answers = r.0; leaves = r.1 }
