use Rattle.std.proofs.Common.{◌≡◌, None, length, sym, ap, ◌∙◌, arith}
use Rattle.std.specs.Result.{result_unwrap_or}
use Rattle.filing.specs.Reading.{then_after, records_after}
use Rattle.filing.proofs.Walk.{records_turn}
use Rattle.filing.proofs.records.RecordsIterator.next.Given as given
use Rattle.filing.proofs.records.RecordsIterator.next.Goals as goal
use Rattle.filing.proofs.records.RecordsIterator.next.Goals.{After-unwrap_or}

-- the records, by the one that was read
by_read : (g : given.Over) (c : After-unwrap_or g) →
    records_after g.L.Label.WIDTH g.L.Label.read c.args.self.now.bytes.now c.args.self.now.at
    ≡ then_after (records_after g.L.Label.WIDTH g.L.Label.read c.args.self.now.bytes.now) c.unwrap_or.result
by_read g c =
    let go = then_after (records_after g.L.Label.WIDTH g.L.Label.read c.args.self.now.bytes.now) in
    records_turn g.L.Label.WIDTH g.L.Label.read c.args.self.now.bytes.now c.args.self.now.at
    ∙ ap go (sym (c.unwrap_or.ensures ∙ ap (λ x. result_unwrap_or x None) c.entry_at.ensures))

pub returns-in_err-said-clause-steps : goal.returns-in_err-said-clause-steps
returns-in_err-said-clause-steps g c =
    let none = by_read g (goal.at.returns-in_err-said-clause-steps g c).After-unwrap_or in
    let over = none ∙ ap (then_after (records_after g.L.Label.WIDTH g.L.Label.read c.args.self.now.bytes.now)) c.in_err-said.was in
    rw c.from_residual.ensures (over, over)

pub returns-clause-steps : goal.returns-clause-steps
returns-clause-steps g c =
    let go = then_after (records_after g.L.Label.WIDTH g.L.Label.read c.args.self.now.bytes.now) in
    by_read g (goal.at.returns-clause-steps g c).After-unwrap_or ∙ ap go c.in_ok-said.was

pub returns-clause-goes : goal.returns-clause-goes
returns-clause-goes g c =
    let fewer = ap length (returns-clause-steps g c) in
    record { on = λ f. (tt, f, omega (arith, fewer)); keeps = tt; rests = λ f. f }
