use Rattle.std.proofs.Common.{rules, tests, ◌∙◌}
use Rattle.std.proofs.lemmas.Iterator.{YieldsList-from_slice}
use Rattle.std.proofs.lemmas.Iterator.Consumers.{YieldsList-from_enumerate}
use Rattle.std.proofs.lemmas.Iterator.Search.{position_from_yields_List}
use Rattle.formulas.proofs.Sheets.{is_faulty_at, first_fault_is}
use Rattle.formulas.proofs.judging.lowest_fault.Goals as goal

pub returns : goal.returns
returns g c =
    position_from_yields_List (is_faulty_at c.args.actions) _ _ _ c.position.ensures.ran
    (YieldsList-from_enumerate (YieldsList-from_slice c.args.nodes.now cc) cc) (λ x b q k. search (rules, tests))
    ∙ first_fault_is c.args.actions c.args.nodes.now
