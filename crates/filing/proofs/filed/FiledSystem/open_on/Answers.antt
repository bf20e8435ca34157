use Rattle.std.proofs.Common.{rules, tests, sym, ap, ◌∙◌, arith}
use Rattle.std.proofs.lemmas.Iterator.Consumers.{fold_from_yields_List, YieldsList-from_filter_map, YieldsList-from_first}
use Rattle.systems.specs.Sets.{set_of}
use Rattle.systems.proofs.Sets.{set_of_none, set_of_low}
use Rattle.filing.specs.Reading.{left}
use Rattle.filing.specs.Contents.{mark_in}
use Rattle.filing.proofs.Asking.{own_meaning, filed_list, asks}
use Rattle.filing.proofs.Says.{with_member, marked, marks_more}
use Rattle.filing.proofs.filed.FiledSystem.open_on.Goals as goal

pub returns : goal.returns
returns g c =
    let s = c.args.self.now in
    c.as_actions.ensures
    ∙ set_of_low 32 64 _ _ (omega arith)
    (asks s with_member (marked c.args.p) (λ rs. set_of 64 (mark_in rs c.args.p)) (marks_more c.args.p) 0 _ (sym (set_of_none 64))
    (fold_from_yields_List _ with_member 0 _ c.fold.ensures.ran
    (YieldsList-from_filter_map _ (marked c.args.p)
    (YieldsList-from_first (λ x. x) (left g.L.Label.WIDTH g.L.Label.read) (filed_list s) cc)
    c.filter_map.ensures.closure (λ x r q k. search (rules, tests)))
    (λ a x b q k. search rules))
    ∙ sym (ap (λ m. set_of 64 (m.marks c.args.p)) (own_meaning s)))
