use Rattle.std.proofs.Common.{rules, tests, sym, ap, ◌∙◌}
use Rattle.std.proofs.lemmas.Iterator.Consumers.{fold_from_yields_List, YieldsList-from_filter_map, YieldsList-from_first}
use Rattle.systems.specs.Sets.{set_of}
use Rattle.systems.proofs.Sets.{set_of_none}
use Rattle.filing.specs.Reading.{left}
use Rattle.filing.specs.Contents.{move_in}
use Rattle.filing.proofs.Asking.{own_meaning, filed_list, asks}
use Rattle.filing.proofs.Says.{with_member, moved, moves_more}
use Rattle.filing.proofs.filed.FiledSystem.reach.Goals as goal

pub returns : goal.returns
returns g c =
    let s = c.args.self.now in
    asks s with_member (moved c.args.p c.args.a) (λ rs. set_of 64 (move_in rs c.args.p c.args.a)) (moves_more c.args.p c.args.a) 0 _ (sym (set_of_none 64))
    (fold_from_yields_List _ with_member 0 _ c.fold.ensures.ran
    (YieldsList-from_filter_map _ (moved c.args.p c.args.a)
    (YieldsList-from_first (λ x. x) (left g.L.Label.WIDTH g.L.Label.read) (filed_list s) cc)
    c.filter_map.ensures.closure (λ x r q k. search (rules, tests)))
    (λ a x b q k. search rules))
    ∙ sym (ap (λ m. set_of 64 (m.moves c.args.p c.args.a)) (own_meaning s))
