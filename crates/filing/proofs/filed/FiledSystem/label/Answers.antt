use Rattle.std.proofs.Common.{◌≡◌, Bool, None, cond, ltb, sym, refl, ap, ◌∙◌, rules, tests}
use Rattle.std.proofs.lemmas.Bool.{lt-ltb, le-ltb}
use Rattle.std.proofs.lemmas.Iterator.Consumers.{YieldsList-from_filter_map, YieldsList-from_first}
use Rattle.std.specs.List.{filter_map}
use Rattle.std.specs.Option.{unwrap_or}
use Rattle.filing.specs.Reading.{left}
use Rattle.filing.specs.Contents.{label_in}
use Rattle.filing.proofs.Asking.{own_contents, own_meaning, filed_list, asks, last_given, last_fold}
use Rattle.filing.proofs.Says.{named, label_more}
use Rattle.filing.proofs.filed.FiledSystem.label.Goals as goal
use Rattle.filing.proofs.filed.FiledSystem.label.Goals.{then-p-header, else-p-header}

pub returns : goal.returns
returns g c =
    let s = c.args.self.now in
    let plain = g.L.Label.plain in
    let p = c.if-p-header.state in
    let either = λ (b : Bool). cond b c.args.p c.args.self.now.header.start in
    let state : p ≡ either (ltb c.args.p c.args.self.now.header.states) =
    elim c.if-p-header.branch [
      | then-p-header w ↦ w.state-is ∙ ap either (sym (lt-ltb _ _ w.if-p-header.true))
      | else-p-header w ↦ w.state-is ∙ ap either (sym (le-ltb _ _ w.if-p-header.false))
    ] in
    asks s (λ l m. m) (named p) (λ rs. label_in plain rs p) (label_more plain p) plain _ refl
    (c.unwrap_or.ensures
    ∙ ap (unwrap_or c.last.result) c.unlabelled.ensures
    ∙ ap (λ o. unwrap_or o plain)
    (last_given _ c.last.ensures.ran
    (YieldsList-from_filter_map _ (named p)
    (YieldsList-from_first (λ x. x) (left g.L.Label.WIDTH g.L.Label.read) (filed_list s) cc)
    c.filter_map.ensures.closure (λ x r q k. search (rules, tests))))
    ∙ last_fold plain None (filter_map (named p) (filed_list s)))
    ∙ ap (label_in plain (own_contents s).records) state
    ∙ sym (ap (λ m. m.label c.args.p) (own_meaning s))
