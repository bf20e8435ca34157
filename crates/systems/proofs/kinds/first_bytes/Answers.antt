use Rattle.std.proofs.Common.{rules, ℕ, List, get_or, ap, ◌∙◌, ◌<◌, sym, subst}
use Rattle.std.proofs.lemmas.List.{length-replicate}
use Rattle.systems.proofs.Cells.{get_or-written}
use Rattle.systems.proofs.kinds.first_bytes.Goals as goal

pub returns : goal.returns
returns g c i h =
    let read = c.write_first.ensures (λ i. get_or c.args.source.now i 0) (λ i x h p. search rules) in
    ap (λ (xs : List ℕ). get_or xs i 0) read ∙ get_or-written _ _ g.row.N i 0 h (subst (λ (n : ℕ). i < n) (sym (length-replicate g.row.N 0)) h)
