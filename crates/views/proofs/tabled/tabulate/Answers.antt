use Rattle.std.proofs.Common.{◌≡◌, ℕ, true, ◌*◌, ◌/◌, ◌%◌, length, ap, sym, rules, ◌∙◌, ap₂}
use Rattle.systems.specs.Cells.{written}
use Rattle.systems.specs.Sets.{set_of}
use Rattle.views.specs.Tabled.{room, move_sheet, mark_sheet, label_sheet}
use Rattle.views.proofs.Tables.{tabulates}
use Rattle.views.proofs.tabled.tabulate.Goals as goal

pub returns : goal.returns
unfolding move_sheet mark_sheet label_sheet
returns g c =
    let x = c.args in
    let m = g.S.System.meaning x.system.now in
    let fits : room c.states.result c.actions.result (length x.moves.now) (length x.marks.now) (length x.labels.now) ≡ true = sym c.has_room.ensures ∙ c.if-not-has_room.false in
    let at = λ (n k : ℕ). room n k (length x.moves.now) (length x.marks.now) (length x.labels.now) in
    let move : ℕ → ℕ → ℕ = λ n k. set_of 64 (m.moves (k / n) (k % n)) in
    let mark : ℕ → ℕ = λ p. set_of 32 (m.marks p) in
    tabulates m _ _ x.moves.now x.marks.now x.labels.now
    c.states.ensures c.actions.ensures c.start.ensures (sym (ap₂ at c.states.ensures c.actions.ensures) ∙ fits)
    _ _ _
    (c.write_first.ensures (move c.actions.result) (λ k n h p. search rules) ∙ ap₂ (λ (n k : ℕ). written (n * k) (move k) x.moves.now) c.states.ensures c.actions.ensures)
    (c.write_first-2.ensures mark (λ k n h p. search rules) ∙ ap (λ (n : ℕ). written n mark x.marks.now) c.states.ensures)
    (c.write_first-3.ensures m.label (λ k n h p. search rules) ∙ ap (λ (n : ℕ). written n m.label x.labels.now) c.states.ensures)
