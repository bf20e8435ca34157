use Rattle.std.proofs.Common.{◌≡◌, ℕ, ◌+◌, Some, Ok, take, drop, length, get_or, ap, ◌∙◌, ap₂, arith}
use Rattle.std.proofs.lemmas.List.{take_rest, get_or-drop, length-drop}
use Rattle.filing.specs.declared.record.Record.{Record}
use Rattle.filing.proofs.Walk.{whole_fits}
use Rattle.filing.proofs.record.label_at.Goals as goal

pub returns-in-Some-len3-up : goal.returns-in-Some-len3-up
returns-in-Some-len3-up g c =
    let bytes = c.args.bytes.now in
    let at = c.args.at in
    let width = g.L.Label.WIDTH in
    let rest : c.in-Some-len3-up.field-0.now ≡ drop at bytes = c.in-Some-len3-up.ensures.lookup.0.2 ∙ take_rest bytes at in
    let state : get_or c.in-Some-len3-up.field-0.now 2 0 ≡ get_or bytes (at + 2) 0 = rw (rest, get_or-drop) in
    let label : c.from_bytes-label.result ≡ g.L.Label.read (take width (drop (at + 3) bytes)) =
    c.from_bytes-label.ensures ∙ ap₂ (λ (n first : ℕ). g.L.Label.read (take n (drop first bytes))) (omega (arith, c.WIDTH-in-Some-len3-up.ensures)) (omega arith) in
    let next : at + 3 + c.WIDTH-in-Some-len3-up.result ≡ at + (3 + width) = omega arith in
    let same : Ok (Some (Record.Label (get_or c.in-Some-len3-up.field-0.now 2 0) c.from_bytes-label.result, at + 3 + c.WIDTH-in-Some-len3-up.result)) ≡ Ok (Some (Record.Label (get_or bytes (at + 2) 0) (g.L.Label.read (take width (drop (at + 3) bytes))), at + (3 + width))) = cc in
    same ∙ whole_fits width g.L.Label.read bytes at (3 + width) _ (omega (arith, ap length rest, length-drop at bytes))
