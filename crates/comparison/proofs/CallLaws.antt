-- What an accepted opening or round has tested, and what closing reads.
use Rattle.std.proofs.Common.{◌≡◌, ℕ, ◌*◌, ◌<◌, ◌≤◌, Bool, true, false, cond, not, ltb, List, length, Some, None, Ok, Err, Option, Result, refl, arith}
use Rattle.std.proofs.lemmas.Bool.{eqb-true, eq-eqb, ltb-true, ltb-false, le-ltb, leb-false, not-false}
use Rattle.comparison.specs.declared.refusal.Refusal.{Refusal}
use Rattle.comparison.specs.declared.refusal.Refusal.TheVariants.{SheetShort, Undecided}
use Rattle.comparison.specs.declared.strike.Strike.{Strike}
use Rattle.comparison.specs.declared.stage.Open.{Open}
use Rattle.comparison.specs.declared.stage.Verdict.{Verdict}
use Rattle.comparison.specs.Calls.{Handed, begun, opening_refusal, most_rounds, fits, pairs, round_refusal, start_struck, closing}

-- where nothing is refused, the first test does not refuse, and neither do the others
unrefused : (test : Bool) (e : Refusal) (others : Option Refusal) → cond test (Some e) others ≡ None → (test ≡ false) × (others ≡ None)
unrefused true e others h = absurd (grind arith)
unrefused false e others h = (refl, h)

pub opening_accepted : (h : Handed) (cells : ℕ) → opening_refusal h cells ≡ None
    → (h.first_actions ≡ h.second_actions) × (h.first_states * h.second_states ≤ cells)
unfolding opening_refusal
opening_accepted h cells e =
    let actions = unrefused _ _ _ e in
    (eqb-true _ _ (not-false _ actions.0), ltb-false _ _ (unrefused _ _ _ actions.1).0)

pub round_accepted : (c : Open) (h : Handed) (cells : ℕ) → round_refusal c h cells ≡ None → (c.still ≡ false) × (c.rounds < most_rounds)
unfolding round_refusal
round_accepted c h cells e =
    let others = unrefused (not (fits c.shape h)) _ _ e in
    let room = unrefused (ltb cells (pairs c.shape)) _ _ others.1 in
    let still = unrefused c.still _ _ room.1 in
    (still.0, leb-false _ _ (unrefused _ _ _ still.1).0)

-- the comparison that was handed on has a round left
pub accepted_few : (c d : Open) (h : Handed) (cells : ℕ) → (round_refusal c h cells ≡ None) × (d ≡ c) → d.rounds < most_rounds
accepted_few c d h cells (accepted, same) = rw same (round_accepted c h cells accepted).1

-- a comparison that was just begun takes a round
pub begun_accepts : (h : Handed) (cells : ℕ) → opening_refusal h cells ≡ None → round_refusal (begun h) h cells ≡ None
unfolding round_refusal
begun_accepts h cells e =
    let (same, room) = opening_accepted h cells e in
    rw (
      eq-eqb h.first_states h.first_states refl,
      eq-eqb h.second_states h.second_states refl,
      eq-eqb h.first_actions h.first_actions refl,
      eq-eqb h.second_actions h.first_actions (cc),
      eq-eqb h.first_start h.first_start refl,
      eq-eqb h.second_start h.second_start refl,
      le-ltb cells (h.first_states * h.second_states) room,
    )

-- closing by what it finds: the sheet's length, the start pair's cell and whether the last round was still
pub data Closing (c : Open) (sheet : List Strike) : Result Verdict Refusal → Type 0 where
  finds_short : length sheet < pairs c.shape → Closing c sheet (Err SheetShort)
  finds_struck : start_struck c sheet ≡ true → Closing c sheet (Ok (Verdict.No (record { shape = c.shape; rounds = c.rounds })))
  finds_still : start_struck c sheet ≡ false → c.still ≡ true → Closing c sheet (Ok (Verdict.Yes (record { shape = c.shape; rounds = c.rounds })))
  finds_unstruck : start_struck c sheet ≡ false → c.still ≡ false → Closing c sheet (Err Undecided)

pub closing_finds : (c : Open) (sheet : List Strike) → Closing c sheet (closing c sheet)
unfolding closing
closing_finds c sheet = go (ltb (length sheet) (pairs c.shape)) refl (start_struck c sheet) refl c.still refl
  where
    go : (short : Bool) → ltb (length sheet) (pairs c.shape) ≡ short → (struck : Bool) → start_struck c sheet ≡ struck
        → (still : Bool) → c.still ≡ still
        → Closing c sheet (cond short (Err SheetShort) (cond struck (Ok (Verdict.No (record { shape = c.shape; rounds = c.rounds })))
        (cond still (Ok (Verdict.Yes (record { shape = c.shape; rounds = c.rounds }))) (Err Undecided))))
    go true e struck e' still e'' = finds_short (ltb-true _ _ e)
    go false e true e' still e'' = finds_struck e'
    go false e false e' true e'' = finds_still e' e''
    go false e false e' false e'' = finds_unstruck e' e''
