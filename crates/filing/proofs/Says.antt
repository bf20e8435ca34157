-- What each record gives to a question, and what all of them do together.
use Rattle.std.proofs.Common.{◌≡◌, ℕ, ◌<◌, ◌^◌, Bool, true, false, cond, ◌&&◌, ◌||◌, ◌==◌, List, ◌∷◌, Some, None, Option, sym, refl, ap, ◌∙◌}
use Rattle.std.proofs.Math.Bool.{or-false}
use Rattle.systems.specs.Sets.{has, set_of}
use Rattle.systems.proofs.Sets.{has-set_of, set_of_cong, set_unchanged}
use Rattle.filing.specs.declared.record.Record.{Record}
use Rattle.filing.specs.Contents.{move_in, mark_in, label_in}
use Rattle.filing.proofs.Asking.{put}

-- a set with one record's more
pub set_more : (set more : ℕ) (f g : ℕ → Bool) → set ≡ set_of 64 f → more ≡ set_of 64 (λ i. has set i || g i) → more ≡ set_of 64 (λ i. f i || g i)
set_more set more f g is_set is_more =
    is_more ∙ set_of_cong 64 (λ i. has set i || g i) (λ i. f i || g i) (λ i h. ap (λ b. b || g i) (ap (λ (s : ℕ). has s i) is_set ∙ has-set_of 64 f i h))

-- a set with nothing more
pub none_more : (set : ℕ) → set < 2 ^ 64 → set ≡ set_of 64 (λ i. has set i || false)
none_more set fits = set_unchanged 64 set (λ i. false) fits (λ i h. refl)

-- a set with one member more
abbrev pub with_member : ℕ → ℕ → ℕ
with_member set i = set_of 64 (λ j. has set j || j == i)

-- the set with what a record gives
set_put : (f : ℕ → Bool) (b : Bool) (i : ℕ) → set_of 64 (λ j. f j || (b && j == i)) ≡ put with_member (set_of 64 f) (cond b (Some i) None)
set_put f true i = sym (set_more (set_of 64 f) (with_member (set_of 64 f) i) f (λ j. j == i) refl refl)
set_put f false i = set_of_cong 64 (λ j. f j || false) f (λ j h. or-false (f j))

module _ {L : Type 0} where
  -- the target of p's move by a; the action of p's mark; p's label
  abbrev pub moved : ℕ → ℕ → Record L → Option ℕ
  moved p a (Record.Move x y z) = cond (x == p && y == a) (Some z) None
  moved p a (Record.Open x y) = None
  moved p a (Record.Label x l) = None

  abbrev pub marked : ℕ → Record L → Option ℕ
  marked p (Record.Move x y z) = None
  marked p (Record.Open x y) = cond (x == p) (Some y) None
  marked p (Record.Label x l) = None

  abbrev pub named : ℕ → Record L → Option L
  named p (Record.Move x y z) = None
  named p (Record.Open x y) = None
  named p (Record.Label x l) = cond (p == x) (Some l) None

  pub moves_more : (p a : ℕ) (r : Record L) (rs : List (Record L)) → set_of 64 (move_in (r ∷ rs) p a) ≡ put with_member (set_of 64 (move_in rs p a)) (moved p a r)
  moves_more p a (Record.Move x y z) rs = set_put (move_in rs p a) (x == p && y == a) z
  moves_more p a (Record.Open x y) rs = set_put (move_in rs p a) false 0
  moves_more p a (Record.Label x l) rs = set_put (move_in rs p a) false 0

  pub marks_more : (p : ℕ) (r : Record L) (rs : List (Record L)) → set_of 64 (mark_in (r ∷ rs) p) ≡ put with_member (set_of 64 (mark_in rs p)) (marked p r)
  marks_more p (Record.Move x y z) rs = set_put (mark_in rs p) false 0
  marks_more p (Record.Open x y) rs = set_put (mark_in rs p) (x == p) y
  marks_more p (Record.Label x l) rs = set_put (mark_in rs p) false 0

  pub label_more : (plain : L) (p : ℕ) (r : Record L) (rs : List (Record L)) → label_in plain (r ∷ rs) p ≡ put (λ l m. m) (label_in plain rs p) (named p r)
  label_more plain p (Record.Move x y z) rs = refl
  label_more plain p (Record.Open x y) rs = refl
  label_more plain p (Record.Label x l) rs = by (p == x)
    where
      by : (b : Bool) → cond b l (label_in plain rs p) ≡ put (λ m n. n) (label_in plain rs p) (cond b (Some l) None)
      by true = refl
      by false = refl
