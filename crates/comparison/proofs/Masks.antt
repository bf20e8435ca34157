-- Relations held as masks: how a mask and a table of masks are collected.
use Rattle.std.proofs.Common.{◌≡◌, ℕ, ◌^◌, ◌<◌, ◌≤◌, cond, ◌&&◌, ltb, ◌⊎◌, List, length, get_or, replicate, sym, ap, ◌∙◌, inl, inr, arith}
use mathlib.Core.Path.{fun_ext}
use Rattle.std.proofs.lemmas.List.{get_or-replicate, get_or_past, length-replicate}
use Rattle.std.proofs.lemmas.Bool.{cases_lt, lt-ltb, le-ltb}
use Rattle.systems.specs.Sets.{has, set_of}
use Rattle.systems.specs.Cells.{written}
use Rattle.systems.proofs.Cells.{get_or-written, get_or-written_past}
use Rattle.systems.proofs.Sets.{has-set_of, has_beyond, has_none, set_of_lt}
use Rattle.preorder.specs.Prebisimulation.{Relation}
use Rattle.preorder.specs.Strikes.{Cells}
use Rattle.comparison.specs.Search.{from_round, mask_of, related_in, relation_of, turned}

-- ---- a table of masks

-- the masks below a height are those of a relation, and the others are empty
abbrev pub Filled : List ℕ → ℕ → ℕ → Relation → Type 0
Filled masks height width R = (p : ℕ) → get_or masks p 0 ≡ cond (ltb p height) (mask_of width R p) 0

-- the table of which the first masks are written over empty ones
pub filled_written : (n height width : ℕ) (R : Relation) → height ≤ n → Filled (written height (mask_of width R) (replicate n 0)) height width R
filled_written n height width R fits p = elim (cases_lt p height) [
  | inl lt ↦ rw (lt-ltb p height lt) (get_or-written (mask_of width R) (replicate n 0) height p 0 lt (rw (length-replicate {A = ℕ} n 0) (omega arith)))
  | inr ge ↦ rw (le-ltb p height ge) (get_or-written_past (mask_of width R) (replicate n 0) height p 0 ge ∙ empty (cases_lt p n))
]
  where
    empty : (p < n) ⊎ (n ≤ p) → ◌≡◌ {A = ℕ} (get_or (replicate n 0) p 0) 0
    empty (inl lt) = get_or-replicate n p 0 0 lt
    empty (inr ge) = get_or_past (replicate n 0) p 0 (rw (length-replicate {A = ℕ} n 0) ge)

-- a table that is filled stands for the relation's pairs within the height and the width
pub filled_relates : (masks : List ℕ) (height width : ℕ) (R : Relation) → width ≤ 64 → Filled masks height width R
    → (p q : ℕ) → relation_of masks p q ≡ ((ltb p height && ltb q width) && R p q)
unfolding relation_of mask_of
filled_relates masks height width R narrow filled p q = ap (λ (x : ℕ). has x q) (filled p) ∙ rows (cases_lt p height) (cases_lt q 64)
  where
    rows : (p < height) ⊎ (height ≤ p) → (q < 64) ⊎ (64 ≤ q)
        → has (cond (ltb p height) (set_of 64 (λ j. ltb j width && R p j)) 0) q ≡ ((ltb p height && ltb q width) && R p q)
    rows (inr absent) side = rw (le-ltb p height absent) (has_none q)
    rows (inl here) (inl lt) = rw (lt-ltb p height here) (has-set_of 64 _ q lt)
    rows (inl here) (inr ge) = rw (lt-ltb p height here, le-ltb q width (omega arith)) (has_beyond 64 _ q (set_of_lt 64 _) ge)

pub related_table : (rows : List ℕ) (height width k : ℕ) (c : Cells) → width ≤ 64 → Filled rows height width (from_round k c)
    → relation_of rows ≡ related_in height width k c
unfolding related_in
related_table rows height width k c narrow filled = fun_ext (λ p. fun_ext (λ q. filled_relates rows height width _ narrow filled p q))

-- masks relate nothing from 64 on
pub turned_table : (rows columns : List ℕ) → length rows ≡ 64 → ((i : ℕ) → get_or rows i 0 < 2 ^ 64)
    → Filled columns 64 64 (turned (relation_of rows)) → relation_of columns ≡ turned (relation_of rows)
unfolding turned relation_of
turned_table rows columns size typed filled =
    fun_ext (λ q. fun_ext (λ p. filled_relates columns 64 64 _ (omega arith) filled q p ∙ go p q (cases_lt q 64) (cases_lt p 64)))
  where
    go : (p q : ℕ) → (q < 64) ⊎ (64 ≤ q) → (p < 64) ⊎ (64 ≤ p) → ((ltb q 64 && ltb p 64) && relation_of rows p q) ≡ relation_of rows p q
    go p q (inl lq) (inl lp) = rw (lt-ltb q 64 lq, lt-ltb p 64 lp)
    go p q (inr ge) side = rw (le-ltb q 64 ge) (sym (has_beyond 64 (get_or rows p 0) q (typed p) ge))
    go p q (inl lq) (inr ge) = rw (lt-ltb q 64 lq, le-ltb p 64 ge, get_or_past rows p 0 (omega arith)) (sym (has_none q))
