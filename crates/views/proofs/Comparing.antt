-- What a layer on both sides makes of the prebisimulations.
use Rattle.std.proofs.Common.{◌≡◌, ℕ, ◌<◌, ◌≤◌, Bool, false, ◌&&◌, ltb, ◌⊎◌, inl, inr, arith}
use Rattle.std.proofs.lemmas.Bool.{both_ways, lt-ltb, le-ltb, and_from, and_right, cases_lt}
use Rattle.systems.specs.Meaning.{Meaning}
use Rattle.preorder.specs.Prebisimulation.{Relation, Prebisimulation}
use Rattle.views.specs.Layers.{marked, present, all_open}
use Rattle.views.specs.Simulation.{Simulation, Layered}

-- of a prebisimulation, whatever the marks
module _ {L : Type 0} (below : L → L → Bool) (m n : Meaning L) (R : Relation) where
  simulates : (f g : ℕ → ℕ → Bool) → Prebisimulation below (marked m f) (marked n g) R → Simulation below m n R
  simulates f g b = record {
    present = b.present;
    labels = λ p q r. (b.transfers p q r).labels;
    forth = λ p q a t r. (b.transfers p q r).forth a t;
  }

pub open_law : {L : Type 0} (below : L → L → Bool) → Layered below all_open Simulation
unfolding present
open_law below m n R bm bn same = (
  simulates below m n R _ _,
  λ s. record {
    present = s.present;
    transfers = λ p q r. record {
      labels = s.labels p q r;
      forth = λ a t. s.forth p q a t r;
      closed = λ a e. and_right _ _ (le-ltb a n.actions (absent p a (s.present p q r).0 e));
      back = λ a u e move. absurd (gone (absent p a (s.present p q r).0 e) (bn.moves_present q a u move).1);
    };
  },
)
  where
    -- a present state is closed only on absent actions
    absent : (p a : ℕ) → p < m.states → (ltb p m.states && ltb a m.actions) ≡ false → n.actions ≤ a
    absent p a h e = go (cases_lt a n.actions)
      where
        go : (a < n.actions) ⊎ (n.actions ≤ a) → n.actions ≤ a
        go (inl l) = absurd (both_ways _ e (and_from _ _ (lt-ltb p m.states h) (lt-ltb a m.actions (omega arith))))
        go (inr l) = l

    gone : {a k : ℕ} → k ≤ a → a < k → ⊥
    gone h l = omega arith
