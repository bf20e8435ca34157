-- What the tests over all numbers decide, and that containment is an order. A law of a label kind cites it, so it stands here.
use Rattle.std.specs.Prelude.{◌≡◌, ℕ, ◌<◌, Bool, true, false, not, ◌||◌, Decides, refl}
use Rattle.std.proofs.lemmas.Bool.{false≢true}
use Rattle.std.proofs.lemmas.Bool.Decides.{Decides-below_and}
use Rattle.systems.specs.Sets.{has, every, contained}

pub decides_implies : (x y : Bool) → Decides (not x || y) (x ≡ true → y ≡ true)
decides_implies true y = (λ e h. e, λ f. f refl)
decides_implies false y = (λ e h. absurd (false≢true h), λ f. refl)

pub every_decides : (w : ℕ) (f : ℕ → Bool) → Decides (every w f) ((i : ℕ) → i < w → f i ≡ true)
unfolding every
every_decides w f = Decides-below_and f (λ i. f i ≡ true) (λ n. every n f) (λ k. (λ e. e, λ e. e)) refl (λ n. refl) w

pub contained_decides : (w a b : ℕ) → Decides (contained w a b) ((i : ℕ) → i < w → has a i ≡ true → has b i ≡ true)
unfolding contained
contained_decides w a b =
    let each = every_decides w (λ i. not (has a i) || has b i) in
    (λ e i h t. (decides_implies (has a i) (has b i)).0 (each.0 e i h) t, λ k. each.1 (λ i h. (decides_implies (has a i) (has b i)).1 (k i h)))

pub contained_refl : (w a : ℕ) → contained w a a ≡ true
contained_refl w a = (contained_decides w a a).1 (λ i h t. t)

pub contained_trans : (w a b c : ℕ) → contained w a b ≡ true → contained w b c ≡ true → contained w a c ≡ true
contained_trans w a b c p q = (contained_decides w a c).1 (λ i h t. (contained_decides w b c).0 q i h ((contained_decides w a b).0 p i h t))
