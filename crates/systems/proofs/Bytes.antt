-- The number that bytes stand for, one byte more at its low end.
use Rattle.std.proofs.Common.{◌≡◌, ℕ, suc, ◌+◌, ◌-◌, ◌*◌, ◌^◌, ◌<◌, ◌≤◌, List, length, get_or, drop, sym, ap, ◌∙◌, arith, drop-cons, pow_mono, pow-add}
use Rattle.systems.specs.Label.{number_of}

pub number_more : (xs : List ℕ) (i : ℕ) → 0 < i → i ≤ length xs → number_of (drop i xs) * 256 + get_or xs (i - 1) 0 ≡ number_of (drop (i - 1) xs)
number_more xs i pos le =
    let one : suc (i - 1) ≡ i = omega arith in
    let lt : i - 1 < length xs = omega arith in
    let cons = drop-cons xs (i - 1) 0 lt in
    let tail : drop (suc (i - 1)) xs ≡ drop i xs = ap (λ (j : ℕ). drop j xs) one in
    let e : number_of (drop (i - 1) xs) ≡ get_or xs (i - 1) 0 + 256 * number_of (drop i xs) = ap number_of cons ∙ ap (λ ys. get_or xs (i - 1) 0 + 256 * number_of ys) tail in
    omega arith

pub bytes_more : (v b n i : ℕ) → 0 < i → i ≤ n → b < 256 → v < 2 ^ (8 * (n - i)) → v * 256 + b < 2 ^ (8 * (n - (i - 1)))
bytes_more v b n i pos le lb lv =
    let e : 8 * (n - i) + 8 ≡ 8 * (n - (i - 1)) = omega arith in
    let p : 2 ^ (8 * (n - (i - 1))) ≡ 2 ^ (8 * (n - i)) * 256 = ap (λ (x : ℕ). 2 ^ x) (sym e) ∙ pow-add 2 (8 * (n - i)) 8 in
    omega arith

-- and it still fits eight bytes
pub bytes_fit : (v b n i : ℕ) → 0 < i → i ≤ n → n ≤ 8 → b < 256 → v < 2 ^ (8 * (n - i)) → v * 256 + b < 2 ^ 64
bytes_fit v b n i pos le few lb lv =
    let more = bytes_more v b n i pos le lb lv in
    let small : 8 * (n - (i - 1)) ≤ 64 = omega arith in
    let p : 2 ^ (8 * (n - (i - 1))) ≤ 2 ^ 64 = pow_mono small in
    omega arith
