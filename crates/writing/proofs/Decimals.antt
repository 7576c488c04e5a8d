-- How many figures a number has.
use Rattle.std.proofs.Common.{◌≡◌, ℕ, zero, suc, ◌+◌, ◌*◌, ◌/◌, ◌%◌, ◌^◌, ◌<◌, ◌≤◌, List, [], ◌∷◌, ◌++◌, length, decimal, refl, ap, arith, length-append}
use Rattle.std.proofs.lemmas.Fmt.{decimal_digit, decimal_by_steps}

pub one_figure : (n : ℕ) → n < 10 → length (decimal n) ≡ 1
one_figure n h = ap length (decimal_digit n h)

-- one more than the greatest power of ten that is not above it
abbrev Figures : ℕ → List ℕ → Type 0
Figures n ds = (k : ℕ) → 10 ^ k ≤ n → n < 10 * 10 ^ k → length ds ≡ k + 1

one : (n : ℕ) → n < 10 → Figures n ((48 + n) ∷ [])
one n small zero le lt = refl
one n small (suc k) le lt = absurd (omega arith)

more : (n : ℕ) (ds : List ℕ) → 10 ≤ n → Figures (n / 10) ds → Figures n (ds ++ ((48 + n % 10) ∷ []))
more n ds big h zero le lt = absurd (omega arith)
more n ds big h (suc k) le lt =
    let before : length ds ≡ k + 1 = h k (omega arith) (omega arith) in
    let e = length-append ds ((48 + n % 10) ∷ []) in
    omega arith

pub figures_are : (n k : ℕ) → n < 2 ^ 64 → 10 ^ k ≤ n → n < 10 * 10 ^ k → length (decimal n) ≡ k + 1
figures_are n k small le lt = decimal_by_steps Figures one more n small k le lt
