-- The numbers of a roll.
use Rattle.std.specs.Prelude.{◌≡◌, ℕ, ◌≤◌, List}
use Rattle.std.proofs.Common.{subst, arith}
use Rattle.keyed.specs.Fronts.{rising_front, rising_front_holds}
use Rattle.fields.specs.Ranges.{is_in_range, issued}
use Rattle.issuers.specs.Numbers.{NotIn, Fresh}

-- those before the first that does not rise above the one before it, or may not be issued
abbrev pub rising : ℕ → List ℕ → List ℕ
rising last ns = rising_front (λ n. n) (is_in_range issued) last ns

-- no number up to k is in it, and none is in it twice
abbrev IsAbove : ℕ → List ℕ → Type 0
IsAbove k ns = ((n : ℕ) → n ≤ k → NotIn n ns) × Fresh ns

rising_above : (k : ℕ) (ns : List ℕ) → IsAbove k (rising k ns)
rising_above =
    rising_front_holds (λ n. n) (is_in_range issued) IsAbove (λ _. (λ _ _. tt, tt))
    (λ k m ms up good above. (λ n low. (λ same. omega arith, above.0 n (omega arith)), (good, above.0 m (omega arith), above.1)))

-- a table that rises throughout has no number twice
pub roll_fresh : (ms : List ℕ) → rising 0 ms ≡ ms → Fresh ms
roll_fresh ms e = subst Fresh e (rising_above 0 ms).1
