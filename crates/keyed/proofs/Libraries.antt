-- Our words on lists, and the library's.
use Rattle.std.proofs.Common.{◌≡◌, ℕ, Bool, cond, ◌&&◌, leb, ltb, List, length, Some, None, refl, arith}
use Rattle.std.proofs.lemmas.Bool.Decides.{nat_tests}
use Rattle.std.proofs.lemmas.List.Recursion.{same_from_clauses, is_position_or_len}
use Rattle.std.proofs.lemmas.List.Sums.{prefix_len-le-length}
use Rattle.std.specs.List.{list_all, position_or_len}
use Rattle.std.specs.Option.{unwrap_or}
use Rattle.keyed.specs.Lists.{all}
use Rattle.keyed.specs.Places.{below}

pub all-list_all : {X : Type 0} (p : X → Bool) (xs : List X) → all p xs ≡ list_all p xs
all-list_all p xs = same_from_clauses (all p) (list_all p) (λ x b. p x && b) refl (λ _ _. refl) (λ _ _. refl) xs

pub below-position_or_len : {R : Type 0} (key : R → ℕ) (k : ℕ) (xs : List R) → below key k xs ≡ position_or_len (λ x. leb k (key x)) xs
below-position_or_len key k xs = is_position_or_len (below key k) (λ x. leb k (key x)) refl (λ x xs. grind (arith, nat_tests)) xs

-- the first place that passes, or how many they are
pub unwrap_or-position : {X : Type 0} (p : X → Bool) (xs : List X) → unwrap_or (cond (ltb (position_or_len p xs) (length xs)) (Some (position_or_len p xs)) None) (length xs) ≡ position_or_len p xs
unwrap_or-position p xs = grind (arith, nat_tests, prefix_len-le-length)
