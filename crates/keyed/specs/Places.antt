-- Where a row stands, and what a change at its place makes of the rows.
use Rattle.std.specs.Prelude.{◌≡◌, ℕ, zero, suc, ◌+◌, ◌<◌, List, [], ◌∷◌, ◌++◌, length, take, drop, Some, None, Option, ◌==◌, nat_lt, slice_index_or}
use Rattle.std.specs.List.{position_from, prefix_len}
use Rattle.keyed.specs.Rows.{find, changed, removed}

-- the place of the first row with key k, counted from i
abbrev pub place_from : {R : Type 0} → (R → ℕ) → ℕ → ℕ → List R → Option ℕ
place_from key k = position_from (λ x. key x == k)

-- how many rows stand before the first one whose key is not below k
abbrev pub below : {R : Type 0} → (R → ℕ) → ℕ → List R → ℕ
below key k = prefix_len (λ x. nat_lt (key x) k)

-- the row at a place changed, taken out, or put in
abbrev pub altered : {R : Type 0} → ℕ → (R → R) → List R → List R
altered i f [] = []
altered zero f (x ∷ xs) = f x ∷ xs
altered (suc i) f (x ∷ xs) = x ∷ altered i f xs

abbrev pub without : {R : Type 0} → ℕ → List R → List R
without i xs = take i xs ++ drop (i + 1) xs

abbrev pub put_in : {R : Type 0} → ℕ → R → List R → List R
put_in i new xs = take i xs ++ (new ∷ drop i xs)

-- the row with key k stands at i: to find, change or take it out by its key is to do so at that place
pub record At {R : Type 0} (key : R → ℕ) (k : ℕ) (xs : List R) (i : ℕ) : Type 0 where
  pub within : i < length xs
  pub first : place_from key k 0 xs ≡ Some i
  pub keyed : (d : R) → key (slice_index_or xs i d) ≡ k
  pub reads : (d : R) → find key k xs ≡ Some (slice_index_or xs i d)
  pub changes : (f : R → R) → changed key k f xs ≡ altered i f xs
  pub removes : removed key k xs ≡ without i xs

abbrev pub Found : {R : Type 0} → (R → ℕ) → ℕ → List R → Option ℕ → Type 0
Found key k xs None = find key k xs ≡ None
Found key k xs (Some i) = At key k xs i
