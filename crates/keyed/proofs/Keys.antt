-- What a changed, an entered and a removed row do to what is found by key.
use Rattle.keyed.proofs.Words.{and_from, true, cond, List, [], ◌∷◌, map, ◌≡◌, refl, ℕ, ◌+◌, ◌-◌, ◌≤◌, ◌<◌, arith, eqb, length, Some, None}
use Rattle.std.proofs.lemmas.Bool.{lt-ltb}
use Rattle.std.proofs.lemmas.Bool.Decides.{nat_tests}
use Rattle.keyed.proofs.Lists.{each_in, is_some_mapped, none_some, mapped}
use Rattle.keyed.specs.Lists.{or_else, is_some}
use Rattle.keyed.specs.Members.{Each, In}
use Rattle.keyed.specs.Rows.{find, changed, removed, entered, rises_above}

module _ {R : Type 0} (key : R → ℕ) where
  pub row_past : (x : R) (xs : List R) (n : ℕ) → (key x ≡ n → ⊥) → find key n (x ∷ xs) ≡ find key n xs
  row_past x xs n e = grind (arith, nat_tests)

  pub row_found : (n : ℕ) (xs : List R) (x : R) → find key n xs ≡ Some x → In x xs × (key x ≡ n)
  row_found n [] x h = absurd (none_some x h)
  row_found n (y ∷ ys) x h = let ih = row_found n ys x in grind (arith, nat_tests)

  pub each_row : (P : R → Type 0) (n : ℕ) (xs : List R) (x : R) → Each P xs → find key n xs ≡ Some x → P x
  each_row P n xs x a h = each_in P x xs a (row_found n xs x h).0

  -- rising keys
  pub below_absent : (k n : ℕ) (xs : List R) → rises_above key k xs ≡ true → n ≤ k → find key n xs ≡ None
  below_absent k n [] r h = refl
  below_absent k n (x ∷ xs) r h = let ih = below_absent (key x) n xs in grind (arith, nat_tests)

  pub row_in : (k : ℕ) (xs : List R) (x : R) → rises_above key k xs ≡ true → In x xs → find key (key x) xs ≡ Some x
  row_in k [] x r i = absurd i
  row_in k (y ∷ ys) x r i = let ih = row_in (key y) ys x in let absent = below_absent (key y) (key x) ys in grind (arith, nat_tests)

  pub rises_weaker : (xs : List R) (k n : ℕ) → rises_above key k xs ≡ true → n ≤ k → rises_above key n xs ≡ true
  rises_weaker [] k n r l = refl
  rises_weaker (x ∷ xs) k n r l = grind (arith, nat_tests)

  pub rises_changed : (f : R → R) → ((x : R) → key (f x) ≡ key x) → (n : ℕ) (xs : List R) (k : ℕ)
      → rises_above key k xs ≡ true → rises_above key k (changed key n f xs) ≡ true
  rises_changed f keeps n [] k r = refl
  rises_changed f keeps n (x ∷ xs) k r = let ih = rises_changed f keeps n xs (key x) in let same = keeps x in grind (arith, nat_tests)

  pub rises_removed : (n : ℕ) (xs : List R) (k : ℕ) → rises_above key k xs ≡ true → rises_above key k (removed key n xs) ≡ true
  rises_removed n [] k r = refl
  rises_removed n (x ∷ xs) k r = let ih = rises_removed n xs (key x) in let weaker = rises_weaker xs (key x) k in grind (arith, nat_tests)

  pub rises_entered : (q : R) (xs : List R) (k : ℕ) → rises_above key k xs ≡ true → k < key q → find key (key q) xs ≡ None
      → rises_above key k (entered key q xs) ≡ true
  rises_entered q [] k r l a = and_from _ _ (lt-ltb _ _ l) refl
  rises_entered q (x ∷ xs) k r l a = let ih = rises_entered q xs (key x) in grind (arith, nat_tests)

  -- a row changed
  module _ (f : R → R) (keeps : (x : R) → key (f x) ≡ key x) where
    pub row_changed_same : (n : ℕ) (xs : List R) → find key n (changed key n f xs) ≡ mapped f (find key n xs)
    row_changed_same n [] = refl
    row_changed_same n (x ∷ xs) = let ih = row_changed_same n xs in let same = keeps x in grind (arith, nat_tests)

    pub row_changed_other : (n m : ℕ) (xs : List R) → (n ≡ m → ⊥) → find key m (changed key n f xs) ≡ find key m xs
    row_changed_other n m [] h = refl
    row_changed_other n m (x ∷ xs) h = let ih = row_changed_other n m xs h in let same = keeps x in grind (arith, nat_tests)

    -- both at once
    pub row_changed : (n : ℕ) (xs : List R) (m : ℕ) → find key m (changed key n f xs) ≡ cond (eqb m n) (mapped f (find key n xs)) (find key m xs)
    row_changed n xs m = let same = row_changed_same n xs in let other = row_changed_other n m xs in grind (arith, nat_tests)

    pub still_there : (n : ℕ) (xs : List R) (m : ℕ) → is_some (find key m (changed key n f xs)) ≡ is_some (find key m xs)
    still_there n xs m = let same = row_changed_same n xs in let other = row_changed_other n m xs in let some = is_some_mapped f (find key n xs) in grind (arith, nat_tests)

    pub length_changed : (n : ℕ) (xs : List R) → length (changed key n f xs) ≡ length xs
    length_changed n [] = refl
    length_changed n (x ∷ xs) = let ih = length_changed n xs in grind (arith, nat_tests)

    -- what is seen of a row by key, after the change
    module _ (d : R) {Y : Type 0} (see : R → Y) where
      pub seen_put : (n : ℕ) (xs : List R) (m : ℕ) (y : Y) → ((x : R) → find key n xs ≡ Some x → see (f x) ≡ y) → (find key n xs ≡ None → see d ≡ y)
          → see (or_else d (find key m (changed key n f xs))) ≡ cond (eqb n m) y (see (or_else d (find key m xs)))
      seen_put n xs m y some none = let same = row_changed_same n xs in let other = row_changed_other n m xs in grind (arith, nat_tests)

      pub seen_kept : (n : ℕ) (xs : List R) (m : ℕ) → ((x : R) → find key n xs ≡ Some x → see (f x) ≡ see x)
          → see (or_else d (find key m (changed key n f xs))) ≡ see (or_else d (find key m xs))
      seen_kept n xs m some = let same = row_changed_same n xs in let other = row_changed_other n m xs in grind (arith, nat_tests)

  pub each_changed : (P : R → Type 0) (f : R → R) (n : ℕ) (xs : List R) → ((x : R) → find key n xs ≡ Some x → P x → P (f x)) → Each P xs → Each P (changed key n f xs)
  each_changed P f n [] h a = tt
  each_changed P f n (x ∷ xs) h a = let ih = each_changed P f n xs in grind (arith, nat_tests)

  -- two changes
  pub changed_twice : (f g : R → R) → ((x : R) → key (g x) ≡ key x) → (n : ℕ) (xs : List R) → changed key n f (changed key n g xs) ≡ changed key n (λ x. f (g x)) xs
  changed_twice f g keeps n [] = refl
  changed_twice f g keeps n (x ∷ xs) = let ih = changed_twice f g keeps n xs in let same = keeps x in grind (arith, nat_tests)

  pub changed_swap : (f g : R → R) → ((x : R) → key (f x) ≡ key x) → ((x : R) → key (g x) ≡ key x) → ((x : R) → f (g x) ≡ g (f x))
      → (n m : ℕ) (xs : List R) → changed key n f (changed key m g xs) ≡ changed key m g (changed key n f xs)
  changed_swap f g kf kg c n m [] = refl
  changed_swap f g kf kg c n m (x ∷ xs) = let ih = changed_swap f g kf kg c n m xs in let one = kf x in let other = kg x in let both = c x in grind (arith, nat_tests)

  -- what stands at a number once a row is entered
  pub found_entered : (r : R) (xs : List R) (m : ℕ) → find key m (entered key r xs) ≡ cond (eqb m (key r)) (Some r) (find key m xs)
  found_entered r [] m = grind (arith, nat_tests)
  found_entered r (x ∷ xs) m = let ih = found_entered r xs m in grind (arith, nat_tests)

  -- a row entered
  pub row_entered : (r : R) (xs : List R) (m : ℕ) → find key (key r) xs ≡ None
      → find key m (entered key r xs) ≡ cond (eqb m (key r)) (Some r) (find key m xs)
  row_entered r xs m a = found_entered r xs m

  pub each_entered : (P : R → Type 0) (new : R) (xs : List R) → P new → Each P xs → Each P (entered key new xs)
  each_entered P new [] h a = (h, tt)
  each_entered P new (x ∷ xs) h a = let ih = each_entered P new xs h a.1 in grind (arith, nat_tests)

  pub length_entered : (new : R) (xs : List R) → length (entered key new xs) ≡ length xs + 1
  length_entered new [] = refl
  length_entered new (x ∷ xs) = let ih = length_entered new xs in grind (arith, nat_tests)

  -- a row removed
  pub row_removed : (n : ℕ) (xs : List R) (m k : ℕ) → rises_above key k xs ≡ true
      → find key m (removed key n xs) ≡ cond (eqb m n) None (find key m xs)
  row_removed n [] m k r = grind (arith, nat_tests)
  row_removed n (x ∷ xs) m k r = let ih = row_removed n xs m (key x) in let out = below_absent (key x) m xs in grind (arith, nat_tests)

  pub removed_absent : (n : ℕ) (xs : List R) → find key n xs ≡ None → removed key n xs ≡ xs
  removed_absent n [] h = refl
  removed_absent n (x ∷ xs) h = let ih = removed_absent n xs in grind (arith, nat_tests)

  pub removed_none : (n m : ℕ) (xs : List R) → find key m xs ≡ None → find key m (removed key n xs) ≡ None
  removed_none n m [] h = refl
  removed_none n m (x ∷ xs) h = let ih = removed_none n m xs in grind (arith, nat_tests)

  pub removed_swap : (n m : ℕ) (xs : List R) → removed key n (removed key m xs) ≡ removed key m (removed key n xs)
  removed_swap n m [] = refl
  removed_swap n m (x ∷ xs) = let ih = removed_swap n m xs in grind (arith, nat_tests)

  pub length_removed : (n : ℕ) (xs : List R) (x : R) → find key n xs ≡ Some x → length (removed key n xs) ≡ length xs - 1
  length_removed n [] x h = absurd (none_some x h)
  length_removed n (y ∷ ys) x h = let ih = length_removed n ys x in let some = some_length n ys x in grind (arith, nat_tests)
    where
      some_length : (n : ℕ) (zs : List R) (x : R) → find key n zs ≡ Some x → 0 < length zs
      some_length n [] x h = grind (arith, nat_tests)
      some_length n (z ∷ zs) x h = omega arith

-- a map that keeps the keys
module _ {R Q : Type 0} (key : R → ℕ) (kez : Q → ℕ) (h : R → Q) (keeps : (x : R) → kez (h x) ≡ key x) where
  pub row_map : (n : ℕ) (xs : List R) → find kez n (map h xs) ≡ mapped h (find key n xs)
  row_map n [] = refl
  row_map n (x ∷ xs) = let ih = row_map n xs in let same = keeps x in grind (arith, nat_tests)

  pub map_changed : (f : R → R) (g : Q → Q) → ((x : R) → h (f x) ≡ g (h x)) → (n : ℕ) (xs : List R) → map h (changed key n f xs) ≡ changed kez n g (map h xs)
  map_changed f g c n [] = refl
  map_changed f g c n (x ∷ xs) = let ih = map_changed f g c n xs in let same = keeps x in let step = c x in grind (arith, nat_tests)

  pub map_entered : (new : R) (xs : List R) → map h (entered key new xs) ≡ entered kez (h new) (map h xs)
  map_entered new [] = refl
  map_entered new (x ∷ xs) = let ih = map_entered new xs in let one = keeps x in let other = keeps new in grind (arith, nat_tests)
