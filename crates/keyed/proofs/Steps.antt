-- What a scan over rows finds. Assumes nothing.
use Rattle.std.proofs.Common.{◌≡◌, ℕ, suc, ◌+◌, ◌-◌, ◌<◌, ◌≤◌, Bool, true, false, cond, eqb, List, [], ◌∷◌, length, get_or, take, Some, None, Option, sym, refl, ap, ◌∙◌, subst, arith}
use Rattle.std.proofs.lemmas.Bool.{eqb-true}
use Rattle.std.proofs.lemmas.Bool.Decides.{nat_tests}
use Rattle.keyed.specs.Fronts.{rising_front}
use Rattle.keyed.specs.Places.{altered, without, place_from, At, Found}
use Rattle.keyed.specs.Rows.{find, changed, removed}

module _ {R : Type 0} (key : R → ℕ) (k : ℕ) where
  record There (xs : List R) (i : ℕ) : Type 0 where
    within : i < length xs
    keyed : (d : R) → key (get_or xs i d) ≡ k
    reads : (d : R) → find key k xs ≡ Some (get_or xs i d)
    changes : (f : R → R) → changed key k f xs ≡ altered i f xs
    removes : removed key k xs ≡ without i xs

  abbrev From : ℕ → List R → Option ℕ → Type 0
  From j xs None = find key k xs ≡ None
  From j xs (Some m) = (j ≤ m) × There xs (m - j)

  later : (j : ℕ) (x : R) (xs : List R) → eqb (key x) k ≡ false → (o : Option ℕ) → From (j + 1) xs o → From j (x ∷ xs) o
  later j x xs n None e = rw n e
  later j x xs n (Some m) (h, a) =
      let s : m - j ≡ suc (m - (j + 1)) = omega arith in
      let t : suc (m - (j + 1)) + 1 ≡ suc (m - (j + 1) + 1) = omega arith in (
        omega arith,
        record {
          within = omega (arith, a.within);
          keyed = λ d. rw s (a.keyed d);
          reads = λ d. rw (n, s) (a.reads d);
          changes = λ f. rw (n, s) (ap (λ l. x ∷ l) (a.changes f));
          removes = rw (n, s, t) (ap (λ l. x ∷ l) a.removes);
        },
      )

  here : (j : ℕ) (x : R) (xs : List R) → eqb (key x) k ≡ true → From j (x ∷ xs) (Some j)
  here j x xs y =
      let s : j - j ≡ 0 = omega arith in (
        omega arith,
        record { within = omega arith; keyed = λ d. rw s (eqb-true (key x) k y); reads = λ d. rw (y, s); changes = λ f. rw (y, s); removes = rw (y, s) },
      )

  from : (j : ℕ) (xs : List R) → From j xs (place_from key k j xs)
  from j [] = refl
  from j (x ∷ xs) = go (from (j + 1) xs) (eqb (key x) k) refl
    where
      go : From (j + 1) xs (place_from key k (j + 1) xs) → (b : Bool) → eqb (key x) k ≡ b → From j (x ∷ xs) (cond b (Some j) (place_from key k (j + 1) xs))
      go h true e = here j x xs e
      go h false e = later j x xs e (place_from key k (j + 1) xs) h

  whole : (xs : List R) (m : ℕ) → place_from key k 0 xs ≡ Some m → There xs m → At key k xs m
  whole xs m p a = record { within = a.within; first = p; keyed = a.keyed; reads = a.reads; changes = a.changes; removes = a.removes }

  plain : (xs : List R) (o : Option ℕ) → place_from key k 0 xs ≡ o → From 0 xs o → Found key k xs o
  plain xs None p e = e
  plain xs (Some m) p (h, a) = let z : m - 0 ≡ m = omega arith in whole xs m p (rw z at a)

  pub found : (xs : List R) → Found key k xs (place_from key k 0 xs)
  found xs = plain xs (place_from key k 0 xs) refl (from 0 xs)

  -- so it is enough to know the place
  pub found_at : (xs : List R) (o : Option ℕ) → o ≡ place_from key k 0 xs → Found key k xs o
  found_at xs o e = subst (λ p. Found key k xs p) (sym e) (found xs)

module _ {R : Type 0} (key : R → ℕ) (good : R → Bool) where
  pub take_front : (k : ℕ) (xs : List R) → take (length (rising_front key good k xs)) xs ≡ rising_front key good k xs
  take_front k [] = refl
  take_front k (x ∷ xs) = let ih = take_front (key x) xs in grind (arith, nat_tests)

  -- so it is enough to know how many they are
  pub front_rows : (n : ℕ) (xs : List R) → n ≡ length (rising_front key good 0 xs) → take n xs ≡ rising_front key good 0 xs
  front_rows n xs e = ap (λ m. take m xs) e ∙ take_front 0 xs

  front_again : (k : ℕ) (xs : List R) → rising_front key good k (rising_front key good k xs) ≡ rising_front key good k xs
  front_again k [] = refl
  front_again k (x ∷ xs) = let ih = front_again (key x) xs in grind (arith, nat_tests)

  -- nothing more is taken from a sound front
  pub front_sound : (n : ℕ) (xs : List R) → n ≡ length (rising_front key good 0 xs) → rising_front key good 0 (take n xs) ≡ take n xs
  front_sound n xs e = let r = front_rows n xs e in let s = front_again 0 xs in ap (rising_front key good 0) r ∙ s ∙ sym r

  -- what is sound above k is sound above less
  pub sound_above_less : (j k : ℕ) (xs : List R) → j ≤ k → rising_front key good k xs ≡ xs → rising_front key good j xs ≡ xs
  sound_above_less j k [] h e = refl
  sound_above_less j k (x ∷ xs) h e = grind (arith, nat_tests)

  -- and so is what stands behind its first row
  pub sound_rest : (x : R) (xs : List R) → rising_front key good 0 (x ∷ xs) ≡ (x ∷ xs) → rising_front key good 0 xs ≡ xs
  sound_rest x xs e = let less = sound_above_less 0 (key x) xs in grind (arith, nat_tests)
