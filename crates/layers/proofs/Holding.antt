-- What entering and taking out a code leaves.
use Rattle.std.proofs.Common.{◌≡◌, ℕ, zero, suc, ◌<◌, ◌≤◌, Bool, true, false, cond, eqb, ltb, List, [], ◌∷◌, length, get_or, None, Ok, Err, Result, MatchResult, nat_cmp, refl, ap, ap₂, subst, ◌∙◌, arith}
use Rattle.std.proofs.lemmas.List.Sorted.{searched}
use Rattle.std.specs.List.Sorted.{IsBinarySearchResult}
use Rattle.std.proofs.lemmas.Bool.{or_parts, and_parts, ltb-true, eq-eqb}
use Rattle.std.proofs.lemmas.Bool.Decides.{nat_tests}
use Rattle.std.specs.List.{insert}
use Rattle.std.specs.List.Retain.{RetainsInTurn}
use Rattle.keyed.proofs.Keys.{rises_entered, rises_weaker}
use Rattle.keyed.proofs.Shifts.{put_below}
use Rattle.keyed.specs.Lists.{those}
use Rattle.keyed.specs.Places.{below}
use Rattle.keyed.specs.Rows.{find, entered, rises_above}
use Rattle.layers.specs.Codes.{held, rising}

held_none : (code : ℕ) (cs : List ℕ) → held code cs ≡ false → find (λ c. c) code cs ≡ None
held_none code [] out = refl
held_none code (c ∷ cs) out =
    let parts = or_parts (eqb c code) (held code cs) out in
    let here = parts.0 in
    rw here (held_none code cs parts.1)

pub entered_rise : (code : ℕ) (cs : List ℕ) → 0 < code → rising cs ≡ true → held code cs ≡ false → rising (entered (λ c. c) code cs) ≡ true
entered_rise code cs some up out = rises_entered (λ c. c) code cs 0 up some (held_none code cs out)

-- a code that rises above k is above k wherever it stands, and the codes rise from place to place
above : (k : ℕ) (cs : List ℕ) → rises_above (λ c. c) k cs ≡ true → (j : ℕ) → j < length cs → k < get_or cs j 0
above k [] up j l = absurd (omega arith)
above k (c ∷ cs) up zero l = let p = and_parts (ltb k c) (rises_above (λ c. c) c cs) up in ltb-true k c p.0
above k (c ∷ cs) up (suc j) l =
    let p = and_parts (ltb k c) (rises_above (λ c. c) c cs) up in
    let h = above c cs p.1 j (omega arith) in
    let g = ltb-true k c p.0 in
    omega arith

pub in_order : (k : ℕ) (cs : List ℕ) → rises_above (λ c. c) k cs ≡ true → (i j : ℕ) → i ≤ j → j < length cs → get_or cs i 0 ≤ get_or cs j 0
in_order k [] up i j le l = absurd (omega arith)
in_order k (c ∷ cs) up zero zero le l = omega arith
in_order k (c ∷ cs) up zero (suc j) le l =
    let p = and_parts (ltb k c) (rises_above (λ c. c) c cs) up in
    let h = above c cs p.1 j (omega arith) in
    omega arith
in_order k (c ∷ cs) up (suc i) zero le l = absurd (omega arith)
in_order k (c ∷ cs) up (suc i) (suc j) le l =
    let p = and_parts (ltb k c) (rises_above (λ c. c) c cs) up in
    in_order c cs p.1 i j (omega arith) (omega arith)

-- a code that stands somewhere is held
found_held : (code : ℕ) (cs : List ℕ) (i : ℕ) → i < length cs → get_or cs i 0 ≡ code → held code cs ≡ true
found_held code [] i l e = absurd (omega arith)
found_held code (c ∷ cs) zero l e = let here = eq-eqb c code e in rw here refl
found_held code (c ∷ cs) (suc i) l e = let h = found_held code cs i (omega arith) e in grind (arith, nat_tests)

-- and one that belongs between two places is not
between : (code at : ℕ) (cs : List ℕ) → at ≤ length cs → ((k : ℕ) → k < at → get_or cs k 0 < code) → ((k : ℕ) → at ≤ k → k < length cs → code < get_or cs k 0) → (held code cs ≡ false) × (at ≡ below (λ c. c) code cs)
between code zero [] l low high = (refl, refl)
between code (suc at) [] l low high = absurd (omega arith)
between code zero (c ∷ cs) l low high =
    let h = high 0 (omega arith) (omega arith) in
    let rest = between code 0 cs (omega arith) (λ k lt. absurd (omega arith)) (λ k ge lt. high (suc k) (omega arith) (omega arith)) in
    let out = rest.0 in
    (grind (arith, nat_tests), grind (arith, nat_tests))
between code (suc at) (c ∷ cs) l low high =
    let h = low 0 (omega arith) in
    let rest = between code at cs (omega arith) (λ k lt. low (suc k) (omega arith)) (λ k ge lt. high (suc k) (omega arith) (omega arith)) in
    let out = rest.0 in
    let is = rest.1 in
    (grind (arith, nat_tests), grind (arith, nat_tests))

-- what a search in the codes on hold finds
pub sought : (code : ℕ) (cs : List ℕ) (r : Result ℕ ℕ) → rising cs ≡ true → IsBinarySearchResult (λ y. nat_cmp y code) cs r → MatchResult r (λ _. held code cs ≡ true) (λ at. (held code cs ≡ false) × (at ≡ below (λ c. c) code cs))
sought code cs r up is = told r (searched cs code r is (in_order 0 cs up))
  where
    told : (r : Result ℕ ℕ) → MatchResult r (λ i. (i < length cs) × (get_or cs i 0 ≡ code)) (λ i. (i ≤ length cs) × ((k : ℕ) → k < i → get_or cs k 0 < code) × ((k : ℕ) → i ≤ k → k < length cs → code < get_or cs k 0)) → MatchResult r (λ _. held code cs ≡ true) (λ at. (held code cs ≡ false) × (at ≡ below (λ c. c) code cs))
    told (Ok i) h = found_held code cs i h.0 h.1
    told (Err at) h = between code at cs h.0 h.1 h.2

-- an insert at the place of the code enters it
pub entered_at : (code at : ℕ) (cs : List ℕ) → at ≡ below (λ c. c) code cs → insert cs at code ≡ entered (λ c. c) code cs
entered_at code at cs place = ap (λ i. insert cs i code) place ∙ put_below (λ c. c) code cs

-- what `retain` leaves rises, where the closure writes nothing
pub retained_rise : {F : Type 0} (R : F → ℕ → Bool → F → ℕ → Type 0) → ((f : F) (x : ℕ) (b : Bool) (g : F) (y : ℕ) → R f x b g y → y ≡ x) → (f : F) (k : ℕ) (cs ds : List ℕ) → RetainsInTurn R f cs ds → rises_above (λ c. c) k cs ≡ true → rises_above (λ c. c) k ds ≡ true
retained_rise R still f k [] ds r up = ap (rises_above (λ c. c) k) r
retained_rise R still f k (c ∷ cs) ds (b, g, y, step, es, rest, is) up =
    let same = still f c b g y step in
    let ih = retained_rise R still g c cs es rest in
    let weaker = rises_weaker (λ c. c) es c k in
    grind (arith, nat_tests)

-- what `retain` leaves, where the closure only tests
module _ {F X : Type 0} (R : F → X → Bool → F → X → Type 0) (p : X → Bool) (f : F) (tests : (x : X) (b : Bool) (g : F) (y : X) → R f x b g y → (g ≡ f) × (b ≡ p x) × (y ≡ x)) where
  pub those_retained : (xs ys : List X) → RetainsInTurn R f xs ys → ys ≡ those p xs
  those_retained [] ys r = r
  those_retained (x ∷ xs) ys (b, g, y, step, zs, rest, is) =
      let (same, kept, still) = tests x b g y step in
      let more = those_retained xs zs (subst (λ h. RetainsInTurn R h xs zs) same rest) in
      is ∙ ap₂ (λ c l. cond c (y ∷ l) l) kept more ∙ ap (λ z. cond (p x) (z ∷ those p xs) (those p xs)) still
