-- One byte of a field at a time.
use Rattle.std.proofs.Common.{◌≡◌, ℕ, suc, ◌+◌, ◌-◌, ◌*◌, ◌<◌, ◌≤◌, Bool, true, false, cond, not, eqb, leb, List, [], ◌∷◌, length, get_or, take, drop, None, refl, ap, arith}
use Rattle.std.proofs.lemmas.Bool.{ne_eqb, le-leb, lt-leb, and_from, cond_both}
use Rattle.std.proofs.lemmas.Bool.Decides.{nat_tests}
use Rattle.std.proofs.lemmas.List.Sums.{prefix_len-le-length}
use Rattle.std.specs.List.{position_or_len, position}
use Rattle.std.specs.Option.{unwrap_or}
use Rattle.text.specs.Fields.{is_figure, behind, numeral, up_to}
use Rattle.text.specs.Cuts.{before, onward, front, after}

pub figure_is : (b : ℕ) → 48 ≤ b → b ≤ 57 → is_figure b ≡ true
figure_is b lo hi = and_from _ _ (le-leb 48 b lo) (le-leb b 57 hi)

-- no figure takes a number down again
pub too_big : (v most : ℕ) (bs : List ℕ) → most < v → up_to most (behind v bs) ≡ None
too_big v most [] h = let e : leb v most ≡ false = lt-leb v most h in rw e
too_big v most (b ∷ bs) h =
    cond_both (is_figure b) (behind (v * 10 + (b - 48)) bs) None (λ o. up_to most o ≡ None) (λ _. too_big (v * 10 + (b - 48)) most bs (omega arith)) (λ _. refl)

pub cut_length : (xs : List ℕ) → length (front xs) + length (after xs) ≡ length xs
cut_length [] = refl
cut_length (b ∷ xs) = let h = cut_length xs in grind (arith, nat_tests)

pub front_first : (xs : List ℕ) → 0 < length (front xs) → get_or (front xs) 0 0 ≡ get_or xs 0 0
front_first [] h = refl
front_first (b ∷ xs) h = grind (arith, nat_tests)

pub numeral_is : (f : List ℕ) → 0 < length f → (1 < length f → get_or f 0 0 ≡ 48 → ⊥) → numeral f ≡ behind 0 f
numeral_is [] h n = absurd (omega arith)
numeral_is (b ∷ []) h n = refl
numeral_is (b ∷ d ∷ f) h n = let t : eqb b 48 ≡ false = ne_eqb b 48 (n (omega arith)) in rw t

-- the first mark of a text parts it
parts : (m : ℕ) (xs : List ℕ) → (take (position_or_len (λ b. eqb b m) xs) xs ≡ before m xs) × (drop (position_or_len (λ b. eqb b m) xs) xs ≡ onward m xs)
parts m [] = (refl, refl)
parts m (b ∷ xs) =
    let h = parts m xs in
    let n : ℕ = position_or_len (λ b. eqb b m) xs in
    let P : Bool → Type 0 = λ t. (take (cond (not t) (1 + n) 0) (b ∷ xs) ≡ cond t [] (b ∷ before m xs)) × (drop (cond (not t) (1 + n) 0) (b ∷ xs) ≡ cond t (b ∷ xs) (onward m xs)) in
    let k : 1 + n ≡ suc n = omega arith in
    elim (eqb b m) as P [ true ↦ (refl, refl) | false ↦ rw k (ap (λ l. b ∷ l) h.0, h.1) ]

pub cut_at : (m : ℕ) (xs : List ℕ) (n : ℕ) → n ≡ unwrap_or (position (λ b. eqb b m) xs) (length xs) → (take n xs ≡ before m xs) × (drop n xs ≡ onward m xs)
cut_at m xs n e =
    let k : n ≡ position_or_len (λ b. eqb b m) xs = grind (arith, nat_tests, prefix_len-le-length) in
    rw k (parts m xs)
