-- The first line of a text, and the lines behind it.
use Rattle.std.proofs.Common.{◌≡◌, ℕ, ◌<◌, ◌≤◌, List, [], ◌∷◌, length, drop, sym, ap, ◌∙◌, arith}
use Rattle.std.proofs.lemmas.List.{take_rest}
use Rattle.std.proofs.lemmas.Bool.Decides.{nat_tests}
use Rattle.std.specs.List.{between}
use Rattle.text.specs.Fields.{lines}
use Rattle.text.specs.Cuts.{before, onward}

-- a text with bytes in it has a first line
first_line : (b : ℕ) (bs : List ℕ) → lines (b ∷ bs) ≡ before 10 (b ∷ bs) ∷ lines (drop 1 (onward 10 (b ∷ bs)))
first_line b [] = grind (arith, nat_tests)
first_line b (d ∷ bs) = let h = first_line d bs in grind (arith, nat_tests)

pub line_is : (xs : List ℕ) → 0 < length xs → lines xs ≡ before 10 xs ∷ lines (between 1 (length (onward 10 xs)) (onward 10 xs))
line_is [] h = absurd (omega arith)
line_is (b ∷ bs) h = first_line b bs ∙ ap (λ l. before 10 (b ∷ bs) ∷ lines l) (sym (take_rest (onward 10 (b ∷ bs)) 1))

pub onward_length : (m : ℕ) (xs : List ℕ) → length (onward m xs) ≤ length xs
onward_length m [] = omega arith
onward_length m (b ∷ bs) = let h = onward_length m bs in grind (arith, nat_tests)

-- no more lines than bytes
pub lines_length : (xs : List ℕ) → length (lines xs) ≤ length xs
lines_length [] = omega arith
lines_length (b ∷ []) = grind (arith, nat_tests)
lines_length (b ∷ d ∷ bs) = let h = lines_length (d ∷ bs) in let e = first_line d bs in grind (arith, nat_tests)
