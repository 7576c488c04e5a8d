-- What holds.txt and roll.txt say, line by line. The place of a fault is its line, from 1.
use Rattle.std.specs.Prelude.{ℕ, ◌+◌, cond, List, [], ◌∷◌, Ok, Err, Result, nat_lt}
use Rattle.fields.specs.Ranges.{accounts, issued}
use Rattle.fields.specs.declared.answer.Refusal.{Refusal}
use Rattle.fields.specs.declared.ground.Ground.TheVariants.{EndsEarly}
use Rattle.text.specs.Reading.{refusal, then, only}
use Rattle.layers.specs.Codes.{hold_answer, hold_codes}

-- a refusal at a line
abbrev pub at_line : {A : Type 0} → ℕ → Result A Refusal → Result A Refusal
at_line k (Ok x) = Ok x
at_line k (Err f) = Err (refusal f.ground k)

-- the codes held after line k, or its fault
abbrev pub hold_line : ℕ → List ℕ → List ℕ → Result (List ℕ) Refusal
hold_line k cs line = then (only accounts k line) (λ code. then (at_line k (hold_answer code cs)) (λ _. Ok (hold_codes code cs)))

-- the codes held after the lines from line k on, or the first fault
abbrev pub hold_lines : ℕ → List ℕ → List (List ℕ) → Result (List ℕ) Refusal
hold_lines k cs [] = Ok cs
hold_lines k cs (l ∷ ls) = then (hold_line k cs l) (λ held. hold_lines (k + 1) held ls)

-- an answer with the codes that are then held
abbrev pub left_with : Result (Unit {0}) Refusal → List ℕ → Result (List ℕ) Refusal
left_with (Ok _) cs = Ok cs
left_with (Err f) cs = Err f

-- the number on line k, which has to rise above the last
abbrev pub roll_line : ℕ → ℕ → List ℕ → Result ℕ Refusal
roll_line k last line = then (only issued k line) (λ n. cond (nat_lt last n) (Ok n) (Err (refusal EndsEarly k)))

-- the numbers on the lines from line k on, or the first fault
abbrev pub roll_lines : ℕ → ℕ → List (List ℕ) → Result (List ℕ) Refusal
roll_lines k last [] = Ok []
roll_lines k last (l ∷ ls) = then (roll_line k last l) (λ n. then (roll_lines (k + 1) n ls) (λ ns. Ok (n ∷ ns)))
