-- A day's input and what it is answered with.
use Rattle.std.specs.Prelude.{ℕ, List, [], ◌∷◌, ◌++◌, take, Ok, Err, Result}
use Rattle.fields.specs.declared.answer.Refusal.{Refusal}
use Rattle.requests.specs.declared.request.Request.{Request}
use Rattle.text.specs.Fields.{lines}
use Rattle.writing.specs.Written.{answer_line}
use Rattle.request_text.specs.declared.opening.Opening.{Opening}
use Rattle.request_text.specs.Lines.{request, opening}
use Rattle.text.specs.Reading.{then}
use Rattle.day_files.specs.Files.{hold_lines, roll_lines}
use Rattle.request_writer.specs.Canonical.{request_line}

-- a line and the byte 10 that ends it
abbrev pub ended : List ℕ → List ℕ
ended line = line ++ (10 ∷ [])

-- a line that reads is answered by its canonical form, another by its refusal
abbrev pub replied : Result Request Refusal → List ℕ
replied (Ok v) = request_line v
replied (Err f) = answer_line (Err f)

abbrev pub reply : List ℕ → List ℕ
reply line = replied (request line)

abbrev pub replies : List (List ℕ) → List ℕ
replies [] = []
replies (l ∷ ls) = ended (reply l) ++ replies ls

-- the lines of the first 65,536 bytes of a text
abbrev pub lines_of : List ℕ → List (List ℕ)
lines_of text = lines (take 65536 text)

-- no line at all is an empty first line
abbrev pub first_of : List (List ℕ) → List ℕ
first_of [] = []
first_of (l ∷ ls) = l

abbrev pub others_of : List (List ℕ) → List (List ℕ)
others_of [] = []
others_of (l ∷ ls) = ls

-- the first fault in holds.txt, in roll.txt or in the first line, in this order
abbrev pub begun : List ℕ → List ℕ → List ℕ → Result Opening Refusal
begun holds roll first =
    then (hold_lines 1 [] (lines_of holds)) (λ _.
    then (roll_lines 1 0 (lines_of roll)) (λ _.
    opening first))

-- a fault at the beginning ends the day
abbrev pub answered : Result Opening Refusal → List (List ℕ) → List ℕ
answered (Ok o) ls = replies ls
answered (Err f) ls = ended (answer_line (Err f))

-- what a day is answered with, from holds.txt, roll.txt and the input
abbrev pub day_of : List ℕ → List ℕ → List ℕ → List ℕ
day_of holds roll input = answered (begun holds roll (first_of (lines_of input))) (others_of (lines_of input))
