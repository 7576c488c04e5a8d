-- The bytes of a line, and a buffer with a line in it.
use Rattle.std.specs.Prelude.{◌≡◌, ◌≤◌, ℕ, zero, suc, true, cond, List, [], ◌∷◌, ◌++◌, length, Ok, Err, decimal, Result, is_ok, nat_le}
use Rattle.fields.specs.Refusals.{refused}
use Rattle.fields.specs.Grounds.{number_of}
use Rattle.fields.specs.declared.answer.Answer.{Answer}
use Rattle.fields.specs.declared.answer.Answer.TheVariants.{Written, Marked}
use Rattle.fields.specs.declared.answer.Refusal.{Refusal}
use Rattle.fields.specs.declared.ground.Ground.TheVariants.{BufferShort}
use Rattle.fields.specs.declared.trade.Pair.{Pair}
use Rattle.writing.specs.declared.piece.Piece.{Piece}
use Rattle.writing.specs.declared.piece.Piece.TheVariants.{Letter, Number}

-- a letter is one byte; a number has its figures in base ten, without leading zeros
abbrev pub bytes_of : Piece → List ℕ
bytes_of (Letter b) = b ∷ []
bytes_of (Number n) = decimal n

-- the fields, a comma (byte 44) before each
abbrev pub commaed : List Piece → List ℕ
commaed [] = []
commaed (p ∷ ps) = 44 ∷ (bytes_of p ++ commaed ps)

-- a letter and the fields behind it
abbrev pub line_of : ℕ → List Piece → List ℕ
line_of letter ps = letter ∷ commaed ps

-- `A,n,first` is 65, `T` 84, `R,number,place` 82
abbrev pub answer_line : Result Answer Refusal → List ℕ
answer_line (Ok (Written pairs first)) = line_of 65 (Number pairs ∷ Number first ∷ [])
answer_line (Ok Marked) = line_of 84 []
answer_line (Err f) = line_of 82 (Number (number_of f.ground) ∷ Number f.place ∷ [])

-- `P,number,first trade,seller account,last trade,buyer account,quantity` is 80
abbrev pub pair_line : Pair → List ℕ
pair_line p = line_of 80 (Number p.number ∷ Number p.first ∷ Number p.seller ∷ Number p.last ∷ Number p.buyer ∷ Number p.quantity ∷ [])

-- xs with bs in the places from `at` on; what does not fit is left out
abbrev pub over : List ℕ → ℕ → List ℕ → List ℕ
over [] at bs = []
over (x ∷ xs) zero [] = x ∷ xs
over (x ∷ xs) zero (b ∷ bs) = b ∷ over xs zero bs
over (x ∷ xs) (suc at) bs = x ∷ over xs at bs

-- the answer to writing a line: how many bytes it has, or that the buffer is too short
abbrev pub sent : List ℕ → List ℕ → Result ℕ Refusal
sent line out = cond (nat_le (length line) (length out)) (Ok (length line)) (Err (refused BufferShort 0))

-- the buffer then: the line and the bytes behind it, or as it was
abbrev pub with_line : List ℕ → List ℕ → List ℕ
with_line line out = cond (nat_le (length line) (length out)) (over out 0 line) out

-- what writing a line gives: its answer, and the buffer then; a buffer of `room` bytes is enough
pub record Writes (line : List ℕ) (room : ℕ) (old new : List ℕ) (result : Result ℕ Refusal) : Type 0 where
  pub value : result ≡ sent line old
  pub after : new ≡ with_line line old
  pub enough : room ≤ length old → is_ok result ≡ true
