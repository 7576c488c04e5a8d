-- Fields with a comma before each, one more at a time.
use Rattle.std.proofs.Common.{◌≡◌, ℕ, ◌+◌, ◌-◌, ◌*◌, ◌<◌, ◌≤◌, true, leb, List, [], ◌∷◌, ◌++◌, length, get_or, take, drop, set, Result, sym, refl, ap, ◌∙◌, append_assoc, append-nil, arith, length-append, take-append-drop}
use Rattle.std.proofs.lemmas.List.{take_more, drop_more}
use Rattle.std.proofs.lemmas.Bool.Decides.{nat_tests}
use Rattle.fields.specs.declared.answer.Refusal.{Refusal}
use Rattle.writing.specs.Written.{bytes_of, commaed, line_of, over, sent, with_line, Writes}
use Rattle.writing.proofs.Over.{set_over, over_over}
use Rattle.writing.specs.declared.piece.Piece.{Piece}
use Rattle.writing.specs.declared.piece.Piece.TheVariants.{Letter}

pub length_commaed : (p : Piece) (ps : List Piece) → length (commaed (p ∷ ps)) ≡ 1 + length (bytes_of p) + length (commaed ps)
length_commaed p ps = let e = length-append (bytes_of p) (commaed ps) in omega arith

pub commaed_append : (ps qs : List Piece) → commaed (ps ++ qs) ≡ commaed ps ++ commaed qs
commaed_append [] qs = refl
commaed_append (p ∷ ps) qs = ap (λ l. 44 ∷ l) (ap (λ l. bytes_of p ++ l) (commaed_append ps qs) ∙ sym (append_assoc (bytes_of p) (commaed ps) (commaed qs)))

module _ (ps : List Piece) (i : ℕ) (within : i < length ps) where
  abbrev pub this : Piece
  this = get_or ps i (Letter 0)

  pub commaed_more : commaed (take (i + 1) ps) ≡ commaed (take i ps) ++ (44 ∷ bytes_of this)
  commaed_more = ap commaed (take_more ps i (Letter 0) within) ∙ commaed_append (take i ps) (this ∷ []) ∙ ap (λ l. commaed (take i ps) ++ (44 ∷ l)) (append-nil (bytes_of this))

  pub length_more : length (commaed (take (i + 1) ps)) ≡ length (commaed (take i ps)) + 1 + length (bytes_of this)
  length_more = let e = ap length commaed_more ∙ length-append (commaed (take i ps)) (44 ∷ bytes_of this) in omega arith

  -- what is written so far and one more field fit where the whole does
  pub fits_more : length (commaed (take i ps)) + 1 + length (bytes_of this) ≤ length (commaed ps)
  fits_more =
      let e = ap length (ap commaed (sym (take-append-drop i ps)) ∙ commaed_append (take i ps) (drop i ps)) ∙ length-append (commaed (take i ps)) (commaed (drop i ps)) in
      let f = ap (λ l. length (commaed l)) (drop_more ps i (Letter 0) within) ∙ length_commaed this (drop (i + 1) ps) in
      omega arith

  -- a comma and one more field behind those that stand
  pub over_more : (xs : List ℕ) (start at : ℕ) → at ≡ start + length (commaed (take i ps)) →
      over (set (over xs start (commaed (take i ps))) at 44) (at + 1) (bytes_of this) ≡ over xs start (commaed (take (i + 1) ps))
  over_more xs start at e =
      let a = set_over (over xs start (commaed (take i ps))) at 44 in
      let b = over_over xs start at (commaed (take i ps)) (44 ∷ []) e in
      let n = length-append (commaed (take i ps)) (44 ∷ []) in
      let m : at + 1 ≡ start + length (commaed (take i ps) ++ (44 ∷ [])) = omega arith in
      ap (λ l. over l (at + 1) (bytes_of this)) (a ∙ b) ∙ over_over xs start (at + 1) (commaed (take i ps) ++ (44 ∷ [])) (bytes_of this) m
      ∙ ap (over xs start) (append_assoc (commaed (take i ps)) (44 ∷ []) (bytes_of this) ∙ sym commaed_more)

-- a line in its buffer
module _ (letter : ℕ) (ps : List Piece) (out : List ℕ) where
  pub line_fits : 0 < length out → leb (length (commaed ps)) (length out - 1) ≡ true → leb (length (line_of letter ps)) (length out) ≡ true
  line_fits some h = grind (arith, nat_tests)

  pub line_over : over (set out 0 letter) 1 (commaed ps) ≡ over out 0 (line_of letter ps)
  line_over = ap (λ l. over l 1 (commaed ps)) (set_over out 0 letter) ∙ over_over out 0 1 (letter ∷ []) (commaed ps) refl

-- a line of at most 54 fields has room in 1,135 bytes
pub line_sent : (letter : ℕ) (ps qs : List Piece) (old new : List ℕ) (r : Result ℕ Refusal) → ps ≡ qs → length qs ≤ 54 → Writes (line_of letter ps) (1 + 21 * length ps) old new r → Writes (line_of letter qs) 1135 old new r
line_sent letter ps qs old new r e h w =
    let l = ap length e in
    record { value = w.value ∙ ap (λ xs. sent (line_of letter xs) old) e; after = w.after ∙ ap (λ xs. with_line (line_of letter xs) old) e; enough = λ m. w.enough (omega arith) }
