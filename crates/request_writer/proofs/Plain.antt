-- Figures read back as their number, and fields without commas as themselves.
use Rattle.std.proofs.Common.{◌≡◌, ℕ, ◌+◌, ◌-◌, ◌*◌, ◌/◌, ◌%◌, ◌^◌, ◌<◌, ◌≤◌, Bool, true, false, cond, eqb, leb, List, [], ◌∷◌, ◌++◌, length, get_or, Some, None, decimal, refl, ap, ◌∙◌, append-nil, arith}
use Rattle.std.proofs.lemmas.Fmt.{decimal_by_steps, decimal_nonempty, first_decimal}
use Rattle.std.proofs.lemmas.Bool.{ne_eqb, leb-true, leb-false, and_parts}
use Rattle.fields.specs.declared.range.Range.{Range}
use Rattle.fields.specs.Ranges.{is_in_range}
use Rattle.text.specs.Fields.{fields, is_figure, behind, numeral, number, within}
use Rattle.text.proofs.Scan.{figure_is, numeral_is}
use Rattle.writing.proofs.Decimals.{one_figure}
use Rattle.writing.specs.Written.{bytes_of, commaed, line_of}
use Rattle.writing.specs.declared.piece.Piece.{Piece}

-- no byte is a comma
abbrev pub NoComma : List ℕ → Type 0
NoComma [] = Unit {0}
NoComma (b ∷ bs) = (b ≡ 44 → ⊥) × NoComma bs

no_comma_append : (xs ys : List ℕ) → NoComma xs → NoComma ys → NoComma (xs ++ ys)
no_comma_append [] ys h k = k
no_comma_append (x ∷ xs) ys h k = (h.0, no_comma_append xs ys h.1 k)

pub no_comma_decimal : (n : ℕ) → n < 2 ^ 64 → NoComma (decimal n)
no_comma_decimal n h =
    decimal_by_steps (λ _ ds. NoComma ds) (λ n k. ((λ e. omega arith), tt)) (λ n ds k s. no_comma_append ds ((48 + n % 10) ∷ []) s ((λ e. omega arith), tt)) n h

-- the last figure behind the others
behind_push : (v : ℕ) (xs : List ℕ) (d w : ℕ) → d < 10 → behind v xs ≡ Some w → behind v (xs ++ ((48 + d) ∷ [])) ≡ Some (w * 10 + d)
behind_push v [] d w h e =
    let s : v ≡ w = cc in
    let f : is_figure (48 + d) ≡ true = figure_is (48 + d) (omega arith) (omega arith) in
    let n : v * 10 + (48 + d - 48) ≡ w * 10 + d = omega arith in
    rw f (ap Some n)
behind_push v (x ∷ xs) d w h e =
    let P : Bool → Type 0 = λ t. cond t (behind (v * 10 + (x - 48)) xs) None ≡ Some w → cond t (behind (v * 10 + (x - 48)) (xs ++ ((48 + d) ∷ []))) None ≡ Some (w * 10 + d) in
    (elim (is_figure x) as P [
      | true ↦ λ k. behind_push (v * 10 + (x - 48)) xs d w h k
      | false ↦ λ k. let z : ◌≡◌ {A = ℕ} 0 1 = cc in absurd (omega arith)
    ]) e

pub behind_decimal : (n : ℕ) → n < 2 ^ 64 → behind 0 (decimal n) ≡ Some n
behind_decimal n h =
    decimal_by_steps (λ n ds. behind 0 ds ≡ Some n)
    (λ n k. let f : is_figure (48 + n) ≡ true = figure_is (48 + n) (omega arith) (omega arith) in let e : 0 * 10 + (48 + n - 48) ≡ n = omega arith in rw f (ap Some e))
    (λ n ds k s. behind_push 0 ds (n % 10) (n / 10) (omega arith) s ∙ (let e : n / 10 * 10 + n % 10 ≡ n = omega arith in ap Some e))
    n h

pub numeral_decimal : (n : ℕ) → n < 2 ^ 64 → numeral (decimal n) ≡ Some n
numeral_decimal n h = numeral_is (decimal n) (decimal_nonempty n h) (no_zero n h) ∙ behind_decimal n h
  where
    no_zero : (n : ℕ) → n < 2 ^ 64 → 1 < length (decimal n) → get_or (decimal n) 0 0 ≡ 48 → ⊥
    no_zero n h long first =
        let P : Bool → Type 0 = λ t. leb 1 n ≡ t → ⊥ in
        (elim (leb 1 n) as P [
          | true ↦ λ t. omega (arith, first_decimal n (leb-true 1 n t) h)
          | false ↦ λ t. omega (arith, leb-false 1 n t, one_figure n (omega (arith, leb-false 1 n t)))
        ]) refl

-- a number of the range reads back
pub number_back : (r : Range) (n : ℕ) → r.most < 2 ^ 64 → is_in_range r n ≡ true → number r (decimal n) ≡ Some n
number_back r n big h =
    let le : n ≤ r.most = leb-true n r.most (and_parts (leb r.least n) (leb n r.most) h).1 in
    ap (within r) (numeral_decimal n (omega arith)) ∙ rw h

-- the bytes of a field are no comma
abbrev pub Plain : List Piece → Type 0
Plain [] = Unit {0}
Plain (p ∷ ps) = NoComma (bytes_of p) × Plain ps

abbrev pub texts : List Piece → List (List ℕ)
texts [] = []
texts (p ∷ ps) = bytes_of p ∷ texts ps

-- bytes without a comma stay in one field
one_field : (xs : List ℕ) (ys : List ℕ) (f : List ℕ) (fs : List (List ℕ)) → NoComma xs → fields ys ≡ f ∷ fs → fields (xs ++ ys) ≡ (xs ++ f) ∷ fs
one_field [] ys f fs h e = e
one_field (x ∷ xs) ys f fs h e =
    let t : eqb x 44 ≡ false = ne_eqb x 44 h.0 in
    rw (t, one_field xs ys f fs h.1 e)

-- what stands behind the first field
fields_commaed : (xs : List ℕ) (ps : List Piece) → NoComma xs → Plain ps → fields (xs ++ commaed ps) ≡ xs ∷ texts ps
fields_commaed xs [] h k = one_field xs [] [] [] h refl ∙ ap (λ l. l ∷ []) (append-nil xs)
fields_commaed xs (p ∷ ps) h k =
    one_field xs (44 ∷ (bytes_of p ++ commaed ps)) [] (bytes_of p ∷ texts ps) h (ap (λ l. [] ∷ l) (fields_commaed (bytes_of p) ps k.0 k.1)) ∙ ap (λ l. l ∷ (bytes_of p ∷ texts ps)) (append-nil xs)

-- the fields of a line are its letter and its pieces
pub fields_line : (letter : ℕ) (ps : List Piece) → (letter ≡ 44 → ⊥) → Plain ps → fields (line_of letter ps) ≡ (letter ∷ []) ∷ texts ps
fields_line letter ps h k = fields_commaed (letter ∷ []) ps (h, tt) k
