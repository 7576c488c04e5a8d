-- Writing one part behind another.
use Rattle.std.proofs.Common.{◌≡◌, ℕ, zero, suc, ◌+◌, ◌≤◌, Bool, true, false, cond, leb, List, [], ◌∷◌, ◌++◌, length, take, drop, set, Ok, Err, Result, sym, refl, ap, ap₂, ◌∙◌, arith, take-append-drop}
use Rattle.std.proofs.lemmas.List.{drop-drop}
use borrow.Rule.Slice.PartMut.{put_mid}
use Rattle.fields.specs.declared.answer.Refusal.{Refusal}
use Rattle.std.proofs.lemmas.Bool.{leb-true}
use Rattle.fields.specs.declared.ground.Ground.TheVariants.{BufferShort}
use Rattle.writing.specs.Written.{over, sent, with_line}

pub over_none : (xs : List ℕ) (at : ℕ) → over xs at [] ≡ xs
over_none [] at = refl
over_none (x ∷ xs) zero = refl
over_none (x ∷ xs) (suc at) = ap (λ l. x ∷ l) (over_none xs at)

pub set_over : (xs : List ℕ) (at b : ℕ) → set xs at b ≡ over xs at (b ∷ [])
set_over [] at b = refl
set_over (x ∷ xs) zero b = ap (λ l. b ∷ l) (sym (over_none xs zero))
set_over (x ∷ xs) (suc at) b = ap (λ l. x ∷ l) (set_over xs at b)

-- bs behind those that stand from `at` on
pub over_over : (xs : List ℕ) (at k : ℕ) (ys bs : List ℕ) → k ≡ at + length ys → over (over xs at ys) k bs ≡ over xs at (ys ++ bs)
over_over [] at k ys bs e = refl
over_over (x ∷ xs) zero k [] bs e = let z : k ≡ 0 = omega arith in ap (λ n. over (x ∷ xs) n bs) z
over_over (x ∷ xs) zero zero (y ∷ ys) bs e = absurd (omega arith)
over_over (x ∷ xs) zero (suc k) (y ∷ ys) bs e = ap (λ l. y ∷ l) (over_over xs zero k ys bs (omega arith))
over_over (x ∷ xs) (suc at) zero ys bs e = absurd (omega arith)
over_over (x ∷ xs) (suc at) (suc k) ys bs e = ap (λ l. x ∷ l) (over_over xs at k ys bs (omega arith))

pub length_over : (xs : List ℕ) (at : ℕ) (bs : List ℕ) → length (over xs at bs) ≡ length xs
length_over [] at bs = refl
length_over (x ∷ xs) zero [] = refl
length_over (x ∷ xs) zero (b ∷ bs) = ap suc (length_over xs zero bs)
length_over (x ∷ xs) (suc at) bs = ap suc (length_over xs at bs)

-- bytes that fit, copied in
pub put_front : (xs bs : List ℕ) → length bs ≤ length xs → bs ++ drop (length bs) xs ≡ over xs 0 bs
put_front [] [] h = refl
put_front [] (b ∷ bs) h = absurd (omega arith)
put_front (x ∷ xs) [] h = refl
put_front (x ∷ xs) (b ∷ bs) h = ap (λ l. b ∷ l) (put_front xs bs (omega arith))

pub put_over : (xs : List ℕ) (at : ℕ) (bs : List ℕ) → at + length bs ≤ length xs → put_mid at (length bs) xs bs ≡ over xs at bs
put_over xs zero bs h = put_front xs bs (omega arith)
put_over [] (suc at) bs h = absurd (omega arith)
put_over (x ∷ xs) (suc at) bs h = ap (λ l. x ∷ l) (put_over xs at bs (omega arith))

-- bytes that were written up to `end`, and nothing else
pub ending_over : (xs ys : List ℕ) (at start end : ℕ) (bs : List ℕ) → start + length bs ≡ end → end ≡ at + length bs → end ≤ length xs
    → drop start ys ≡ bs ++ drop end xs → take start ys ≡ take start xs → ys ≡ over xs at bs
ending_over xs ys at start end bs s e h behind before =
    let here : start ≡ at = omega arith in
    let last : drop end xs ≡ drop (length bs) (drop at xs) = ap (λ k. drop k xs) e ∙ sym (drop-drop (length bs) at xs) in
    sym (take-append-drop start ys) ∙ ap₂ (λ a b. a ++ b) (before ∙ ap (λ k. take k xs) here) (behind ∙ ap (λ l. bs ++ l) last)
    ∙ put_over xs at bs (omega arith)

-- bytes that fit can be taken out again
pub take_over : (xs bs : List ℕ) → length bs ≤ length xs → take (length bs) (over xs 0 bs) ≡ bs
take_over [] [] h = refl
take_over [] (b ∷ bs) h = absurd (omega arith)
take_over (x ∷ xs) [] h = refl
take_over (x ∷ xs) (b ∷ bs) h = ap (λ l. b ∷ l) (take_over xs bs (omega arith))

-- a line that was written stands at the front of its buffer
pub line_in_front : (line out : List ℕ) (n : ℕ) → sent line out ≡ Ok n → (n ≡ length line) × (length line ≤ length out) × (take n (with_line line out) ≡ line)
line_in_front line out n e =
    let P : Bool → Type 0 = λ t. leb (length line) (length out) ≡ t → cond {A = Result ℕ Refusal} t (Ok (length line)) (Err (record { ground = BufferShort; place = 0 })) ≡ Ok n →
    (n ≡ length line) × (length line ≤ length out) × (take n (cond t (over out 0 line) out) ≡ line) in
    (elim (leb (length line) (length out)) as P [
      | true ↦ λ t s. let m : n ≡ length line = cc in let le = leb-true (length line) (length out) t in (m, le, ap (λ k. take k (over out 0 line)) m ∙ take_over out line le)
      | false ↦ λ t s. let z : ◌≡◌ {A = ℕ} 0 1 = cc in absurd (omega arith)
    ]) refl e
