-- What a turn by one of a part of the rows leaves. Assumes nothing.
use Rattle.std.proofs.Common.{◌≡◌, ℕ, ◌+◌, ◌-◌, ◌<◌, ◌≤◌, true, false, cond, ltb, List, [], ◌∷◌, ◌++◌, length, take, drop, set, sym, refl, ap, ◌∙◌, add-one, one-add, arith, length-drop}
use Rattle.std.proofs.lemmas.Slice.{between_is}
use borrow.Rule.Slice.PartMut.{put_mid}
use Rattle.std.proofs.lemmas.List.{append_assoc, take_at, drop_at, length_push, length-take-le, length-append, length-take, take-append-drop, set_split, drop-drop, take-take}
use Rattle.keyed.specs.Places.{below, put_in, without}
use Rattle.keyed.specs.Rows.{entered, table, entered_in}

-- the last of a part comes before it
turned_up : {R : Type 0} (b : List R) (row : R) → drop (length (b ++ (row ∷ [])) - 1) (b ++ (row ∷ [])) ++ take (length (b ++ (row ∷ [])) - 1) (b ++ (row ∷ [])) ≡ row ∷ b
turned_up b row =
    let n : length b ≡ length (b ++ (row ∷ [])) - 1 = omega (arith, length_push b row) in
    ap (λ l. l ++ take (length (b ++ (row ∷ [])) - 1) (b ++ (row ∷ []))) (drop_at b (row ∷ []) _ n) ∙ ap (λ l. row ∷ l) (take_at b (row ∷ []) _ n)

module _ {R : Type 0} (a b v : List R) (row : R) (at n : ℕ) (ha : length a ≡ at) (hn : length b + 1 ≡ n) where
  rest : drop at ((a ++ b) ++ (row ∷ v)) ≡ (b ++ (row ∷ [])) ++ v
  rest = ap (drop at) (append_assoc a b (row ∷ v)) ∙ drop_at a (b ++ (row ∷ v)) at ha ∙ sym (append_assoc b (row ∷ []) v)

  len : length (b ++ (row ∷ [])) ≡ n
  len = length_push b row ∙ hn

  part : take n (drop at ((a ++ b) ++ (row ∷ v))) ≡ b ++ (row ∷ [])
  part = ap (take n) rest ∙ take_at (b ++ (row ∷ [])) v n len

  opened : (p last : List R) → p ≡ take n (drop at ((a ++ b) ++ (row ∷ v))) → last ≡ drop (length p - 1) p ++ take (length p - 1) p → put_mid at n ((a ++ b) ++ (row ∷ v)) last ≡ (a ++ (row ∷ b)) ++ v
  opened p last e f =
      let ends : last ≡ row ∷ b = f ∙ ap (λ q. drop (length q - 1) q ++ take (length q - 1) q) (e ∙ part) ∙ turned_up b row in
      let head : take at ((a ++ b) ++ (row ∷ v)) ≡ a = ap (take at) (append_assoc a b (row ∷ v)) ∙ take_at a (b ++ (row ∷ v)) at ha in
      let tail : drop n (drop at ((a ++ b) ++ (row ∷ v))) ≡ v = ap (drop n) rest ∙ drop_at (b ++ (row ∷ [])) v n len in
      ap (λ h. h ++ (last ++ drop n (drop at ((a ++ b) ++ (row ∷ v))))) head ∙ ap (λ l. a ++ (l ++ drop n (drop at ((a ++ b) ++ (row ∷ v))))) ends ∙ ap (λ t. a ++ ((row ∷ b) ++ t)) tail
      ∙ sym (append_assoc a (row ∷ b) v)

-- a row written behind the used ones and turned to its place
pub open_at : {R : Type 0} (xs : List R) (count at : ℕ) (row : R) (p last : List R) → at ≤ count → count < length xs → p ≡ take (count + 1 - at) (drop at (set xs count row)) → last ≡ drop (length p - 1) p ++ take (length p - 1) p → put_mid at (count + 1 - at) (set xs count row) last ≡ put_in at row (take count xs) ++ drop (count + 1) xs
open_at xs count at row p last l h e f =
    let u = take count xs in
    let lu : length u ≡ count = length-take-le count xs (omega arith) in
    let split : set xs count row ≡ (take at u ++ drop at u) ++ (row ∷ drop (count + 1) xs) = set_split xs count row h ∙ ap (λ n. u ++ (row ∷ drop n xs)) (sym (add-one count)) ∙ ap (λ w. w ++ (row ∷ drop (count + 1) xs)) (sym (take-append-drop at u)) in
    let ha : length (take at u) ≡ at = length-take-le at u (omega arith) in
    let hb : length (drop at u) + 1 ≡ count + 1 - at = simp length-drop (omega arith) in
    ap (λ s. put_mid at (count + 1 - at) s last) split
    ∙ opened (take at u) (drop at u) (drop (count + 1) xs) row at (count + 1 - at) ha hb p last (e ∙ ap (λ s. take (count + 1 - at) (drop at s)) split) f

-- the rows from a place on, turned down by one
pub close_at : {R : Type 0} (xs : List R) (count at : ℕ) (last : List R) → at < count → count ≤ length xs → last ≡ drop 1 (take (count - at) (drop at xs)) ++ take 1 (take (count - at) (drop at xs)) → put_mid at (count - at) xs last ≡ without at (take count xs) ++ (take 1 (drop at xs) ++ drop count xs)
close_at xs count at last l h f =
    let head : take at xs ≡ take at (take count xs) = sym (take-take at count xs (omega arith)) in
    let mid : drop 1 (take (count - at) (drop at xs)) ≡ drop (at + 1) (take count xs) = ap (drop 1) (between_is xs at count) ∙ drop-drop 1 at (take count xs) in
    let one : take 1 (take (count - at) (drop at xs)) ≡ take 1 (drop at xs) = take-take 1 (count - at) (drop at xs) (omega arith) in
    let back : drop (count - at) (drop at xs) ≡ drop count xs = drop-drop (count - at) at xs ∙ ap (λ n. drop n xs) (let e : at + (count - at) ≡ count = omega arith in e) in
    let ends : last ≡ drop (at + 1) (take count xs) ++ take 1 (drop at xs) = f ∙ ap (λ m. m ++ take 1 (take (count - at) (drop at xs))) mid ∙ ap (λ m. drop (at + 1) (take count xs) ++ m) one in
    ap (λ t. take at xs ++ (last ++ t)) back ∙ ap (λ m. take at xs ++ (m ++ drop count xs)) ends ∙ ap (λ m. m ++ ((drop (at + 1) (take count xs) ++ take 1 (drop at xs)) ++ drop count xs)) head
    ∙ ap (λ m. take at (take count xs) ++ m) (append_assoc (drop (at + 1) (take count xs)) (take 1 (drop at xs)) (drop count xs))
    ∙ sym (append_assoc (take at (take count xs)) (drop (at + 1) (take count xs)) (take 1 (drop at xs) ++ drop count xs))

-- the place before the first key that is not below the row's
pub put_below : {R : Type 0} (key : R → ℕ) (row : R) (xs : List R) → put_in (below key (key row) xs) row xs ≡ entered key row xs
put_below key row [] = refl
put_below key row (x ∷ xs) = elim (ltb (key x) (key row)) as (λ b. put_in (cond b (1 + below key (key row) xs) 0) row (x ∷ xs) ≡ cond b (x ∷ entered key row xs) (row ∷ (x ∷ xs))) [
  | true ↦ rw one-add (ap (λ l. x ∷ l) (put_below key row xs))
  | false ↦ refl
]

-- the table after a row is put in
module _ {R : Type 0} (xs ys : List R) (n at : ℕ) (row : R) (l : at ≤ n) (h : n < length xs) (e : ys ≡ put_in at row (take n xs) ++ drop (n + 1) xs) where
  put_len : length (put_in at row (take n xs)) ≡ n + 1
  put_len = simp (length-append, length-drop, length-take) (omega (arith, length-take-le n xs (omega arith)))

  pub enter_rest : drop (n + 1) ys ≡ drop (n + 1) xs
  enter_rest = ap (drop (n + 1)) e ∙ drop_at (put_in at row (take n xs)) (drop (n + 1) xs) (n + 1) put_len

  enter_rows : (key : R → ℕ) → at ≡ below key (key row) (take n xs) → take (n + 1) ys ≡ entered key row (take n xs)
  enter_rows key at-is =
      ap (take (n + 1)) e ∙ take_at (put_in at row (take n xs)) (drop (n + 1) xs) (n + 1) put_len
      ∙ ap (λ i. put_in i row (take n xs)) at-is ∙ put_below key row (take n xs)

  pub enter_table : (key : R → ℕ) → at ≡ below key (key row) (take n xs) → table (n + 1) ys ≡ entered_in key row (table n xs)
  enter_table key at-is =
      let same : length ys ≡ length xs = ap length e ∙ length-append (put_in at row (take n xs)) (drop (n + 1) xs) ∙ simp length-drop (omega (arith, put_len)) in
      let rows = enter_rows key at-is in
      cc

-- after one is taken out
module _ {R : Type 0} (xs ys : List R) (n i : ℕ) (h : i < n) (k : n ≤ length xs) (e : ys ≡ without i (take n xs) ++ (take 1 (drop i xs) ++ drop n xs)) where
  short : length (without i (take n xs)) ≡ n - 1
  short = simp (length-append, length-drop, length-take) (omega arith)

  pub remove_rest : drop n ys ≡ drop n xs
  remove_rest =
      let one : length (without i (take n xs) ++ take 1 (drop i xs)) ≡ n = simp (length-append, length-drop, length-take) (omega arith) in
      ap (drop n) (e ∙ sym (append_assoc (without i (take n xs)) (take 1 (drop i xs)) (drop n xs))) ∙ drop_at (without i (take n xs) ++ take 1 (drop i xs)) (drop n xs) n one

  pub remove_rows : take (n - 1) ys ≡ without i (take n xs)
  remove_rows = ap (take (n - 1)) e ∙ take_at (without i (take n xs)) (take 1 (drop i xs) ++ drop n xs) (n - 1) short
