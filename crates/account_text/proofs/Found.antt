-- The first row of a code among the good lines stands for the account of that code in the text.
use Rattle.std.proofs.Common.{◌≡◌, ℕ, eqb, List, [], ◌∷◌, map, Ok, Err, Option, Result, refl, ap, ◌∙◌, sym, inl, inr, arith}
use Rattle.std.proofs.lemmas.Bool.{cases_eq}
use Rattle.std.proofs.lemmas.Bool.Decides.{nat_tests}
use Rattle.std.proofs.lemmas.Iterator.Adapters.{option_map_id}
use Rattle.std.specs.List.{filter_map, cons_option, find as first}
use Rattle.std.specs.Option.{option_map}
use Rattle.std.specs.Result.{result_ok}
use Rattle.keyed.specs.Rows.{find}
use Rattle.text.specs.Fields.{lines}
use Rattle.fields.specs.declared.answer.Refusal.{Refusal}
use Rattle.register.specs.Meaning.{Listed, code_of}
use Rattle.accounts.specs.Rows.{listed, row_code}
use Rattle.accounts.specs.declared.row.AccountRow.{AccountRow}
use Rattle.account_line.specs.Line.{account}
use Rattle.account_text.specs.Firsts.{other_than, firsts}
use Rattle.account_text.specs.Texts.{added, good_rows, rows_in, text_means}

-- the row of a line, if it is good
abbrev pub good_of : List ℕ → Option AccountRow
good_of line = result_ok (account line)

rows_are : (ls : List (List ℕ)) → filter_map good_of ls ≡ good_rows ls
rows_are [] = refl
rows_are (l ∷ ls) = ap (cons_option (good_of l)) (rows_are ls) ∙ go (account l)
  where
    go : (r : Result AccountRow Refusal) → cons_option (result_ok r) (good_rows ls) ≡ added r (good_rows ls)
    go (Ok r) = refl
    go (Err e) = refl

first_listed : (code : ℕ) (rs : List AccountRow) → option_map listed (first (λ r. eqb (row_code r) code) rs) ≡ find code_of code (map listed rs)
first_listed code [] = refl
first_listed code (r ∷ rs) = let ih = first_listed code rs in grind (arith, nat_tests)

find_other : (code other : ℕ) (ls : List Listed) → (other ≡ code → ⊥) → find code_of code (other_than other ls) ≡ find code_of code ls
find_other code other [] ne = refl
find_other code other (l ∷ ls) ne =
    let ih = find_other code other ls ne in
    grind (arith, nat_tests)

find_firsts : (code : ℕ) (ls : List Listed) → find code_of code (firsts ls) ≡ find code_of code ls
find_firsts code [] = refl
find_firsts code (l ∷ ls) =
    let ih = find_firsts code ls in
    elim (cases_eq (code_of l) code) [
      | inl same ↦ grind (arith, nat_tests)
      | inr ne ↦ let out = find_other code (code_of l) (firsts ls) ne in grind (arith, nat_tests)
    ]

pub row_found : (code : ℕ) (bytes : List ℕ) (o : Option AccountRow) → option_map (λ r. r) o ≡ first (λ r. eqb (row_code r) code) (filter_map good_of (lines bytes)) → option_map listed o ≡ find code_of code (text_means bytes)
row_found code bytes o e =
    let is : o ≡ first (λ r. eqb (row_code r) code) (rows_in bytes) = sym (option_map_id o) ∙ e ∙ ap (first (λ r. eqb (row_code r) code)) (rows_are (lines bytes)) in
    ap (option_map listed) is ∙ first_listed code (rows_in bytes) ∙ sym (find_firsts code (map listed (rows_in bytes)))
