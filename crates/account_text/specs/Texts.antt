-- What an account text means: its good lines, of which the first of a code counts.
use Rattle.std.specs.Prelude.{ℕ, List, [], ◌∷◌, map, Ok, Err, Result}
use Rattle.fields.specs.declared.answer.Refusal.{Refusal}
use Rattle.text.specs.Fields.{lines}
use Rattle.register.specs.Meaning.{Listed, Apart}
use Rattle.accounts.specs.Rows.{listed}
use Rattle.accounts.specs.declared.row.AccountRow.{AccountRow}
use Rattle.account_line.specs.Line.{account}
use Rattle.account_text.specs.Firsts.{firsts, firsts_apart}

-- a bad line adds nothing
abbrev pub added : Result AccountRow Refusal → List AccountRow → List AccountRow
added (Ok r) rs = r ∷ rs
added (Err e) rs = rs

abbrev pub good_rows : List (List ℕ) → List AccountRow
good_rows [] = []
good_rows (l ∷ ls) = added (account l) (good_rows ls)

abbrev pub rows_in : List ℕ → List AccountRow
rows_in bytes = good_rows (lines bytes)

abbrev pub text_means : List ℕ → List Listed
text_means bytes = firsts (map listed (rows_in bytes))

-- no code occurs twice among them
pub text_apart : (bytes : List ℕ) → Apart (text_means bytes)
text_apart bytes = firsts_apart (map listed (rows_in bytes))
