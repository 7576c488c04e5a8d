-- What a table of account rows means.
use Rattle.std.specs.Prelude.{◌≡◌, ℕ, ◌≤◌, Bool, ◌&&◌, List, map, take}
use Rattle.std.proofs.Common.{subst, arith}
use Rattle.fields.specs.Ranges.{is_in_range, from_to, accounts, days}
use Rattle.fields.specs.declared.account.Party.{Party}
use Rattle.keyed.specs.Fronts.{rising_front, rising_front_holds}
use Rattle.keyed.specs.Lists.{all}
use Rattle.keyed.specs.Plain.{good_party}
use Rattle.register.specs.Meaning.{Listed, Absent, Apart}
use Rattle.accounts.specs.declared.row.AccountRow.{AccountRow}

abbrev pub row_code : AccountRow → ℕ
row_code r = r.account.code

-- the first ties, as many as the row counts
abbrev pub in_use : AccountRow → List Party
in_use r = take r.tie_count r.ties

abbrev pub listed : AccountRow → Listed
listed r = record { account = r.account; ties = in_use r }

-- the fields in use are in range; any set of markets is, an empty one too
abbrev pub good_row : AccountRow → Bool
good_row r = is_in_range accounts (row_code r) && is_in_range days r.account.day && is_in_range (from_to 1 4) r.tie_count && all good_party (in_use r)

-- the rows up to the last one before the codes stop rising or a field is out of range
abbrev pub sound : List AccountRow → List AccountRow
sound rs = rising_front row_code good_row 0 rs

-- none of the codes up to k is in it, and none is in it twice
abbrev IsAbove : ℕ → List AccountRow → Type 0
IsAbove k rs = ((code : ℕ) → code ≤ k → Absent code (map listed rs)) × Apart (map listed rs)

front_above : (k : ℕ) (rs : List AccountRow) → IsAbove k (rising_front row_code good_row k rs)
front_above =
    rising_front_holds row_code good_row IsAbove (λ _. (λ _ _. tt, tt))
    (λ k r rs up good above. (λ code low. (λ same. omega arith, above.0 code (omega arith)), (above.0 (row_code r) (omega arith), above.1)))

-- no code occurs twice in a table that is sound throughout
pub rows_apart : (rs : List AccountRow) → sound rs ≡ rs → Apart (map listed rs)
rows_apart rs e = subst (λ ys. Apart (map listed ys)) e (front_above 0 rs).1
