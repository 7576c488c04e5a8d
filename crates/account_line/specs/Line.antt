-- An account line, field by field from left to right.
use Rattle.std.specs.Prelude.{ℕ, ◌+◌, ◌*◌, List, Ok, Result}
use Rattle.fields.specs.Ranges.{from_to, accounts, days}
use Rattle.fields.specs.declared.answer.Refusal.{Refusal}
use Rattle.text.specs.Fields.{fields, number}
use Rattle.text.specs.Groups.{party_group, table}
use Rattle.text.specs.Reading.{field, end, then}
use Rattle.text.specs.Words.{class, status, markets}
use Rattle.accounts.specs.declared.row.AccountRow.{AccountRow}

-- type,status,day,markets,n behind the code, and n times participant,offeror
abbrev pub behind_code : ℕ → List (List ℕ) → Result AccountRow Refusal
behind_code code fs =
    then (field class 2 fs) (λ t.
    then (field status 3 t.1) (λ s.
    then (field (number days) 4 s.1) (λ d.
    then (field markets 5 d.1) (λ m.
    then (field (number (from_to 1 4)) 6 m.1) (λ n.
    then (table party_group 4 n.0 7 n.1) (λ ts.
    then (end (7 + 2 * n.0) ts.1) (λ _.
    Ok (record {
      account = record { code = code; class = t.0; status = s.0; day = d.0; markets = m.0 };
      tie_count = n.0;
      ties = ts.0;
    }))))))))

-- code,type,status,day,markets,n and n ties; what is left of the row's table of ties is blank
abbrev pub account_of : List (List ℕ) → Result AccountRow Refusal
account_of fs = then (field (number accounts) 1 fs) (λ c. behind_code c.0 c.1)

-- what a line says of an account, or why it is bad
abbrev pub account : List ℕ → Result AccountRow Refusal
account bs = account_of (fields bs)
