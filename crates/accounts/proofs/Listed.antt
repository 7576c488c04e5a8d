-- The account of a code is that of the row with this code.
use Rattle.std.proofs.Common.{◌≡◌, ℕ, List, map, Some, None, refl, ap, ◌∙◌}
use Rattle.keyed.proofs.Keys.{row_map}
use Rattle.keyed.proofs.Lists.{mapped}
use Rattle.keyed.specs.Rows.{find}
use Rattle.register.specs.Meaning.{code_of}
use Rattle.accounts.specs.Rows.{row_code, listed}
use Rattle.accounts.specs.declared.row.AccountRow.{AccountRow}

pub found_listed : (code : ℕ) (rs : List AccountRow) (r : AccountRow) → find row_code code rs ≡ Some r → find code_of code (map listed rs) ≡ Some (listed r)
found_listed code rs r e = row_map row_code code_of listed (λ _. refl) code rs ∙ ap (mapped listed) e

pub none_listed : (code : ℕ) (rs : List AccountRow) → find row_code code rs ≡ None → find code_of code (map listed rs) ≡ None
none_listed code rs e = row_map row_code code_of listed (λ _. refl) code rs ∙ ap (mapped listed) e
