-- A field read from where the reader stands.
use Rattle.std.proofs.Common.{◌≡◌, ℕ, ◌<◌, length, get_or, List, [], ◌∷◌, refl, arith}
use Rattle.std.proofs.lemmas.Bool.{eq-eqb}
use Rattle.std.proofs.lemmas.List.{take_rest}
use Rattle.std.proofs.lemmas.Bool.Decides.{nat_tests}
use Rattle.std.specs.List.{between}
use Rattle.text.specs.Fields.{fields}
use Rattle.text.specs.Cuts.{front, after, left}

-- the first field and the others
pub fields_is : (xs : List ℕ) → fields xs ≡ front xs ∷ left (after xs)
fields_is [] = refl
fields_is (b ∷ xs) = let h = fields_is xs in grind (arith, nat_tests)

-- the field behind a comma and the others
pub behind_comma : (rest : List ℕ) → 0 < length rest → get_or rest 0 0 ≡ 44 → left rest ≡ front (between 1 (length rest) rest) ∷ left (after (between 1 (length rest) rest))
behind_comma [] more comma = absurd (omega arith)
behind_comma (b ∷ text) more comma = rw (take_rest (b ∷ text) 1, eq-eqb b 44 comma) (fields_is text)
