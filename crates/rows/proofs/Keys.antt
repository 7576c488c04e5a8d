-- Whether there is a row with a key, by the place that was found.
use Rattle.std.specs.Option as option
use Rattle.keyed.proofs.Words.{List, [], ◌∷◌, ◌≡◌, Option, Some, None, ap, arith, sym, ℕ}
use Rattle.keyed.specs.Lists.{is_some}
use Rattle.keyed.specs.Places.{Found}
use Rattle.keyed.specs.Rows.{find}

pub is_there : {R : Type 0} (key : R → ℕ) (k : ℕ) (xs : List R) (o : Option ℕ) → Found key k xs o → option.is_some o ≡ is_some (find key k xs)
is_there key k xs None f = ap is_some (sym f)
is_there key k [] (Some i) a = absurd (omega (arith, a.within))
is_there key k (x ∷ xs) (Some i) a = sym (ap is_some (a.reads x))
