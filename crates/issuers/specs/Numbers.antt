-- What an issuer means: the list of the numbers that it has left.
use Rattle.std.specs.Prelude.{◌≡◌, ℕ, true, List, [], ◌∷◌, Some, None, Option, ◌≢◌}
use Rattle.fields.specs.Ranges.{is_in_range, issued}

abbrev pub first_of : List ℕ → Option ℕ
first_of [] = None
first_of (n ∷ ns) = Some n

abbrev pub rest_of : List ℕ → List ℕ
rest_of [] = []
rest_of (n ∷ ns) = ns

abbrev pub NotIn : ℕ → List ℕ → Type 0
NotIn n [] = Unit {0}
NotIn n (m ∷ ms) = (m ≢ n) × NotIn n ms

-- no two are equal, and each is a number that may be issued
abbrev pub Fresh : List ℕ → Type 0
Fresh [] = Unit {0}
Fresh (n ∷ ns) = (is_in_range issued n ≡ true) × NotIn n ns × Fresh ns
