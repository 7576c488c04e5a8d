-- The fields of a line, and what a field reads as.
use Rattle.std.specs.Prelude.{ℕ, ◌+◌, ◌-◌, ◌*◌, min, Bool, cond, ◌&&◌, List, [], ◌∷◌, Some, None, Option, ◌==◌, nat_le}
use Rattle.fields.specs.declared.range.Range.{Range}
use Rattle.fields.specs.Ranges.{is_in_range, from_to}

-- b in front of the first part
abbrev pub on_first : ℕ → List (List ℕ) → List (List ℕ)
on_first b [] = (b ∷ []) ∷ []
on_first b (f ∷ fs) = (b ∷ f) ∷ fs

-- a line parted at its commas (byte 44): what stands between two of them is a field, also when it is empty
abbrev pub fields : List ℕ → List (List ℕ)
fields [] = [] ∷ []
fields (b ∷ bs) = cond (b == 44) ([] ∷ fields bs) (on_first b (fields bs))

-- a text parted into lines, each ended by byte 10; the last may lack it
abbrev pub lines : List ℕ → List (List ℕ)
lines [] = []
lines (b ∷ bs) = cond (b == 10) ([] ∷ lines bs) (on_first b (lines bs))

-- figures are the bytes 48 to 57
abbrev pub is_figure : ℕ → Bool
is_figure b = nat_le 48 b && nat_le b 57

-- v with the figures of bs behind it
abbrev pub behind : ℕ → List ℕ → Option ℕ
behind v [] = Some v
behind v (b ∷ bs) = cond (is_figure b) (behind (v * 10 + (b - 48)) bs) None

-- the number that a field writes: at least one figure, and no 0 before another
abbrev pub numeral : List ℕ → Option ℕ
numeral [] = None
numeral (b ∷ []) = behind 0 (b ∷ [])
numeral (b ∷ c ∷ bs) = cond (b == 48) None (behind 0 (b ∷ c ∷ bs))

abbrev pub up_to : ℕ → Option ℕ → Option ℕ
up_to most None = None
up_to most (Some v) = cond (nat_le v most) (Some v) None

abbrev pub within : Range → Option ℕ → Option ℕ
within r None = None
within r (Some v) = cond (is_in_range r v) (Some v) None

-- a number of the range
abbrev pub number : Range → List ℕ → Option ℕ
number r f = within r (numeral f)

-- the numbers of the range that 32 bits hold
abbrev pub narrow : Range → Range
narrow r = from_to r.least (min r.most 4294967295)

-- a field of one byte
abbrev pub single : List ℕ → Option ℕ
single [] = None
single (b ∷ []) = Some b
single (b ∷ c ∷ bs) = None
