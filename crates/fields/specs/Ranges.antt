-- The ranges of the numbers in requests and tables.
use Rattle.std.specs.Prelude.{Bool, ◌&&◌, ℕ, leb}
use Rattle.fields.specs.declared.range.Range.{Range}

abbrev pub is_in_range : Range → ℕ → Bool
is_in_range r n = leb r.least n && leb n r.most

abbrev pub from_to : ℕ → ℕ → Range
from_to low high = record { least = low; most = high }

abbrev pub minutes : Range
minutes = from_to 0 1439

-- trades, assets and intermediations
abbrev pub numbers : Range
numbers = from_to 1 999999999

-- a leg, which 0 leaves out; a client, which 0 does not name
abbrev pub numbers_or_none : Range
numbers_or_none = from_to 0 999999999

-- participants and offerors
abbrev pub participants : Range
participants = from_to 1 65535

-- account codes
abbrev pub accounts : Range
accounts = from_to 1 99999999

abbrev pub quantities : Range
quantities = from_to 1 100000000

abbrev pub days : Range
days = from_to 1 99999

abbrev pub flags : Range
flags = from_to 0 1

-- how many entries an inclusion has
abbrev pub entry_counts : Range
entry_counts = from_to 1 16

-- the numbers of pairs, which issuers give
abbrev pub issued : Range
issued = from_to 1 1000000000000
