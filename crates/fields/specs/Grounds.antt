-- The number of each ground of refusal, and the places at which it may stand.
use Rattle.std.specs.Prelude.{List, [], ◌∷◌, Bool, false, ◌||◌, ℕ, eqb, leb}
use Rattle.fields.specs.Ranges.{from_to, is_in_range}
use Rattle.fields.specs.declared.ground.Ground.{Ground}
use Rattle.fields.specs.declared.ground.Ground.TheVariants as ground

-- What a place counts. Fields, entries, rows and lines count from 1.
pub data Place : Type 0 where
  -- nothing is pointed at: 0
  whole : Place
  -- the letter: field 1
  letter : Place
  -- a field of a request line; an inclusion of 16 entries has 55
  field : Place
  -- the first field that is missing or too many
  absent : Place
  -- an entry of an inclusion
  entry : Place
  -- 1 for the bought leg of an intermediation, 2 for the sold one
  leg : Place
  -- a row of a table of accounts or numbers
  row : Place
  -- a line of a file; a file counts up to 65,536 bytes
  line : Place

abbrev pub positive : ℕ → Bool
positive n = leb 1 n

abbrev pub stands : Place → ℕ → Bool
stands whole n = eqb n 0
stands letter n = eqb n 1
stands field n = is_in_range (from_to 2 55) n
stands absent n = is_in_range (from_to 2 56) n
stands entry n = is_in_range (from_to 1 16) n
stands leg n = is_in_range (from_to 1 2) n
stands row n = positive n
stands line n = is_in_range (from_to 1 65536) n

abbrev pub any_stands : List Place → ℕ → Bool
any_stands [] n = false
any_stands (p ∷ ps) n = stands p n || any_stands ps n

pub record Told : Type 0 where
  pub number : ℕ
  pub places : List Place

abbrev pub told : ℕ → List Place → Told
told n ps = record { number = n; places = ps }

abbrev pub at_whole : List Place
at_whole = whole ∷ []

-- tested for a single trade, and for each leg of an intermediation
abbrev pub at_trade : List Place
at_trade = whole ∷ leg ∷ []

-- each ground: its number, and the places that it may have
abbrev pub of : Ground → Told
of ground.UnknownLetter = told 1 (letter ∷ [])
of ground.BadField = told 2 (letter ∷ field ∷ line ∷ [])
of ground.FieldCount = told 3 (absent ∷ line ∷ [])
of ground.BadTables = told 4 at_whole
of ground.TradePresent = told 5 at_whole
of ground.TradesFull = told 6 at_whole
of ground.NoTrade = told 7 at_trade
of ground.TradeCancelled = told 8 at_trade
of ground.BrokenChain = told 9 at_trade
of ground.SettlesBefore = told 10 at_whole
of ground.TooLate = told 11 at_trade
of ground.NoClosing = told 12 at_whole
of ground.NotOwner = told 13 at_trade
of ground.AlreadyConfirmed = told 14 at_trade
of ground.SideTied = told 15 at_trade
of ground.SideEmpty = told 16 at_whole
of ground.NoAccount = told 17 (whole ∷ entry ∷ [])
of ground.AccountInactive = told 18 (whole ∷ entry ∷ [])
of ground.AccountUnsuited = told 19 (whole ∷ entry ∷ [])
of ground.AccountUntied = told 20 (leg ∷ entry ∷ [])
of ground.AccountOpposite = told 21 (leg ∷ entry ∷ [])
of ground.ClientOpposite = told 22 (entry ∷ [])
of ground.WrongSum = told 23 at_whole
of ground.AmongSeveral = told 24 at_whole
of ground.OutsideIntermediation = told 25 at_whole
of ground.IntermediationPresent = told 26 at_whole
of ground.IntermediationsFull = told 27 at_whole
of ground.NoIntermediation = told 28 at_whole
of ground.LegsDiffer = told 29 at_whole
of ground.ChainTooLong = told 30 at_whole
of ground.ChainNumbered = told 31 at_whole
of ground.TooFewNumbers = told 32 at_whole
of ground.PairsFull = told 33 at_whole
of ground.EndsEarly = told 34 (row ∷ line ∷ [])
of ground.HoldsFull = told 35 (whole ∷ line ∷ [])
of ground.NoPair = told 36 at_whole
of ground.BufferShort = told 37 at_whole

abbrev pub number_of : Ground → ℕ
number_of g = (of g).number

abbrev pub may_stand : Ground → ℕ → Bool
may_stand g n = any_stands (of g).places n
