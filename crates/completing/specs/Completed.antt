-- The chain that changes complete.
use Rattle.std.specs.Prelude.{ℕ, ◌<◌, List, [], Some, None, Option}
use Rattle.rows.specs.declared.row.Trade.{Trade}
use Rattle.chains.specs.Places.{Chain, Shaped, places_of, rows_at}
use Rattle.book.specs.Numbering.{if_all_confirmed}

-- the trades of a chain by their places, if there is one
abbrev pub rows_in : List Trade → Option Chain → List Trade
rows_in ts None = []
rows_in ts (Some c) = rows_at ts (places_of c)

-- the same if all its sides are confirmed
abbrev pub complete_in : List Trade → Option Chain → List Trade
complete_in ts None = []
complete_in ts (Some c) = if_all_confirmed (rows_at ts (places_of c))

-- a chain among n rows
pub record Among (n : ℕ) (c : Chain) : Type 0 where
  pub shaped : Shaped c
  pub first : c.0 < n
  pub middle : c.1 < n
  pub last : c.2 < n

abbrev pub AmongIf : ℕ → Option Chain → Type 0
AmongIf n None = Unit {0}
AmongIf n (Some c) = Among n c
