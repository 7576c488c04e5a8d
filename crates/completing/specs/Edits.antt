-- One row of a lent table changed in place.
use Rattle.std.specs.Prelude.{◌≡◌, ℕ, List, map, take, drop}
use Rattle.keyed.specs.Places.{At}
use Rattle.keyed.specs.Rows.{changed_in, table}
use Rattle.rows.specs.Trades.{number}
use Rattle.rows.specs.declared.row.Trade.{Trade}

-- the trade at a place, one of the first `count`, is changed by f, and nothing else
pub record Changed (count at : ℕ) (f : Trade → Trade) (before after : List Trade) : Type 0 where
  -- to the trade with the number that is found there
  pub row : (n : ℕ) → At number n (take count before) at → table count after ≡ changed_in number n f (table count before)
  -- every trade stands where it stood
  pub numbers : map number (take count after) ≡ map number (take count before)
  pub beyond : drop count after ≡ drop count before

-- whatever a step may leave of a row is f of it
abbrev pub Makes : (Trade → Trade → Type 0) → (Trade → Trade) → Trade → Type 0
Makes step f row = (after : Trade) → step row after → after ≡ f row

-- and has its number
abbrev pub KeepsNumber : (Trade → Trade → Type 0) → Trade → Type 0
KeepsNumber step row = (after : Trade) → step row after → number after ≡ number row
