-- What is known once tables, a trade and a side have passed their tests.
use Rattle.std.specs.Prelude.{◌≡◌, ℕ, ◌≤◌, true, false, List, length, take, None}
use Rattle.fields.specs.declared.trade.Intermediation.{Intermediation}
use Rattle.fields.specs.declared.trade.Pair.{Pair}
use Rattle.fields.specs.declared.trade.Side.{Side}
use Rattle.keyed.specs.Places.{At}
use Rattle.keyed.specs.Rows.{rises_above}
use Rattle.rows.specs.Allocations.{is_confirmed}
use Rattle.rows.specs.Legs.{id}
use Rattle.rows.specs.Trades.{allocation, number, trade_in}
use Rattle.rows.specs.declared.row.Trade.{Trade}
use Rattle.chains.specs.Places.{Chain, Followed}
use Rattle.book.specs.declared.counts.Book.{Book}

-- The lent tables have the rows that the book counts, within the limits, and numbers and ids rise.
pub record Whole (b : Book) (ts : List Trade) (xs : List Intermediation) (ps : List Pair) : Type 0 where
  pub trades : b.trades ≤ length ts
  pub intermediations : b.intermediations ≤ length xs
  pub pairs : b.pairs ≤ length ps
  pub few_trades : b.trades ≤ 4096
  pub few_intermediations : b.intermediations ≤ 2048
  pub few_pairs : b.pairs ≤ 65536
  pub numbers_rise : rises_above number 0 (take b.trades ts) ≡ true
  pub ids_rise : rises_above id 0 (take b.intermediations xs) ≡ true

-- Trade n stands at a place, and its chain is followed.
pub record Stands (ts : List Trade) (xs : List Intermediation) (n : ℕ) (p : ℕ × Chain) : Type 0 where
  pub place : At number n ts p.0
  pub chain : Followed None ts xs n p.1

-- The side is held by no intermediation, and it is not confirmed.
pub record Free (w : Side) (t : Trade) : Type 0 where
  pub untied : (allocation w t).tie ≡ 0
  pub unconfirmed : is_confirmed (allocation w t).state ≡ false

-- Trade n stands, and its side is free.
pub record StandsFree (ts : List Trade) (xs : List Intermediation) (n : ℕ) (w : Side) (p : ℕ × Chain) : Type 0 where
  pub stands : Stands ts xs n p
  pub free : Free w (trade_in ts n)
