-- The state of a book, and how its parts are read and changed.
use Rattle.std.specs.Prelude.{ℕ, List, [], map, Option}
use Rattle.fields.specs.declared.trade.Intermediation.{Intermediation}
use Rattle.fields.specs.declared.trade.Pair.{Pair}
use Rattle.keyed.specs.Lists.{or_else}
use Rattle.keyed.specs.Rows.{Table, changed_in, table}
use Rattle.rows.specs.Legs.{intermediation_in}
use Rattle.rows.specs.Trades.{number, trade_in}
use Rattle.rows.specs.declared.row.Trade.{Trade}
use Rattle.chains.specs.Following.{chain, tie_in}
use Rattle.book.specs.declared.counts.Book.{Book}

-- The book's day, its three tables, and the numbers that the two issuers have left. It may be any state: any numbers, any rows.
pub record State : Type 0 where
  pub day : ℕ
  pub trades : Table Trade
  pub intermediations : Table Intermediation
  pub pairs : Table Pair
  pub selic : List ℕ
  pub control : List ℕ

-- the state of a book over whole lent tables, of which the first rows are in use, and with the numbers left
abbrev pub state_of : Book → List Trade → List Intermediation → List Pair → List ℕ → List ℕ → State
state_of b ts xs ps selic control =
    record { day = b.day; trades = table b.trades ts; intermediations = table b.intermediations xs; pairs = table b.pairs ps; selic = selic; control = control }

-- the trade with this number, or the blank one
abbrev pub trade : State → ℕ → Trade
trade s n = trade_in s.trades.rows n

-- the intermediation with this id, or the blank one
abbrev pub intermediation : State → ℕ → Intermediation
intermediation s n = intermediation_in s.intermediations.rows n

-- the chain of a trade, by the numbers of its trades; none if it is broken
abbrev pub chain_in : State → ℕ → Option (List ℕ)
chain_in s n = chain (tie_in s.trades.rows) s.intermediations.rows n

-- the trades of a chain, the first one first; no trades if it is broken
abbrev pub chain_of : State → ℕ → List Trade
chain_of s n = map (trade s) (or_else [] (chain_in s n))

abbrev pub with_trades : (Table Trade → Table Trade) → State → State
with_trades f s = record { day = s.day; trades = f s.trades; intermediations = s.intermediations; pairs = s.pairs; selic = s.selic; control = s.control }

abbrev pub with_intermediations : (Table Intermediation → Table Intermediation) → State → State
with_intermediations f s = record { day = s.day; trades = s.trades; intermediations = f s.intermediations; pairs = s.pairs; selic = s.selic; control = s.control }

-- trade n changed by f, if there is one
abbrev pub at_trade : ℕ → (Trade → Trade) → State → State
at_trade n f s = with_trades (changed_in number n f) s
