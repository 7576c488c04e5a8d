-- A side of a trade that is lent to be changed.
use Rattle.std.specs.Borrow.{Lends, MutBor, Fml}
use Rattle.fields.specs.declared.trade.Side.{Side}
use Rattle.rows.specs.Trades.{at_side}
use Rattle.rows.specs.contracts.row.Allocation.{the_row as an_allocation}
use Rattle.rows.specs.contracts.row.Trade.{the_row as a_trade}
use Rattle.rows.specs.declared.row.Allocation.{Allocation}
use Rattle.rows.specs.declared.row.Trade.{Trade}

-- the trade ends with that side as it is left behind r
abbrev pub LendsSide : MutBor Trade → Side → MutBor Allocation → Fml
LendsSide t w r = Lends a_trade an_allocation t r (λ d. at_side w (λ _. d) t.now)
