-- Trades, found by their numbers, and changes of one.
use Rattle.std.specs.Prelude.{ℕ, Bool, true, false, ◌&&◌, List, ◌==◌}
use Rattle.fields.specs.declared.account.Party.{Party}
use Rattle.fields.specs.declared.trade.Kind.TheVariants.{Selic}
use Rattle.fields.specs.declared.trade.Side.{Side}
use Rattle.fields.specs.declared.trade.Side.TheVariants.{Buyer, Seller}
use Rattle.fields.specs.declared.trade.Terms.{Terms}
use Rattle.keyed.specs.Lists.{or_else}
use Rattle.keyed.specs.Rows.{find}
use Rattle.rows.specs.Accounts.{same_kind}
use Rattle.rows.specs.Allocations.{blank_allocation, emptied, is_confirmed, no_allocation}
use Rattle.rows.specs.declared.row.Allocation.{Allocation}
use Rattle.rows.specs.declared.row.Trade.{Trade}
use Rattle.rows.specs.declared.row.TradeState.{TradeState}
use Rattle.rows.specs.declared.row.TradeState.TheVariants.{Cancelled, Numbered, Open}

abbrev pub number : Trade → ℕ
number t = t.terms.number

abbrev pub allocation : Side → Trade → Allocation
allocation Buyer t = t.buyer
allocation Seller t = t.seller

-- who stands on a side
abbrev pub party : Side → Terms → Party
party Buyer t = t.buyer
party Seller t = t.seller

-- one side changed
abbrev pub at_side : Side → (Allocation → Allocation) → Trade → Trade
at_side Buyer f t = record { terms = t.terms; state = t.state; marked = t.marked; buyer = f t.buyer; seller = t.seller }
at_side Seller f t = record { terms = t.terms; state = t.state; marked = t.marked; buyer = t.buyer; seller = f t.seller }

-- another state and mark
abbrev pub in_state : TradeState → Bool → Trade → Trade
in_state st m t = record { terms = t.terms; state = st; marked = m; buyer = t.buyer; seller = t.seller }

abbrev pub numbered : Trade → Trade
numbered t = in_state Numbered t.marked t

-- cancelled: its sides are emptied and its mark is taken away
abbrev pub cancelled : Trade → Trade
cancelled t = in_state Cancelled false (at_side Buyer emptied (at_side Seller emptied t))

-- cancelled in the trading system only
abbrev pub marked : Trade → Trade
marked t = in_state t.state true t

abbrev pub is_cancelled : TradeState → Bool
is_cancelled Open = false
is_cancelled Cancelled = true
is_cancelled Numbered = false

abbrev pub is_numbered : TradeState → Bool
is_numbered Open = false
is_numbered Cancelled = false
is_numbered Numbered = true

abbrev pub both_confirmed : Trade → Bool
both_confirmed t = is_confirmed t.buyer.state && is_confirmed t.seller.state

-- trades of one chain are alike: equal in kind, asset, quantity and settlement day
abbrev pub alike : Terms → Terms → Bool
alike t u = same_kind t.kind u.kind && t.asset == u.asset && t.quantity == u.quantity && t.settlement == u.settlement

-- a trade as it is captured
abbrev pub captured : Terms → Trade
captured t = record { terms = t; state = Open; marked = false; buyer = blank_allocation; seller = blank_allocation }

-- stands for a trade that is not there
abbrev pub no_trade : Trade
no_trade =
    let p : Party = record { participant = 0; offeror = 0 } in
    record { terms = record { number = 0; kind = Selic; asset = 0; quantity = 0; settlement = 0; buyer = p; seller = p }; state = Open; marked = false; buyer = no_allocation; seller = no_allocation }

-- the trade with this number, or the blank one
abbrev pub trade_in : List Trade → ℕ → Trade
trade_in ts n = or_else no_trade (find number n ts)

abbrev pub numbered_in : List Trade → ℕ → Bool
numbered_in ts n = is_numbered (trade_in ts n).state
