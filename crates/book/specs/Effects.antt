-- What an accepted request changes, before any chain is numbered.
use Rattle.std.specs.Prelude.{ℕ, Bool, cond, List, Some, None, Option}
use Rattle.fields.specs.declared.trade.Intermediation.{Intermediation}
use Rattle.fields.specs.declared.trade.Side.{Side}
use Rattle.fields.specs.declared.trade.Side.TheVariants.{Buyer, Seller}
use Rattle.keyed.specs.Rows.{cleared, entered_in, find, removed_in}
use Rattle.register.specs.Meaning.{Listed}
use Rattle.requests.specs.declared.request.Request.{Request}
use Rattle.requests.specs.declared.request.Request.TheVariants.{Cancel, Capture, Close, Confirm, ConfirmIntermediation, ExcludeIntermediation, Include, Intermediate, Remove}
use Rattle.rows.specs.Allocations.{confirmed, emptied}
use Rattle.rows.specs.Legs.{id, leg}
use Rattle.rows.specs.Trades.{at_side, both_confirmed, cancelled, captured, marked, number}
use Rattle.rows.specs.declared.row.Trade.{Trade}
use Rattle.book.specs.Entries.{included, intermediated}
use Rattle.book.specs.State.{State, at_trade, intermediation, trade, with_intermediations, with_trades}

-- E: the intermediation's row goes, and its sides are emptied
abbrev pub excluded_by : Option Intermediation → ℕ → State → State
excluded_by None n s = s
excluded_by (Some x) n s =
    with_intermediations (removed_in id n) (at_trade x.sold (at_side Seller emptied) (at_trade x.bought (at_side Buyer emptied) s))

unfoldable pub excluded : ℕ → State → State
excluded n s = excluded_by (find id n s.intermediations.rows) n s

-- X: the trade's intermediations go as by E, its sides are emptied, its state is cancelled and its mark taken away
abbrev pub called_off : ℕ → Trade → State → State
called_off n t s = at_trade n cancelled (excluded t.seller.tie (excluded t.buyer.tie s))

-- J: a leg's side is filled and held
abbrev pub filled_leg : List Listed → Intermediation → Bool → Side → State → State
filled_leg r x confirm w s = at_trade (leg w x) (λ t. at_side w (intermediated r x confirm t) t) s

-- G: a leg's side is confirmed
abbrev pub confirmed_leg : Intermediation → Side → State → State
confirmed_leg x w s = at_trade (leg w x) (at_side w confirmed) s

unfoldable pub placed : List Listed → State → Request → State
placed r s (Capture q) = with_trades (entered_in number (captured q.terms)) s
placed r s (Cancel q) =
    cond (both_confirmed (trade s q.trade)) (at_trade q.trade marked s) (called_off q.trade (trade s q.trade) s)
placed r s (Include q) = at_trade q.trade (at_side q.side (included r q)) s
placed r s (Remove q) = at_trade q.trade (at_side q.side emptied) s
placed r s (Confirm q) = at_trade q.trade (at_side q.side confirmed) s
placed r s (Intermediate q) =
    filled_leg r q.intermediation q.now Seller (filled_leg r q.intermediation q.now Buyer
    (with_intermediations (entered_in id q.intermediation) s))
placed r s (ConfirmIntermediation q) =
    confirmed_leg (intermediation s q.id) Seller (confirmed_leg (intermediation s q.id) Buyer s)
placed r s (ExcludeIntermediation q) = excluded q.id s
-- Z: the three tables are emptied, and the book moves to the day
placed r s (Close q) =
    record { day = q.day; trades = cleared s.trades; intermediations = cleared s.intermediations; pairs = cleared s.pairs; selic = s.selic; control = s.control }
