-- Following a chain of trades.
-- A two-trade intermediation leads from its bought trade, whose buyer side it holds, to its sold trade, whose seller side it holds. So a
-- chain goes on over the buyer side of a trade, and back over its seller side.
use Rattle.std.specs.Prelude.{ℕ, zero, suc, cond, List, [], ◌∷◌, ◌++◌, reverse, length, Some, None, Option, ◌==◌, nat_le}
use Rattle.fields.specs.declared.trade.Intermediation.{Intermediation}
use Rattle.fields.specs.declared.trade.Side.{Side}
use Rattle.fields.specs.declared.trade.Side.TheVariants.{Buyer, Seller}
use Rattle.keyed.specs.Rows.{find}
use Rattle.rows.specs.Allocations.{other}
use Rattle.rows.specs.Legs.{id, leg}
use Rattle.rows.specs.Trades.{allocation, no_trade, number}
use Rattle.rows.specs.declared.row.Trade.{Trade}

-- All that a chain reads of the trades: the id of the intermediation that holds side w of trade n, 0 if none does, and nothing if there is no
-- such trade.
abbrev pub tie_of : Side → Option Trade → Option ℕ
tie_of w None = None
tie_of w (Some t) = Some (allocation w t).tie

abbrev pub tie_in : List Trade → Side → ℕ → Option ℕ
tie_in ts w n = tie_of w (find number n ts)

-- What stands beyond a side of a trade: nothing, so that the chain ends there; a trade, by its number; or a tie that leads to no row, or not
-- back.
pub data Beyond : Type 0 where
  nothing : Beyond
  a_trade : ℕ → Beyond
  broken : Beyond

-- the trade n beyond must be there, and be tied back on its other side by the same id
abbrev pub tied_back : ℕ → ℕ → Option ℕ → Beyond
tied_back id n None = broken
tied_back id n (Some tie) = cond (tie == id) (a_trade n) broken

-- the intermediation must be there and name trade n on this side; its other leg, if there is one, leads on
abbrev pub by_intermediation : (Side → ℕ → Option ℕ) → Side → ℕ → Option Intermediation → Beyond
by_intermediation ties w n None = broken
by_intermediation ties w n (Some x) =
    cond (leg w x == n)
    (cond (leg (other w) x == 0) nothing (tied_back x.id (leg (other w) x) (ties (other w) (leg (other w) x))))
    broken

abbrev pub by_tie : (Side → ℕ → Option ℕ) → List Intermediation → Side → ℕ → Option ℕ → Beyond
by_tie ties xs w n None = broken
by_tie ties xs w n (Some tie) = cond (tie == 0) nothing (by_intermediation ties w n (find id tie xs))

unfoldable pub beyond : (Side → ℕ → Option ℕ) → List Intermediation → Side → ℕ → Beyond
beyond ties xs w n = by_tie ties xs w n (ties w n)

-- The numbers of the trades met on the way from a trade over its side w and on; none if the way is broken or has not ended when `most` sides
-- were looked at.
abbrev pub onto : ℕ → Option (List ℕ) → Option (List ℕ)
onto n None = None
onto n (Some ns) = Some (n ∷ ns)

abbrev pub onward : Beyond → (ℕ → Option (List ℕ)) → Option (List ℕ)
onward nothing further = Some []
onward (a_trade m) further = onto m (further m)
onward broken further = None

unfoldable pub way : (Side → ℕ → Option ℕ) → List Intermediation → Side → ℕ → ℕ → Option (List ℕ)
way ties xs w zero n = None
way ties xs w (suc most) n = onward (beyond ties xs w n) (λ m. way ties xs w most m)

-- both ways together, the first trade first, if they are at most three
abbrev pub at_most_three : List ℕ → Option (List ℕ)
at_most_three ns = cond (nat_le (length ns) 3) (Some ns) None

abbrev pub together : Option (List ℕ) → ℕ → Option (List ℕ) → Option (List ℕ)
together None n ahead = None
together (Some back) n None = None
together (Some back) n (Some ahead) = at_most_three (reverse back ++ (n ∷ ahead))

-- The chain of a trade: the numbers of its trades from the first to the last. It is none, and the chain broken, if a tie leads to no row or
-- not back, or if the chain does not end within three trades, as a ring does not.
unfoldable pub chain : (Side → ℕ → Option ℕ) → List Intermediation → ℕ → Option (List ℕ)
chain ties xs n = together (way ties xs Seller 3 n) n (way ties xs Buyer 3 n)

-- the first and the last trade of a chain
abbrev pub first_of : List Trade → Trade
first_of [] = no_trade
first_of (t ∷ ts) = t

abbrev pub last_of : List Trade → Trade
last_of [] = no_trade
last_of (t ∷ []) = t
last_of (t ∷ (u ∷ ts)) = last_of (u ∷ ts)
