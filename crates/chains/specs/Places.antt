-- A chain by the places of its trades, and chains as they will stand once an intermediation is entered.
use Rattle.std.specs.Prelude.{◌≡◌, ℕ, cond, List, [], ◌∷◌, map, Some, None, Option, Ok, Err, Result, ◌==◌, ◌≢◌, slice_index_or}
use Rattle.fields.specs.declared.trade.Intermediation.{Intermediation}
use Rattle.fields.specs.declared.trade.Side.{Side}
use Rattle.keyed.specs.Members.{Each}
use Rattle.keyed.specs.Places.{At}
use Rattle.keyed.specs.Rows.{entered}
use Rattle.rows.specs.Legs.{id, leg}
use Rattle.rows.specs.Trades.{no_trade, number}
use Rattle.rows.specs.declared.row.Trade.{Trade}
use Rattle.chains.specs.Following.{Beyond, a_trade, broken, chain, nothing, tie_in}
use Rattle.chains.specs.declared.follow.Broken.{Broken}
use Rattle.chains.specs.declared.follow.Ties.{Ties}
use Rattle.chains.specs.declared.follow.Way.{Way}
use Rattle.chains.specs.declared.follow.Way.TheVariants.{Here, One, Two}

-- ── Places ──

abbrev pub row_at : List Trade → ℕ → Trade
row_at ts i = slice_index_or ts i no_trade

abbrev pub rows_at : List Trade → List ℕ → List Trade
rows_at ts is = map (row_at ts) is

abbrev pub number_at : List Trade → ℕ → ℕ
number_at ts i = number (row_at ts i)

abbrev pub numbers_at : List Trade → List ℕ → List ℕ
numbers_at ts is = map (number_at ts) is

-- a place at which the trade with its number is found
abbrev pub Findable : List Trade → ℕ → Type 0
Findable ts i = At number (number_at ts i) ts i

-- ── Ties as they will stand ──

-- the tie of a side of trade n: the id of the new intermediation if that holds the side
abbrev pub tie_with : Intermediation → Side → ℕ → Option ℕ → Option ℕ
tie_with x w n None = None
tie_with x w n (Some tie) = Some (cond (leg w x == n) x.id tie)

-- once the intermediation is entered, if one is to be
abbrev pub ties_with : Option Intermediation → (Side → ℕ → Option ℕ) → Side → ℕ → Option ℕ
ties_with None ties w n = ties w n
ties_with (Some x) ties w n = tie_with x w n (ties w n)

abbrev pub standing_with : Option Intermediation → List Intermediation → List Intermediation
standing_with None xs = xs
standing_with (Some x) xs = entered id x xs

abbrev pub chain_with : Option Intermediation → List Trade → List Intermediation → ℕ → Option (List ℕ)
chain_with new ts xs n = chain (ties_with new (tie_in ts)) (standing_with new xs) n

-- ── What the code finds ──

-- the ties, and the intermediations, of lent tables as they will stand
abbrev pub ties_of : Ties → Side → ℕ → Option ℕ
ties_of t = ties_with t.new (tie_in t.trades.now)

abbrev pub standing_of : Ties → List Intermediation
standing_of t = standing_with t.new t.intermediations.now

-- what stands beyond a side, by the place that was found there
abbrev pub beyond_at : List Trade → Result (Option ℕ) Broken → Beyond
beyond_at ts (Ok None) = nothing
beyond_at ts (Ok (Some i)) = a_trade (number_at ts i)
beyond_at ts (Err e) = broken

abbrev pub NextFindable : List Trade → Result (Option ℕ) Broken → Type 0
NextFindable ts (Ok None) = Unit {0}
NextFindable ts (Ok (Some i)) = Findable ts i
NextFindable ts (Err e) = Unit {0}

abbrev pub places_on : Way → List ℕ
places_on Here = []
places_on (One i) = i ∷ []
places_on (Two i j) = i ∷ j ∷ []

abbrev pub numbers_on : List Trade → Result Way Broken → Option (List ℕ)
numbers_on ts (Ok w) = Some (numbers_at ts (places_on w))
numbers_on ts (Err e) = None

abbrev pub WayFindable : List Trade → Result Way Broken → Type 0
WayFindable ts (Ok w) = Each (Findable ts) (places_on w)
WayFindable ts (Err e) = Unit {0}

-- A chain as it is answered: the places of its first, its middle and its last trade, and its length. Where no trade stands between the
-- first and the last, the first stands for the middle one.
abbrev pub Chain : Type 0
Chain = ℕ × ℕ × ℕ × ℕ

abbrev pub places_of : Chain → List ℕ
places_of c = cond (c.3 == 1) (c.0 ∷ []) (cond (c.3 == 2) (c.0 ∷ c.2 ∷ []) (c.0 ∷ c.1 ∷ c.2 ∷ []))

-- the first stands for the others where they are not there
pub record Shaped (c : Chain) : Type 0 where
  pub one : c.3 ≡ 1 → (c.1 ≡ c.0) × (c.2 ≡ c.0)
  pub two : c.3 ≡ 2 → c.1 ≡ c.0
  pub three : (c.3 ≢ 1) → (c.3 ≢ 2) → c.3 ≡ 3

-- these places hold the trades with these numbers, as a chain
pub record Placed (ts : List Trade) (ns : Option (List ℕ)) (c : Chain) : Type 0 where
  pub numbers : ns ≡ Some (numbers_at ts (places_of c))
  pub shaped : Shaped c
  pub first : Findable ts c.0
  pub middle : Findable ts c.1
  pub last : Findable ts c.2

abbrev pub PlacedIf : List Trade → Option (List ℕ) → Result Chain Broken → Type 0
PlacedIf ts ns (Ok c) = Placed ts ns c
PlacedIf ts ns (Err e) = ns ≡ None

-- the chain of trade n, by the places of its trades
pub record Followed (new : Option Intermediation) (ts : List Trade) (xs : List Intermediation) (n : ℕ) (c : Chain) : Type 0 where
  pub numbers : chain_with new ts xs n ≡ Some (numbers_at ts (places_of c))
  pub shaped : Shaped c
  pub first : Findable ts c.0
  pub middle : Findable ts c.1
  pub last : Findable ts c.2
