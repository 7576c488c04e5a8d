-- What is asked of two trades that an intermediation is to join.
use Rattle.std.specs.Prelude.{ℕ, ◌+◌, Bool, not, List, [], length, nat_eq, nat_le}
use Rattle.fields.specs.declared.trade.Intermediation.{Intermediation}
use Rattle.keyed.specs.Lists.{any, or_else}
use Rattle.rows.specs.declared.row.Trade.{Trade}
use Rattle.chains.specs.Following.{chain, tie_in}

-- the numbers of a chain's trades; none if it is broken
abbrev pub numbers_in : List Trade → List Intermediation → ℕ → List ℕ
numbers_in ts xs n = or_else [] (chain (tie_in ts) xs n)

-- the sold trade is not in the chain of the bought one
abbrev pub apart_in : List Trade → List Intermediation → ℕ → ℕ → Bool
apart_in ts xs bought sold = not (any (λ n. nat_eq n sold) (numbers_in ts xs bought))

-- their two chains have at most three trades together
abbrev pub short_in : List Trade → List Intermediation → ℕ → ℕ → Bool
short_in ts xs bought sold = nat_le (length (numbers_in ts xs bought) + length (numbers_in ts xs sold)) 3
