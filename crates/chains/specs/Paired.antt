-- What is promised of the pairs of a chain.
use Rattle.std.specs.Prelude.{◌≡◌, ℕ, ◌+◌, ◌<◌, min, ◌⊎◌, List, [], ◌∷◌, ◌++◌, map, length, nat_eq}
use Rattle.fields.specs.declared.trade.Entry.{Entry}
use Rattle.fields.specs.declared.trade.Pair.{Pair}
use Rattle.keyed.specs.Lists.{sum, those}
use Rattle.rows.specs.Allocations.{total}
use Rattle.chains.specs.Pairing.{less}

-- the entries of both ends taken in order until one has none left, each pair the lesser of what the two foremost have left
abbrev pub Taken : List Pair → List Entry → List Entry → Type 0
Taken [] sold bought = (sold ≡ []) ⊎ (bought ≡ [])
Taken (p ∷ ps) [] bought = ⊥
Taken (p ∷ ps) (d ∷ sold) [] = ⊥
Taken (p ∷ ps) (d ∷ sold) (b ∷ bought) =
    (p.seller ≡ d.account) × (p.buyer ≡ b.account) × (p.quantity ≡ min d.quantity b.quantity)
    × Taken ps (less p.quantity d sold) (less p.quantity b bought)

-- their numbers stand next to one another, in order, in this list
pub record NumberedFrom (begun : List ℕ) (ps : List Pair) : Type 0 where
  pub before : List ℕ
  pub behind : List ℕ
  pub split : begun ≡ before ++ map (λ p. p.number) ps ++ behind

-- the pairs of a chain whose ends hold these entries, numbered from the list with which an issuer began
pub record Paired (begun : List ℕ) (sold bought : List Entry) (ps : List Pair) : Type 0 where
  -- there are some
  pub some : 0 < length ps
  pub taken : Taken ps sold bought
  pub numbered : NumberedFrom begun ps
  -- account by account they add up to the entries of the selling end, and of the buying end
  pub sellers : (code : ℕ) → sum (λ p. p.quantity) (those (λ p. nat_eq p.seller code) ps) ≡ total (those (λ e. nat_eq e.account code) sold)
  pub buyers : (code : ℕ) → sum (λ p. p.quantity) (those (λ p. nat_eq p.buyer code) ps) ≡ total (those (λ e. nat_eq e.account code) bought)
  -- they are fewer than both ends' entries together
  pub fewer : length ps < length sold + length bought
