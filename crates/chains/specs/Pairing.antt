-- The pairs of a chain: the entries of its selling end taken with those of its buying end.
use Rattle.std.specs.Prelude.{ℕ, zero, suc, ◌+◌, ◌-◌, min, cond, List, [], ◌∷◌, length, nat_lt}
use Rattle.fields.specs.declared.trade.Entry.{Entry}
use Rattle.fields.specs.declared.trade.Pair.{Pair}
use Rattle.chains.specs.declared.pairing.Match.{Match}

-- an entry of which n went, in front of those behind it; it is gone if nothing of it is left
abbrev pub less : ℕ → Entry → List Entry → List Entry
less n e es = cond (nat_lt n e.quantity) (record { account = e.account; quantity = e.quantity - n; client = e.client } ∷ es) es

-- Both ends taken in order until one has none left. Each match takes the lesser of what the two foremost entries have left. It ends one of
-- the two, so that as many steps as there are entries are enough.
unfoldable pub matched : ℕ → List Entry → List Entry → List Match
matched zero sold bought = []
matched (suc most) [] bought = []
matched (suc most) (s ∷ sold) [] = []
matched (suc most) (s ∷ sold) (b ∷ bought) =
    record { seller = s.account; buyer = b.account; quantity = min s.quantity b.quantity }
    ∷ matched most (less (min s.quantity b.quantity) s sold) (less (min s.quantity b.quantity) b bought)

abbrev pub matches : List Entry → List Entry → List Match
matches sold bought = matched (length sold + length bought) sold bought

-- each match with the next number, naming the chain's first and last trade
abbrev pub given_numbers : ℕ → ℕ → List Match → List ℕ → List Pair
given_numbers first last [] ns = []
given_numbers first last (m ∷ ms) [] = []
given_numbers first last (m ∷ ms) (n ∷ ns) =
    record { number = n; first = first; seller = m.seller; last = last; buyer = m.buyer; quantity = m.quantity } ∷ given_numbers first last ms ns
