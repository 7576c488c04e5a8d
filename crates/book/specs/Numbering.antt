-- The numbering of a chain, and all that an accepted request leaves and answers.
use Rattle.std.specs.Prelude.{ℕ, ◌+◌, Bool, cond, List, [], ◌∷◌, length, drop, Some, None, Option, ◌==◌}
use Rattle.fields.specs.declared.answer.Answer.{Answer}
use Rattle.fields.specs.declared.answer.Answer.TheVariants.{Marked, Written}
use Rattle.fields.specs.declared.trade.Pair.{Pair}
use Rattle.keyed.specs.Lists.{all}
use Rattle.keyed.specs.Rows.{Table, appended_in, changed_in}
use Rattle.register.specs.Meaning.{Listed}
use Rattle.requests.specs.declared.request.Request.{Request}
use Rattle.requests.specs.declared.request.Request.TheVariants.{Cancel, Capture, Close, Confirm, ConfirmIntermediation, ExcludeIntermediation, Include, Intermediate, Remove}
use Rattle.rows.specs.Accounts.{is_selic}
use Rattle.rows.specs.Allocations.{entries_held}
use Rattle.rows.specs.Legs.{any_leg}
use Rattle.rows.specs.Trades.{both_confirmed, number, numbered}
use Rattle.rows.specs.declared.row.Trade.{Trade}
use Rattle.chains.specs.Following.{first_of, last_of}
use Rattle.chains.specs.Pairing.{given_numbers, matches}
use Rattle.chains.specs.declared.pairing.Match.{Match}
use Rattle.book.specs.Effects.{placed}
use Rattle.book.specs.State.{State, chain_of, intermediation, trade}

-- a trade of the chain in which the request confirms a side
abbrev pub confirms_in : State → Request → Option ℕ
confirms_in s (Capture q) = None
confirms_in s (Cancel q) = None
confirms_in s (Include q) = cond q.now (Some q.trade) None
confirms_in s (Remove q) = None
confirms_in s (Confirm q) = Some q.trade
confirms_in s (Intermediate q) = cond q.now (Some (any_leg q.intermediation)) None
confirms_in s (ConfirmIntermediation q) = Some (any_leg (intermediation s q.id))
confirms_in s (ExcludeIntermediation q) = None
confirms_in s (Close q) = None

-- a chain with every side confirmed; else no trades
abbrev pub if_all_confirmed : List Trade → List Trade
if_all_confirmed c = cond (all both_confirmed c) c []

abbrev pub chain_confirmed : State → Option ℕ → List Trade
chain_confirmed s None = []
chain_confirmed s (Some n) = if_all_confirmed (chain_of s n)

-- The chain that the request completes, as it leaves it: it confirms a side of it, and every side is then confirmed. Else no trades.
unfoldable pub completed : List Listed → State → Request → List Trade
completed r s q = chain_confirmed (placed r s q) (confirms_in s q)

-- the selling end, the first trade's seller side, taken with the buying end, the last trade's buyer side
abbrev pub chain_matches : List Trade → List Match
chain_matches c = matches (entries_held (first_of c).seller) (entries_held (last_of c).buyer)

-- whether the Selic issuer numbers a chain, or the control issuer
abbrev pub by_selic : List Trade → Bool
by_selic c = is_selic (first_of c).terms.kind

-- the numbers left of the chain's issuer
abbrev pub issuer : List Trade → State → List ℕ
issuer c s = cond (by_selic c) s.selic s.control

abbrev pub new_pairs : List Trade → State → List Pair
new_pairs c s = given_numbers (number (first_of c)) (number (last_of c)) (chain_matches c) (issuer c s)

-- the trades of the chain become numbered
abbrev pub all_numbered : List Trade → Table Trade → Table Trade
all_numbered [] t = t
all_numbered (u ∷ c) t = all_numbered c (changed_in number (number u) numbered t)

-- the pairs are appended, and as many numbers taken from the chain's issuer
unfoldable pub numbering : List Trade → State → State
numbering c s =
    record {
      day = s.day;
      trades = all_numbered c s.trades;
      intermediations = s.intermediations;
      pairs = appended_in (new_pairs c s) s.pairs;
      selic = cond (by_selic c) (drop (length (chain_matches c)) s.selic) s.selic;
      control = cond (by_selic c) s.control (drop (length (chain_matches c)) s.control);
    }

-- no chain, nothing to number
abbrev pub with_numbers : List Trade → State → State
with_numbers [] s = s
with_numbers (t ∷ c) s = numbering (t ∷ c) s

-- what an accepted request leaves
unfoldable pub effect : List Listed → State → Request → State
effect r s q = with_numbers (completed r s q) (placed r s q)

-- n pairs were written behind `count` rows, so from row count + 1 on; or 0 and 0
abbrev pub written : ℕ → ℕ → Answer
written n count = cond (n == 0) (Written 0 0) (Written n (count + 1))

abbrev pub count_answer : List Listed → State → Request → Answer
count_answer r s q = written (length (chain_matches (completed r s q))) s.pairs.count

-- what an accepted request answers
abbrev pub reply : List Listed → State → Request → Answer
reply r s (Capture q) = Written 0 0
reply r s (Cancel q) = cond (both_confirmed (trade s q.trade)) Marked (Written 0 0)
reply r s (Include q) = count_answer r s (Include q)
reply r s (Remove q) = Written 0 0
reply r s (Confirm q) = count_answer r s (Confirm q)
reply r s (Intermediate q) = count_answer r s (Intermediate q)
reply r s (ConfirmIntermediation q) = count_answer r s (ConfirmIntermediation q)
reply r s (ExcludeIntermediation q) = Written 0 0
reply r s (Close q) = Written 0 0
