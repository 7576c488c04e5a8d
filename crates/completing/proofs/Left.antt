-- The chain as a request leaves it.
use Rattle.keyed.proofs.Words.{List, None, Option, Some, [], ◌≡◌, ap, map, ℕ, ◌∙◌}
use Rattle.fields.specs.declared.trade.Intermediation.{Intermediation}
use Rattle.fields.specs.declared.trade.Side.{Side}
use Rattle.keyed.specs.Lists.{or_else}
use Rattle.rows.specs.Trades.{number, trade_in}
use Rattle.rows.specs.declared.row.Trade.{Trade}
use Rattle.chains.specs.Following.{chain, tie_in}
use Rattle.chains.specs.Places.{Chain, Followed, chain_with, standing_with, ties_with}
use Rattle.book.specs.Numbering.{chain_confirmed, if_all_confirmed}
use Rattle.book.specs.State.{State}
use Rattle.completing.specs.Completed.{complete_in}
use Rattle.completing.proofs.Kept.{rows_kept}

module _ (new : Option Intermediation) (ts : List Trade) (xs : List Intermediation) (after : State)
    (numbers : map number after.trades.rows ≡ map number ts)
    (ties : (w : Side) (m : ℕ) → tie_in after.trades.rows w m ≡ ties_with new (tie_in ts) w m)
    (standing : after.intermediations.rows ≡ standing_with new xs) where
  chain_left : (n : ℕ) → chain (tie_in after.trades.rows) after.intermediations.rows n ≡ chain_with new ts xs n
  chain_left n = λ t. chain (λ w m. ties w m t) (standing t) n

  -- it was followed before anything was written
  pub left_followed : (n : ℕ) (c : Chain) → Followed new ts xs n c → chain_confirmed after (Some n) ≡ complete_in after.trades.rows (Some c)
  left_followed n c f =
      ap (λ o. if_all_confirmed (map (trade_in after.trades.rows) (or_else [] o))) (chain_left n ∙ f.numbers)
      ∙ ap if_all_confirmed (rows_kept ts after.trades.rows numbers c f.shaped f.first f.middle f.last)

  -- a broken one is not completed
  pub left_broken : (n : ℕ) → chain_with new ts xs n ≡ None → chain_confirmed after (Some n) ≡ []
  left_broken n e = ap (λ o. if_all_confirmed (map (trade_in after.trades.rows) (or_else [] o))) (chain_left n ∙ e)
