-- A change of a trade that leaves its ties leaves every chain: for code that judges a chain before it writes.
use Rattle.fields.specs.declared.trade.Intermediation.{Intermediation}
use Rattle.fields.specs.declared.trade.Side.{Side}
use Rattle.keyed.proofs.Keys.{row_changed_other, row_changed_same}
use Rattle.keyed.proofs.Lists.{mapped}
use Rattle.keyed.proofs.Words.{⊎_elim, List, None, Option, Some, ap, cases_eq, refl, subst, ℕ, ◌∙◌, ◌≡◌}
use Rattle.keyed.specs.Rows.{changed, find}
use Rattle.rows.specs.Trades.{allocation, number}
use Rattle.rows.specs.declared.row.Trade.{Trade}
use Rattle.chains.specs.Following.{chain, tie_in, tie_of}

module _ (f : Trade → Trade) (keeps : (t : Trade) → number (f t) ≡ number t) (n : ℕ) (ts : List Trade)
    (same : (t : Trade) → find number n ts ≡ Some t → (w : Side) → (allocation w (f t)).tie ≡ (allocation w t).tie) where
  pub ties_unmoved : (w : Side) (m : ℕ) → tie_in (changed number n f ts) w m ≡ tie_in ts w m
  ties_unmoved w m =
      ⊎_elim (λ (e : n ≡ m). subst (λ k. tie_in (changed number n f ts) w k ≡ tie_in ts w k) e (ap (tie_of w) (row_changed_same number f keeps n ts) ∙ go (find number n ts) refl))
      (λ (e : n ≡ m → ⊥). ap (tie_of w) (row_changed_other number f keeps n m ts e))
      (cases_eq n m)
    where
      go : (o : Option Trade) → find number n ts ≡ o → tie_of w (mapped f o) ≡ tie_of w o
      go None e = refl
      go (Some t) e = ap Some (same t e w)

  pub chain_unmoved : (xs : List Intermediation) (m : ℕ) → chain (tie_in (changed number n f ts)) xs m ≡ chain (tie_in ts) xs m
  chain_unmoved xs m = λ i. chain (λ w k. ties_unmoved w k i) xs m
