-- One rule for every account that keeps its code: what the two questions make of it.
use Rattle.std.proofs.Common.{◌≡◌, ℕ, Bool, List, [], ◌∷◌, Some, None, Option, refl, sym, ap, ◌∙◌}
use Rattle.std.specs.Option.{option_map}
use Rattle.fields.specs.declared.account.Account.{Account}
use Rattle.fields.specs.declared.account.Markets.{Markets}
use Rattle.fields.specs.declared.account.Party.{Party}
use Rattle.keyed.proofs.Keys.{row_map}
use Rattle.keyed.proofs.Lists.{mapped}
use Rattle.keyed.specs.Lists.{any}
use Rattle.keyed.specs.Rows.{find}
use Rattle.register.specs.Meaning.{Listed, code_of, same_party, without_ties, ties_of, account_in, tied_in}
use Rattle.layers.specs.Layers.{each, shown_by, hold_account, halt_account}

module _ (f : Account → Account) where
  plain_shown : (o : Option Listed) → without_ties (mapped (shown_by f) o) ≡ option_map f (without_ties o)
  plain_shown None = refl
  plain_shown (Some l) = refl

  ties_shown : (o : Option Listed) → ties_of (mapped (shown_by f) o) ≡ ties_of o
  ties_shown None = refl
  ties_shown (Some l) = refl

module _ (f : Account → Account) (keeps : (a : Account) → (f a).code ≡ a.code) (code : ℕ) (ls : List Listed) where
  find_each : find code_of code (each f ls) ≡ mapped (shown_by f) (find code_of code ls)
  find_each = row_map code_of code_of (shown_by f) (λ l. keeps l.account) code ls

  pub account_each : (o : Option Account) → o ≡ account_in ls code → option_map f o ≡ account_in (each f ls) code
  account_each o e = ap (option_map f) e ∙ sym (ap without_ties find_each ∙ plain_shown f (find code_of code ls))

  pub tied_each : (p : Party) (b : Bool) → b ≡ tied_in ls code p → b ≡ tied_in (each f ls) code p
  tied_each p b e = e ∙ sym (ap (λ o. any (same_party p) (ties_of o)) find_each ∙ ap (any (same_party p)) (ties_shown f (find code_of code ls)))

-- holds and halts do not meet, so either may stand on the other
pub either_order : (codes : List ℕ) (halted : Markets) (ls : List Listed) → each (halt_account halted) (each (hold_account codes) ls) ≡ each (hold_account codes) (each (halt_account halted) ls)
either_order codes halted [] = refl
either_order codes halted (l ∷ ls) = ap (λ rest. shown_by (halt_account halted) (shown_by (hold_account codes) l) ∷ rest) (either_order codes halted ls)
