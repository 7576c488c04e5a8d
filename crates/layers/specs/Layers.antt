-- What a layer makes of the accounts below it.
use Rattle.std.specs.Prelude.{◌≡◌, ℕ, cond, not, ◌&&◌, List, [], ◌∷◌, map}
use Rattle.std.proofs.Common.{sym, ◌∙◌}
use Rattle.fields.specs.declared.account.Account.{Account}
use Rattle.fields.specs.declared.account.Markets.{Markets}
use Rattle.fields.specs.declared.account.Status.TheVariants.{Blocked}
use Rattle.register.specs.Meaning.{Listed, Absent, Apart}
use Rattle.layers.specs.Codes.{held}

-- an account changed by a rule, its ties as they were
abbrev pub shown_by : (Account → Account) → Listed → Listed
shown_by f l = record l { account = f l.account }

-- every account changed by one rule
abbrev pub each : (Account → Account) → List Listed → List Listed
each f = map (shown_by f)

-- blocked if its code is held
abbrev pub hold_account : List ℕ → Account → Account
hold_account codes a = record a { status = cond (held a.code codes) Blocked a.status }

-- those of m that are not halted
abbrev pub open_markets : Markets → Markets → Markets
open_markets halted m = record {
  selic = m.selic && not halted.selic;
  deposited = m.deposited && not halted.deposited;
  registered = m.registered && not halted.registered;
}

-- the halted kinds taken out of its markets
abbrev pub halt_account : Markets → Account → Account
halt_account halted a = record a { markets = open_markets halted a.markets }

-- no code occurs twice after a rule that keeps codes
module _ (f : Account → Account) (keeps : (a : Account) → (f a).code ≡ a.code) where
  absent_each : (code : ℕ) (ls : List Listed) → Absent code ls → Absent code (each f ls)
  absent_each code [] h = tt
  absent_each code (l ∷ ls) h = (λ e. h.0 (sym (keeps l.account) ∙ e), absent_each code ls h.1)

  pub apart_each : (ls : List Listed) → Apart ls → Apart (each f ls)
  apart_each [] h = tt
  apart_each (l ∷ ls) h = (rw (keeps l.account) (absent_each l.account.code ls h.0), apart_each ls h.1)
