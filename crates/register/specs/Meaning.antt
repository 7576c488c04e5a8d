-- What a register means: a list of accounts with their ties, in which no code occurs twice.
use Rattle.std.specs.Prelude.{ℕ, Bool, ◌&&◌, List, [], ◌∷◌, Some, None, Option, ◌==◌, ◌≢◌}
use Rattle.keyed.specs.Lists.{any}
use Rattle.keyed.specs.Rows.{find}
use Rattle.fields.specs.declared.account.Account.{Account}
use Rattle.fields.specs.declared.account.Party.{Party}

-- an account as it is listed: the plain record, and its ties
pub record Listed : Type 0 where
  pub account : Account
  pub ties : List Party

abbrev pub code_of : Listed → ℕ
code_of l = l.account.code

abbrev pub without_ties : Option Listed → Option Account
without_ties None = None
without_ties (Some l) = Some l.account

abbrev pub same_party : Party → Party → Bool
same_party p q = p.participant == q.participant && p.offeror == q.offeror

abbrev pub ties_of : Option Listed → List Party
ties_of None = []
ties_of (Some l) = l.ties

-- the first question: a code gives the account, or nothing
abbrev pub account_in : List Listed → ℕ → Option Account
account_in ls code = without_ties (find code_of code ls)

-- the second: whether the account with this code is listed with this tie
abbrev pub tied_in : List Listed → ℕ → Party → Bool
tied_in ls code p = any (same_party p) (ties_of (find code_of code ls))

abbrev pub Absent : ℕ → List Listed → Type 0
Absent code [] = Unit {0}
Absent code (l ∷ ls) = (code_of l ≢ code) × Absent code ls

-- no code occurs twice
abbrev pub Apart : List Listed → Type 0
Apart [] = Unit {0}
Apart (l ∷ ls) = Absent (code_of l) ls × Apart ls
