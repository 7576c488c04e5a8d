-- What can be said of any register, and of layers in either order.
use Rattle.std.specs.Prelude.{ℕ, Bool, true, false, ◌&&◌, List, Some, None, Option}
use Rattle.fields.specs.declared.account.Account.{Account}
use Rattle.fields.specs.declared.account.Party.{Party}
use Rattle.fields.specs.declared.account.Status.{Status}
use Rattle.fields.specs.declared.account.Status.TheVariants.{Active, Blocked}
use Rattle.register.specs.Meaning.{Listed, account_in, tied_in}

abbrev pub active : Status → Bool
active Active = true
active Blocked = false

abbrev pub listed_active : Option Account → Bool
listed_active None = false
listed_active (Some a) = active a.status

-- listed, active and tied
abbrev pub usable_by : List Listed → ℕ → Party → Bool
usable_by ls code p = listed_active (account_in ls code) && tied_in ls code p
