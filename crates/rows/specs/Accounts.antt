-- Kinds, and which accounts may stand on a side.
use Rattle.std.specs.Prelude.{ℕ, Bool, true, false, ◌&&◌, nat_lt}
use Rattle.std.specs.Bool.{beq}
use Rattle.fields.specs.declared.account.Account.{Account}
use Rattle.fields.specs.declared.account.AccountType.{AccountType}
use Rattle.fields.specs.declared.account.AccountType.TheVariants.{C1, C2, EM, IN, PO, RT, SI, SL}
use Rattle.fields.specs.declared.account.Markets.{Markets}
use Rattle.fields.specs.declared.account.Status.{Status}
use Rattle.fields.specs.declared.account.Status.TheVariants.{Active, Blocked}
use Rattle.fields.specs.declared.trade.Kind.{Kind}
use Rattle.fields.specs.declared.trade.Kind.TheVariants.{Deposited, Registered, Selic}

-- ── Kinds ──

-- a Selic title, and no deposited asset or registered security
abbrev pub is_selic : Kind → Bool
is_selic Selic = true
is_selic Deposited = false
is_selic Registered = false

abbrev pub same_kind : Kind → Kind → Bool
same_kind Selic k = is_selic k
same_kind Deposited Selic = false
same_kind Deposited Deposited = true
same_kind Deposited Registered = false
same_kind Registered Selic = false
same_kind Registered Deposited = false
same_kind Registered Registered = true

-- the kind is one of the markets
abbrev pub in_markets : Kind → Markets → Bool
in_markets Selic m = m.selic
in_markets Deposited m = m.deposited
in_markets Registered m = m.registered

-- ── Accounts ──

-- the types that suit Selic titles; the others suit deposited assets and registered securities
abbrev pub selic_type : AccountType → Bool
selic_type SL = true
selic_type SI = true
selic_type PO = false
selic_type IN = false
selic_type C1 = false
selic_type C2 = false
selic_type EM = false
selic_type RT = false

-- the types of intermediation accounts
abbrev pub intermediation_type : AccountType → Bool
intermediation_type SL = false
intermediation_type SI = true
intermediation_type PO = false
intermediation_type IN = true
intermediation_type C1 = false
intermediation_type C2 = false
intermediation_type EM = false
intermediation_type RT = false

-- the types of accounts that may stand on both sides of a trade
abbrev pub both_sides_type : AccountType → Bool
both_sides_type SL = false
both_sides_type SI = false
both_sides_type PO = false
both_sides_type IN = false
both_sides_type C1 = true
both_sides_type C2 = true
both_sides_type EM = false
both_sides_type RT = false

abbrev pub is_active : Status → Bool
is_active Active = true
is_active Blocked = false

-- not blocked, and registered before the book's day
abbrev pub active : ℕ → Account → Bool
active day a = is_active a.status && nat_lt a.day day

-- the account suits a kind by its type and by its markets
abbrev pub suits : Kind → Account → Bool
suits k a = beq (selic_type a.class) (is_selic k) && in_markets k a.markets
