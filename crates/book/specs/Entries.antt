-- The entries that a request puts on a side, and the account types found for them.
use Rattle.std.specs.Prelude.{ℕ, Bool, false, List, [], ◌∷◌, map, take, nat_eq}
use Rattle.fields.specs.declared.account.Account.{Account}
use Rattle.fields.specs.declared.account.AccountType.TheVariants.{SL}
use Rattle.fields.specs.declared.account.Party.{Party}
use Rattle.fields.specs.declared.account.Status.TheVariants.{Active}
use Rattle.fields.specs.declared.trade.Entry.{Entry}
use Rattle.fields.specs.declared.trade.Intermediation.{Intermediation}
use Rattle.fields.specs.declared.trade.Side.{Side}
use Rattle.fields.specs.declared.trade.Terms.{Terms}
use Rattle.keyed.specs.Lists.{any, or_else}
use Rattle.register.specs.Meaning.{Listed, account_in}
use Rattle.requests.specs.declared.request.Inclusion.{Inclusion}
use Rattle.rows.specs.Accounts.{intermediation_type}
use Rattle.rows.specs.Allocations.{confirmed_if, filled}
use Rattle.rows.specs.Trades.{party}
use Rattle.rows.specs.declared.row.Allocation.{Allocation}
use Rattle.rows.specs.declared.row.KeptEntry.{KeptEntry}
use Rattle.rows.specs.declared.row.Trade.{Trade}

-- stands for an account that is not listed
abbrev pub no_account : Account
no_account = record { code = 0; class = SL; status = Active; day = 0; markets = record { selic = false; deposited = false; registered = false } }

-- the account that the register shows for a code
abbrev pub shown : List Listed → ℕ → Account
shown r code = or_else no_account (account_in r code)

-- an entry as it is kept: with the type that the register shows now for its account
abbrev pub kept_entry : List Listed → Entry → KeptEntry
kept_entry r e = record { entry = e; found = (shown r e.account).class }

-- the entries of an inclusion: the first `count`
abbrev pub entries_of : Inclusion → List Entry
entries_of q = take q.count q.entries

-- a side as an inclusion leaves it
abbrev pub included : List Listed → Inclusion → Allocation → Allocation
included r q d = confirmed_if q.now (filled (map (kept_entry r) (entries_of q)) 0 d)

-- the one entry of a leg: the trade's whole quantity to the account, client 0
abbrev pub whole_entry : ℕ → Trade → Entry
whole_entry account t = record { account = account; quantity = t.terms.quantity; client = 0 }

-- a side of trade t as a new intermediation leaves it: held by it
abbrev pub intermediated : List Listed → Intermediation → Bool → Trade → Allocation → Allocation
intermediated r x confirm t d = confirmed_if confirm (filled (kept_entry r (whole_entry x.account t) ∷ []) x.id d)

-- found as an intermediation account
abbrev pub intermediary : KeptEntry → Bool
intermediary e = intermediation_type e.found

-- among the entries kept on a side
abbrev pub has_account : ℕ → List KeptEntry → Bool
has_account n es = any (λ e. nat_eq e.entry.account n) es

abbrev pub has_client : ℕ → List KeptEntry → Bool
has_client n es = any (λ e. nat_eq e.entry.client n) es

-- the caller with the offeror of a side
abbrev pub calling : ℕ → Side → Terms → Party
calling caller w t = record { participant = caller; offeror = (party w t).offeror }
