-- What stands on a side of a trade.
use Rattle.std.specs.Prelude.{ℕ, Bool, true, false, cond, List, [], ◌++◌, map, length, take, drop, replicate}
use Rattle.fields.specs.declared.account.AccountType.TheVariants.{SL}
use Rattle.fields.specs.declared.trade.Entry.{Entry}
use Rattle.fields.specs.declared.trade.Side.{Side}
use Rattle.fields.specs.declared.trade.Side.TheVariants.{Buyer, Seller}
use Rattle.keyed.specs.Lists.{sum}
use Rattle.rows.specs.declared.row.Allocation.{Allocation}
use Rattle.rows.specs.declared.row.AllocationState.{AllocationState}
use Rattle.rows.specs.declared.row.AllocationState.TheVariants.{Allocated, Confirmed, Empty}
use Rattle.rows.specs.declared.row.KeptEntry.{KeptEntry}

abbrev pub other : Side → Side
other Buyer = Seller
other Seller = Buyer

abbrev pub is_empty : AllocationState → Bool
is_empty Empty = true
is_empty Allocated = false
is_empty Confirmed = false

abbrev pub is_confirmed : AllocationState → Bool
is_confirmed Empty = false
is_confirmed Allocated = false
is_confirmed Confirmed = true

-- the entries that a side holds: none if it is empty, else the first `count`
abbrev pub held : Allocation → List KeptEntry
held d = cond (is_empty d.state) [] (take d.count d.entries)

-- the same as they were asked for, without the types found
abbrev pub entries_held : Allocation → List Entry
entries_held d = map (λ e. e.entry) (held d)

-- filled with these entries, which take the first places of its table, and held by this intermediation, 0 for none
abbrev pub filled : List KeptEntry → ℕ → Allocation → Allocation
filled es tie d = record { state = Allocated; tie = tie; count = length es; entries = es ++ drop (length es) d.entries }

-- emptied; its table stays
abbrev pub emptied : Allocation → Allocation
emptied d = record { state = Empty; tie = 0; count = 0; entries = d.entries }

abbrev pub confirmed : Allocation → Allocation
confirmed d = record { state = Confirmed; tie = d.tie; count = d.count; entries = d.entries }

abbrev pub confirmed_if : Bool → Allocation → Allocation
confirmed_if true d = confirmed d
confirmed_if false d = d

-- what the entries add up to
abbrev pub total : List Entry → ℕ
total es = sum (λ e. e.quantity) es

-- blank entries, and a blank side as a capture writes it
abbrev pub no_entry : Entry
no_entry = record { account = 0; quantity = 0; client = 0 }

abbrev pub no_kept_entry : KeptEntry
no_kept_entry = record { entry = no_entry; found = SL }

abbrev pub blank_allocation : Allocation
blank_allocation = record { state = Empty; tie = 0; count = 0; entries = replicate 16 no_kept_entry }

-- stands for a side of a trade that is not there
abbrev pub no_allocation : Allocation
no_allocation = record { state = Empty; tie = 0; count = 0; entries = [] }
