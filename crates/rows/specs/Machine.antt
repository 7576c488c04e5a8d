-- What may happen to a side.
use Rattle.std.specs.Prelude.{ℕ, cond, slice_set}
use Rattle.rows.specs.Allocations.{confirmed, emptied, is_empty}
use Rattle.rows.specs.declared.machine.Event.{Event}
use Rattle.rows.specs.declared.machine.Event.TheVariants.{Confirm, Include, Remove, Tie}
use Rattle.rows.specs.declared.row.Allocation.{Allocation}
use Rattle.rows.specs.declared.row.AllocationState.TheVariants.{Allocated}
use Rattle.rows.specs.declared.row.KeptEntry.{KeptEntry}

-- one entry of the table put in place of another
abbrev pub with_entry : ℕ → KeptEntry → Allocation → Allocation
with_entry i e d = record { state = d.state; tie = d.tie; count = d.count; entries = slice_set d.entries i e }

-- the first entries of the table are in use, and the side is tied to an intermediation or, with 0, to none
abbrev pub taken_up : ℕ → ℕ → Allocation → Allocation
taken_up n tie d = record { state = Allocated; tie = tie; count = n; entries = d.entries }

-- an empty side has nothing that could be confirmed
abbrev pub after : Event → Allocation → Allocation
after (Include n) d = taken_up n 0 d
after Remove d = emptied d
after Confirm d = cond (is_empty d.state) d (confirmed d)
after (Tie id) d = taken_up 1 id d
