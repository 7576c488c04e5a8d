-- Rows as changes will leave them.
use Rattle.std.specs.Prelude.{ℕ, ◌<◌, List, Some, None, Option, slice_set}
use Rattle.std.specs.Option.{option_copied}
use Rattle.rows.specs.declared.row.Trade.{Trade}
use Rattle.completing.specs.declared.change.Change.{Change}
use Rattle.completing.specs.declared.complete.Preview.{Preview}

abbrev pub put : Option Change → List Trade → List Trade
put None ts = ts
put (Some c) ts = slice_set ts c.at c.row

-- one change and then another
abbrev pub both : Option Change → Option Change → List Trade → List Trade
both one two ts = put two (put one ts)

-- the trades as a preview shows them
abbrev pub left_by : Preview → List Trade
left_by p = both (option_copied p.one) (option_copied p.two) p.trades.now

-- at one of the first n places
abbrev pub Within : ℕ → Option Change → Type 0
Within n None = Unit {0}
Within n (Some c) = c.at < n
