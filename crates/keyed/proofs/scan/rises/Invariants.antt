use Rattle.std.proofs.Common.{◌≡◌, drop}
use Rattle.keyed.specs.Rows.{rises_above}
use Rattle.keyed.proofs.scan.rises.Given as goal

abbrev pub invariant-loop-row : goal.invariant-loop-row
invariant-loop-row g l = rises_above g.R.Keyed.key l.last (drop l.row-index l.rows) ≡ rises_above g.R.Keyed.key 0 l.rows
