use Rattle.std.proofs.Common.{◌≡◌, ◌+◌, length, drop}
use Rattle.keyed.specs.Fronts.{rising_front}
use Rattle.keyed.proofs.scan.sound_rows.Given as goal

abbrev pub invariant-loop-i : goal.invariant-loop-i
invariant-loop-i g l =
    l.i + length (rising_front g.R.Keyed.key g.R.Checked.good l.last (drop l.i l.rows))
    ≡ length (rising_front g.R.Keyed.key g.R.Checked.good 0 l.rows)
