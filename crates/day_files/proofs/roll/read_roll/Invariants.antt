use Rattle.std.proofs.Common.{◌≡◌, ◌+◌, vec_items}
use Rattle.text.specs.Fields.{lines}
use Rattle.day_files.specs.Files.{roll_lines}
use Rattle.day_files.proofs.Prefixed.{prefixed}
use Rattle.day_files.proofs.roll.read_roll.Given as goal

-- the numbers so far, before those of the lines that are left
abbrev pub invariant-loop-i : goal.invariant-loop-i
invariant-loop-i l = record {
  can : (goal.iterator-loop-i).can_next l.i-iterator;
  ends : (goal.iterator-loop-i).is_finite l.i-iterator;
  reads : roll_lines 1 0 (lines l.text) ≡ prefixed (vec_items l.numbers) (roll_lines (l.i-iterator.count + 1) l.last l.i-iterator.iter);
}
