use Rattle.std.proofs.Common.{◌≡◌, ◌+◌, ◌≤◌, length}
use Rattle.text.specs.Fields.{lines}
use Rattle.day_files.specs.Files.{hold_lines}
use Rattle.day_files.proofs.holds.read_holds.Given as goal

-- the lines that are left decide
abbrev pub invariant-loop-i : goal.invariant-loop-i
invariant-loop-i g l =
    (hold_lines 1 l.initial.register.view.codes.items (lines l.text) ≡ hold_lines (l.i-iterator.count + 1) l.register.view.codes.items l.i-iterator.iter)
    × (l.register.below ≡ l.initial.register.below)
    × (l.i-iterator.count + length l.i-iterator.iter ≤ length l.text)
