use Rattle.std.proofs.Common.{◌≡◌, ◌+◌, ◌*◌, ◌++◌, length, take}
use Rattle.request_writer.specs.Canonical.{entry_pieces, inclusion_head}
use Rattle.request_writer.proofs.writer.inclusion.Given as goal

abbrev pub invariant-loop-entry : goal.invariant-loop-entry
invariant-loop-entry l =
    (l.pieces.items ≡ inclusion_head l.c ++ entry_pieces (take l.entry-index l.entry-items)) × (length l.pieces.items ≡ 6 + 3 * l.entry-index)
