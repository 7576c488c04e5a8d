use Rattle.std.proofs.Common.{◌≡◌, ◌+◌, length, take}
use Rattle.writing.specs.Written.{commaed, over}
use Rattle.writing.proofs.line.write_fields.Given as goal

abbrev pub invariant-loop-piece : goal.invariant-loop-piece
invariant-loop-piece l =
    (l.at ≡ l.start + length (commaed (take l.piece-index l.pieces))) × (l.out ≡ over l.initial.out l.start (commaed (take l.piece-index l.pieces)))
