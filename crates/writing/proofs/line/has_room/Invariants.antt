use Rattle.std.proofs.Common.{◌≡◌, ◌-◌, ◌*◌, ◌≤◌, leb, length, drop}
use Rattle.writing.specs.Written.{commaed}
use Rattle.writing.proofs.line.has_room.Given as goal

abbrev pub invariant-loop-piece : goal.invariant-loop-piece
invariant-loop-piece l =
    (leb (length (commaed l.pieces)) l.room ≡ leb (length (commaed (drop l.piece-index l.pieces))) l.left)
    × (21 * length l.pieces ≤ l.room → 21 * (length l.pieces - l.piece-index) ≤ l.left)
