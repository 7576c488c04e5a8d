use Rattle.std.proofs.Common.{arith}
use Rattle.text.proofs.Filled.{one_more}
use Rattle.text.proofs.groups.read_into.Goals as goal

pub loop-slot-preserved : goal.loop-slot-preserved
loop-slot-preserved g c =
    rw c.width-place.ensures (one_more g.T.Group.group c.loop-slot.slots _ _ _ _ _ (omega arith) c.loop-slot.invariant _ _ c.in_ok-value.ensures)
