use Rattle.text.specs.Cuts.{left}
use Rattle.text.proofs.Filled.{Sofar}
use Rattle.text.proofs.groups.read_into.Given as goal

abbrev pub invariant-loop-slot : goal.invariant-loop-slot
invariant-loop-slot g l = Sofar g.T.Group.group l.slots l.slot-index l.first l.place (left l.text) (left l.rest)
