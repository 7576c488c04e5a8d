use Rattle.std.proofs.Common.{◌≡◌, ◌≤◌, length}
use Rattle.text.specs.Fields.{behind}
use Rattle.text.specs.Cuts.{front, after}
use Rattle.text.proofs.number.figures.Given as goal

-- the figures still to come, behind the value so far, give the whole
abbrev pub invariant-loop-rest : goal.invariant-loop-rest
invariant-loop-rest l =
    (l.total ≤ l.most) × (behind 0 (front l.text) ≡ behind l.total (front l.rest)) × (after l.text ≡ after l.rest)

abbrev pub decreases-loop-rest : goal.decreases-loop-rest
decreases-loop-rest l = length l.rest
