use Rattle.std.proofs.Common.{rules}
use Rattle.rows.specs.Allocations.{emptied}
use Rattle.rows.specs.Trades.{at_side}
use Rattle.completing.proofs.edit.empty_at.Goals as goal

pub returns : goal.returns
returns c = c.change_at.ensures (at_side c.args.side emptied) (λ after step. search rules)
