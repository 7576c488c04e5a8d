use Rattle.std.proofs.Common.{rules}
use Rattle.rows.specs.Trades.{marked}
use Rattle.completing.proofs.edit.mark_at.Goals as goal

pub returns : goal.returns
returns c = c.change_at.ensures marked (λ after step. search rules)
