use Rattle.std.proofs.Common.{rules}
use Rattle.rows.specs.Trades.{cancelled}
use Rattle.completing.proofs.edit.cancel_at.Goals as goal

pub returns : goal.returns
returns c = c.change_at.ensures cancelled (λ after step. search rules)
