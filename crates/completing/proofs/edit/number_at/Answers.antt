use Rattle.std.proofs.Common.{rules}
use Rattle.rows.specs.Trades.{numbered}
use Rattle.completing.proofs.edit.number_at.Goals as goal

pub returns : goal.returns
returns c = c.change_at.ensures numbered (λ after step. search rules)
