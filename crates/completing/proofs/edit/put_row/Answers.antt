use Rattle.std.proofs.Common.{rules}
use Rattle.completing.proofs.edit.put_row.Goals as goal

pub returns : goal.returns
returns c f is = c.change_at.ensures f (λ after step. search rules)
