use Rattle.law.proofs.Unbroken.{never_too_long}
use Rattle.ledger.proofs.laws.never_too_long.Goals as goal

pub returns : goal.returns
returns c = never_too_long
