use Rattle.law.proofs.Unbroken.{never_broken}
use Rattle.ledger.proofs.laws.never_broken.Goals as goal

pub returns : goal.returns
returns c = never_broken
