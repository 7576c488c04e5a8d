use Rattle.law.proofs.Every.{beginning_lawful}
use Rattle.ledger.proofs.laws.beginning_lawful.Goals as goal

pub returns : goal.returns
returns c = beginning_lawful
