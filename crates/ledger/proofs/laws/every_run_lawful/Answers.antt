use Rattle.law.proofs.Every.{every_run_lawful}
use Rattle.ledger.proofs.laws.every_run_lawful.Goals as goal

pub returns : goal.returns
returns c = every_run_lawful
