use Rattle.law.proofs.Staying.{numbered_chain_stays}
use Rattle.ledger.proofs.laws.numbered_chain_stays.Goals as goal

pub returns : goal.returns
returns c = numbered_chain_stays
