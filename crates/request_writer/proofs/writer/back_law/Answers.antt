use Rattle.request_writer.proofs.Back.{other_back}
use Rattle.request_writer.proofs.writer.back_law.Goals as goal

pub returns-in_default : goal.returns-in_default
returns-in_default c = other_back c.args.request.now c.in_default.not-Include
