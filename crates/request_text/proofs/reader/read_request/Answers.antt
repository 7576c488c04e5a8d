use Rattle.std.proofs.Common.{Some}
use Rattle.text.specs.Cuts.{left}
use Rattle.request_text.proofs.Sound.{read_passes, read_placed}
use Rattle.request_text.proofs.reader.read_request.Goals as goal

pub returns-clause-passes : goal.returns-clause-passes
returns-clause-passes c = read_passes (Some c.in-Some.letter) (left c.in-Some.rest.now) _ c.read_fields.ensures

pub returns-clause-placed : goal.returns-clause-placed
returns-clause-placed c = read_placed (Some c.in-Some.letter) (left c.in-Some.rest.now) _ c.read_fields.ensures
