use Rattle.std.proofs.Common.{◌≡◌, length, rules}
use Rattle.requests.specs.declared.request.Request.TheVariants.{Include}
use Rattle.request_writer.proofs.Back.{request_back}
use Rattle.request_writer.proofs.writer.inclusion_law.Goals as goal

pub returns : goal.returns
returns c =
    let n : length c.args.c.now.entries ≡ 16 = search rules in
    request_back (Include c.args.c.now) n
