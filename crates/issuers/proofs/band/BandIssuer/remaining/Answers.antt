use Rattle.std.proofs.Common.{arith}
use Rattle.std.proofs.lemmas.List.FromFn.{length-range_with_len}
use Rattle.issuers.proofs.band.BandIssuer.remaining.Goals as goal

pub returns : goal.returns
returns c = omega (arith, length-range_with_len)
