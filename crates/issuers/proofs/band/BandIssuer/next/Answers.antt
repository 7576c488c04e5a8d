use Rattle.std.proofs.Common.{◌≡◌, suc, ◌+◌, ◌-◌, sym, ap, arith}
use Rattle.std.specs.List.{range_with_len}
use Rattle.issuers.specs.Numbers.{rest_of}
use Rattle.issuers.proofs.band.BandIssuer.next.Goals as goal

-- one number more stands in the band than in what is left of it
pub returns-clause-rest : goal.returns-clause-rest
returns-clause-rest c =
    let s = c.args.self.now in
    let more : s.last + 1 - s.first ≡ suc (s.last + 1 - (s.first + 1)) = omega arith in
    sym (ap (λ n. rest_of (range_with_len s.first n)) more)
