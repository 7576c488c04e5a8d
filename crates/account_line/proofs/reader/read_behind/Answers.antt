use Rattle.std.proofs.Common.{arith, rules}
use Rattle.text.specs.Groups.{party_group}
use Rattle.text.proofs.Filled.{table_is}
use Rattle.account_line.proofs.reader.read_behind.Goals as goal

pub returns : goal.returns
returns c =
    let t = table_is party_group 4 c.in_ok-count.count 7 c.default-ties.result (search rules) (omega (arith, c.in_ok-count.ensures.small)) _ _ _ c.read_into.auto.slots c.in_ok-rest.ensures in
    search (rules, t)
