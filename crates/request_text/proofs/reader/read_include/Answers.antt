use Rattle.std.proofs.Common.{arith, rules}
use Rattle.text.specs.Groups.{entry_group}
use Rattle.text.proofs.Filled.{table_is}
use Rattle.request_text.proofs.reader.read_include.Goals as goal

pub returns : goal.returns
returns c =
    let t = table_is entry_group 16 c.in_ok-count.count 8 c.default-entries.result (search rules) (omega (arith, c.in_ok-count.ensures.small)) _ _ _ c.read_into.auto.slots c.in_ok-rest.ensures in
    search (rules, t)
