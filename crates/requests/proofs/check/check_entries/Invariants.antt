use Rattle.std.proofs.Common.{◌≡◌, ◌+◌, ◌*◌, drop}
use Rattle.requests.specs.Tests.{tested, entry_tests}
use Rattle.requests.proofs.check.check_entries.Given as goal

-- what is left to test decides
abbrev pub invariant-loop-i : goal.invariant-loop-i
invariant-loop-i l = tested (entry_tests 8 l.entries) ≡ tested (entry_tests (8 + 3 * l.i) (drop l.i l.entries))
