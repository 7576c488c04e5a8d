use Rattle.std.proofs.Common.{◌≡◌, ◌++◌, vec_items}
use Rattle.text.specs.Fields.{lines}
use Rattle.day.specs.Day.{replies}
use Rattle.day.proofs.whole.push_replies.Given as goal

abbrev pub invariant-loop-line : goal.invariant-loop-line
invariant-loop-line l = vec_items l.out ++ replies l.line-iterator ≡ vec_items l.initial.out ++ replies (lines l.text)
