use Rattle.std.proofs.Common.{◌≡◌, ◌++◌, IfOk, vec_items, subst}
use Rattle.day.specs.Day.{ended}
use Rattle.day.proofs.Written.{part_is}
use Rattle.day.proofs.whole.push.Goals as goal

pub returns : goal.returns
returns g c =
    let e = part_is (g.L.Line.line c.args.written.now) c.args.buffer.now _ _ c.in-Ok.ensures.value c.write.ensures.after in
    subst (λ l. IfOk c.push_line.result (λ _. vec_items c.push_line.new.out ≡ vec_items c.args.out.now ++ ended l)) e c.push_line.ensures
