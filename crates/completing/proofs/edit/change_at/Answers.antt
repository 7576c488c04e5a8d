use Rattle.std.proofs.Common.{rules, refl}
use Rattle.std.specs.Fn.{FnOnceReturnsAtMut}
use Rattle.chains.specs.Places.{row_at}
use Rattle.completing.proofs.Edits.{edited}
use Rattle.completing.proofs.edit.change_at.Goals as goal

pub returns : goal.returns
returns g c =
    let made : FnOnceReturnsAtMut g.F.FnOnce c.args.step (row_at c.args.trades.now c.args.at) tt c.step.new.arg2 =
    record { shown = _; shows = search rules; left = _; met = c.step.ensures; leaves = refl } in
    λ f makes. edited c.args.count c.args.at f c.step.new.arg2 c.args.trades.now c.requires.there.0 (c.requires.keeps _ made) (makes _ made)
