use Rattle.std.proofs.Common.{◌≡◌, ◌+◌, ◌∷◌, sym, ap, ◌∙◌, arith, rules}
use Rattle.std.proofs.lemmas.Result.{err_from_is_err_and}
use Rattle.day_files.specs.Files.{hold_lines}
use Rattle.day_files.proofs.Faults.{fault_there}
use Rattle.day_files.proofs.holds.read_holds.Goals as goal

-- by what the place is and not by how it is written
pub returns-in_err-hold_line-clause-codes : goal.returns-in_err-hold_line-clause-codes
returns-in_err-hold_line-clause-codes g c =
    let before = c.loop-i.register.view.codes.items in
    let count = c.loop-i.i-iterator.count in
    let here : c.in-Some.i ≡ count = search rules in
    let lines : c.loop-i.i-iterator.iter ≡ c.in-Some.line.now ∷ c.next.new.self.iter = search rules in
    let there = fault_there _ (count + 1) before c.hold_line.new.register.view.codes.items c.in-Some.line.now c.next.new.self.iter c.in_err-hold_line.field-0.0 (omega (arith, here)) c.in_err-hold_line.ensures.codes in
    let p = err_from_is_err_and c.from_residual.result c.from_residual.ensures.1 in
    rw (p.1, p.2) (there ∙ sym (c.loop-i.invariant.0 ∙ ap (λ ls. hold_lines (count + 1) before ls) lines))
