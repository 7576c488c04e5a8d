use Rattle.std.proofs.Common.{◌≡◌, suc, ◌-◌, ◌<◌, true, leb, length, Ok, refl, ap, ◌∙◌, arith, rules}
use Rattle.writing.specs.Written.{commaed}
use Rattle.writing.proofs.Commas.{line_fits, line_over}
use Rattle.writing.proofs.line.write_line.Goals as goal

pub returns : goal.returns
returns c =
    let room : leb (length (commaed c.args.pieces.now)) (length c.args.out.now - 1) ≡ true = search rules in
    let some : 0 < length c.args.out.now = search rules in
    let e = line_fits c.args.letter c.args.pieces.now c.args.out.now some room in
    let n : c.write_fields.result ≡ suc (length (commaed c.args.pieces.now)) = omega (arith, c.write_fields.ensures.value) in
    record { value = rw e (ap Ok n); after = rw e (c.write_fields.ensures.after ∙ line_over c.args.letter c.args.pieces.now c.args.out.now); enough = λ h. refl }
