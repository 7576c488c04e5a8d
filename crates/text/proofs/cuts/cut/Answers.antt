use Rattle.std.proofs.Common.{◌∙◌, eqb, rules}
use Rattle.std.proofs.lemmas.Iterator.{YieldsList-from_slice}
use Rattle.std.proofs.lemmas.Iterator.Search.{position_from_yields_List}
use borrow.Author.Tests.{tests}
use Rattle.text.proofs.Scan.{cut_at}
use Rattle.text.proofs.cuts.cut.Goals as goal

pub returns : goal.returns
returns c =
    let text = c.args.text.now in
    let p = position_from_yields_List (λ b. eqb b c.args.mark) _ _ c.position.result c.position.ensures.ran (YieldsList-from_slice text cc) (λ x b q k. search (rules, tests)) in
    let e = cut_at c.args.mark text c.unwrap_or-place.result (search (rules, p)) in
    (c.split_at.ensures.front ∙ e.0, c.split_at.ensures.back ∙ e.1)
