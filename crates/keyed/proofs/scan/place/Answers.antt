use Rattle.std.proofs.Common.{leb, length, sym, ap, ◌∙◌, rules, tests}
use Rattle.std.proofs.lemmas.Iterator.{YieldsList-from_slice}
use Rattle.std.proofs.lemmas.Iterator.Search.{position_from_yields_List}
use Rattle.std.specs.Option.{unwrap_or}
use Rattle.keyed.proofs.Libraries.{below-position_or_len, unwrap_or-position}
use Rattle.keyed.proofs.scan.place.Goals as goal

pub returns-clause-value : goal.returns-clause-value
returns-clause-value g c =
    let xs = c.args.rows.now in
    let not_below = λ (x : g.row.R.Denot). leb c.args.wanted (g.R.Keyed.key x) in
    let is = position_from_yields_List not_below _ _ c.position.result c.position.ensures.ran (YieldsList-from_slice xs cc) (λ x b q k. search (rules, tests)) in
    c.unwrap_or.ensures ∙ ap (λ o. unwrap_or o (length xs)) is ∙ unwrap_or-position not_below xs ∙ sym (below-position_or_len g.R.Keyed.key c.args.wanted xs)
