use Rattle.std.proofs.Common.{rules, tests, sym, ◌∙◌}
use Rattle.std.proofs.lemmas.Iterator.{YieldsList-from_slice}
use Rattle.std.proofs.lemmas.Iterator.Search.{all_from_yields_List}
use Rattle.keyed.proofs.Libraries.{all-list_all}
use Rattle.keyed.proofs.scan.all_good.Goals as goal

pub returns : goal.returns
returns g c =
    let xs = c.args.rows.now in
    all_from_yields_List g.R.Checked.good _ _ c.all.result c.all.ensures.ran (YieldsList-from_slice xs cc) (λ x b q k. search (rules, tests)) ∙ sym (all-list_all g.R.Checked.good xs)
