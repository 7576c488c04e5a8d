use Rattle.std.proofs.Common.{◌≡◌, eqb, ◌∙◌, rules, tests}
use Rattle.std.proofs.lemmas.Iterator.{YieldsList-from_slice}
use Rattle.std.proofs.lemmas.Iterator.Adapters.{position_from-zero}
use Rattle.std.proofs.lemmas.Iterator.Search.{position_from_yields_List}
use Rattle.keyed.specs.Places.{place_from}
use Rattle.keyed.proofs.Steps.{found_at}
use Rattle.keyed.proofs.scan.find.Goals as goal

pub returns : goal.returns
returns g c =
    let xs = c.args.rows.now in
    let here = λ (x : g.row.R.Denot). eqb (g.R.Keyed.key x) c.args.wanted in
    let is : c.position.result ≡ place_from g.R.Keyed.key c.args.wanted 0 xs =
    position_from_yields_List here _ _ c.position.result c.position.ensures.ran (YieldsList-from_slice xs cc) (λ x b q k. search (rules, tests)) ∙ position_from-zero here xs in
    record { place = (search (rules, is)); found = found_at g.R.Keyed.key c.args.wanted xs _ (search (rules, is)) }
