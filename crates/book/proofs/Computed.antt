-- The cases come out as wanted, by computation.
use Rattle.std.proofs.Common.{refl}
use Rattle.keyed.specs.Rows.{whole, room}
use Rattle.rows.specs.InUse.{stands}
use Rattle.chains.specs.Following.{beyond, way, chain}
use Rattle.chains.specs.Pairing.{matched}
use Rattle.book.specs.Cases.{CasesHold, Foreign}
use Rattle.book.specs.Effects.{excluded, placed}
use Rattle.book.specs.Fields.{fields_verdict}
use Rattle.book.specs.Lines.{day_of}
use Rattle.book.specs.Numbering.{completed, numbering, effect}
use Rattle.book.specs.Runs.{ran}
use Rattle.book.specs.Steps.{step}
use Rattle.book.specs.Verdicts.{account_verdict, capture_verdict, closing_verdict, completed_verdict, empty_verdict, entries_verdict, entry_verdict, id_verdict, inclusion_verdict, intermediary_verdict, intermediation_verdict, leg_opposite_verdict, leg_tied_verdict, leg_verdict, legs_verdict, numbers_verdict, on_side_verdict, opposite_verdict, opposites_verdict, outside_verdict, own_verdict, side_verdict, sides_verdict, tables_verdict, ties_verdict, trade_verdict, two_legs_verdict, unnumbered_verdict, verdict}

pub cases_hold : CasesHold
unfolding whole room stands beyond way chain matched excluded placed completed numbering effect fields_verdict tables_verdict capture_verdict trade_verdict side_verdict empty_verdict account_verdict opposite_verdict entry_verdict entries_verdict inclusion_verdict outside_verdict numbers_verdict id_verdict leg_verdict legs_verdict two_legs_verdict intermediary_verdict leg_tied_verdict ties_verdict leg_opposite_verdict opposites_verdict intermediation_verdict sides_verdict unnumbered_verdict closing_verdict on_side_verdict completed_verdict own_verdict verdict step ran day_of
cases_hold = (refl, (refl, (refl, (refl, (refl, (refl, (refl, (refl, (refl, (refl, (refl, (refl, tt))))))))))))

pub foreign : Foreign
unfolding whole room stands beyond way chain matched excluded placed completed numbering effect fields_verdict tables_verdict capture_verdict trade_verdict side_verdict empty_verdict account_verdict opposite_verdict entry_verdict entries_verdict inclusion_verdict outside_verdict numbers_verdict id_verdict leg_verdict legs_verdict two_legs_verdict intermediary_verdict leg_tied_verdict ties_verdict leg_opposite_verdict opposites_verdict intermediation_verdict sides_verdict unnumbered_verdict closing_verdict on_side_verdict completed_verdict own_verdict verdict step ran day_of
foreign = refl
