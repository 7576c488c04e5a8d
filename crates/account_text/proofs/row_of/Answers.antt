use Rattle.std.proofs.Common.{eqb, rules}
use Rattle.std.proofs.lemmas.Iterator.Consumers.{YieldsList-from_first, YieldsList-from_filter_map, YieldsList-at}
use Rattle.std.proofs.lemmas.Iterator.Search.{find_from_yields_List}
use borrow.Author.Tests.{tests}
use Rattle.text.specs.Fields.{lines}
use Rattle.accounts.specs.Rows.{row_code}
use Rattle.account_text.proofs.Found.{good_of, row_found}
use Rattle.account_text.proofs.row_of.Goals as goal

pub returns : goal.returns
returns c =
    let code = c.args.code in
    let bytes = c.args.bytes.now in
    row_found code bytes c.find.result
    (find_from_yields_List (λ r. eqb (row_code r) code) _ _ _ c.find.ensures.ran
    (YieldsList-from_filter_map _ good_of (YieldsList-at c.filter_map.ensures.source (YieldsList-from_first (λ x. x.now) (λ s. s) (lines bytes) c.new.ensures.value)) c.filter_map.ensures.closure (λ x r q k. search (rules, tests)))
    (λ x b q k. search (rules, tests)))
