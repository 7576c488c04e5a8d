-- One row put in its place.
use Rattle.keyed.proofs.Words.{List, ◌≡◌, ap, map, sym, take, ℕ, ◌∙◌, ◌<◌}
use Rattle.std.proofs.Common.{set}
use Rattle.std.proofs.Math.Seq.{map-set_same, take-set-lt}
use Rattle.std.proofs.lemmas.List.{drop-set-lt, get_or-take, length-set}
use Rattle.rows.specs.Trades.{no_trade, number}
use Rattle.rows.specs.declared.row.Trade.{Trade}
use Rattle.chains.specs.Places.{number_at, row_at}
use Rattle.completing.specs.Edits.{Changed}
use Rattle.completing.proofs.Kept.{set_changed}

pub edited : (count i : ℕ) (f : Trade → Trade) (row : Trade) (ts : List Trade) → i < count → number row ≡ number_at ts i → row ≡ f (row_at ts i) → Changed count i f ts (set ts i row)
edited count i f row ts h k e =
    let read : row_at (take count ts) i ≡ row_at ts i = get_or-take count ts i no_trade h in
    let there = take-set-lt count ts i row h in
    record {
      row = λ n a. λ t. record {
        count = count;
        size = length-set ts i row t;
        rows = (there ∙ set_changed number n i f no_trade row (take count ts) a (e ∙ ap f (sym read))) t;
      };
      numbers = ap (map number) there ∙ map-set_same number (take count ts) i row no_trade (k ∙ ap number (sym read));
      beyond = drop-set-lt count ts i row h;
    }
