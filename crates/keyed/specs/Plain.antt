-- The ranges of the fields of rows from below.
use Rattle.std.specs.Prelude.{Bool, not, ◌&&◌, ◌||◌, ◌==◌}
use Rattle.fields.specs.Ranges.{accounts, is_in_range, issued, numbers, numbers_or_none, participants, quantities}
use Rattle.fields.specs.declared.account.Party.{Party}
use Rattle.fields.specs.declared.trade.Intermediation.{Intermediation}
use Rattle.fields.specs.declared.trade.Pair.{Pair}

abbrev pub good_party : Party → Bool
good_party p = is_in_range participants p.participant && is_in_range participants p.offeror

-- one of the legs at least is there
abbrev pub good_intermediation : Intermediation → Bool
good_intermediation x =
    is_in_range numbers x.id && is_in_range participants x.participant && is_in_range accounts x.account
    && is_in_range numbers_or_none x.bought && is_in_range numbers_or_none x.sold && (not (x.bought == 0) || not (x.sold == 0))

abbrev pub good_pair : Pair → Bool
good_pair p =
    is_in_range issued p.number && is_in_range numbers p.first && is_in_range accounts p.seller && is_in_range numbers p.last && is_in_range accounts p.buyer && is_in_range quantities p.quantity
