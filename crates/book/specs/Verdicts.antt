-- What each request is tested for behind its fields, in the order of the tests. The numbers are those of the grounds.
use Rattle.std.specs.Prelude.{ℕ, ◌+◌, Bool, cond, not, ◌&&◌, ◌||◌, List, [], ◌∷◌, map, length, None, Option, ◌==◌, nat_le, nat_lt}
use Rattle.fields.specs.declared.account.AccountType.{AccountType}
use Rattle.fields.specs.declared.answer.Refusal.{Refusal}
use Rattle.fields.specs.declared.trade.Entry.{Entry}
use Rattle.fields.specs.declared.trade.Intermediation.{Intermediation}
use Rattle.fields.specs.declared.trade.Kind.{Kind}
use Rattle.fields.specs.declared.trade.Pair.{Pair}
use Rattle.fields.specs.declared.trade.Side.{Side}
use Rattle.fields.specs.declared.trade.Side.TheVariants.{Buyer, Seller}
use Rattle.fields.specs.declared.trade.Terms.{Terms}
use Rattle.keyed.specs.Lists.{any, is_some}
use Rattle.keyed.specs.Rows.{Table, find, room, whole}
use Rattle.register.specs.Meaning.{Listed, account_in, tied_in}
use Rattle.requests.specs.declared.request.Closing.{Closing}
use Rattle.requests.specs.declared.request.Request.{Request}
use Rattle.requests.specs.declared.request.Request.TheVariants.{Cancel, Capture, Close, Confirm, ConfirmIntermediation, ExcludeIntermediation, Include, Intermediate, Remove}
use Rattle.rows.specs.Accounts.{active, both_sides_type, intermediation_type, suits}
use Rattle.rows.specs.Allocations.{held, is_confirmed, is_empty, other, total}
use Rattle.rows.specs.Hours.{in_time}
use Rattle.keyed.specs.Plain.{good_intermediation, good_pair}
use Rattle.rows.specs.InUse.{good_trade, stands}
use Rattle.rows.specs.Legs.{any_leg, both_legs, each_leg, has_leg, id, intermediation_in, leg, leg_state, legs_hold}
use Rattle.rows.specs.Trades.{alike, allocation, is_cancelled, number, numbered_in, party, trade_in}
use Rattle.rows.specs.declared.row.AllocationState.{AllocationState}
use Rattle.rows.specs.declared.row.KeptEntry.{KeptEntry}
use Rattle.rows.specs.declared.row.Trade.{Trade}
use Rattle.chains.specs.Following.{chain, tie_in}
use Rattle.book.specs.Entries.{calling, entries_of, has_account, has_client, intermediary, kept_entry, shown}
use Rattle.book.specs.Fields.{fields_verdict}
use Rattle.book.specs.Joining.{apart_in, numbers_in, short_in}
use Rattle.book.specs.Numbering.{by_selic, chain_matches, completed}
use Rattle.book.specs.State.{State, intermediation, trade}
use Rattle.book.specs.Tests.{first_refusal, in_turn, only_if, test}
use Rattle.fields.specs.declared.ground.Ground.TheVariants as ground

-- 4: each table is as long as its count says and within its limit, with every field in use in range, and a keyed one rises
unfoldable pub tables_verdict : Table Trade → Table Intermediation → Table Pair → Option Refusal
tables_verdict trades intermediations pairs = first_refusal (
    test ground.BadTables 0 (stands 4096 number good_trade trades)
    ∷ test ground.BadTables 0 (stands 2048 id good_intermediation intermediations)
    ∷ test ground.BadTables 0 (whole 65536 good_pair pairs) ∷ [])

-- 5, 6, 10, 11: a trade to be captured
unfoldable pub capture_verdict : ℕ → ℕ → Table Trade → Terms → Option Refusal
capture_verdict day minute trades t = first_refusal (
    test ground.TradePresent 0 (not (is_some (find number t.number trades.rows)))
    ∷ test ground.TradesFull 0 (room 4096 1 trades)
    ∷ test ground.SettlesBefore 0 (nat_le day t.settlement)
    ∷ test ground.TooLate 0 (in_time day minute t) ∷ [])

-- 7, 8, 9, 11: the trade with number n
unfoldable pub trade_verdict : ℕ → ℕ → ℕ → List Trade → List Intermediation → ℕ → Option Refusal
trade_verdict place day minute ts xs n = first_refusal (
    test ground.NoTrade place (is_some (find number n ts))
    ∷ test ground.TradeCancelled place (not (is_cancelled (trade_in ts n).state))
    ∷ test ground.BrokenChain place (is_some (chain (tie_in ts) xs n))
    ∷ test ground.TooLate place (in_time day minute (trade_in ts n).terms) ∷ [])

-- 13, 14, 15: a side of the trade, for this caller
unfoldable pub side_verdict : ℕ → ℕ → Side → Trade → Option Refusal
side_verdict place caller w t = first_refusal (
    test ground.NotOwner place ((party w t.terms).participant == caller)
    ∷ test ground.AlreadyConfirmed place (not (is_confirmed (allocation w t).state))
    ∷ test ground.SideTied place ((allocation w t).tie == 0) ∷ [])

-- 16: it holds something
unfoldable pub empty_verdict : AllocationState → Option Refusal
empty_verdict st = first_refusal (test ground.SideEmpty 0 (not (is_empty st)) ∷ [])

-- 17 to 20: the account of an entry for a side of a trade with these terms
unfoldable pub account_verdict : List Listed → ℕ → ℕ → Side → Terms → ℕ → Entry → Option Refusal
account_verdict r day caller w t place e = first_refusal (
    test ground.NoAccount place (is_some (account_in r e.account))
    ∷ test ground.AccountInactive place (active day (shown r e.account))
    ∷ test ground.AccountUnsuited place (suits t.kind (shown r e.account))
    ∷ test ground.AccountUntied place (tied_in r e.account (calling caller w t)) ∷ [])

-- 21, 22: an entry to an account of this type, against those that the other side holds
unfoldable pub opposite_verdict : AccountType → List KeptEntry → ℕ → Entry → Option Refusal
opposite_verdict class across place e = first_refusal (
    test ground.AccountOpposite place (both_sides_type class || not (has_account e.account across))
    ∷ test ground.ClientOpposite place (e.client == 0 || not (has_client e.client across)) ∷ [])

unfoldable pub entry_verdict : List Listed → ℕ → ℕ → Side → Trade → ℕ → Entry → Option Refusal
entry_verdict r day caller w t place e =
    in_turn (account_verdict r day caller w t.terms place e)
    (opposite_verdict (shown r e.account).class (held (allocation (other w) t)) place e)

-- each entry in turn, the first at this place
unfoldable pub entries_verdict : List Listed → ℕ → ℕ → Side → Trade → ℕ → List Entry → Option Refusal
entries_verdict r day caller w t place [] = None
entries_verdict r day caller w t place (e ∷ es) =
    in_turn (entry_verdict r day caller w t place e) (entries_verdict r day caller w t (place + 1) es)

-- 23, 24, 25: the entries together, as asked and as they will be kept; an intermediation account stands alone, and is not confirmed here
unfoldable pub inclusion_verdict : Bool → ℕ → List Entry → List KeptEntry → Option Refusal
inclusion_verdict confirm quantity es kept = first_refusal (
    test ground.WrongSum 0 (total es == quantity)
    ∷ test ground.AmongSeveral 0 (nat_le (length es) 1 || not (any intermediary kept))
    ∷ test ground.OutsideIntermediation 0 (not (confirm && any intermediary kept)) ∷ [])

-- 25: what a side holds is to be confirmed
unfoldable pub outside_verdict : List KeptEntry → Option Refusal
outside_verdict kept = first_refusal (test ground.OutsideIntermediation 0 (not (any intermediary kept)) ∷ [])

-- 32, 33: numbers and rows for the pairs of the chain that is to be numbered, if there is one
unfoldable pub numbers_verdict : List Trade → List ℕ → List ℕ → Table Pair → Option Refusal
numbers_verdict [] selic control pairs = None
numbers_verdict (t ∷ c) selic control pairs = first_refusal (
    test ground.TooFewNumbers 0 (nat_le (length (chain_matches (t ∷ c))) (length (cond (by_selic (t ∷ c)) selic control)))
    ∷ test ground.PairsFull 0 (room 65536 (length (chain_matches (t ∷ c))) pairs) ∷ [])

-- 26, 27: the id of a new intermediation
unfoldable pub id_verdict : Table Intermediation → ℕ → Option Refusal
id_verdict intermediations n = first_refusal (
    test ground.IntermediationPresent 0 (not (is_some (find id n intermediations.rows)))
    ∷ test ground.IntermediationsFull 0 (room 2048 1 intermediations) ∷ [])

-- a test of each leg that is there, the bought one first, with 1 for its place, and then the sold one with 2
abbrev pub each_leg_verdict : Intermediation → (ℕ → Side → Option Refusal) → Option Refusal
each_leg_verdict x v = in_turn (only_if (has_leg Buyer x) (v 1 Buyer)) (only_if (has_leg Seller x) (v 2 Seller))

-- 7, 8, 9, 11, 13, 14, 15 for each leg
unfoldable pub leg_verdict : ℕ → ℕ → List Trade → List Intermediation → Intermediation → ℕ → Side → Option Refusal
leg_verdict day minute ts xs x place w =
    in_turn (trade_verdict place day minute ts xs (leg w x)) (side_verdict place x.participant w (trade_in ts (leg w x)))

unfoldable pub legs_verdict : ℕ → ℕ → List Trade → List Intermediation → Intermediation → Option Refusal
legs_verdict day minute ts xs x = each_leg_verdict x (leg_verdict day minute ts xs x)

-- 29, 30: two legs; the sold trade is not in the bought one's chain, and the two chains have at most three trades together
unfoldable pub two_legs_verdict : List Trade → List Intermediation → ℕ → ℕ → Option Refusal
two_legs_verdict ts xs bought sold = first_refusal (
    test ground.LegsDiffer 0 (alike (trade_in ts bought).terms (trade_in ts sold).terms)
    ∷ test ground.ChainTooLong 0 (apart_in ts xs bought sold && short_in ts xs bought sold) ∷ [])

-- 17, 18, 19: the account of an intermediation
unfoldable pub intermediary_verdict : List Listed → ℕ → Kind → ℕ → Option Refusal
intermediary_verdict r day kind code = first_refusal (
    test ground.NoAccount 0 (is_some (account_in r code))
    ∷ test ground.AccountInactive 0 (active day (shown r code))
    ∷ test ground.AccountUnsuited 0 (suits kind (shown r code) && intermediation_type (shown r code).class) ∷ [])

-- 20 for each leg
unfoldable pub leg_tied_verdict : List Listed → List Trade → Intermediation → ℕ → Side → Option Refusal
leg_tied_verdict r ts x place w = first_refusal (
    test ground.AccountUntied place (tied_in r x.account (calling x.participant w (trade_in ts (leg w x)).terms)) ∷ [])

unfoldable pub ties_verdict : List Listed → List Trade → Intermediation → Option Refusal
ties_verdict r ts x = each_leg_verdict x (leg_tied_verdict r ts x)

-- 21 for each leg; an intermediation account may never stand on both sides
unfoldable pub leg_opposite_verdict : List Trade → Intermediation → ℕ → Side → Option Refusal
leg_opposite_verdict ts x place w = first_refusal (
    test ground.AccountOpposite place (not (has_account x.account (held (allocation (other w) (trade_in ts (leg w x)))))) ∷ [])

unfoldable pub opposites_verdict : List Trade → Intermediation → Option Refusal
opposites_verdict ts x = each_leg_verdict x (leg_opposite_verdict ts x)

-- 28, 13, 9, 11: the intermediation with this id
unfoldable pub intermediation_verdict : ℕ → ℕ → ℕ → List Trade → List Intermediation → ℕ → Option Refusal
intermediation_verdict day minute caller ts xs n = first_refusal (
    test ground.NoIntermediation 0 (is_some (find id n xs))
    ∷ test ground.NotOwner 0 ((intermediation_in xs n).participant == caller)
    ∷ test ground.BrokenChain 0 (legs_hold ts (intermediation_in xs n) && is_some (chain (tie_in ts) xs (any_leg (intermediation_in xs n))))
    ∷ test ground.TooLate 0 (each_leg (λ w. in_time day minute (trade_in ts (leg w (intermediation_in xs n))).terms) (intermediation_in xs n)) ∷ [])

-- 14, 16: its sides
unfoldable pub sides_verdict : List Trade → Intermediation → Option Refusal
sides_verdict ts x = first_refusal (
    test ground.AlreadyConfirmed 0 (each_leg (λ w. not (is_confirmed (leg_state ts x w))) x)
    ∷ test ground.SideEmpty 0 (each_leg (λ w. not (is_empty (leg_state ts x w))) x) ∷ [])

-- 31: no trade of its chain is numbered
unfoldable pub unnumbered_verdict : List Trade → List Intermediation → ℕ → Option Refusal
unnumbered_verdict ts xs n = first_refusal (test ground.ChainNumbered 0 (not (any (numbered_in ts) (numbers_in ts xs n))) ∷ [])

-- 12: late enough, and to a later day
unfoldable pub closing_verdict : ℕ → Closing → Option Refusal
closing_verdict day q = first_refusal (test ground.NoClosing 0 (nat_le 1201 q.minute && nat_lt day q.day) ∷ [])

-- 7, 8, 9, 11, 13, 14, 15: the trade with number n, and a side of it
unfoldable pub on_side_verdict : ℕ → ℕ → ℕ → List Trade → List Intermediation → ℕ → Side → Option Refusal
on_side_verdict day minute caller ts xs n w =
    in_turn (trade_verdict 0 day minute ts xs n) (side_verdict 0 caller w (trade_in ts n))

-- 32, 33 for the chain that the request completes
unfoldable pub completed_verdict : List Listed → State → Request → Option Refusal
completed_verdict r s q = numbers_verdict (completed r s q) s.selic s.control s.pairs

-- the tests of each request behind 2 and 4
unfoldable pub own_verdict : List Listed → State → Request → Option Refusal
own_verdict r s (Capture q) = capture_verdict s.day q.minute s.trades q.terms
own_verdict r s (Cancel q) = trade_verdict 0 s.day q.minute s.trades.rows s.intermediations.rows q.trade
own_verdict r s (Include q) =
    in_turn (on_side_verdict s.day q.minute q.participant s.trades.rows s.intermediations.rows q.trade q.side)
    (in_turn (entries_verdict r s.day q.participant q.side (trade s q.trade) 1 (entries_of q))
    (in_turn (inclusion_verdict q.now (trade s q.trade).terms.quantity (entries_of q) (map (kept_entry r) (entries_of q)))
    (completed_verdict r s (Include q))))
own_verdict r s (Remove q) =
    in_turn (on_side_verdict s.day q.minute q.participant s.trades.rows s.intermediations.rows q.trade q.side)
    (empty_verdict (allocation q.side (trade s q.trade)).state)
own_verdict r s (Confirm q) =
    in_turn (on_side_verdict s.day q.minute q.participant s.trades.rows s.intermediations.rows q.trade q.side)
    (in_turn (empty_verdict (allocation q.side (trade s q.trade)).state)
    (in_turn (outside_verdict (held (allocation q.side (trade s q.trade))))
    (completed_verdict r s (Confirm q))))
own_verdict r s (Intermediate q) =
    in_turn (id_verdict s.intermediations q.intermediation.id)
    (in_turn (legs_verdict s.day q.minute s.trades.rows s.intermediations.rows q.intermediation)
    (in_turn (only_if (both_legs q.intermediation) (two_legs_verdict s.trades.rows s.intermediations.rows q.intermediation.bought q.intermediation.sold))
    (in_turn (intermediary_verdict r s.day (trade s (any_leg q.intermediation)).terms.kind q.intermediation.account)
    (in_turn (ties_verdict r s.trades.rows q.intermediation)
    (in_turn (opposites_verdict s.trades.rows q.intermediation)
    (completed_verdict r s (Intermediate q)))))))
own_verdict r s (ConfirmIntermediation q) =
    in_turn (intermediation_verdict s.day q.minute q.participant s.trades.rows s.intermediations.rows q.id)
    (in_turn (sides_verdict s.trades.rows (intermediation s q.id))
    (completed_verdict r s (ConfirmIntermediation q)))
own_verdict r s (ExcludeIntermediation q) =
    in_turn (intermediation_verdict s.day q.minute q.participant s.trades.rows s.intermediations.rows q.id)
    (unnumbered_verdict s.trades.rows s.intermediations.rows (any_leg (intermediation s q.id)))
own_verdict r s (Close q) = closing_verdict s.day q

-- all tests of a request: its fields, the tables, its own
unfoldable pub verdict : List Listed → State → Request → Option Refusal
verdict r s q =
    in_turn (fields_verdict q) (in_turn (tables_verdict s.trades s.intermediations s.pairs) (own_verdict r s q))
