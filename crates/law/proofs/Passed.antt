-- What is known of a request that was accepted: the tests that the law rests on, by name.
use Rattle.keyed.proofs.Words.{Bool, cond, false, not, true, ◌||◌, List, [], map, ◌∷◌, ap, refl, subst, sym, ◌≡◌, ℕ, ◌+◌, ◌≤◌, arith, eqb, length, and_parts, eqb-true, ne_eqb, not-true, false≢true, Option, None, Some}
use Rattle.law.proofs.Subject.{is_in_range, numbers, quantities, numbers_or_none, Refusal, Entry, Intermediation, Side, Buyer, Seller, Terms, all, any, is_some, Each, Table, find, rises_above, Listed, account_in, tied_in, Inclusion, IntermediationCall, NewIntermediation, NewTrade, Request, Cancel, Capture, Close, Confirm, ConfirmIntermediation, ExcludeIntermediation, Include, Intermediate, Remove, SideCall, active, suits, is_confirmed, is_empty, total, good_intermediation, good_trade, any_leg, both_legs, each_leg, has_leg, id, leg, alike, allocation, is_cancelled, number, numbered_in, party, trade_in, AllocationState, Trade, matched, entries_of, kept_entry, no_account, shown, fields_verdict, apart_in, numbers_in, short_in, chain_matches, completed, issuer, State, intermediation, trade, in_turn, only_if, account_verdict, capture_verdict, completed_verdict, each_leg_verdict, empty_verdict, entries_verdict, entry_verdict, id_verdict, inclusion_verdict, intermediary_verdict, intermediation_verdict, leg_tied_verdict, leg_verdict, legs_verdict, numbers_verdict, on_side_verdict, own_verdict, side_verdict, sides_verdict, tables_verdict, ties_verdict, trade_verdict, two_legs_verdict, unnumbered_verdict, verdict, Entitled}
use Rattle.std.proofs.lemmas.Bool.{leb-true}
use Rattle.fields.specs.declared.account.Party.{Party}
use Rattle.fields.specs.declared.range.Range.{Range}
use Rattle.keyed.proofs.Lists.{none_some, some_of}
use Rattle.keyed.specs.Rows.{whole}
use Rattle.rows.specs.InUse.{stands}
use Rattle.rows.specs.Legs.{leg_state}
use Rattle.chains.proofs.Matches.{Positive}
use Rattle.chains.proofs.Walk.{Not0}
use Rattle.std.proofs.Common.{Ok, Err, Result}
use Rattle.requests.specs.Tests.{entry_tests, field_tests, fields_pass, side_call_tests, sold_range}
use Rattle.requests.proofs.Tested.{AllIn, all_in}
use Rattle.book.specs.Fields.{as_verdict}
use Rattle.book.specs.Entries.{calling}

-- ── Verdicts ──

pub passed : (b : Bool) (v : Option Refusal) (f : Refusal) → cond b v (Some f) ≡ None → (b ≡ true) × (v ≡ None)
passed true v f e = (refl, e)
passed false v f e = absurd (none_some f (sym e))

pub both_turns : (a b : Option Refusal) → in_turn a b ≡ None → (a ≡ None) × (b ≡ None)
both_turns None b e = (refl, e)
both_turns (Some f) b e = absurd (none_some f (sym e))

pub asked_for : (b : Bool) (v : Option Refusal) → only_if b v ≡ None → b ≡ true → v ≡ None
asked_for true v e h = e
asked_for false v e h = absurd (false≢true h)

pub implies : (a b : Bool) → (not a || b) ≡ true → a ≡ true → b ≡ true
implies true b h e = h
implies false b h e = absurd (false≢true e)

pub each_leg_of : (q : Side → Bool) (x : Intermediation) → each_leg q x ≡ true → (w : Side) → has_leg w x ≡ true → q w ≡ true
each_leg_of q x h Buyer e = implies (has_leg Buyer x) (q Buyer) (and_parts _ _ h).0 e
each_leg_of q x h Seller e = implies (has_leg Seller x) (q Seller) (and_parts _ _ h).1 e

pub leg_passed : (x : Intermediation) (v : ℕ → Side → Option Refusal) → each_leg_verdict x v ≡ None
    → (w : Side) → has_leg w x ≡ true → (place : ℕ) × (v place w ≡ None)
leg_passed x v e Buyer h = (1, asked_for (has_leg Buyer x) (v 1 Buyer) (both_turns _ _ e).0 h)
leg_passed x v e Seller h = (2, asked_for (has_leg Seller x) (v 2 Seller) (both_turns _ _ e).1 h)

pub at_least : (r : Range) (n : ℕ) → is_in_range r n ≡ true → r.least ≤ n
at_least r n h = leb-true r.least n (and_parts _ _ h).0

pub good_not0 : (n : ℕ) → is_in_range numbers n ≡ true → Not0 n
good_not0 n h e = let l : 1 ≤ n = at_least numbers n h in absurd (omega arith)

pub leg_is_there : (w : Side) (x : Intermediation) → Not0 (leg w x) → has_leg w x ≡ true
leg_is_there w x z = ap not (ne_eqb _ _ z)

-- ── Tables ──

pub record Tables (s : State) : Type 0 where
  pub trades : all good_trade s.trades.rows ≡ true
  pub intermediations : all good_intermediation s.intermediations.rows ≡ true
  pub numbers_rise : rises_above number 0 s.trades.rows ≡ true
  pub ids_rise : rises_above id 0 s.intermediations.rows ≡ true

standing : {R : Type 0} (limit : ℕ) (key : R → ℕ) (good : R → Bool) (t : Table R) → stands limit key good t ≡ true → (all good t.rows ≡ true) × (rises_above key 0 t.rows ≡ true)
unfolding stands whole
standing limit key good t h = let p = and_parts _ _ h in ((and_parts _ _ p.0).1, p.1)

pub tables_passed : (s : State) → tables_verdict s.trades s.intermediations s.pairs ≡ None → Tables s
unfolding tables_verdict
tables_passed s e =
    let a = passed _ _ _ e in
    let b = passed _ _ _ a.1 in
    let t = standing 4096 number good_trade s.trades a.0 in
    let x = standing 2048 id good_intermediation s.intermediations b.0 in
    record { trades = t.0; intermediations = x.0; numbers_rise = t.1; ids_rise = x.1 }

-- ── A trade, and a side of it ──

pub record Stands (s : State) (n : ℕ) : Type 0 where
  pub here : is_some (find number n s.trades.rows) ≡ true
  pub open_still : not (is_cancelled (trade s n).state) ≡ true

trade_passed : (s : State) (place minute n : ℕ) → trade_verdict place s.day minute s.trades.rows s.intermediations.rows n ≡ None → Stands s n
unfolding trade_verdict
trade_passed s place minute n e = let a = passed _ _ _ e in record { here = a.0; open_still = (passed _ _ _ a.1).0 }

pub record Free (s : State) (caller : ℕ) (w : Side) (n : ℕ) : Type 0 where
  pub trade : Stands s n
  pub owner : (party w (trade_in s.trades.rows n).terms).participant ≡ caller
  pub unsure : is_confirmed (allocation w (trade_in s.trades.rows n)).state ≡ false
  pub untied : (allocation w (trade_in s.trades.rows n)).tie ≡ 0

side_passed : (s : State) (place minute caller : ℕ) (w : Side) (n : ℕ) → trade_verdict place s.day minute s.trades.rows s.intermediations.rows n ≡ None
    → side_verdict place caller w (trade s n) ≡ None → Free s caller w n
unfolding side_verdict
side_passed s place minute caller w n t e =
    let a = passed _ _ _ e in
    let b = passed _ _ _ a.1 in
    record { trade = trade_passed s place minute n t; owner = eqb-true _ _ a.0; unsure = not-true _ b.0; untied = eqb-true _ _ (passed _ _ _ b.1).0 }

on_side_passed : (s : State) (minute caller n : ℕ) (w : Side) → on_side_verdict s.day minute caller s.trades.rows s.intermediations.rows n w ≡ None → Free s caller w n
unfolding on_side_verdict
on_side_passed s minute caller n w e = let p = both_turns _ _ e in side_passed s 0 minute caller w n p.0 p.1

-- each number of the request is in its range
fields_in : (q : Request) → fields_verdict q ≡ None → AllIn (field_tests q)
unfolding fields_verdict
fields_in q e = all_in (field_tests q) (go (fields_pass q) e)
  where
    go : (a : Result (Unit {0}) Refusal) → as_verdict a ≡ None → a ≡ Ok tt
    go (Ok _) h = refl
    go (Err f) h = absurd (none_some f (sym h))

filled_passed : (st : AllocationState) → empty_verdict st ≡ None → is_empty st ≡ false
unfolding empty_verdict
filled_passed st e = not-true _ (passed _ _ _ e).0

-- ── Numbers for the pairs ──

abbrev pub Enough : List Listed → State → Request → Type 0
Enough r s q = length (chain_matches (completed r s q)) ≤ length (issuer (completed r s q) s)

numbers_passed : (c : List Trade) (s : State) → numbers_verdict c s.selic s.control s.pairs ≡ None → length (chain_matches c) ≤ length (issuer c s)
unfolding numbers_verdict matched
numbers_passed [] s e = omega arith
numbers_passed (t ∷ c) s e = leb-true _ _ (passed _ _ _ e).0

enough : (r : List Listed) (s : State) (q : Request) → completed_verdict r s q ≡ None → Enough r s q
unfolding completed_verdict
enough r s q e = numbers_passed (completed r s q) s e

-- ── Each request ──

pub record Captures (s : State) (q : NewTrade) : Type 0 where
  pub number_is : Not0 q.terms.number
  pub absent : is_some (find number q.terms.number s.trades.rows) ≡ false

capture_passed : (s : State) (q : NewTrade) → AllIn (field_tests (Capture q)) → capture_verdict s.day q.minute s.trades q.terms ≡ None → Captures s q
unfolding capture_verdict
capture_passed s q f e = record { number_is = good_not0 q.terms.number f.1.0; absent = not-true _ (passed _ _ _ e).0 }

pub record Includes (r : List Listed) (s : State) (q : Inclusion) : Type 0 where
  pub number_is : Not0 q.trade
  pub free : Free s q.participant q.side q.trade
  pub positive : Positive (entries_of q)
  pub entitled : Each (Entitled r s.day (trade s q.trade).terms q.side) (map (kept_entry r) (entries_of q))
  pub sums : total (entries_of q) ≡ (trade s q.trade).terms.quantity
  pub enough : Enough r s (Include q)

entries_positive : (place : ℕ) (es : List Entry) → AllIn (entry_tests place es) → Positive es
entries_positive place [] h = tt
entries_positive place (e ∷ es) h = (at_least quantities e.quantity h.1.0, entries_positive (place + 3) es h.1.1.1)

pub calling_is : (caller : ℕ) (w : Side) (t : Terms) → (party w t).participant ≡ caller → calling caller w t ≡ party w t
calling_is caller w t e = ap (λ (c : ℕ). let x : Party = record { participant = c; offeror = (party w t).offeror } in x) (sym e)

entries_entitled : (r : List Listed) (day caller : ℕ) (w : Side) (t : Trade) (place : ℕ) (es : List Entry) → (party w t.terms).participant ≡ caller
    → entries_verdict r day caller w t place es ≡ None → Each (Entitled r day t.terms w) (map (kept_entry r) es)
unfolding entries_verdict entry_verdict account_verdict
entries_entitled r day caller w t place [] own h = tt
entries_entitled r day caller w t place (e ∷ es) own h =
    let p = both_turns _ _ h in
    let a = passed _ _ _ (both_turns _ _ p.0).0 in
    let b = passed _ _ _ a.1 in
    let c = passed _ _ _ b.1 in (
      record {
        account = shown r e.account;
        listed = some_of no_account (account_in r e.account) a.0;
        active_then = b.0;
        suited = c.0;
        tied = subst (λ x. tied_in r e.account x ≡ true) (calling_is caller w t.terms own) (passed _ _ _ c.1).0;
        type_kept = refl;
      },
      entries_entitled r day caller w t (place + 1) es own p.1,
    )

include_passed : (r : List Listed) (s : State) (q : Inclusion) → AllIn (field_tests (Include q)) → own_verdict r s (Include q) ≡ None → Includes r s q
unfolding own_verdict inclusion_verdict
include_passed r s q f e =
    let a = both_turns _ _ e in
    let b = both_turns _ _ a.1 in
    let c = both_turns _ _ b.1 in
    let side = on_side_passed s q.minute q.participant q.trade q.side a.0 in
    record {
      number_is = good_not0 q.trade f.1.1.0;
      free = side;
      positive = entries_positive 8 (entries_of q) f.1.1.1.1;
      entitled = entries_entitled r s.day q.participant q.side (trade s q.trade) 1 (entries_of q) side.owner b.0;
      sums = eqb-true _ _ (passed _ _ _ c.0).0;
      enough = enough r s (Include q) c.1;
    }

pub record Confirms (r : List Listed) (s : State) (q : SideCall) : Type 0 where
  pub number_is : Not0 q.trade
  pub free : Free s q.participant q.side q.trade
  pub holds : is_empty (allocation q.side (trade s q.trade)).state ≡ false
  pub enough : Enough r s (Confirm q)

confirm_passed : (r : List Listed) (s : State) (q : SideCall) → AllIn (side_call_tests q) → own_verdict r s (Confirm q) ≡ None → Confirms r s q
unfolding own_verdict
confirm_passed r s q f e =
    let a = both_turns _ _ e in
    let b = both_turns _ _ a.1 in
    record {
      number_is = good_not0 q.trade f.1.1.0;
      free = on_side_passed s q.minute q.participant q.trade q.side a.0;
      holds = filled_passed _ b.0;
      enough = enough r s (Confirm q) (both_turns _ _ b.1).1;
    }

pub record Intermediates (r : List Listed) (s : State) (q : NewIntermediation) : Type 0 where
  pub id_is : Not0 q.intermediation.id
  pub some_leg : (has_leg Buyer q.intermediation || has_leg Seller q.intermediation) ≡ true
  pub absent : is_some (find id q.intermediation.id s.intermediations.rows) ≡ false
  pub free : (w : Side) → has_leg w q.intermediation ≡ true → Free s q.intermediation.participant w (leg w q.intermediation)
  pub alike_legs : both_legs q.intermediation ≡ true → alike (trade s q.intermediation.bought).terms (trade s q.intermediation.sold).terms ≡ true
  pub apart : both_legs q.intermediation ≡ true → any (λ n. eqb n q.intermediation.sold) (numbers_in s.trades.rows s.intermediations.rows q.intermediation.bought) ≡ false
  pub short : both_legs q.intermediation ≡ true
      → length (numbers_in s.trades.rows s.intermediations.rows q.intermediation.bought) + length (numbers_in s.trades.rows s.intermediations.rows q.intermediation.sold) ≤ 3
  pub listed : is_some (account_in r q.intermediation.account) ≡ true
  pub awake : active s.day (shown r q.intermediation.account) ≡ true
  pub suited : suits (trade s (any_leg q.intermediation)).terms.kind (shown r q.intermediation.account) ≡ true
  pub tied : (w : Side) → has_leg w q.intermediation ≡ true
      → tied_in r q.intermediation.account (calling q.intermediation.participant w (trade s (leg w q.intermediation)).terms) ≡ true
  pub enough : Enough r s (Intermediate q)

leg_free : (s : State) (minute : ℕ) (x : Intermediation) → legs_verdict s.day minute s.trades.rows s.intermediations.rows x ≡ None
    → (w : Side) → has_leg w x ≡ true → Free s x.participant w (leg w x)
unfolding legs_verdict leg_verdict
leg_free s minute x e w h =
    let l = leg_passed x (leg_verdict s.day minute s.trades.rows s.intermediations.rows x) e w h in
    let p = both_turns _ _ l.1 in
    side_passed s l.0 minute x.participant w (leg w x) p.0 p.1

leg_tied : (r : List Listed) (ts : List Trade) (x : Intermediation) → ties_verdict r ts x ≡ None → (w : Side) → has_leg w x ≡ true
    → tied_in r x.account (calling x.participant w (trade_in ts (leg w x)).terms) ≡ true
unfolding ties_verdict leg_tied_verdict
leg_tied r ts x e w h = (passed _ _ _ (leg_passed x (leg_tied_verdict r ts x) e w h).1).0

two_legs_passed : (ts : List Trade) (xs : List Intermediation) (n m : ℕ) → two_legs_verdict ts xs n m ≡ None
    → (alike (trade_in ts n).terms (trade_in ts m).terms ≡ true) × (any (λ k. eqb k m) (numbers_in ts xs n) ≡ false) × (length (numbers_in ts xs n) + length (numbers_in ts xs m) ≤ 3)
unfolding two_legs_verdict
two_legs_passed ts xs n m e =
    let a = passed _ _ _ e in
    let k = and_parts (apart_in ts xs n m) (short_in ts xs n m) (passed _ _ _ a.1).0 in
    (a.0, not-true _ k.0, leb-true _ _ k.1)

-- both legs 0 is no range of the sold one
some_leg_in : (bought sold : ℕ) → is_in_range (sold_range bought) sold ≡ true → (not (eqb bought 0) || not (eqb sold 0)) ≡ true
some_leg_in bought sold h =
    let P : Bool → Type 0 = λ t. is_in_range (cond t numbers numbers_or_none) sold ≡ true → (not t || not (eqb sold 0)) ≡ true in
    (elim (eqb bought 0) as P [ true ↦ λ k. ap not (ne_eqb sold 0 (good_not0 sold k)) | false ↦ λ k. refl ]) h

intermediate_passed : (r : List Listed) (s : State) (q : NewIntermediation) → AllIn (field_tests (Intermediate q)) → own_verdict r s (Intermediate q) ≡ None → Intermediates r s q
unfolding own_verdict id_verdict intermediary_verdict
intermediate_passed r s q f e =
    let x = q.intermediation in
    let a = both_turns _ _ e in
    let b = both_turns _ _ a.1 in
    let c = both_turns _ _ b.1 in
    let d = both_turns _ _ c.1 in
    let g = both_turns _ _ d.1 in
    let i = passed _ _ _ d.0 in
    let j = passed _ _ _ i.1 in
    record {
      id_is = good_not0 x.id f.1.1.0;
      some_leg = some_leg_in x.bought x.sold f.1.1.1.1.1.0;
      absent = not-true _ (passed _ _ _ a.0).0;
      free = leg_free s q.minute x b.0;
      alike_legs = λ h. (two_legs_passed s.trades.rows s.intermediations.rows x.bought x.sold (asked_for (both_legs x) _ c.0 h)).0;
      apart = λ h. (two_legs_passed s.trades.rows s.intermediations.rows x.bought x.sold (asked_for (both_legs x) _ c.0 h)).1;
      short = λ h. (two_legs_passed s.trades.rows s.intermediations.rows x.bought x.sold (asked_for (both_legs x) _ c.0 h)).2;
      listed = i.0;
      awake = j.0;
      suited = (and_parts _ _ (passed _ _ _ j.1).0).0;
      tied = leg_tied r s.trades.rows x g.0;
      enough = enough r s (Intermediate q) (both_turns _ _ g.1).1;
    }

pub record ConfirmsBoth (r : List Listed) (s : State) (q : IntermediationCall) : Type 0 where
  pub here : is_some (find id q.id s.intermediations.rows) ≡ true
  pub unsure : (w : Side) → has_leg w (intermediation s q.id) ≡ true → is_confirmed (leg_state s.trades.rows (intermediation s q.id) w) ≡ false
  pub holds : (w : Side) → has_leg w (intermediation s q.id) ≡ true → is_empty (leg_state s.trades.rows (intermediation s q.id) w) ≡ false
  pub enough : Enough r s (ConfirmIntermediation q)

intermediation_here : (day minute caller : ℕ) (ts : List Trade) (xs : List Intermediation) (n : ℕ) → intermediation_verdict day minute caller ts xs n ≡ None → is_some (find id n xs) ≡ true
unfolding intermediation_verdict
intermediation_here day minute caller ts xs n e = (passed _ _ _ e).0

sides_passed : (ts : List Trade) (x : Intermediation) → sides_verdict ts x ≡ None → (w : Side) → has_leg w x ≡ true
    → (is_confirmed (leg_state ts x w) ≡ false) × (is_empty (leg_state ts x w) ≡ false)
unfolding sides_verdict
sides_passed ts x e w h =
    let a = passed _ _ _ e in (
      not-true _ (each_leg_of (λ v. not (is_confirmed (leg_state ts x v))) x a.0 w h),
      not-true _ (each_leg_of (λ v. not (is_empty (leg_state ts x v))) x (passed _ _ _ a.1).0 w h),
    )

confirm_both_passed : (r : List Listed) (s : State) (q : IntermediationCall) → own_verdict r s (ConfirmIntermediation q) ≡ None → ConfirmsBoth r s q
unfolding own_verdict
confirm_both_passed r s q e =
    let a = both_turns _ _ e in
    let b = both_turns _ _ a.1 in
    let sides = sides_passed s.trades.rows (intermediation s q.id) b.0 in
    record {
      here = intermediation_here s.day q.minute q.participant s.trades.rows s.intermediations.rows q.id a.0;
      unsure = λ w h. (sides w h).0;
      holds = λ w h. (sides w h).1;
      enough = enough r s (ConfirmIntermediation q) b.1;
    }

pub record Excludes (s : State) (q : IntermediationCall) : Type 0 where
  pub here : is_some (find id q.id s.intermediations.rows) ≡ true
  pub unnumbered : any (numbered_in s.trades.rows) (numbers_in s.trades.rows s.intermediations.rows (any_leg (intermediation s q.id))) ≡ false

exclude_passed : (r : List Listed) (s : State) (q : IntermediationCall) → own_verdict r s (ExcludeIntermediation q) ≡ None → Excludes s q
unfolding own_verdict unnumbered_verdict
exclude_passed r s q e =
    let a = both_turns _ _ e in
    record {
      here = intermediation_here s.day q.minute q.participant s.trades.rows s.intermediations.rows q.id a.0;
      unnumbered = not-true _ (passed _ _ _ a.1).0;
    }

abbrev pub Own : List Listed → State → Request → Type 0
Own r s (Capture q) = Captures s q
Own r s (Cancel q) = Stands s q.trade
Own r s (Include q) = Includes r s q
Own r s (Remove q) = Free s q.participant q.side q.trade
Own r s (Confirm q) = Confirms r s q
Own r s (Intermediate q) = Intermediates r s q
Own r s (ConfirmIntermediation q) = ConfirmsBoth r s q
Own r s (ExcludeIntermediation q) = Excludes s q
Own r s (Close q) = Unit {0}

own_passed : (r : List Listed) (s : State) (q : Request) → AllIn (field_tests q) → own_verdict r s q ≡ None → Own r s q
unfolding own_verdict
own_passed r s (Capture q) f e = capture_passed s q f e
own_passed r s (Cancel q) f e = trade_passed s 0 q.minute q.trade e
own_passed r s (Include q) f e = include_passed r s q f e
own_passed r s (Remove q) f e = on_side_passed s q.minute q.participant q.trade q.side (both_turns _ _ e).0
own_passed r s (Confirm q) f e = confirm_passed r s q f e
own_passed r s (Intermediate q) f e = intermediate_passed r s q f e
own_passed r s (ConfirmIntermediation q) f e = confirm_both_passed r s q e
own_passed r s (ExcludeIntermediation q) f e = exclude_passed r s q e
own_passed r s (Close q) f e = tt

pub record Passed (r : List Listed) (s : State) (q : Request) : Type 0 where
  pub tables : Tables s
  pub own : Own r s q

pub all_passed : (r : List Listed) (s : State) (q : Request) → verdict r s q ≡ None → Passed r s q
unfolding verdict
all_passed r s q e =
    let a = both_turns _ _ e in
    let b = both_turns _ _ a.1 in
    record { tables = tables_passed s b.0; own = own_passed r s q (fields_in q a.0) b.1 }
