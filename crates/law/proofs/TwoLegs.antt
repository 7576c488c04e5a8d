-- Requests for an intermediation, and a cancellation.
use Rattle.keyed.proofs.Words.{Bool, true, false, cond, ◌&&◌, ◌||◌, List, [], ◌∷◌, map, ⊎_elim, ◌≡◌, refl, sym, ap, ap₂, subst, ◌∙◌, ℕ, ◌<◌, arith, eqb, cases_Bool, and_parts, and_from, Option, Some, None}
use Rattle.law.proofs.Subject.{Answer, Written, Marked, Entry, Intermediation, Side, Buyer, Seller, Terms, or_else, is_some, those, any, find, changed, removed, rises_above, Listed, account_in, tied_in, Cancellation, IntermediationCall, NewIntermediation, Cancel, Intermediate, ConfirmIntermediation, ExcludeIntermediation, active, suits, held, is_empty, confirmed, total, no_intermediation, id, leg, has_leg, number, allocation, party, no_trade, both_confirmed, Allocation, Empty, Confirmed, KeptEntry, Trade, trade_in, excluded, cancelled, placed, called_off, marked, whole_entry, kept_entry, shown, no_account, intermediated, reply, State, trade, intermediation, at_trade, as_plain, Chains, touched, Plain, plain_number, side_now, all_gone, names, fed, filled_as, holds_side, Filling, terms_in, empties, fills, leaves}
use Rattle.keyed.proofs.Keys.{seen_kept, each_changed, map_changed, length_changed}
use Rattle.keyed.proofs.Lists.{some_of, none_some}
use Rattle.rows.proofs.Sides.{held_filled, filled_state, same_kinds}
use Rattle.law.proofs.Fair.{Adds, Sided, Fair, plain_number_is, by, by_number, there_left, terms_left, terms_known}
use Rattle.law.proofs.Legs.{none_left, fair_o, on_leg, confirm_leg, fill_leg, enter_row, gone_if, holds_if, clear, excluded_fair, excluded_zero, excluded_rows, cancelled_fair}
use Rattle.law.proofs.OneTrade.{next}
use Rattle.law.proofs.Passed.{ConfirmsBoth, Intermediates, Stands, calling_is}
use Rattle.law.proofs.Picks.{those_same, any_same, picks, picked_gone, picked_any, passes_if, one_gone, one_any, names_picks}
use Rattle.law.specs.Plain.{sides_of_now}

emptied_if : (b : Bool) (r : List Listed) (day : ℕ) (m : Terms) (o : Option Filling) → cond b None o ≡ touched (cond b empties leaves) r day m o
emptied_if true r day m o = refl
emptied_if false r day m o = refl

filled_if : (b : Bool) (es : List Entry) (r : List Listed) (day : ℕ) (m : Terms) (o : Option Filling)
    → cond b (Some (record { entries = es; register = r; day = day; terms = m })) o ≡ touched (cond b (fills es) leaves) r day m o
filled_if true es r day m o = refl
filled_if false es r day m o = refl

holds_passes : (x : Option Intermediation) (w : Side) (n : ℕ) → holds_if x w n ≡ passes_if (holds_side w n) x
holds_passes None w n = refl
holds_passes (Some x) w n = refl

changed_same : {Q : Type 0} (key : Q → ℕ) (n : ℕ) (xs : List Q) → changed key n (λ x. x) xs ≡ xs
changed_same key n [] = refl
changed_same key n (x ∷ xs) = elim (eqb (key x) n) as (λ b. cond b (x ∷ xs) (x ∷ changed key n (λ y. y) xs) ≡ x ∷ xs) [ true ↦ refl | false ↦ ap (λ ys. x ∷ ys) (changed_same key n xs) ]

marked_adds : (w : Side) (t : Trade) → Adds w t → Adds w (marked t)
marked_adds Buyer t a = a
marked_adds Seller t a = a

marked_holds : (w : Side) (t : Trade) → held (allocation w (marked t)) ≡ held (allocation w t)
marked_holds Buyer t = refl
marked_holds Seller t = refl

marked_fair : (p : Plain) (o : Side → ℕ → Option Filling) (s : State) → Fair p o s → (n : ℕ) → Fair p o (at_trade n marked s)
marked_fair p o s f n = let a = f.agrees in record {
  agrees = record {
    day = a.day;
    trades = map_changed number plain_number as_plain plain_number_is marked (λ x. x) (λ t. refl) n s.trades.rows ∙ changed_same plain_number n (map as_plain s.trades.rows) ∙ a.trades;
    intermediations = a.intermediations;
    trade_count = a.trade_count ∙ sym (length_changed number marked (λ x. refl) n s.trades.rows);
    intermediation_count = a.intermediation_count;
    pair_count = a.pair_count;
  };
  sided = λ w m. subst (λ es. Sided (o w m) w es)
      (sym (seen_kept number marked (λ x. refl) no_trade (λ (t : Trade). held (allocation w t)) n s.trades.rows m (λ t e. marked_holds w t))) (f.sided w m);
  adds = λ w. each_changed number (Adds w) marked n s.trades.rows (λ t e k. marked_adds w t k) (f.adds w);
}

cleared_twice : (a b c : Bool) (o : Option Filling) → cond a None (cond b None (cond c None o)) ≡ cond (a || (b || c)) None o
cleared_twice true b c o = refl
cleared_twice false true c o = refl
cleared_twice false false c o = refl

module _ (p : Plain) (o : Side → ℕ → Option Filling) (r : List Listed) (s : State) (f : Fair p o s) (zero : find number 0 s.trades.rows ≡ None) where
  pub confirm_both_fair : (q : IntermediationCall) (a : Answer) → ConfirmsBoth r s q
      → Fair (fed p (ConfirmIntermediation q) a) (next p o r (ConfirmIntermediation q) a) (placed r s (ConfirmIntermediation q))
  unfolding placed
  confirm_both_fair q a t =
      let x = intermediation s q.id in
      let here : find id q.id s.intermediations.rows ≡ Some x = some_of no_intermediation (find id q.id s.intermediations.rows) t.here in
      let full = t.holds in
      let f1 = confirm_leg p o s f zero Buyer x.bought (full Buyer) in
      let f2 = confirm_leg _ _ _ f1 (none_left Buyer x.bought (λ t. confirmed) s.trades.rows 0 zero) Seller x.sold
      (λ e. ap (λ (d : Allocation). is_empty d.state)
      (seen_kept number (by Buyer (λ t. confirmed)) (by_number Buyer (λ t. confirmed)) no_trade (λ (t : Trade). allocation Seller t) x.bought s.trades.rows x.sold (λ t i. refl))
      ∙ full Seller e) in
      subst (λ y. Fair (sides_of_now Confirmed y p) o (placed r s (ConfirmIntermediation q))) (sym here ∙ ap (find id q.id) f.agrees.intermediations) f2

  module _ (ids : rises_above id 0 s.intermediations.rows ≡ true) where
    pub exclude_fair : (q : IntermediationCall) (a : Answer) → Fair (fed p (ExcludeIntermediation q) a) (next p o r (ExcludeIntermediation q) a) (placed r s (ExcludeIntermediation q))
    unfolding placed
    exclude_fair q a =
        let xs = s.intermediations.rows in
        let e : gone_if (find id q.id xs) p ≡ all_gone (those (λ x. eqb x.id q.id) p.standing) p =
        sym (one_gone 0 q.id xs ids p) ∙ ap (λ ys. all_gone (those (λ x. eqb x.id q.id) ys) p) f.agrees.intermediations in
        let u : (w : Side) (n : ℕ) → clear (find id q.id xs) o w n ≡ next p o r (ExcludeIntermediation q) a w n =
        λ w n. ap (λ b. cond b None (o w n))
        (holds_passes (find id q.id xs) w n ∙ sym (one_any 0 q.id xs ids (holds_side w n)) ∙ ap (any (λ x. eqb x.id q.id && holds_side w n x)) f.agrees.intermediations)
        ∙ emptied_if (any (λ x. eqb x.id q.id && holds_side w n x) p.standing) r p.day (terms_in p n) (o w n) in
        fair_o _ (clear (find id q.id xs) o) _ _ u (subst (λ y. Fair y (clear (find id q.id xs) o) (excluded q.id s)) e (excluded_fair p o s f zero q.id))

    module _ (c : Chains s) (q : Cancellation) where
      abbrev n : ℕ
      n = q.trade

      abbrev bt : ℕ
      bt = (trade s q.trade).buyer.tie

      abbrev st : ℕ
      st = (trade s q.trade).seller.tie

      cancel_false : is_some (find number q.trade s.trades.rows) ≡ true → (k first : ℕ)
          → Fair (fed p (Cancel q) (Written k first)) (next p o r (Cancel q) (Written k first)) (at_trade q.trade cancelled (excluded st (excluded bt s)))
      cancel_false there k first =
          let xs = s.intermediations.rows in
          let here : find number n s.trades.rows ≡ Some (trade s n) = some_of no_trade (find number n s.trades.rows) there in
          let off : n ≡ 0 → ⊥ = λ e. none_some _ (sym zero ∙ ap (λ k. find number k s.trades.rows) (sym e) ∙ here) in
          let pos : 0 < n = omega arith in
          let np = names_picks s c ids n pos (trade s n) here in
          let f1 = excluded_fair p o s f zero bt in
          let f2 = excluded_fair _ _ (excluded bt s) f1 (excluded_zero s bt 0 zero) st in
          let f3 = cancelled_fair _ _ (excluded st (excluded bt s)) f2 n in
          let two : find id st (excluded bt s).intermediations.rows ≡ find id st (removed id bt xs) = ap (find id st) (excluded_rows s bt) in
          let e : gone_if (find id st (excluded bt s).intermediations.rows) (gone_if (find id bt xs) p) ≡ all_gone (those (names n) p.standing) p =
          ap (λ y. gone_if y (gone_if (find id bt xs) p)) two ∙ sym (picked_gone 0 bt st xs ids p)
          ∙ ap (λ ys. all_gone ys p) (sym (those_same (names n) (picks bt st) xs np)) ∙ ap (λ ys. all_gone (those (names n) ys) p) f.agrees.intermediations in
          let u : (w : Side) (m : ℕ) → cond (eqb n m) None (clear (find id st (excluded bt s).intermediations.rows) (clear (find id bt xs) o) w m) ≡ next p o r (Cancel q) (Written k first) w m =
          λ w m. cleared_twice (eqb n m) (holds_if (find id st (excluded bt s).intermediations.rows) w m) (holds_if (find id bt xs) w m) (o w m)
          ∙ ap (λ b. cond (eqb n m || b) None (o w m))
          (ap₂ ◌||◌ (ap (λ y. holds_if y w m) two ∙ holds_passes (find id st (removed id bt xs)) w m) (holds_passes (find id bt xs) w m)
          ∙ sym (picked_any 0 bt st xs ids (holds_side w m))
          ∙ sym (any_same (λ x. names n x && holds_side w m x) (λ x. picks bt st x && holds_side w m x) xs (λ x i. ap (λ b. b && holds_side w m x) (np x i)))
          ∙ ap (any (λ x. names n x && holds_side w m x)) f.agrees.intermediations)
          ∙ emptied_if (eqb n m || any (λ x. names n x && holds_side w m x) p.standing) r p.day (terms_in p m) (o w m) in
          fair_o _ (λ w m. cond (eqb n m) None (clear (find id st (excluded bt s).intermediations.rows) (clear (find id bt xs) o) w m)) _ _ u
          (subst (λ y. Fair (side_now Empty Seller n (side_now Empty Buyer n y)) (λ w m. cond (eqb n m) None (clear (find id st (excluded bt s).intermediations.rows) (clear (find id bt xs) o) w m)) (at_trade n cancelled (excluded st (excluded bt s)))) e f3)

      pub cancel_fair : Stands s q.trade → Fair (fed p (Cancel q) (reply r s (Cancel q))) (next p o r (Cancel q) (reply r s (Cancel q))) (placed r s (Cancel q))
      unfolding placed
      cancel_fair t = go (both_confirmed (trade s q.trade))
        where
          go : (b : Bool) → Fair (fed p (Cancel q) (cond b Marked (Written 0 0))) (next p o r (Cancel q) (cond b Marked (Written 0 0))) (cond b (at_trade q.trade marked s) (called_off q.trade (trade s q.trade) s))
          go true = marked_fair p o s f q.trade
          go false = cancel_false t.here 0 0

  -- ── Joining ──

  module _ (q : NewIntermediation) where
    abbrev the_entry : ℕ → Entry
    the_entry n = record { account = q.intermediation.account; quantity = (terms_in p n).quantity; client = 0 }

    abbrev fill : ℕ → Filling
    fill n = record { entries = the_entry n ∷ []; register = r; day = p.day; terms = terms_in p n }

    abbrev pub rule : Trade → Allocation → Allocation
    rule t d = intermediated r q.intermediation q.now t d

    abbrev entries : ℕ → List KeptEntry
    entries n = kept_entry r (the_entry n) ∷ []

    -- a trade found after other sides were changed has the quantity that the plain book knows
    quantity_known : (ts : List Trade) (n : ℕ) → (trade_in ts n).terms ≡ (trade s n).terms → (t : Trade) → find number n ts ≡ Some t → t.terms.quantity ≡ (terms_in p n).quantity
    quantity_known ts n e t here =
        ap (λ (y : Option Trade). (or_else no_trade y).terms.quantity) (sym here) ∙ ap (λ (m : Terms). m.quantity) (e ∙ sym (terms_known p s f.agrees n))

    rule_holds : (v : Side) (n : ℕ) (t : Trade) → t.terms.quantity ≡ (terms_in p n).quantity → held (rule t (allocation v t)) ≡ entries n
    rule_holds v n t e =
        held_filled q.now (kept_entry r (whole_entry q.intermediation.account t) ∷ []) q.intermediation.id (allocation v t)
        ∙ ap (λ (k : ℕ). let y : Entry = record { account = q.intermediation.account; quantity = k; client = 0 } in kept_entry r y ∷ []) e

    whole_sum : (n : ℕ) (t : Trade) → t.terms.quantity ≡ (terms_in p n).quantity → total (map (λ (e : KeptEntry). e.entry) (entries n)) ≡ t.terms.quantity
    whole_sum n t e = omega arith

    suited_leg : Intermediates r s q → (w : Side) → has_leg w q.intermediation ≡ true → suits (trade s (leg w q.intermediation)).terms.kind (shown r q.intermediation.account) ≡ true
    suited_leg t Buyer e = subst (λ b. suits (trade s (cond b q.intermediation.bought q.intermediation.sold)).terms.kind (shown r q.intermediation.account) ≡ true) e t.suited
    suited_leg t Seller e =
        ⊎_elim (λ (i : has_leg Buyer q.intermediation ≡ true).
        let like = t.alike_legs (and_from _ _ i e) in
        let kind = same_kinds (trade s q.intermediation.bought).terms.kind (trade s q.intermediation.sold).terms.kind (and_parts _ _ (and_parts _ _ (and_parts _ _ like).0).0).0 in
        subst (λ k. suits k (shown r q.intermediation.account) ≡ true) kind
        (subst (λ b. suits (trade s (cond b q.intermediation.bought q.intermediation.sold)).terms.kind (shown r q.intermediation.account) ≡ true) i t.suited))
        (λ (i : has_leg Buyer q.intermediation ≡ false). subst (λ b. suits (trade s (cond b q.intermediation.bought q.intermediation.sold)).terms.kind (shown r q.intermediation.account) ≡ true) i t.suited)
        (cases_Bool (has_leg Buyer q.intermediation))

    leg_good : Intermediates r s q → (w : Side) → has_leg w q.intermediation ≡ true → Sided (Some (fill (leg w q.intermediation))) w (entries (leg w q.intermediation))
    leg_good t w e =
        let n = leg w q.intermediation in
        let known = sym (terms_known p s f.agrees n) in (
          refl,
          (
            record {
              account = shown r q.intermediation.account;
              listed = some_of no_account (account_in r q.intermediation.account) t.listed;
              active_then = subst (λ d. active d (shown r q.intermediation.account) ≡ true) f.agrees.day t.awake;
              suited = subst (λ (m : Terms). suits m.kind (shown r q.intermediation.account) ≡ true) known (suited_leg t w e);
              tied = subst (λ (m : Terms). tied_in r q.intermediation.account (party w m) ≡ true) known
                  (subst (λ y. tied_in r q.intermediation.account y ≡ true) (calling_is q.intermediation.participant w (trade s n).terms (t.free w e).owner) (t.tied w e));
              type_kept = refl;
            },
            tt,
          ),
        )

    filled_both : (a : Answer) (w : Side) (m : ℕ)
        → cond (on_leg Seller q.intermediation.sold w m) (Some (fill m)) (cond (on_leg Buyer q.intermediation.bought w m) (Some (fill m)) (o w m)) ≡ next p o r (Intermediate q) a w m
    filled_both a Buyer m = filled_if (holds_side Buyer m q.intermediation) (the_entry m ∷ []) r p.day (terms_in p m) (o Buyer m)
    filled_both a Seller m = filled_if (holds_side Seller m q.intermediation) (the_entry m ∷ []) r p.day (terms_in p m) (o Seller m)

    pub intermediate_fair : (a : Answer) → Intermediates r s q → Fair (fed p (Intermediate q) a) (next p o r (Intermediate q) a) (placed r s (Intermediate q))
    unfolding placed
    intermediate_fair a t =
        let n = q.intermediation.bought in
        let m = q.intermediation.sold in
        let us = changed number n (by Buyer rule) s.trades.rows in
        let f0 = enter_row p o s f q.intermediation in
        let f1 = fill_leg _ o _ f0 zero Buyer n rule (filled_as q.now) fill (entries n)
        (λ t d. filled_state q.now (kept_entry r (whole_entry q.intermediation.account t) ∷ []) q.intermediation.id d)
        (λ e. (t.free Buyer e).trade.here)
        (λ t e. rule_holds Buyer n t (quantity_known s.trades.rows n refl t e))
        (λ t e. whole_sum n t (quantity_known s.trades.rows n refl t e))
        (leg_good t Buyer) in
        let f2 = fill_leg _ _ _ f1 (none_left Buyer n rule s.trades.rows 0 zero) Seller m rule (filled_as q.now) fill (entries m)
        (λ t d. filled_state q.now (kept_entry r (whole_entry q.intermediation.account t) ∷ []) q.intermediation.id d)
        (λ e. there_left Buyer n rule s.trades.rows m ∙ (t.free Seller e).trade.here)
        (λ t e. rule_holds Seller m t (quantity_known us m (terms_left Buyer n rule s.trades.rows m) t e))
        (λ t e. whole_sum m t (quantity_known us m (terms_left Buyer n rule s.trades.rows m) t e))
        (leg_good t Seller) in
        fair_o _ _ (next p o r (Intermediate q) a) _ (filled_both a) f2
