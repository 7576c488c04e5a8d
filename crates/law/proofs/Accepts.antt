-- Every accepted request keeps the book sound.
use Rattle.keyed.proofs.Words.{Bool, true, false, not, ◌&&◌, cond, List, [], ◌∷◌, map, ⊎_elim, ◌≡◌, refl, sym, ap, ap₂, subst, ◌∙◌, ℕ, ◌+◌, ◌≤◌, eqb, length, cases_eq, eq-eqb, both_ways, and_parts, and_from, Some, None}
use Rattle.law.proofs.Subject.{Intermediation, Side, Buyer, Seller, Terms, or_else, is_some, any, find, Listed, Inclusion, IntermediationCall, NewIntermediation, NewTrade, Request, Capture, Cancel, Include, Remove, Confirm, Intermediate, ConfirmIntermediation, ExcludeIntermediation, Close, SideCall, is_confirmed, emptied, confirmed, id, no_intermediation, any_leg, both_legs, number, allocation, at_side, captured, alike, AllocationState, Empty, Confirmed, KeptEntry, Trade, placed, whole_entry, kept_entry, entries_of, included, intermediated, numbers_in, confirms_in, completed, effect, State, trade, intermediation}
use Rattle.keyed.proofs.Keys.{rises_changed, rises_entered}
use Rattle.keyed.proofs.Lists.{none_by}
use Rattle.rows.proofs.Sides.{alike_parts, filled_state, filled_tie}
use Rattle.rows.specs.Legs.{leg as leg_of}
use Rattle.rows.specs.declared.row.AllocationState.TheVariants.{Allocated}
use Rattle.chains.proofs.Walk.{put, Not0, count}
use Rattle.chains.proofs.Walks.{put_at, member}
use Rattle.law.proofs.Books.{ConfirmedHold, any_leg_is, halves_of, leg_case, not0_pos, numbers_are, side_keys, side_leg_is, sold_case, some_leg, there_of, walk_in, with_keys, Sound, legged, none0, finish}
use Rattle.law.proofs.Bridge.{as_bought, as_sold, only_side, side_view, sides_again, entered_view, captured_view}
use Rattle.law.proofs.Chained.{length_line, none_line}
use Rattle.law.proofs.Completes.{Confirming, completed_sound}
use Rattle.law.proofs.Confirmers.{Confirmer, confirmer, including, intermediating, two_sides, one_side}
use Rattle.law.proofs.Excluding.{cancel_sound, exclude_sound}
use Rattle.law.proofs.Kept.{sides_kept, captured_kept, link_kept, bought_live, sold_live, nothing_sound}
use Rattle.law.proofs.Opens.{num_buyer, num_seller, side_alone}
use Rattle.law.proofs.Passed.{Captures, Confirms, ConfirmsBoth, Free, Includes, Intermediates, Passed, Tables, leg_is_there}
use Rattle.law.proofs.Shown.{common, view, both_kept}
use Rattle.law.proofs.Views.{View, sure, next, prev, first, sides, link, live, Sound as Seen}

module _ (s : State) (g : Sound s) where
  -- a side whose tests passed
  module _ (caller : ℕ) (w : Side) (n : ℕ) (f : Free s caller w n) where
    pub live_one : live (view s) n ≡ true
    live_one = and_from _ _ f.trade.here f.trade.open_still

    num_a : (v : Side) → is_confirmed (allocation v (trade s n)).state ≡ false → (view s).num (as_bought n v) ≡ false
    num_a Buyer u = num_buyer (view s) g.seen n (λ _. u)
    num_a Seller u = g.seen.numbers.none_num

    num_c : (v : Side) → is_confirmed (allocation v (trade s n)).state ≡ false → (view s).num (as_sold n v) ≡ false
    num_c Buyer u = g.seen.numbers.none_num
    num_c Seller u = num_seller (view s) g.seen n (λ _. u)

    pub weak_side : (x : AllocationState) → is_confirmed x ≡ false → Seen (sides (as_bought n w) (as_sold n w) x (view s))
    weak_side x weak = sides_kept (view s) g.seen (as_bought n w) (as_sold n w) x weak (leg_case (λ k. live (view s) k ≡ true) n w live_one) (num_a w f.unsure) (num_c w f.unsure)

    -- confirmed in a sound book that shows the rest as it is now
    confirmed_there : (p : State) (v : View) → Seen v → Not0 n → v.present ≡ (view s).present → v.cancelled ≡ (view s).cancelled → view p ≡ sides (as_bought n w) (as_sold n w) Confirmed v → Confirming p n
    confirmed_there p v sound z same gone shown =
        let alive : live v n ≡ true = ap₂ (λ (a b : ℕ → Bool). a n && not (b n)) same gone ∙ live_one in
        record {
          base = v;
          sound = sound;
          bought = as_bought n w;
          sold = as_sold n w;
          leg_is = side_leg_is n w z;
          some = z;
          bought_live = leg_case (λ k. live v k ≡ true) n w alive;
          sold_live = sold_case (λ k. live v k ≡ true) n w alive;
          tied = side_alone v sound n w (next v);
          shown = shown;
        }

  capture_sound : (r : List Listed) (q : NewTrade) → Captures s q → Sound (effect r s (Capture q))
  unfolding effect completed placed
  capture_sound r q p =
      let none : find number q.terms.number s.trades.rows ≡ None = none_by _ p.absent in
      record {
        seen = subst Seen (sym (captured_view q.terms s.trades.rows s.intermediations.rows s.pairs.rows p.number_is none))
            (captured_kept (view s) g.seen q.terms.number (common q.terms) p.absent);
        trade_keys = rises_entered number (captured q.terms) s.trades.rows 0 g.trade_keys (not0_pos _ p.number_is) none;
        intermediation_keys = g.intermediation_keys;
      }

  remove_sound : (r : List Listed) (q : SideCall) → Free s q.participant q.side q.trade → Sound (effect r s (Remove q))
  unfolding effect completed placed
  remove_sound r q p = record {
    seen = subst Seen (sym (side_view q.side q.trade emptied s.trades.rows s.intermediations.rows s.pairs.rows (λ _. p.trade.here) (none0 s g) Empty refl (sym p.untied)))
        (weak_side q.participant q.side q.trade p Empty refl);
    trade_keys = (side_keys s g) q.side q.trade emptied;
    intermediation_keys = g.intermediation_keys;
  }

  pub confirm_conf : (r : List Listed) (q : SideCall) → Confirms r s q → Confirming (placed r s (Confirm q)) q.trade
  unfolding placed
  confirm_conf r q p =
      confirmed_there q.participant q.side q.trade p.free (placed r s (Confirm q)) (view s) g.seen p.number_is refl refl
      (side_view q.side q.trade confirmed s.trades.rows s.intermediations.rows s.pairs.rows (λ _. p.free.trade.here) (none0 s g) Confirmed refl refl)

  confirm_sound : (r : List Listed) (q : SideCall) → Confirms r s q → ConfirmedHold r s (Confirm q) → Sound (effect r s (Confirm q))
  unfolding effect completed placed
  confirm_sound r q p held =
      with_keys _ (placed r s (Confirm q))
      (completed_sound (placed r s (Confirm q)) q.trade (confirm_conf r q p) (held q.trade refl) p.enough)
      (side_keys s g q.side q.trade confirmed) g.intermediation_keys

  -- what an inclusion shows, and that it is sound before it is confirmed
  include_shown : (r : List Listed) (q : Inclusion) → Includes r s q
      → view (placed r s (Include q)) ≡ sides (as_bought q.trade q.side) (as_sold q.trade q.side) (cond q.now Confirmed Allocated) (view s)
  unfolding placed
  include_shown r q p =
      let es = map (kept_entry r) (entries_of q) in
      side_view q.side q.trade (included r q) s.trades.rows s.intermediations.rows s.pairs.rows (λ _. p.free.trade.here) (none0 s g)
      (cond q.now Confirmed Allocated) (filled_state q.now es 0 (allocation q.side (trade s q.trade)))
      (filled_tie q.now es 0 (allocation q.side (trade s q.trade)) ∙ sym p.free.untied)

  pub include_conf : (r : List Listed) (q : Inclusion) → Includes r s q → q.now ≡ true → Confirming (placed r s (Include q)) q.trade
  include_conf r q p now =
      let a = as_bought q.trade q.side in
      let c = as_sold q.trade q.side in
      confirmed_there q.participant q.side q.trade p.free (placed r s (Include q)) (sides a c Allocated (view s)) (weak_side q.participant q.side q.trade p.free Allocated refl) p.number_is refl refl
      (include_shown r q p ∙ ap (λ b. sides a c (cond b Confirmed Allocated) (view s)) now ∙ sym (sides_again a c Confirmed Allocated (view s)))

  include_sound : (r : List Listed) (q : Inclusion) → Includes r s q → ConfirmedHold r s (Include q) → Sound (effect r s (Include q))
  unfolding effect completed placed
  include_sound r q p held =
      with_keys _ (placed r s (Include q))
      (finish (placed r s (Include q)) q.trade q.now
      (λ now. include_conf r q p now)
      (λ now. subst Seen (sym (include_shown r q p ∙ ap (λ b. sides (as_bought q.trade q.side) (as_sold q.trade q.side) (cond b Confirmed Allocated) (view s)) now)) (weak_side q.participant q.side q.trade p.free Allocated refl))
      (λ now. held q.trade (ap (λ b. cond b (Some q.trade) None) now)) p.enough)
      (side_keys s g q.side q.trade (included r q)) g.intermediation_keys

  pub confirm_both_conf : (r : List Listed) (q : IntermediationCall) → Tables s → ConfirmsBoth r s q → Confirming (placed r s (ConfirmIntermediation q)) (any_leg (intermediation s q.id))
  unfolding placed
  confirm_both_conf r q t p =
      let x = intermediation s q.id in
      let v = view s in
      record {
        base = v;
        sound = g.seen;
        bought = x.bought;
        sold = x.sold;
        leg_is = any_leg_is x;
        some = (legged s g) q.id t p.here;
        bought_live = bought_live v g.seen q.id;
        sold_live = sold_live v g.seen q.id;
        tied = λ z _. ap v.sold (g.seen.buying.forth q.id z);
        shown = both_kept x.bought x.sold (at_side Buyer confirmed) (at_side Seller confirmed) s.trades.rows s.intermediations.rows s.pairs.rows
            (only_side Buyer (λ _. confirmed)) (only_side Seller (λ _. confirmed)) (there_of s g Buyer q.id) (there_of s g Seller q.id) (none0 s g)
            Confirmed (λ _. refl) (λ _. refl) (λ _. refl) (λ _. refl);
      }

  confirm_both_sound : (r : List Listed) (q : IntermediationCall) → Tables s → ConfirmsBoth r s q → ConfirmedHold r s (ConfirmIntermediation q) → Sound (effect r s (ConfirmIntermediation q))
  unfolding effect completed placed
  confirm_both_sound r q t p held =
      let x = intermediation s q.id in
      with_keys _ (placed r s (ConfirmIntermediation q))
      (completed_sound (placed r s (ConfirmIntermediation q)) (any_leg x) (confirm_both_conf r q t p) (held (any_leg x) refl) p.enough)
      (rises_changed number (at_side Seller confirmed) (λ _. refl) x.sold _ 0 (side_keys s g Buyer x.bought confirmed)) g.intermediation_keys

  alike_common : (t u : Terms) → alike t u ≡ true → common t ≡ common u
  alike_common t u h = let a = alike_parts t u h in λ i. record { kind = a.kind i; asset = a.asset i; quantity = a.quantity i; settlement = a.settlement i }

  -- a trade that is not in the chain of another has another first trade
  apart_chains : (a c : ℕ) → is_some (find number a s.trades.rows) ≡ true → Not0 a → Not0 c
      → any (λ n. eqb n c) (numbers_in s.trades.rows s.intermediations.rows a) ≡ false → first (view s) a ≡ first (view s) c → ⊥
  apart_chains a c ha za zc h e =
      let v = view s in
      let f = first v a in
      let parts = none_line s.trades.rows s.intermediations.rows (halves_of s g) (there_of s g) (λ n. eqb n c) f (ap (any (λ n. eqb n c)) (sym (numbers_are s g a ha za)) ∙ h) in
      member (next v) (prev v) (walk_in s g) (λ k. k ≡ c → ⊥) c
      (λ d. both_ways _ parts.0 (eq-eqb _ _ (e ∙ d)))
      (λ d. let d2 : next v f ≡ c = ap (next v) e ∙ d in both_ways _ (parts.1 (λ y. zc (sym d2 ∙ y))) (eq-eqb _ _ d2))
      (λ d. let d2 : next v (next v f) ≡ c = ap (λ k. next v (next v k)) e ∙ d in
      both_ways _ (parts.2 (λ y. zc (sym d2 ∙ ap (next v) y ∙ (walk_in s g).next_none)) (λ y. zc (sym d2 ∙ y))) (eq-eqb _ _ d2))
      refl

  length_chain : (a : ℕ) → is_some (find number a s.trades.rows) ≡ true → Not0 a → length (numbers_in s.trades.rows s.intermediations.rows a) ≡ count (next (view s)) (prev (view s)) a
  length_chain a ha za = ap length (numbers_are s g a ha za) ∙ length_line s.trades.rows s.intermediations.rows (halves_of s g) (there_of s g) (first (view s) a) (walk_in s g).next_none

  -- an intermediation entered, its sides allocated
  module _ (r : List Listed) (q : NewIntermediation) (p : Intermediates r s q) where
    abbrev x : Intermediation
    x = q.intermediation

    here_leg : (w : Side) → Not0 (leg_of w q.intermediation) → live (view s) (leg_of w q.intermediation) ≡ true
    here_leg w z = live_one q.intermediation.participant w (leg_of w q.intermediation) (p.free w (leg_is_there w q.intermediation z))

    none_there : find id q.intermediation.id s.intermediations.rows ≡ None
    none_there = none_by _ p.absent

    entered_sound : Seen (link q.intermediation.id q.intermediation.bought q.intermediation.sold (sides q.intermediation.bought q.intermediation.sold Allocated (view s)))
    entered_sound =
        let v = view s in
        let a = q.intermediation.bought in
        let c = q.intermediation.sold in
        let fa : Not0 a → Free s q.intermediation.participant Buyer a = λ z. p.free Buyer (leg_is_there Buyer q.intermediation z) in
        let fc : Not0 c → Free s q.intermediation.participant Seller c = λ z. p.free Seller (leg_is_there Seller q.intermediation z) in
        let s1 : Seen (sides a c Allocated v) = sides_kept v g.seen a c Allocated refl (here_leg Buyer) (num_buyer v g.seen a (λ z. (fa z).unsure)) (num_seller v g.seen c (λ z. (fc z).unsure)) in
        let untied_a : v.buys a ≡ 0 = ⊎_elim (λ (z : a ≡ 0). ap v.buys z ∙ g.seen.buying.tie_none) (λ (z : Not0 a). (fa z).untied) (cases_eq a 0) in
        let untied_c : v.sells c ≡ 0 = ⊎_elim (λ (z : c ≡ 0). ap v.sells z ∙ g.seen.selling.tie_none) (λ (z : Not0 c). (fc z).untied) (cases_eq c 0) in
        let both : Not0 a → Not0 c → both_legs q.intermediation ≡ true = λ z y. and_from _ _ (leg_is_there Buyer q.intermediation z) (leg_is_there Seller q.intermediation y) in
        link_kept (sides a c Allocated v) s1 q.intermediation.id a c p.id_is (ap (λ o. (or_else no_intermediation o).bought) none_there) (ap (λ o. (or_else no_intermediation o).sold) none_there) untied_a untied_c
        (λ z. ap sure (put_at a Allocated v.buyer z)) (λ z. ap sure (put_at c Allocated v.seller z)) (here_leg Buyer) (here_leg Seller)
        (λ z y. alike_common (trade s a).terms (trade s c).terms (p.alike_legs (both z y)))
        (λ z y. apart_chains a c (fa z).trade.here z y (p.apart (both z y)))
        (λ z y. subst (λ k. k ≤ 3) (ap₂ (λ i j. i + j) (length_chain a (fa z).trade.here z) (length_chain c (fc y).trade.here y)) (p.short (both z y)))

    abbrev leg_rule : Side → Trade → Trade
    leg_rule w t = at_side w (intermediated r q.intermediation q.now t) t

    entered_shown : view (placed r s (Intermediate q)) ≡ link q.intermediation.id q.intermediation.bought q.intermediation.sold (sides q.intermediation.bought q.intermediation.sold (cond q.now Confirmed Allocated) (view s))
    unfolding placed
    entered_shown =
        let e : Trade → List KeptEntry = λ t. kept_entry r (whole_entry q.intermediation.account t) ∷ [] in
        entered_view q.intermediation (leg_rule Buyer) (leg_rule Seller) s.trades.rows s.intermediations.rows s.pairs.rows
        (only_side Buyer (intermediated r q.intermediation q.now)) (only_side Seller (intermediated r q.intermediation q.now))
        (λ z. (and_parts _ _ (here_leg Buyer z)).0) (λ z. (and_parts _ _ (here_leg Seller z)).0) (none0 s g) p.id_is none_there (cond q.now Confirmed Allocated)
        (λ t. filled_state q.now (e t) q.intermediation.id t.buyer) (λ t. filled_state q.now (e t) q.intermediation.id t.seller)
        (λ t. filled_tie q.now (e t) q.intermediation.id t.buyer) (λ t. filled_tie q.now (e t) q.intermediation.id t.seller)

    pub intermediate_conf : q.now ≡ true → Confirming (placed r s (Intermediate q)) (any_leg q.intermediation)
    intermediate_conf now =
        let a = q.intermediation.bought in
        let c = q.intermediation.sold in
        let v = view s in
        record {
          base = link q.intermediation.id a c (sides a c Allocated v);
          sound = entered_sound;
          bought = a;
          sold = c;
          leg_is = any_leg_is q.intermediation;
          some = some_leg q.intermediation p.some_leg;
          bought_live = here_leg Buyer;
          sold_live = here_leg Seller;
          tied = λ z _. ap (put q.intermediation.id c v.sold) (put_at a q.intermediation.id v.buys z) ∙ put_at q.intermediation.id c v.sold p.id_is;
          shown = entered_shown ∙ ap (λ b. link q.intermediation.id a c (sides a c (cond b Confirmed Allocated) v)) now ∙ ap (link q.intermediation.id a c) (sym (sides_again a c Confirmed Allocated v));
        }

    intermediate_sound : ConfirmedHold r s (Intermediate q) → Sound (effect r s (Intermediate q))
    unfolding effect completed placed
    intermediate_sound held =
        let n = any_leg q.intermediation in
        with_keys _ (placed r s (Intermediate q))
        (finish (placed r s (Intermediate q)) n q.now
        intermediate_conf
        (λ now. subst Seen (sym (entered_shown ∙ ap (λ b. link q.intermediation.id q.intermediation.bought q.intermediation.sold (sides q.intermediation.bought q.intermediation.sold (cond b Confirmed Allocated) (view s))) now)) entered_sound)
        (λ now. held n (ap (λ b. cond b (Some n) None) now)) p.enough)
        (rises_changed number (leg_rule Seller) (λ _. refl) q.intermediation.sold _ 0 (rises_changed number (leg_rule Buyer) (λ _. refl) q.intermediation.bought s.trades.rows 0 g.trade_keys))
        (rises_entered id q.intermediation s.intermediations.rows 0 g.intermediation_keys (not0_pos _ p.id_is) none_there)

module _ (s : State) (g : Sound s) where
  -- the invariant is kept
  pub accepted : (r : List Listed) (q : Request) → Passed r s q → ConfirmedHold r s q → Sound (effect r s q)
  unfolding effect completed placed
  accepted r (Capture q) p h = capture_sound s g r q p.own
  accepted r (Cancel q) p h = cancel_sound s g r q p.own
  accepted r (Include q) p h = include_sound s g r q p.own h
  accepted r (Remove q) p h = remove_sound s g r q p.own
  accepted r (Confirm q) p h = confirm_sound s g r q p.own h
  accepted r (Intermediate q) p h = intermediate_sound s g r q p.own h
  accepted r (ConfirmIntermediation q) p h = confirm_both_sound s g r q p.tables p.own h
  accepted r (ExcludeIntermediation q) p h = exclude_sound s g r q p.tables p.own
  accepted r (Close q) p h = record { seen = nothing_sound; trade_keys = refl; intermediation_keys = refl }

  -- what a confirming request leaves
  pub confirming : (r : List Listed) (q : Request) → Passed r s q → (n : ℕ) → confirms_in s q ≡ Some n → Confirming (placed r s q) n
  confirming r q p n e = go q n (confirmer s q n e) p
    where
      go : (q : Request) (n : ℕ) → Confirmer s q n → Passed r s q → Confirming (placed r s q) n
      go _ _ (including q now) p = include_conf s g r q p.own now
      go _ _ (one_side q) p = confirm_conf s g r q p.own
      go _ _ (intermediating q now) p = intermediate_conf s g r q p.own now
      go _ _ (two_sides q) p = confirm_both_conf s g r q p.tables p.own
