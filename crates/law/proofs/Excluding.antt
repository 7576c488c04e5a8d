-- An intermediation excluded, and a trade cancelled.
use Rattle.keyed.proofs.Words.{true, false, List, ⊎_elim, ◌≡◌, refl, sym, ap, subst, ◌∙◌, ℕ, arith, cond_both, cases_eq, both_ways, and_parts, and_from, Option, Some, None}
use Rattle.law.proofs.Subject.{Intermediation, Buyer, Seller, or_else, is_some, any, find, removed_in, Listed, Cancellation, IntermediationCall, Cancel, ExcludeIntermediation, emptied, id, no_intermediation, any_leg, number, at_side, both_confirmed, numbered_in, excluded, cancelled, placed, called_off, marked, excluded_by, completed, effect, State, trade, intermediation, with_intermediations, at_trade}
use Rattle.keyed.proofs.Keys.{rises_changed, rises_removed, below_absent}
use Rattle.keyed.proofs.Lists.{none_some}
use Rattle.chains.proofs.Walk.{Not0}
use Rattle.chains.proofs.Walks.{put_cases, member}
use Rattle.law.proofs.Books.{any_leg_is, halves_of, numbers_are, side_keys, there_of, walk_in, Sound, legged, none0}
use Rattle.law.proofs.Bridge.{excluded_view, nothing_excluded, marked_view, voided_view}
use Rattle.law.proofs.Chained.{none_line}
use Rattle.law.proofs.Confirms.{leg_left, leg_right}
use Rattle.law.proofs.Kept.{voided_kept, exclude_kept}
use Rattle.law.proofs.Opens.{not_num, num_next_not, num_prev_not, gone_b, gone_s, open_not, self_s, cancel_one}
use Rattle.law.proofs.Passed.{Excludes, Stands, Tables}
use Rattle.law.proofs.Shown.{view}
use Rattle.law.proofs.Views.{View, next, prev, first, exclude, live, Sound as Seen}

module _ (s : State) (g : Sound s) where
  -- the exclusion of one, or of none
  pub excluded_is : (i : ℕ) → Seen (exclude i (view s)) → (view (excluded i s) ≡ exclude i (view s)) × Sound (excluded i s)
  unfolding excluded
  excluded_is i h = go (find id i s.intermediations.rows) refl
    where
      go : (o : Option Intermediation) → find id i s.intermediations.rows ≡ o → (view (excluded i s) ≡ exclude i (view s)) × Sound (excluded i s)
      go None e =
          let same : excluded i s ≡ s = ap (λ o. excluded_by o i s) e in
          let shown : view (excluded i s) ≡ exclude i (view s) = ap view same
          ∙ sym (nothing_excluded i (view s) (ap (λ o. (or_else no_intermediation o).bought) e) (ap (λ o. (or_else no_intermediation o).sold) e)) in
          (shown, subst Sound (sym same) g)
      go (Some x) e =
          let found : intermediation s i ≡ x = ap (or_else no_intermediation) e in
          let i_is : Not0 i = λ z. none_some x (sym (below_absent id 0 i s.intermediations.rows g.intermediation_keys (let y : i ≡ 0 = z in omega arith)) ∙ e) in
          let t : State = with_intermediations (removed_in id i) (at_trade (intermediation s i).sold (at_side Seller emptied) (at_trade (intermediation s i).bought (at_side Buyer emptied) s)) in
          let same : excluded i s ≡ t = ap (λ o. excluded_by o i s) e ∙ ap (λ y. excluded_by (Some y) i s) (sym found) in
          let shown : view t ≡ exclude i (view s) = excluded_view i s.trades.rows s.intermediations.rows s.pairs.rows (there_of s g Buyer i) (there_of s g Seller i) (none0 s g) i_is g.intermediation_keys in (
            ap view same ∙ shown,
            subst Sound (sym same) (record {
              seen = subst Seen (sym shown) h;
              trade_keys = rises_changed number (at_side Seller emptied) (λ _. refl) (intermediation s i).sold _ 0 (side_keys s g Buyer (intermediation s i).bought emptied);
              intermediation_keys = rises_removed id i s.intermediations.rows 0 g.intermediation_keys;
            }),
          )

  -- the legs of an intermediation that may be excluded are not numbered
  pub exclude_open : (q : IntermediationCall) → Tables s → Excludes s q → ((view s).num (intermediation s q.id).bought ≡ false) × ((view s).num (intermediation s q.id).sold ≡ false)
  exclude_open q t p =
      let v = view s in
      let x = intermediation s q.id in
      let n = any_leg x in
      let n_is : Not0 n = (legged s g) q.id t p.here in
      let left : Not0 x.bought → x.bought ≡ n = λ e. sym (leg_left x.bought x.sold e) ∙ any_leg_is x in
      let right : x.bought ≡ 0 → x.sold ≡ n = λ e. sym (leg_right x.bought x.sold e) ∙ any_leg_is x in
      let n_here : is_some (find number n s.trades.rows) ≡ true =
      ⊎_elim (λ (e : x.bought ≡ 0). subst (λ k. is_some (find number k s.trades.rows) ≡ true) (right e) (there_of s g Seller q.id (λ y. n_is (sym (right e) ∙ y))))
      (λ (e : Not0 x.bought). subst (λ k. is_some (find number k s.trades.rows) ≡ true) (left e) (there_of s g Buyer q.id e))
      (cases_eq x.bought 0) in
      let parts = none_line s.trades.rows s.intermediations.rows (halves_of s g) (there_of s g) (numbered_in s.trades.rows) (first v n)
      (ap (any (numbered_in s.trades.rows)) (sym (numbers_are s g n n_here n_is)) ∙ p.unnumbered) in
      let nn : v.num n ≡ false = member (next v) (prev v) (walk_in s g) (λ k. v.num k ≡ false) n parts.0
      (not_num v g.seen _ (λ z e. both_ways _ (parts.1 z) e))
      (not_num v g.seen _ (λ z e. both_ways _ (parts.2 (λ y. z (ap (next v) y ∙ (walk_in s g).next_none)) z) e)) in
      ⊎_elim (λ (e : x.bought ≡ 0). (ap v.num e ∙ g.seen.numbers.none_num, ap v.num (right e) ∙ nn))
      (λ (e : Not0 x.bought).
      let nb : v.num x.bought ≡ false = ap v.num (left e) ∙ nn in
      (nb, ap (λ i. v.num (v.sold i)) (sym (g.seen.buying.forth q.id e)) ∙ num_next_not v g.seen x.bought nb))
      (cases_eq x.bought 0)

  pub exclude_sound : (r : List Listed) (q : IntermediationCall) → Tables s → Excludes s q → Sound (effect r s (ExcludeIntermediation q))
  unfolding effect completed placed
  exclude_sound r q t p = let o = exclude_open q t p in (excluded_is q.id (exclude_kept (view s) g.seen q.id o.0 o.1)).1

module _ (s : State) (g : Sound s) where
  -- both intermediations of a trade go
  pub twice_excluded : (n : ℕ) → both_confirmed (trade s n) ≡ false
      → (let t = excluded (trade s n).seller.tie (excluded (trade s n).buyer.tie s) in
      (view t ≡ exclude ((view s).sells n) (exclude ((view s).buys n) (view s))) × Sound t × ((view s).num n ≡ false))
  twice_excluded n h =
      let v = view s in
      let nn = open_not v g.seen n h in
      let s1 = cancel_one v g.seen n nn in
      let r1 = excluded_is s g (v.buys n) s1 in
      let s2 : Seen (exclude (v.sells n) (exclude (v.buys n) v)) = exclude_kept (exclude (v.buys n) v) s1 (v.sells n)
      (put_cases (λ y. v.num y ≡ false) (v.buys n) 0 v.bought (v.sells n) (λ _ _. g.seen.numbers.none_num) (λ _. num_prev_not v g.seen n nn))
      (put_cases (λ y. v.num y ≡ false) (v.buys n) 0 v.sold (v.sells n) (λ _ _. g.seen.numbers.none_num) (λ _. self_s v g.seen n nn)) in
      let r2 = excluded_is (excluded (v.buys n) s) r1.1 (v.sells n) (subst (λ u. Seen (exclude (v.sells n) u)) (sym r1.0) s2) in
      (r2.0 ∙ ap (exclude (v.sells n)) r1.0, r2.1, nn)

  pub cancel_sound : (r : List Listed) (q : Cancellation) → Stands s q.trade → Sound (effect r s (Cancel q))
  unfolding effect completed placed
  cancel_sound r q p =
      let n = q.trade in
      let v = view s in
      let t = excluded (trade s n).seller.tie (excluded (trade s n).buyer.tie s) in
      cond_both (both_confirmed (trade s n)) (at_trade n marked s) (called_off n (trade s n) s) Sound
      (λ _. record {
        seen = subst Seen (sym (marked_view n s.trades.rows s.intermediations.rows s.pairs.rows (λ _. p.here) g.seen.none)) g.seen;
        trade_keys = rises_changed number marked (λ _. refl) n s.trades.rows 0 g.trade_keys;
        intermediation_keys = g.intermediation_keys;
      })
      (λ h.
      let w = twice_excluded n h in
      let e = w.0 in
      let zb : (trade t n).buyer.tie ≡ 0 = ap (λ (u : View). u.buys n) e ∙ gone_b v g.seen n in
      let zs : (trade t n).seller.tie ≡ 0 = ap (λ (u : View). u.sells n) e ∙ gone_s v g.seen n in
      let alive : live (view t) n ≡ true = ap (λ (u : View). live u n) e ∙ and_from _ _ p.here p.open_still in
      let nn : (view t).num n ≡ false = ap (λ (u : View). u.num n) e ∙ w.2 in
      record {
        seen = subst Seen (sym (voided_view n t.trades.rows t.intermediations.rows t.pairs.rows (λ _. (and_parts _ _ alive).0) w.1.seen.none nn zb zs))
            (voided_kept (view t) w.1.seen n alive nn zb zs);
        trade_keys = rises_changed number cancelled (λ _. refl) n t.trades.rows 0 w.1.trade_keys;
        intermediation_keys = w.1.intermediation_keys;
      })
