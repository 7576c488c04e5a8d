-- An accepted request leaves what is numbered, and numbers nothing before it completes a chain.
use Rattle.keyed.proofs.Words.{true, false, cond, List, ⊎_elim, ◌≡◌, refl, sym, ap, subst, ◌∙◌, ℕ, arith, eqb, cond_both, cases_eq, ne_eqb, eq-eqb, both_ways, false≢true, Option, Some, None}
use Rattle.law.proofs.Subject.{Intermediation, Side, Buyer, Seller, or_else, is_some, find, changed, Listed, IntermediationCall, NewIntermediation, Request, Capture, Cancel, Include, Remove, Confirm, Intermediate, ConfirmIntermediation, ExcludeIntermediation, Close, is_confirmed, emptied, confirmed, id, no_intermediation, any_leg, number, allocation, is_numbered, no_trade, at_side, captured, both_confirmed, Allocation, Trade, excluded, cancelled, placed, called_off, excluded_by, marked, included, intermediated, confirms_in, State, trade, intermediation, at_trade, closes}
use Rattle.keyed.proofs.Keys.{row_entered, below_absent}
use Rattle.keyed.proofs.Lists.{none_by, none_some}
use Rattle.rows.proofs.Sides.{side_number, side_state}
use Rattle.chains.proofs.Walk.{Not0}
use Rattle.chains.proofs.Walks.{put_cases}
use Rattle.law.proofs.Books.{Sound, any_leg_is}
use Rattle.law.proofs.Confirmers.{Confirmer, confirmer, including, intermediating, one_side, two_sides}
use Rattle.law.proofs.Confirms.{leg_left, leg_right}
use Rattle.law.proofs.Excluding.{excluded_is, twice_excluded, exclude_open}
use Rattle.law.proofs.Froze.{same_self, same_path, same_then, Frozen, Fewer, frozen_then, changed_froze, changed_alike, changed_fewer, entered_froze, removed_froze}
use Rattle.law.proofs.Fulls.{num_there}
use Rattle.law.proofs.Opens.{num_buyer, num_seller, num_next_not, num_prev_not, open_not, self_s, cancel_one}
use Rattle.law.proofs.Passed.{ConfirmsBoth, Intermediates, Passed, leg_is_there}
use Rattle.law.proofs.Shown.{view}
use Rattle.law.proofs.Views.{View, exclude, Sound as Seen}

pub record Leaves (s t : State) : Type 0 where
  pub frozen : Frozen s t
  pub fewer : Fewer s t

leaves_self : (s : State) → Leaves s s
leaves_self s = record { frozen = record { parts = λ m h. same_self (trade s m); intermediations = λ w m h. refl }; fewer = λ m h. h }

leaves_then : (s t u : State) → Leaves s t → Leaves t u → Leaves s u
leaves_then s t u a b = record { frozen = frozen_then s t u a.frozen b.frozen; fewer = λ m h. a.fewer m (b.fewer m h) }

excluded_leaves : (s : State) → Sound s → (i : ℕ) → (view s).num (intermediation s i).bought ≡ false → (view s).num (intermediation s i).sold ≡ false → Leaves s (excluded i s)
unfolding excluded
excluded_leaves s g i nb ns = go (find id i s.intermediations.rows) refl
  where
    go : (o : Option Intermediation) → find id i s.intermediations.rows ≡ o → Leaves s (excluded i s)
    go None e = subst (Leaves s) (sym (ap (λ o. excluded_by o i s) e)) (leaves_self s)
    go (Some x) e =
        let found : intermediation s i ≡ x = ap (or_else no_intermediation) e in
        let i_is : Not0 i = λ z. none_some x (sym (below_absent id 0 i s.intermediations.rows g.intermediation_keys (let y : i ≡ 0 = z in omega arith)) ∙ e) in
        let us = changed number (intermediation s i).bought (at_side Buyer emptied) s.trades.rows in
        subst (Leaves s) (sym (ap (λ o. excluded_by o i s) e ∙ ap (λ y. excluded_by (Some y) i s) (sym found))) (record {
          frozen = record {
            parts = λ m h. same_then _ _ _ (changed_froze (view s).num (intermediation s i).sold (at_side Seller emptied) us (λ _. refl) ns m h)
                (changed_froze (view s).num (intermediation s i).bought (at_side Buyer emptied) s.trades.rows (λ _. refl) nb m h);
            intermediations = removed_froze s g i i_is nb ns;
          };
          fewer = λ m h. changed_fewer (intermediation s i).bought (at_side Buyer emptied) s.trades.rows (λ _. refl) (λ _ k. k) m
              (changed_fewer (intermediation s i).sold (at_side Seller emptied) us (λ _. refl) (λ _ k. k) m h);
        })

module _ (s : State) (g : Sound s) where
  side_leaves : (w : Side) (n : ℕ) (d : Allocation → Allocation) → (view s).num n ≡ false → Leaves s (at_trade n (at_side w d) s)
  side_leaves w n d nn = record {
    frozen = record { parts = changed_froze (view s).num n (at_side w d) s.trades.rows (side_number w d) nn; intermediations = λ v m h. refl };
    fewer = changed_fewer n (at_side w d) s.trades.rows (side_number w d) (λ t h. ap is_numbered (sym (side_state w d t)) ∙ h);
  }

  open_side : (n : ℕ) (w : Side) → is_confirmed (allocation w (trade s n)).state ≡ false → (view s).num n ≡ false
  open_side n Buyer u = num_buyer (view s) g.seen n (λ _. u)
  open_side n Seller u = num_seller (view s) g.seen n (λ _. u)

  intermediate_open : (r : List Listed) (q : NewIntermediation) → Intermediates r s q → ((view s).num q.intermediation.bought ≡ false) × ((view s).num q.intermediation.sold ≡ false)
  intermediate_open r q p = (
    num_buyer (view s) g.seen q.intermediation.bought (λ z. (p.free Buyer (leg_is_there Buyer q.intermediation z)).unsure),
    num_seller (view s) g.seen q.intermediation.sold (λ z. (p.free Seller (leg_is_there Seller q.intermediation z)).unsure),
  )

  confirm_both_open : (r : List Listed) (q : IntermediationCall) → ConfirmsBoth r s q → ((view s).num (intermediation s q.id).bought ≡ false) × ((view s).num (intermediation s q.id).sold ≡ false)
  confirm_both_open r q p =
      let x = intermediation s q.id in
      (num_buyer (view s) g.seen x.bought (λ z. p.unsure Buyer (leg_is_there Buyer x z)), num_seller (view s) g.seen x.sold (λ z. p.unsure Seller (leg_is_there Seller x z)))

module _ (s : State) (g : Sound s) where
  void_leaves : (n : ℕ) → both_confirmed (trade s n) ≡ false
      → Leaves s (at_trade n cancelled (excluded (trade s n).seller.tie (excluded (trade s n).buyer.tie s)))
  void_leaves n h =
      let v = view s in
      let nn = open_not v g.seen n h in
      let s1 : Seen (exclude (v.buys n) v) = cancel_one v g.seen n nn in
      let r1 = excluded_is s g (v.buys n) s1 in
      let t1 = excluded (v.buys n) s in
      let nb : v.num (v.bought (v.buys n)) ≡ false =
      ⊎_elim (λ (e : v.buys n ≡ 0). ap v.num (ap v.bought e ∙ g.seen.buying.leg_none) ∙ g.seen.numbers.none_num)
      (λ (e : Not0 (v.buys n)). ap v.num (g.seen.buying.back n e) ∙ nn) (cases_eq (v.buys n) 0) in
      let l1 : Leaves s t1 = excluded_leaves s g (v.buys n) nb (num_next_not v g.seen n nn) in
      let l2 : Leaves t1 (excluded (v.sells n) t1) = excluded_leaves t1 r1.1 (v.sells n)
      (subst (λ (u : View). u.num (u.bought (v.sells n)) ≡ false) (sym r1.0)
      (put_cases (λ y. v.num y ≡ false) (v.buys n) 0 v.bought (v.sells n) (λ _ _. g.seen.numbers.none_num) (λ _. num_prev_not v g.seen n nn)))
      (subst (λ (u : View). u.num (u.sold (v.sells n)) ≡ false) (sym r1.0)
      (put_cases (λ y. v.num y ≡ false) (v.buys n) 0 v.sold (v.sells n) (λ _ _. g.seen.numbers.none_num) (λ _. self_s v g.seen n nn))) in
      let w = twice_excluded s g n h in
      let t2 = excluded (v.sells n) t1 in
      let n2 : (view t2).num n ≡ false = ap (λ (u : View). u.num n) w.0 ∙ w.2 in
      leaves_then s t2 _ (leaves_then s t1 t2 l1 l2) (record {
        frozen = record { parts = changed_froze (view t2).num n cancelled t2.trades.rows (λ _. refl) n2; intermediations = λ x m k. refl };
        fewer = changed_fewer n cancelled t2.trades.rows (λ _. refl) (λ _ k. absurd (false≢true k));
      })

  pub placed_leaves : (r : List Listed) (q : Request) → closes q ≡ false → Passed r s q → Leaves s (placed r s q)
  unfolding placed
  placed_leaves r (Capture q) c p =
      let none : find number q.terms.number s.trades.rows ≡ None = none_by _ p.own.absent in
      let t = captured q.terms in
      record {
        frozen = record {
          parts = λ m h. same_path _ _ (ap (or_else no_trade) (row_entered number t s.trades.rows m none
              ∙ ap (λ b. cond b (Some t) (find number m s.trades.rows)) (ne_eqb m (number t) (λ e. both_ways _ p.own.absent (ap (λ k. is_some (find number k s.trades.rows)) (sym e) ∙ num_there s g m h)))));
          intermediations = λ w m h. refl;
        };
        fewer = λ m h.
            let k : is_numbered (or_else no_trade (cond (eqb m (number t)) (Some t) (find number m s.trades.rows))).state ≡ true =
            ap (λ o. is_numbered (or_else no_trade o).state) (sym (row_entered number t s.trades.rows m none)) ∙ h in
            ⊎_elim (λ (e : m ≡ number t). absurd (false≢true (subst (λ b. is_numbered (or_else no_trade (cond b (Some t) (find number m s.trades.rows))).state ≡ true) (eq-eqb _ _ e) k)))
            (λ (e : m ≡ number t → ⊥). subst (λ b. is_numbered (or_else no_trade (cond b (Some t) (find number m s.trades.rows))).state ≡ true) (ne_eqb _ _ e) k)
            (cases_eq m (number t));
      }
  placed_leaves r (Cancel q) c p =
      cond_both (both_confirmed (trade s q.trade)) (at_trade q.trade marked s) (called_off q.trade (trade s q.trade) s) (Leaves s)
      (λ _. record {
        frozen = record {
          parts = λ m h. changed_alike q.trade marked s.trades.rows (λ t. record { terms = refl; numbered = λ k. k; buyer = refl; seller = refl }) m;
          intermediations = λ w m h. refl;
        };
        fewer = changed_fewer q.trade marked s.trades.rows (λ _. refl) (λ _ k. k);
      })
      (void_leaves q.trade)
  placed_leaves r (Include q) c p =
      side_leaves s g q.side q.trade (included r q) (open_side s g q.trade q.side p.own.free.unsure)
  placed_leaves r (Remove q) c p =
      side_leaves s g q.side q.trade emptied (open_side s g q.trade q.side p.own.unsure)
  placed_leaves r (Confirm q) c p =
      side_leaves s g q.side q.trade confirmed (open_side s g q.trade q.side p.own.free.unsure)
  placed_leaves r (Intermediate q) c p =
      let o = intermediate_open s g r q p.own in
      let x : Intermediation = q.intermediation in
      let fb : Trade → Trade = λ t. at_side Buyer (intermediated r x q.now t) t in
      let fs : Trade → Trade = λ t. at_side Seller (intermediated r x q.now t) t in
      let us = changed number x.bought fb s.trades.rows in
      record {
        frozen = record {
          parts = λ m h. same_then _ _ _ (changed_froze (view s).num x.sold fs us (λ _. refl) o.1 m h)
              (changed_froze (view s).num x.bought fb s.trades.rows (λ _. refl) o.0 m h);
          intermediations = entered_froze s g x p.own.id_is (none_by _ p.own.absent);
        };
        fewer = λ m h. changed_fewer x.bought fb s.trades.rows (λ _. refl) (λ _ k. k) m (changed_fewer x.sold fs us (λ _. refl) (λ _ k. k) m h);
      }
  placed_leaves r (ConfirmIntermediation q) c p =
      let o = confirm_both_open s g r q p.own in
      let x = intermediation s q.id in
      let us = changed number x.bought (at_side Buyer confirmed) s.trades.rows in
      record {
        frozen = record {
          parts = λ m h. same_then _ _ _ (changed_froze (view s).num x.sold (at_side Seller confirmed) us (λ _. refl) o.1 m h)
              (changed_froze (view s).num x.bought (at_side Buyer confirmed) s.trades.rows (λ _. refl) o.0 m h);
          intermediations = λ w m h. refl;
        };
        fewer = λ m h. changed_fewer x.bought (at_side Buyer confirmed) s.trades.rows (λ _. refl) (λ _ k. k) m
            (changed_fewer x.sold (at_side Seller confirmed) us (λ _. refl) (λ _ k. k) m h);
      }
  placed_leaves r (ExcludeIntermediation q) c p = let o = exclude_open s g q p.tables p.own in excluded_leaves s g q.id o.0 o.1
  placed_leaves r (Close q) c p = absurd (false≢true (sym c))

  any_open : (x : Intermediation) → (view s).num x.bought ≡ false → (view s).num x.sold ≡ false → (view s).num (any_leg x) ≡ false
  any_open x a b = ⊎_elim (λ (e : x.bought ≡ 0). ap (view s).num (sym (any_leg_is x) ∙ leg_right x.bought x.sold e) ∙ b)
      (λ (e : Not0 x.bought). ap (view s).num (sym (any_leg_is x) ∙ leg_left x.bought x.sold e) ∙ a) (cases_eq x.bought 0)

  -- the trade whose side is confirmed was not numbered
  pub open_before : (r : List Listed) (q : Request) → Passed r s q → (n : ℕ) → confirms_in s q ≡ Some n → (view s).num n ≡ false
  open_before r q p n e = go q n (confirmer s q n e) p
    where
      go : (q : Request) (n : ℕ) → Confirmer s q n → Passed r s q → (view s).num n ≡ false
      go _ _ (including q now) p = open_side s g q.trade q.side p.own.free.unsure
      go _ _ (one_side q) p = open_side s g q.trade q.side p.own.free.unsure
      go _ _ (intermediating q now) p = let o = intermediate_open s g r q p.own in any_open q.intermediation o.0 o.1
      go _ _ (two_sides q) p = let o = confirm_both_open s g r q p.own in any_open (intermediation s q.id) o.0 o.1
