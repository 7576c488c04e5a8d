-- What is not numbered, in a sound book seen by numbers.
use Rattle.keyed.proofs.Words.{true, false, ◌&&◌, ⊎_elim, ◌≡◌, refl, sym, ap, ◌∙◌, ℕ, cases_eq, cases_Bool, both_ways}
use Rattle.law.proofs.Subject.{Side, Buyer, Seller}
use Rattle.chains.proofs.Walk.{Not0}
use Rattle.chains.proofs.Walks.{put_cases, put_off}
use Rattle.law.proofs.Bridge.{as_bought, as_sold}
use Rattle.law.proofs.Kept.{walk, full_parts, exclude_kept}
use Rattle.law.proofs.Views.{View, sure, next, prev, exclude, Sound}

module _ (v : View) (s : Sound v) where
  pub not_num : (k : ℕ) → (Not0 k → v.num k ≡ true → ⊥) → v.num k ≡ false
  not_num k h = ⊎_elim (λ (e : k ≡ 0). ap v.num e ∙ s.numbers.none_num)
      (λ (z : Not0 k). ⊎_elim (λ (e : v.num k ≡ true). absurd (h z e)) (λ (e : v.num k ≡ false). e) (cases_Bool (v.num k)))
      (cases_eq k 0)

  pub num_buyer : (k : ℕ) → (Not0 k → sure (v.buyer k) ≡ false) → v.num k ≡ false
  num_buyer k h = not_num k (λ z e. both_ways _ (h z) (full_parts _ _ k z (s.numbers.num_full k e)).0)

  pub num_seller : (k : ℕ) → (Not0 k → sure (v.seller k) ≡ false) → v.num k ≡ false
  num_seller k h = not_num k (λ z e. both_ways _ (h z) (full_parts _ _ k z (s.numbers.num_full k e)).1)

  pub num_next_not : (k : ℕ) → v.num k ≡ false → v.num (next v k) ≡ false
  num_next_not k h = not_num (next v k) (λ z e.
      let b = (walk v s).there k z in
      let k_is : Not0 k = λ y. z (ap (next v) y ∙ (walk v s).next_none) in
      both_ways _ h (ap v.num (sym b) ∙ s.numbers.num_prev (next v k) e (λ y. k_is (sym b ∙ y))))

  pub num_prev_not : (k : ℕ) → v.num k ≡ false → v.num (prev v k) ≡ false
  num_prev_not k h = not_num (prev v k) (λ z e.
      let b = (walk v s).back k z in
      let k_is : Not0 k = λ y. z (ap (prev v) y ∙ (walk v s).prev_none) in
      both_ways _ h (ap v.num (sym b) ∙ s.numbers.num_next (prev v k) e (λ y. k_is (sym b ∙ y))))

  pub side_alone : (n : ℕ) (w : Side) (f : ℕ → ℕ) → Not0 (as_bought n w) → Not0 (as_sold n w) → f (as_bought n w) ≡ as_sold n w
  side_alone n Buyer f a c = absurd (c refl)
  side_alone n Seller f a c = absurd (a refl)

  -- after both exclusions the trade is untied
  pub gone_b : (n : ℕ) → (exclude (v.sells n) (exclude (v.buys n) v)).buys n ≡ 0
  gone_b n = put_cases (λ y. y ≡ 0) _ 0 (exclude (v.buys n) v).buys n (λ _ _. refl) (λ _. once_b n)
    where
      once_b : (n : ℕ) → (exclude (v.buys n) v).buys n ≡ 0
      once_b n = put_cases (λ y. y ≡ 0) (v.bought (v.buys n)) 0 v.buys n (λ _ _. refl)
          (λ q. ⊎_elim (λ (e : v.buys n ≡ 0). e) (λ (e : Not0 (v.buys n)). ap v.buys (q (sym (s.buying.back n e))) ∙ s.buying.tie_none) (cases_eq (v.buys n) 0))

  pub gone_s : (n : ℕ) → (exclude (v.sells n) (exclude (v.buys n) v)).sells n ≡ 0
  gone_s n = put_cases (λ y. y ≡ 0) _ 0 (exclude (v.buys n) v).sells n (λ _ _. refl)
      (λ q. put_cases (λ y. y ≡ 0) (v.sold (v.buys n)) 0 v.sells n (λ _ _. refl)
      (λ r. ⊎_elim (λ (e : v.sells n ≡ 0). e)
      (λ (e : Not0 (v.sells n)).
      ⊎_elim (λ (same : v.sells n ≡ v.buys n). ap v.sells (r (sym (s.selling.back n e) ∙ ap v.sold same)) ∙ s.selling.tie_none)
      (λ (other : v.sells n ≡ v.buys n → ⊥).
      ap v.sells (q (sym (put_off (v.buys n) 0 v.sold (v.sells n) (λ d. absurd (other d)) ∙ s.selling.back n e))) ∙ s.selling.tie_none)
      (cases_eq (v.sells n) (v.buys n)))
      (cases_eq (v.sells n) 0)))

  -- a trade with a side that is not confirmed is not numbered, nor are those next to it
  pub open_not : (n : ℕ) → (sure (v.buyer n) && sure (v.seller n)) ≡ false → v.num n ≡ false
  open_not n h = not_num n (λ z e. let f = full_parts v.buyer v.seller n z (s.numbers.num_full n e) in both_ways _ h (rw (f.0, f.1) refl))

  pub self_s : (n : ℕ) → v.num n ≡ false → v.num (v.sold (v.sells n)) ≡ false
  self_s n nn = not_num _ (λ z e. both_ways _ nn (ap v.num (sym (s.selling.back n (λ y. z (ap v.sold y ∙ s.selling.leg_none)))) ∙ e))

  pub cancel_one : (n : ℕ) → v.num n ≡ false → Sound (exclude (v.buys n) v)
  cancel_one n nn = exclude_kept v s (v.buys n)
      (not_num _ (λ z e. both_ways _ nn (ap v.num (sym (s.buying.back n (λ y. z (ap v.bought y ∙ s.buying.leg_none)))) ∙ e)))
      (num_next_not n nn)
