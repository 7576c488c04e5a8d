-- What a new row and a removed row do to the ties.
use Rattle.std.proofs.lemmas.Grind.{common_steps}
use Rattle.keyed.proofs.Words.{◌⊎◌, ◌≡◌, refl, sym, ap, ◌∙◌, ℕ, ◌+◌, ◌≤◌, arith, ne_eqb}
use Rattle.chains.proofs.Walk.{put, Not0, one, far, Walk, Half, one_if, count_from, count}
use Rattle.chains.proofs.Walks.{put_cases, put_at, put_off, one_stays, far_is, far_stops, member}

pub put_on : {X : Type 0} (a : ℕ) (x : X) (f : ℕ → X) (n : ℕ) → n ≡ a → Not0 n → put a x f n ≡ x
put_on a x f n e z = put_cases (λ y. y ≡ x) a x f n (λ _ _. refl) (λ q. absurd (z (q e)))

-- two halves make a walk, if it is short
pub walk_of : (buys bought sells sold : ℕ → ℕ) → Half buys bought → Half sells sold → ((n : ℕ) → sold (buys (sold (buys (sold (buys n))))) ≡ 0)
    → Walk (λ n. sold (buys n)) (λ n. bought (sells n))
walk_of buys bought sells sold b s short = grind (arith, common_steps)

module _ (tie leg : ℕ → ℕ) (h : Half tie leg) where
  pub half_linked : (id a : ℕ) → Not0 id → leg id ≡ 0 → tie a ≡ 0 → Half (put a id tie) (put id a leg)
  half_linked id a i z u = grind (arith, common_steps, put_off, put_at)

  pub half_unlinked : (id : ℕ) → Half (put (leg id) 0 tie) (put id 0 leg)
  half_unlinked id = record {
    tie_none = put_off (leg id) 0 tie 0 (λ _. refl) ∙ h.tie_none;
    leg_none = put_off id 0 leg 0 (λ _. refl) ∙ h.leg_none;
    back = λ n. put_cases (λ y. Not0 y → put id 0 leg y ≡ n) (leg id) 0 tie n
        (λ _ _ d. absurd (d refl))
        (λ q d. put_off id 0 leg (tie n) (λ e. ap tie (q (sym (h.back n d) ∙ ap leg e)) ∙ h.tie_none) ∙ h.back n d);
    forth = λ k. put_cases (λ y. Not0 y → put (leg id) 0 tie y ≡ k) id 0 leg k
        (λ _ _ d. absurd (d refl))
        (λ q d. put_off (leg id) 0 tie (leg k) (λ e. ap leg (q (sym (h.forth k d) ∙ ap tie e ∙ h.forth id (λ z. d (e ∙ z)))) ∙ h.leg_none) ∙ h.forth k d);
  }

  -- what the walk over this tie becomes
  pub next_linked : (other : ℕ → ℕ) (id a c n : ℕ) → Not0 id → leg id ≡ 0
      → put id c other (put a id tie n) ≡ put a c (λ m. other (tie m)) n
  next_linked other id a c n i z = grind (arith, common_steps, put_on, put_off)

  pub next_unlinked : (other : ℕ → ℕ) (id n : ℕ) → other 0 ≡ 0
      → put id 0 other (put (leg id) 0 tie n) ≡ put (leg id) 0 (λ m. other (tie m)) n
  next_unlinked other id n z = grind (arith, common_steps, put_off, put_on)

module _ (next prev : ℕ → ℕ) (w : Walk next prev) where
  -- steps taken away leave short walks
  pub short_cut : (next' : ℕ → ℕ) → next' 0 ≡ 0 → ((k : ℕ) → (next' k ≡ 0) ⊎ (next' k ≡ next k)) → (n : ℕ) → next' (next' (next' n)) ≡ 0
  short_cut next' z c n = grind (arith, common_steps)

  -- a step from a to c, with at most three in all and no ring
  module _ (a c : ℕ) (a_is : Not0 a) (c_is : Not0 c) (a_last : next a ≡ 0) (c_first : prev c ≡ 0)
      (apart : far prev a ≡ c → ⊥)
      (fits : ((prev a ≡ 0) × (next (next c) ≡ 0)) ⊎ ((prev (prev a) ≡ 0) × (next c ≡ 0))) where
    p : ℕ → ℕ
    p = put a c next

    differ : c ≡ a → ⊥
    differ e = let z : prev a ≡ 0 = ap prev (sym e) ∙ c_first in
        apart (far_is prev a ∙ ap (one prev) (one_stays prev a z) ∙ one_stays prev a z ∙ sym e)

    off : (k : ℕ) → (k ≡ a → ⊥) → p k ≡ next k
    unfolding p
    off k d = put_off a c next k (λ e. absurd (d e))

    at_a : p a ≡ c
    unfolding p
    at_a = put_at a c next a_is

    pub short_linked : (n : ℕ) → put a c next (put a c next (put a c next n)) ≡ 0
    unfolding p
    short_linked n = grind (arith, common_steps, at_a, off, differ)

  -- the counts tell what fits
  one_more : (n : ℕ) → Not0 n → one_if n ≡ 1
  one_more n h = rw (ne_eqb _ _ h) refl

  count_two : (n : ℕ) → Not0 n → Not0 (prev n) → 2 ≤ count next prev n
  unfolding count_from
  count_two n z h =
      let k : Not0 (next (far prev n)) = λ e.
      member next prev w (λ x. x ≡ n → ⊥) n (λ d. h (ap prev (sym d) ∙ far_stops next prev w n)) (λ d. z (sym d ∙ e))
      (λ d. z (sym d ∙ ap next e ∙ w.next_none)) refl in
      rw (one_more _ k) (omega arith)

  count_three : (n : ℕ) → Not0 n → Not0 (prev (prev n)) → 3 ≤ count next prev n
  unfolding count_from
  count_three n z h =
      let h1 : Not0 (prev n) = λ e. h (ap prev e ∙ w.prev_none) in
      let k : Not0 (next (next (far prev n))) = λ e.
      member next prev w (λ x. x ≡ n → ⊥) n (λ d. h1 (ap prev (sym d) ∙ far_stops next prev w n))
      (λ d. h (ap (λ x. prev (prev x)) (sym d) ∙ ap prev (w.there (far prev n) (λ y. z (sym d ∙ y))) ∙ far_stops next prev w n))
      (λ d. z (sym d ∙ e)) refl in
      let k1 : Not0 (next (far prev n)) = λ e. k (ap next e ∙ w.next_none) in
      rw (one_more _ k, one_more _ k1) (omega arith)

  pub first_is : (c : ℕ) → prev c ≡ 0 → far prev c ≡ c
  first_is c z = far_is prev c ∙ ap (one prev) (one_stays prev c z) ∙ one_stays prev c z

  count_first : (c : ℕ) → prev c ≡ 0 → count next prev c ≡ 1 + (one_if (next c) + one_if (next (next c)))
  unfolding count_from
  count_first c z = rw (first_is c z) refl

  pub count_fits : (a c : ℕ) → Not0 a → prev c ≡ 0 → count next prev a + count next prev c ≤ 3
      → ((prev a ≡ 0) × (next (next c) ≡ 0)) ⊎ ((prev (prev a) ≡ 0) × (next c ≡ 0))
  count_fits a c z f le = grind (arith, common_steps, count_first, count_three, count_two)
