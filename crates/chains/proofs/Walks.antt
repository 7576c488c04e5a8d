-- What a walk tells.
use Rattle.std.proofs.lemmas.Grind.{common_steps}
use Rattle.std.proofs.Common.{arith}
use Rattle.keyed.proofs.Words.{Bool, true, ⊎_elim, ◌≡◌, refl, sym, ap, ◌∙◌, ℕ, cases_eq, eq-eqb, ne_eqb}
use Rattle.chains.proofs.Walk.{put, Not0, one, far, Walk, whole_from, whole}

-- both cases of a put
pub put_cases : {X : Type 0} (P : X → Type 0) (a : ℕ) (x : X) (f : ℕ → X) (n : ℕ)
    → (n ≡ a → Not0 n → P x) → ((n ≡ a → n ≡ 0) → P (f n)) → P (put a x f n)
unfolding put
put_cases P a x f n yes_at not_at = grind (arith, common_steps)

pub put_at : {X : Type 0} (a : ℕ) (x : X) (f : ℕ → X) → Not0 a → put a x f a ≡ x
put_at a x f h = put_cases (λ y. y ≡ x) a x f a (λ _ _. refl) (λ z. absurd (h (z refl)))

pub put_off : {X : Type 0} (a : ℕ) (x : X) (f : ℕ → X) (n : ℕ) → (n ≡ a → n ≡ 0) → put a x f n ≡ f n
put_off a x f n h = put_cases (λ y. y ≡ f n) a x f n (λ e z. absurd (z (h e))) (λ _. refl)

pub one_stays : (step : ℕ → ℕ) (n : ℕ) → step n ≡ 0 → one step n ≡ n
unfolding one
one_stays step n h = rw (eq-eqb _ _ h) refl

pub one_goes : (step : ℕ → ℕ) (n : ℕ) → Not0 (step n) → one step n ≡ step n
unfolding one
one_goes step n h = rw (ne_eqb _ _ h) refl

-- whatever the step keeps, one keeps
pub one_keeps : (step : ℕ → ℕ) (P : ℕ → Type 0) (n : ℕ) → P n → (Not0 (step n) → P (step n)) → P (one step n)
one_keeps step P n stay go =
    ⊎_elim (λ (e : step n ≡ 0). rw (one_stays step n e) stay) (λ (e : Not0 (step n)). rw (one_goes step n e) (go e)) (cases_eq (step n) 0)

pub far_is : (step : ℕ → ℕ) (n : ℕ) → far step n ≡ one step (one step n)
unfolding far
far_is step n = refl

pub far_keeps : (step : ℕ → ℕ) (P : ℕ → Type 0) → ((k : ℕ) → P k → Not0 (step k) → P (step k)) → (n : ℕ) → P n → P (far step n)
far_keeps step P more n p =
    rw far_is (one_keeps step P (one step n) (one_keeps step P n p (more n p)) (more _ (one_keeps step P n p (more n p))))

-- the same steps lead to the same end
pub same_far : (step step' : ℕ → ℕ) (n : ℕ) → step' n ≡ step n → step' (one step n) ≡ step (one step n) → far step' n ≡ far step n
unfolding one far
same_far step step' n e d = rw (e, d) refl

module _ (next prev : ℕ → ℕ) (w : Walk next prev) where
  back_not0 : (n : ℕ) → Not0 (prev n) → Not0 n
  back_not0 n h e = h (ap prev e ∙ w.prev_none)

  three : (n : ℕ) → prev (prev (prev n)) ≡ 0
  three n = grind (arith, common_steps)

  pub turned : Walk prev next
  turned = record { next_none = w.prev_none; prev_none = w.next_none; there = w.back; back = w.there; short = three }

  -- the far end has nothing before it
  pub far_stops : (n : ℕ) → prev (far prev n) ≡ 0
  far_stops n = grind (arith, common_steps, far_is, one_stays, one_goes)

  -- a trade and its next have one far end
  pub far_next : (n : ℕ) → Not0 (next n) → far prev (next n) ≡ far prev n
  far_next n h = grind (arith, common_steps, one_goes, one_stays, far_is)

  pub far_prev : (n : ℕ) → Not0 (prev n) → far prev (prev n) ≡ far prev n
  far_prev n h = let e = w.back n h in
      sym (far_next (prev n) (λ z. back_not0 n h (sym e ∙ z))) ∙ ap (far prev) e

  pub far_far : (n : ℕ) → far prev (far prev n) ≡ far prev n
  far_far n = far_keeps prev (λ k. far prev k ≡ far prev n) (λ k p h. far_prev k h ∙ p) n refl

  pub far_not0 : (n : ℕ) → Not0 n → Not0 (far prev n)
  far_not0 n h = far_keeps prev Not0 (λ k p q. q) n h

  -- a trade is its chain's first, second or third
  pub member : (P : ℕ → Type 0) (n : ℕ) → P (far prev n) → P (next (far prev n)) → P (next (next (far prev n))) → P n
  member P n a b c = grind (arith, common_steps, far_is, one_stays, one_goes)

-- the whole chain has one last trade
pub far_across : (next prev : ℕ → ℕ) → Walk next prev → (n : ℕ) → far next (far prev n) ≡ far next n
far_across next prev w n =
    far_keeps prev (λ k. far next k ≡ far next n) (λ k p h. far_next prev next (turned next prev w) k h ∙ p) n refl

module _ (next prev : ℕ → ℕ) (full : ℕ → Bool) where
  pub whole_parts : (f : ℕ) → whole_from next full f ≡ true
      → (full f ≡ true) × (full (next f) ≡ true) × (full (next (next f)) ≡ true)
  unfolding whole_from
  whole_parts f h = grind (arith, common_steps)

  pub whole_made : (f : ℕ) → full f ≡ true → full (next f) ≡ true → full (next (next f)) ≡ true → whole_from next full f ≡ true
  unfolding whole_from
  whole_made f a b c = rw (a, b, c) refl

  pub whole_each : Walk next prev → (n : ℕ) → whole next prev full n ≡ true → full n ≡ true
  whole_each w n h = let p = whole_parts (far prev n) h in member next prev w (λ k. full k ≡ true) n p.0 p.1 p.2

  -- and of every trade of the chain
  pub whole_any : Walk next prev → (n m : ℕ) → far prev m ≡ far prev n → whole next prev full n ≡ true → full m ≡ true
  whole_any w n m e h = whole_each w m (rw e h)
