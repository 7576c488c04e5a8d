-- What keeps full and numbered together.
use Rattle.std.proofs.lemmas.Grind.{common_steps}
use Rattle.std.proofs.Common.{arith}
use Rattle.std.specs.List.{Contains}
use Rattle.std.proofs.lemmas.List.Elements.{Contains-append_cases, Contains-append_left, Contains-append_right}
use Rattle.keyed.proofs.Words.{Bool, true, false, List, ◌++◌, ◌⊎◌, inl, inr, ⊎_elim, ◌≡◌, refl, sym, ap, subst, ◌∙◌, ℕ, cases_eq}
use Rattle.chains.proofs.Walk.{Not0, one, far, Walk, whole, Pair, Numbered, joined}
use Rattle.chains.proofs.Walks.{one_keeps, same_far, far_stops, far_next, far_prev, far_far, far_not0, far_across, whole_parts, whole_made, whole_any}

same_one : (step step' : ℕ → ℕ) (m : ℕ) → step' m ≡ step m → one step' m ≡ one step m
unfolding one
same_one step step' m e = rw e refl

-- ties changed only at trades that are not full
module _ (next prev next' prev' : ℕ → ℕ) (full num : ℕ → Bool) (pairs : List Pair) (i : Numbered next prev full num pairs)
    (w' : Walk next' prev')
    (on : (k : ℕ) → full k ≡ true → next' k ≡ next k) (up : (k : ℕ) → full k ≡ true → prev' k ≡ prev k) where
  same_first : (n : ℕ) → num n ≡ true → far prev' n ≡ far prev n
  same_first n h = same_far prev prev' n (up n (i.num_full n h))
      (up _ (i.num_full _ (one_keeps prev (λ k. num k ≡ true) n h (i.num_prev n h))))

  same_last : (n : ℕ) → num n ≡ true → far next' n ≡ far next n
  same_last n h = same_far next next' n (on n (i.num_full n h))
      (on _ (i.num_full _ (one_keeps next (λ k. num k ≡ true) n h (i.num_next n h))))

  whole_before : (n : ℕ) → whole next' prev' full n ≡ true → whole next prev full n ≡ true
  whole_before n h =
      let each = whole_any next' prev' full w' n in
      let here = each n refl h in
      -- back over the old steps, which are the new ones
      let there : full (one prev n) ≡ true =
      subst (λ k. full k ≡ true) (same_one prev prev' n (up n here)) (each (one prev' n) (one_keeps prev' (λ k. far prev' k ≡ far prev' n) n refl (far_prev next' prev' w' n)) h) in
      let f = same_far prev prev' n (up n here) (up _ there) in
      let p = whole_parts next' prev' full (far prev' n) h in
      let a : full (far prev n) ≡ true = subst (λ k. full k ≡ true) f p.0 in
      let e1 : next' (far prev' n) ≡ next (far prev n) = ap next' f ∙ on _ a in
      let b : full (next (far prev n)) ≡ true = subst (λ k. full k ≡ true) e1 p.1 in
      let e2 : next' (next' (far prev' n)) ≡ next (next (far prev n)) = ap next' e1 ∙ on _ b in
      whole_made next prev full (far prev n) a b (subst (λ k. full k ≡ true) e2 p.2)

  pub relinked : Numbered next' prev' full num pairs
  relinked = record {
    none_full = i.none_full;
    none_num = i.none_num;
    num_full = i.num_full;
    num_next = λ n h z. let e = on n (i.num_full n h) in rw e (i.num_next n h (λ y. z (e ∙ y)));
    num_prev = λ n h z. let e = up n (i.num_full n h) in rw e (i.num_prev n h (λ y. z (e ∙ y)));
    full_num = λ n z h. i.full_num n z (whole_before n h);
    pair_num = λ p h. let q = i.pair_num p h in
        (q.0, up _ (i.num_full _ q.0) ∙ q.1, q.2 ∙ sym (same_last _ q.0));
    num_pair = λ n h. let q = i.num_pair n h in (q.0, q.1, q.2 ∙ sym (same_first n h), q.3 ∙ sym (same_last n h));
  }

-- sides changed only at trades that are not numbered, and none is confirmed
pub refilled : (next prev : ℕ → ℕ) (full num full' num' : ℕ → Bool) (pairs : List Pair) → Numbered next prev full num pairs
    → ((k : ℕ) → num' k ≡ num k) → ((k : ℕ) → num k ≡ true → full' k ≡ true) → ((k : ℕ) → full' k ≡ true → full k ≡ true)
    → full' 0 ≡ true → Numbered next prev full' num' pairs
refilled next prev full num full' num' pairs i same stays less z = record {
  none_full = z;
  none_num = same 0 ∙ i.none_num;
  num_full = λ n h. stays n (sym (same n) ∙ h);
  num_next = λ n h q. same _ ∙ i.num_next n (sym (same n) ∙ h) q;
  num_prev = λ n h q. same _ ∙ i.num_prev n (sym (same n) ∙ h) q;
  full_num = λ n q h. same n ∙ i.full_num n q (
      let p = whole_parts next prev full' (far prev n) h in
      whole_made next prev full (far prev n) (less _ p.0) (less _ p.1) (less _ p.2));
  pair_num = λ p h. let q = i.pair_num p h in (same _ ∙ q.0, q.1, q.2);
  num_pair = λ n h. i.num_pair n (sym (same n) ∙ h);
}

-- sides of one chain confirmed, and the chain numbered if that makes it whole
module _ (next prev : ℕ → ℕ) (w : Walk next prev) (full num full' : ℕ → Bool) (pairs : List Pair) (i : Numbered next prev full num pairs)
    (n : ℕ) (n_is : Not0 n)
    (more : (k : ℕ) → full k ≡ true → full' k ≡ true)
    (only : (k : ℕ) → full' k ≡ true → (far prev k ≡ far prev n) ⊎ (full k ≡ true)) where
  elsewhere : (k : ℕ) → (far prev k ≡ far prev n → ⊥) → whole next prev full' k ≡ true → whole next prev full k ≡ true
  elsewhere k d h =
      let p = whole_parts next prev full' (far prev k) h in
      let at_first : (m : ℕ) → (Not0 m → far prev m ≡ far prev k) → full' m ≡ true → full m ≡ true =
      λ m e g. ⊎_elim (λ (z : m ≡ 0). rw z i.none_full)
      (λ (z : Not0 m). ⊎_elim (λ (x : far prev m ≡ far prev n). absurd (d (sym (e z) ∙ x))) (λ (x : full m ≡ true). x) (only m g)) (cases_eq m 0) in
      let f1 : Not0 (next (far prev k)) → far prev (next (far prev k)) ≡ far prev k =
      λ z. far_next next prev w _ z ∙ far_far next prev w k in
      let f2 : Not0 (next (next (far prev k))) → far prev (next (next (far prev k))) ≡ far prev k =
      λ z. far_next next prev w _ z ∙ f1 (λ y. z (ap next y ∙ w.next_none)) in
      whole_made next prev full (far prev k) (at_first _ (λ _. far_far next prev w k) p.0) (at_first _ f1 p.1) (at_first _ f2 p.2)

  pub confirmed_part : whole next prev full' n ≡ false → Numbered next prev full' num pairs
  confirmed_part h = grind (arith, common_steps, elsewhere)

  joined_cases : (P : Bool → Type 0) (k : ℕ) → (Not0 k → far prev k ≡ far prev n → P true) → ((Not0 k → far prev k ≡ far prev n → ⊥) → P (num k)) → P (joined prev n num k)
  unfolding joined
  joined_cases P k a b = grind (arith, common_steps)

  joined_in : (k : ℕ) → Not0 k → far prev k ≡ far prev n → joined prev n num k ≡ true
  joined_in k z e = joined_cases (λ b. b ≡ true) k (λ _ _. refl) (λ q. absurd (q z e))

  joined_old : (k : ℕ) → num k ≡ true → joined prev n num k ≡ true
  joined_old k h = joined_cases (λ b. b ≡ true) k (λ _ _. refl) (λ _. h)

  -- what is joined is of the chain, or was numbered
  filled_both : (k : ℕ) → joined prev n num k ≡ true → (Not0 k × (far prev k ≡ far prev n)) ⊎ (num k ≡ true)
  filled_both k = joined_cases (λ b. b ≡ true → (Not0 k × (far prev k ≡ far prev n)) ⊎ (num k ≡ true)) k (λ z e _. inl (z, e)) (λ _ h. inr h)

  -- whatever pairs are written, if each names the chain's ends and there is one
  pub confirmed_whole : (ps : List Pair) → ((p : Pair) → Contains ps p → (p.opens ≡ far prev n) × (p.ends ≡ far next n)) → (p : Pair) → Contains ps p
      → whole next prev full' n ≡ true → Numbered next prev full' (joined prev n num) (pairs ++ ps)
  confirmed_whole ps each a_pair a_in h = record {
    none_full = more 0 i.none_full;
    none_num = joined_cases (λ b. b ≡ false) 0 (λ z _. absurd (z refl)) (λ _. i.none_num);
    num_full = λ k g. ⊎_elim (λ (e : Not0 k × (far prev k ≡ far prev n)). whole_any next prev full' w n k e.1 h)
        (λ (o : num k ≡ true). more k (i.num_full k o)) (filled_both k g);
    num_next = λ k g z. ⊎_elim (λ (e : Not0 k × (far prev k ≡ far prev n)). joined_in (next k) z (far_next next prev w k z ∙ e.1))
        (λ (o : num k ≡ true). joined_old _ (i.num_next k o z)) (filled_both k g);
    num_prev = λ k g z. ⊎_elim (λ (e : Not0 k × (far prev k ≡ far prev n)). joined_in (prev k) z (far_prev next prev w k z ∙ e.1))
        (λ (o : num k ≡ true). joined_old _ (i.num_prev k o z)) (filled_both k g);
    full_num = λ k z g. ⊎_elim (λ (e : far prev k ≡ far prev n). joined_in k z e)
        (λ (d : far prev k ≡ far prev n → ⊥). joined_old k (i.full_num k z (elsewhere k d g))) (cases_eq (far prev k) (far prev n));
    pair_num = λ p g. ⊎_elim (λ (o : Contains pairs p). let q = i.pair_num p o in (joined_old _ q.0, q.1, q.2))
        (λ (o : Contains ps p). let e = each p o in (
          ap (joined prev n num) e.0 ∙ joined_in _ (far_not0 next prev w n n_is) (far_far next prev w n),
          ap prev e.0 ∙ far_stops next prev w n,
          e.1 ∙ sym (far_across next prev w n) ∙ ap (far next) (sym e.0),
        ))
        (Contains-append_cases pairs ps p g);
    num_pair = λ k g. ⊎_elim (λ (e : Not0 k × (far prev k ≡ far prev n)).
        let q = each a_pair a_in in (
          a_pair,
          Contains-append_right pairs ps a_pair a_in,
          q.0 ∙ sym e.1,
          q.1 ∙ sym (far_across next prev w n) ∙ ap (far next) (sym e.1) ∙ far_across next prev w k,
        ))
        (λ (o : num k ≡ true). let q = i.num_pair k o in (q.0, Contains-append_left pairs ps q.0 q.1, q.2, q.3)) (filled_both k g);
  }
