-- Each part of a request keeps the book sound.
use Rattle.keyed.proofs.Words.{arith, Bool, true, false, not, ◌&&◌, ◌⊎◌, inl, inr, ⊎_elim, ◌≡◌, refl, sym, ap, ap₂, subst, fun_ext, ◌∙◌, ℕ, ◌+◌, ◌≤◌, cases_eq, cases_Bool, eq-eqb, ne_eqb, both_ways, and_parts, false≢true}
use Rattle.law.proofs.Subject.{AllocationState, Empty}
use Rattle.chains.proofs.Numbering.{relinked, refilled}
use Rattle.chains.proofs.Ties.{walk_of, half_linked, half_unlinked, next_linked, next_unlinked, short_cut, short_linked, count_fits, first_is}
use Rattle.chains.proofs.Walk.{put, Not0, Walk, Half, count}
use Rattle.chains.proofs.Walks.{put_cases, put_at, put_off, whole_each}
use Rattle.law.proofs.Views.{View, Common, sure, next, prev, full_by, full, first, whole_chain, sides, link, unlink, captured, voided, exclude, nothing, live, Sound}

pub walk : (v : View) → Sound v → Walk (next v) (prev v)
walk v s = walk_of v.buys v.bought v.sells v.sold s.buying s.selling s.short

pub full_none : (buyer seller : ℕ → AllocationState) → full_by buyer seller 0 ≡ true
unfolding full_by
full_none buyer seller = refl

pub full_parts : (buyer seller : ℕ → AllocationState) (k : ℕ) → Not0 k → full_by buyer seller k ≡ true → (sure (buyer k) ≡ true) × (sure (seller k) ≡ true)
unfolding full_by
full_parts buyer seller k z h = and_parts _ _ (rw (ne_eqb _ _ z) at h)

pub full_made : (buyer seller : ℕ → AllocationState) (k : ℕ) → (Not0 k → sure (buyer k) ≡ true) → (Not0 k → sure (seller k) ≡ true) → full_by buyer seller k ≡ true
unfolding full_by
full_made buyer seller k b s =
    ⊎_elim (λ (e : k ≡ 0). rw (eq-eqb _ _ e) refl) (λ (z : Not0 k). rw (ne_eqb _ _ z, b z, s z) refl) (cases_eq k 0)

-- sides that are not confirmed, put where nothing is numbered
module _ (a c : ℕ) (x : AllocationState) (weak : sure x ≡ false) (buyer seller : ℕ → AllocationState) (num : ℕ → Bool) where
  weaker : (k : ℕ) → full_by (put a x buyer) (put c x seller) k ≡ true → full_by buyer seller k ≡ true
  weaker k h = full_made buyer seller k
      (λ z. put_cases (λ y. sure y ≡ true → sure (buyer k) ≡ true) a x buyer k (λ _ _ q. absurd (both_ways _ weak q)) (λ _ q. q) (full_parts _ _ k z h).0)
      (λ z. put_cases (λ y. sure y ≡ true → sure (seller k) ≡ true) c x seller k (λ _ _ q. absurd (both_ways _ weak q)) (λ _ q. q) (full_parts _ _ k z h).1)

  stays : ((k : ℕ) → num k ≡ true → full_by buyer seller k ≡ true) → num a ≡ false → num c ≡ false
      → (k : ℕ) → num k ≡ true → full_by (put a x buyer) (put c x seller) k ≡ true
  stays f na nc k h = full_made (put a x buyer) (put c x seller) k
      (λ z. put_cases (λ y. sure y ≡ true) a x buyer k (λ e _. absurd (both_ways _ na (rw e at h))) (λ _. (full_parts _ _ k z (f k h)).0))
      (λ z. put_cases (λ y. sure y ≡ true) c x seller k (λ e _. absurd (both_ways _ nc (rw e at h))) (λ _. (full_parts _ _ k z (f k h)).1))

pub blank_kept : (v : View) → Sound v → (a : ℕ) (x : AllocationState) → (Not0 a → live v a ≡ true) → (n : ℕ) → live v n ≡ false → put a x v.buyer n ≡ Empty
blank_kept v s a x here n h =
    put_cases (λ y. y ≡ Empty) a x v.buyer n
    (λ e z. absurd (both_ways _ h (ap (live v) e ∙ here (λ y. z (e ∙ y)))))
    (λ _. (s.blank n h).2)

pub sides_kept : (v : View) → Sound v → (a c : ℕ) (x : AllocationState) → sure x ≡ false → (Not0 a → live v a ≡ true)
    → v.num a ≡ false → v.num c ≡ false → Sound (sides a c x v)
sides_kept v s a c x weak here na nc = record {
  buying = s.buying;
  selling = s.selling;
  short = s.short;
  alike = s.alike;
  numbers = refilled (next v) (prev v) (full v) v.num (full (sides a c x v)) v.num v.pairs s.numbers (λ k. refl)
      (stays a c x weak v.buyer v.seller v.num s.numbers.num_full na nc) (weaker a c x weak v.buyer v.seller v.num) (full_none _ _);
  none = s.none;
  blank = λ n h. let b = s.blank n h in (b.0, b.1, blank_kept v s a x here n h);
}

pub voided_kept : (v : View) → Sound v → (n : ℕ) → live v n ≡ true → v.num n ≡ false → v.buys n ≡ 0 → v.sells n ≡ 0 → Sound (voided n v)
voided_kept v s n here nn zb zs =
    let t = sides_kept v s n n Empty refl (λ _. here) nn nn in
    record {
      buying = t.buying;
      selling = t.selling;
      short = t.short;
      alike = t.alike;
      numbers = t.numbers;
      none = t.none;
      blank = λ m h. ⊎_elim (λ (e : m ≡ n). (
        ap v.buys e ∙ zb,
        ap v.sells e ∙ zs,
        put_cases (λ y. y ≡ Empty) n Empty v.buyer m (λ _ _. refl) (λ q. (s.blank m (subst (λ k. live v k ≡ false) (sym (q e)) (rw s.none refl))).2),
      ))
          (λ (e : m ≡ n → ⊥). t.blank m (ap (λ b. v.present m && not b) (sym (put_off n true v.cancelled m (λ d. absurd (e d)))) ∙ h)) (cases_eq m n);
    }

absent_apart : (v : View) → Sound v → (n : ℕ) → live v n ≡ false → (next v n ≡ 0) × ((m : ℕ) → Not0 (next v m) → next v m ≡ n → ⊥)
absent_apart v s n h =
    let b = s.blank n h in
    let w = walk v s in (
      ap v.sold b.0 ∙ s.selling.leg_none,
      λ m z e. z (ap (next v) (sym (w.there m z) ∙ ap (prev v) e ∙ ap v.bought b.1 ∙ s.buying.leg_none) ∙ w.next_none),
    )

pub absent_num : (v : View) → Sound v → (n : ℕ) → live v n ≡ false → v.num n ≡ false
absent_num v s n h =
    ⊎_elim (λ (e : v.num n ≡ true). ⊎_elim (λ (z : n ≡ 0). ap v.num z ∙ s.numbers.none_num)
    (λ (z : Not0 n). absurd (false≢true (ap sure (sym (s.blank n h).2) ∙ (full_parts _ _ n z (s.numbers.num_full n e)).0))) (cases_eq n 0))
    (λ (e : v.num n ≡ false). e) (cases_Bool (v.num n))

pub captured_kept : (v : View) → Sound v → (n : ℕ) (t : Common) → v.present n ≡ false → Sound (captured n t v)
captured_kept v s n t absent = let h : live v n ≡ false = rw absent refl in record {
  buying = s.buying;
  selling = s.selling;
  short = s.short;
  alike = λ m z. let p = absent_apart v s n h in
      put_off n t v.terms (next v m) (λ e. absurd (p.1 m z e)) ∙ s.alike m z
      ∙ sym (put_off n t v.terms m (λ e. absurd (z (ap (next v) e ∙ p.0))));
  numbers = refilled (next v) (prev v) (full v) v.num (full (captured n t v)) v.num v.pairs s.numbers (λ k. refl)
      (stays n n Empty refl v.buyer v.seller v.num s.numbers.num_full (absent_num v s n h) (absent_num v s n h))
      (weaker n n Empty refl v.buyer v.seller v.num) (full_none _ _);
  none = put_off n true v.present 0 (λ _. refl) ∙ s.none;
  blank = λ m q. ⊎_elim (λ (e : m ≡ n). let b = s.blank n h in (
    ap v.buys e ∙ b.0,
    ap v.sells e ∙ b.1,
    put_cases (λ y. y ≡ Empty) n Empty v.buyer m (λ _ _. refl) (λ _. ap v.buyer e ∙ b.2),
  ))
      (λ (e : m ≡ n → ⊥).
      let off : m ≡ n → m ≡ 0 = λ d. absurd (e d) in
      let b = s.blank m (ap₂ (λ x y. x && not y) (sym (put_off n true v.present m off)) (sym (put_off n false v.cancelled m off)) ∙ q) in
      (b.0, b.1, put_off n Empty v.buyer m off ∙ b.2))
      (cases_eq m n);
}

-- a step that is changed only where a side is not confirmed
kept_at_full : (buyer seller : ℕ → AllocationState) (step : ℕ → ℕ) (a y : ℕ) → (Not0 a → full_by buyer seller a ≡ false)
    → (k : ℕ) → full_by buyer seller k ≡ true → put a y step k ≡ step k
kept_at_full buyer seller step a y weak k h =
    put_off a y step k (λ e. ⊎_elim (λ (z : k ≡ 0). z) (λ (z : Not0 k). absurd (both_ways _ (weak (λ d. z (e ∙ d))) (rw e at h))) (cases_eq k 0))

weak_buyer : (buyer seller : ℕ → AllocationState) (a : ℕ) → (Not0 a → sure (buyer a) ≡ false) → Not0 a → full_by buyer seller a ≡ false
unfolding full_by
weak_buyer buyer seller a w z = rw (ne_eqb _ _ z, w z) refl

and_no : (b : Bool) → (b && false) ≡ false
and_no true = refl
and_no false = refl

weak_seller : (buyer seller : ℕ → AllocationState) (a : ℕ) → (Not0 a → sure (seller a) ≡ false) → Not0 a → full_by buyer seller a ≡ false
unfolding full_by
weak_seller buyer seller a w z = rw (ne_eqb _ _ z, w z) (and_no _)

pub link_kept : (v : View) → Sound v → (id a c : ℕ) → Not0 id → v.bought id ≡ 0 → v.sold id ≡ 0 → v.buys a ≡ 0 → v.sells c ≡ 0
    → (Not0 a → sure (v.buyer a) ≡ false) → (Not0 c → sure (v.seller c) ≡ false)
    → (Not0 a → live v a ≡ true) → (Not0 c → live v c ≡ true)
    → (Not0 a → Not0 c → v.terms a ≡ v.terms c)
    → (Not0 a → Not0 c → first v a ≡ first v c → ⊥)
    → (Not0 a → Not0 c → count (next v) (prev v) a + count (next v) (prev v) c ≤ 3)
    → Sound (link id a c v)
link_kept v s id a c i zb zs fa fc wa wc pa pc terms apart fits =
    record {
      buying = b';
      selling = s';
      short = short';
      alike = λ n. rw (on n) (put_cases (λ y. Not0 y → v.terms y ≡ v.terms n) a c (next v) n
          (λ e z d. sym (ap v.terms e ∙ terms (λ y. z (e ∙ y)) d)) (λ _ z. s.alike n z));
      numbers = relinked (next v) (prev v) (next (link id a c v)) (prev (link id a c v)) (full v) v.num v.pairs s.numbers
          (walk_of _ _ _ _ b' s' short')
          (λ k h. on k ∙ kept_at_full v.buyer v.seller (next v) a c (weak_buyer v.buyer v.seller a wa) k h)
          (λ k h. up k ∙ kept_at_full v.buyer v.seller (prev v) c a (weak_seller v.buyer v.seller c wc) k h);
      none = s.none;
      blank = λ n h. let b = s.blank n h in
          (put_off a id v.buys n (gone a pa n h) ∙ b.0, put_off c id v.sells n (gone c pc n h) ∙ b.1, b.2);
    }
  where
    w : Walk (next v) (prev v)
    w = walk v s

    b' : Half (put a id v.buys) (put id a v.bought)
    b' = half_linked v.buys v.bought s.buying id a i zb fa

    s' : Half (put c id v.sells) (put id c v.sold)
    s' = half_linked v.sells v.sold s.selling id c i zs fc

    on : (n : ℕ) → next (link id a c v) n ≡ put a c (next v) n
    on n = next_linked v.buys v.bought s.buying v.sold id a c n i zb

    up : (n : ℕ) → prev (link id a c v) n ≡ put c a (prev v) n
    up n = next_linked v.sells v.sold s.selling v.bought id c a n i zs

    gone : (m : ℕ) → (Not0 m → live v m ≡ true) → (n : ℕ) → live v n ≡ false → n ≡ m → n ≡ 0
    gone m p n h e = ⊎_elim (λ (z : n ≡ 0). z) (λ (z : Not0 n). absurd (both_ways _ h (ap (live v) e ∙ p (λ d. z (e ∙ d))))) (cases_eq n 0)

    a_last : next v a ≡ 0
    a_last = ap v.sold fa ∙ s.selling.leg_none

    c_first : prev v c ≡ 0
    c_first = ap v.bought fc ∙ s.buying.leg_none

    shorter : (n : ℕ) → put a c (next v) (put a c (next v) (put a c (next v) n)) ≡ 0
    shorter n =
        ⊎_elim (λ (z : a ≡ 0). short_cut (next v) (prev v) w (put a c (next v)) (put_off a c (next v) 0 (λ _. refl) ∙ w.next_none)
        (λ k. inr (put_off a c (next v) k (λ e. e ∙ z))) n)
        (λ (za : Not0 a). ⊎_elim (λ (z : c ≡ 0). short_cut (next v) (prev v) w (put a c (next v)) (put_off a c (next v) 0 (λ _. refl) ∙ w.next_none)
        (λ k. put_cases (λ y. (y ≡ 0) ⊎ (y ≡ next v k)) a c (next v) k (λ _ _. inl z) (λ _. inr refl)) n)
        (λ (zc : Not0 c). short_linked (next v) (prev v) w a c za zc a_last c_first
        (λ e. apart za zc (e ∙ sym (first_is (next v) (prev v) w c c_first)))
        (count_fits (next v) (prev v) w a c za c_first (fits za zc)) n)
        (cases_eq c 0))
        (cases_eq a 0)

    short' : (n : ℕ) → next (link id a c v) (next (link id a c v) (next (link id a c v) n)) ≡ 0
    short' n = ap (λ f. f (f (f n))) (fun_ext on) ∙ shorter n

pub unlink_kept : (v : View) → Sound v → (id : ℕ) → (Not0 (v.bought id) → sure (v.buyer (v.bought id)) ≡ false)
    → (Not0 (v.sold id) → sure (v.seller (v.sold id)) ≡ false) → Sound (unlink id v)
unlink_kept v s id wa wc =
    record {
      buying = b';
      selling = s';
      short = short';
      alike = λ n. rw (on n) (put_cases (λ y. Not0 y → v.terms y ≡ v.terms n) (v.bought id) 0 (next v) n
          (λ _ _ d. absurd (d refl)) (λ _ z. s.alike n z));
      numbers = relinked (next v) (prev v) (next (unlink id v)) (prev (unlink id v)) (full v) v.num v.pairs s.numbers
          (walk_of _ _ _ _ b' s' short')
          (λ k h. on k ∙ kept_at_full v.buyer v.seller (next v) (v.bought id) 0 (weak_buyer v.buyer v.seller (v.bought id) wa) k h)
          (λ k h. up k ∙ kept_at_full v.buyer v.seller (prev v) (v.sold id) 0 (weak_seller v.buyer v.seller (v.sold id) wc) k h);
      none = s.none;
      blank = λ n h. let b = s.blank n h in (
        put_cases (λ y. y ≡ 0) (v.bought id) 0 v.buys n (λ _ _. refl) (λ _. b.0),
        put_cases (λ y. y ≡ 0) (v.sold id) 0 v.sells n (λ _ _. refl) (λ _. b.1),
        b.2,
      );
    }
  where
    w : Walk (next v) (prev v)
    w = walk v s

    b' : Half (put (v.bought id) 0 v.buys) (put id 0 v.bought)
    b' = half_unlinked v.buys v.bought s.buying id

    s' : Half (put (v.sold id) 0 v.sells) (put id 0 v.sold)
    s' = half_unlinked v.sells v.sold s.selling id

    on : (n : ℕ) → next (unlink id v) n ≡ put (v.bought id) 0 (next v) n
    on n = next_unlinked v.buys v.bought s.buying v.sold id n s.selling.leg_none

    up : (n : ℕ) → prev (unlink id v) n ≡ put (v.sold id) 0 (prev v) n
    up n = next_unlinked v.sells v.sold s.selling v.bought id n s.buying.leg_none

    short' : (n : ℕ) → next (unlink id v) (next (unlink id v) (next (unlink id v) n)) ≡ 0
    short' = short_cut (next v) (prev v) w (next (unlink id v))
        (on 0 ∙ put_off (v.bought id) 0 (next v) 0 (λ _. refl) ∙ w.next_none)
        (λ k. rw (on k) (put_cases (λ y. (y ≡ 0) ⊎ (y ≡ next v k)) (v.bought id) 0 (next v) k (λ _ _. inl refl) (λ _. inr refl)))

-- the trades of an intermediation are there
pub bought_live : (v : View) → Sound v → (id : ℕ) → Not0 (v.bought id) → live v (v.bought id) ≡ true
bought_live v s id z =
    ⊎_elim (λ (e : live v (v.bought id) ≡ true). e)
    (λ (e : live v (v.bought id) ≡ false).
    absurd (z (ap v.bought (sym (s.buying.forth id z) ∙ (s.blank _ e).0) ∙ s.buying.leg_none)))
    (cases_Bool (live v (v.bought id)))

pub sold_live : (v : View) → Sound v → (id : ℕ) → Not0 (v.sold id) → live v (v.sold id) ≡ true
sold_live v s id z =
    ⊎_elim (λ (e : live v (v.sold id) ≡ true). e)
    (λ (e : live v (v.sold id) ≡ false).
    absurd (z (ap v.sold (sym (s.selling.forth id z) ∙ (s.blank _ e).1) ∙ s.selling.leg_none)))
    (cases_Bool (live v (v.sold id)))

pub exclude_kept : (v : View) → Sound v → (id : ℕ) → v.num (v.bought id) ≡ false → v.num (v.sold id) ≡ false → Sound (exclude id v)
exclude_kept v s id na nc =
    unlink_kept (sides (v.bought id) (v.sold id) Empty v)
    (sides_kept v s (v.bought id) (v.sold id) Empty refl
    (bought_live v s id) na nc)
    id (λ z. ap sure (put_at (v.bought id) Empty v.buyer z)) (λ z. ap sure (put_at (v.sold id) Empty v.seller z))

pub nothing_sound : Sound nothing
nothing_sound = record {
  buying = none_tied;
  selling = none_tied;
  short = λ n. refl;
  alike = λ n z. absurd (z refl);
  numbers = record {
    none_full = full_none _ _;
    none_num = refl;
    num_full = λ n h. absurd (false≢true h);
    num_next = λ n h. absurd (false≢true h);
    num_prev = λ n h. absurd (false≢true h);
    full_num = λ n z h. absurd (none_whole n z h);
    pair_num = λ p h. absurd (omega (arith, h.1));
    num_pair = λ n h. absurd (false≢true h);
  };
  none = refl;
  blank = λ n h. (refl, refl, refl);
}
  where
    none_tied : Half (λ n. 0) (λ n. 0)
    none_tied = record { tie_none = refl; leg_none = refl; back = λ n z. absurd (z refl); forth = λ n z. absurd (z refl) }

    none_whole : (n : ℕ) → Not0 n → whole_chain nothing n ≡ true → ⊥
    none_whole n z h = false≢true (full_parts (λ m. Empty) (λ m. Empty) n z (whole_each (λ m. 0) (λ m. 0) (full nothing) (walk_of _ _ _ _ none_tied none_tied (λ m. refl)) n h)).0
