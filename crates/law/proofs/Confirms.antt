-- A confirmation keeps the book sound.
use Rattle.std.specs.List.{Contains}
use Rattle.keyed.proofs.Words.{true, false, List, ◌⊎◌, inl, inr, ⊎_elim, ◌≡◌, refl, sym, ap, ◌∙◌, ℕ, cases_eq, ne_eqb, eq-eqb}
use Rattle.law.proofs.Subject.{Empty, Confirmed}
use Rattle.chains.proofs.Numbering.{confirmed_part, confirmed_whole}
use Rattle.chains.proofs.Walk.{put, Not0, Walk, Pair}
use Rattle.chains.proofs.Walks.{put_cases, far_next}
use Rattle.law.proofs.Kept.{walk, full_parts, full_made, blank_kept}
use Rattle.law.proofs.Views.{View, sure, next, prev, full_by, full, first, last, whole_chain, sides, numbered, leg, live, Sound}

pub leg_left : (a c : ℕ) → Not0 a → leg a c ≡ a
leg_left a c z = rw (ne_eqb _ _ z) refl

pub leg_right : (a c : ℕ) → a ≡ 0 → leg a c ≡ c
leg_right a c z = rw (eq-eqb _ _ z) refl

module _ (v : View) (s : Sound v) (a c : ℕ) (some : Not0 (leg a c)) (here : Not0 a → live v a ≡ true)
    (tied : Not0 a → Not0 c → next v a ≡ c) where
  w : Walk (next v) (prev v)
  w = walk v s

  more : (k : ℕ) → full v k ≡ true → full_by (put a Confirmed v.buyer) (put c Confirmed v.seller) k ≡ true
  more k h = full_made _ _ k
      (λ z. put_cases (λ y. sure y ≡ true) a Confirmed v.buyer k (λ _ _. refl) (λ _. (full_parts _ _ k z h).0))
      (λ z. put_cases (λ y. sure y ≡ true) c Confirmed v.seller k (λ _ _. refl) (λ _. (full_parts _ _ k z h).1))

  at_a : (k : ℕ) → k ≡ a → Not0 k → first v k ≡ first v (leg a c)
  at_a k e z = ap (first v) (e ∙ sym (leg_left a c (λ y. z (e ∙ y))))

  at_c : (k : ℕ) → k ≡ c → Not0 k → first v k ≡ first v (leg a c)
  at_c k e z = ⊎_elim (λ (q : a ≡ 0). ap (first v) (e ∙ sym (leg_right a c q)))
      (λ (q : Not0 a).
      let t = tied q (λ y. z (e ∙ y)) in
      ap (first v) (e ∙ sym t) ∙ far_next (next v) (prev v) w a (λ y. z (e ∙ sym t ∙ y)) ∙ ap (first v) (sym (leg_left a c q)))
      (cases_eq a 0)

  only : (k : ℕ) → full_by (put a Confirmed v.buyer) (put c Confirmed v.seller) k ≡ true
      → (first v k ≡ first v (leg a c)) ⊎ (full v k ≡ true)
  only k h = ⊎_elim (λ (z : k ≡ 0). inr (rw z s.numbers.none_full))
      (λ (z : Not0 k).
      let q = full_parts _ _ k z h in
      put_cases (λ y. sure y ≡ true → (first v k ≡ first v (leg a c)) ⊎ (full v k ≡ true)) a Confirmed v.buyer k
      (λ e _ _. inl (at_a k e z))
      (λ _ qb. put_cases (λ y. sure y ≡ true → (first v k ≡ first v (leg a c)) ⊎ (full v k ≡ true)) c Confirmed v.seller k
      (λ e _ _. inl (at_c k e z)) (λ _ qs. inr (full_made _ _ k (λ _. qb) (λ _. qs))) q.1) q.0)
      (cases_eq k 0)

  still : (n : ℕ) → live v n ≡ false → (v.buys n ≡ 0) × (v.sells n ≡ 0) × (put a Confirmed v.buyer n ≡ Empty)
  still n h = let b = s.blank n h in (b.0, b.1, blank_kept v s a Confirmed here n h)

  -- a part of the chain confirmed
  pub part_kept : whole_chain (sides a c Confirmed v) (leg a c) ≡ false → Sound (sides a c Confirmed v)
  part_kept h = record {
    buying = s.buying;
    selling = s.selling;
    short = s.short;
    alike = s.alike;
    none = s.none;
    blank = still;
    numbers = confirmed_part (next v) (prev v) w (full v) v.num (full (sides a c Confirmed v)) v.pairs s.numbers (leg a c) some more only h;
  }

  -- the whole chain, and its pairs
  pub whole_kept : (ps : List Pair) → ((p : Pair) → Contains ps p → (p.opens ≡ first v (leg a c)) × (p.ends ≡ last v (leg a c))) → (p : Pair) → Contains ps p
      → whole_chain (sides a c Confirmed v) (leg a c) ≡ true → Sound (numbered ps (leg a c) (sides a c Confirmed v))
  whole_kept ps each p i h = record {
    buying = s.buying;
    selling = s.selling;
    short = s.short;
    alike = s.alike;
    none = s.none;
    blank = still;
    numbers = confirmed_whole (next v) (prev v) w (full v) v.num (full (sides a c Confirmed v)) v.pairs s.numbers (leg a c) some more only ps each p i h;
  }
