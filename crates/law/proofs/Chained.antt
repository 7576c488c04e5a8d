-- In a sound book the chain that is followed is the walk.
use Rattle.keyed.proofs.Words.{Bool, true, false, ◌&&◌, ◌||◌, cond, List, [], ◌∷◌, map, ⊎_elim, ◌≡◌, refl, sym, ap, ap₂, ◌∙◌, ℕ, suc, eqb, length, cases_eq, cases_Bool, ne_eqb, eq-eqb, Some}
use Rattle.law.proofs.Subject.{intermediation_in, Intermediation, Side, Buyer, Seller, or_else, is_some, all, any, find, other, id, leg, no_intermediation, number, allocation, no_trade, Trade, trade_in, Beyond, beyond, by_intermediation, tied_back, onto, way, together, chain, last_of, a_trade, nothing, broken, by_tie, tie_in, tie_of, onward}
use Rattle.std.proofs.lemmas.Bool.{or_parts}
use Rattle.keyed.proofs.Keys.{row_found}
use Rattle.keyed.proofs.Lists.{some_of, none_by}
use Rattle.rows.proofs.Sides.{none_leg}
use Rattle.chains.proofs.Ties.{first_is}
use Rattle.chains.proofs.Walk.{Not0, one, far, Walk, Half, count_from, whole_from}
use Rattle.chains.proofs.Walks.{far_is, one_stays, one_goes, turned}

abbrev pub tie_at : List Trade → Side → ℕ → ℕ
tie_at ts w n = (allocation w (trade_in ts n)).tie

abbrev pub leg_at : List Intermediation → Side → ℕ → ℕ
leg_at xs w i = leg w (intermediation_in xs i)

-- the trade next to a trade, over its side w
abbrev pub on : List Trade → List Intermediation → Side → ℕ → ℕ
on ts xs w n = leg_at xs (other w) (tie_at ts w n)

pub leg_some : (xs : List Intermediation) (w : Side) (i : ℕ) → Not0 (leg_at xs w i) → is_some (find id i xs) ≡ true
leg_some xs w i z = ⊎_elim (λ (e : is_some (find id i xs) ≡ true). e)
    (λ (e : is_some (find id i xs) ≡ false). absurd (z (ap (λ o. leg w (or_else no_intermediation o)) (none_by (find id i xs) e) ∙ none_leg w)))
    (cases_Bool (is_some (find id i xs)))

pub intermediation_id : (xs : List Intermediation) (i : ℕ) → is_some (find id i xs) ≡ true → (intermediation_in xs i).id ≡ i
intermediation_id xs i h = (row_found id i xs (intermediation_in xs i) (some_of no_intermediation (find id i xs) h)).1

pub trade_number : (ts : List Trade) (n : ℕ) → is_some (find number n ts) ≡ true → number (trade_in ts n) ≡ n
trade_number ts n h = (row_found number n ts (trade_in ts n) (some_of no_trade (find number n ts) h)).1

module _ (ts : List Trade) (xs : List Intermediation) (half : (w : Side) → Half (tie_at ts w) (leg_at xs w))
    (there : (w : Side) (i : ℕ) → Not0 (leg_at xs w i) → is_some (find number (leg_at xs w i) ts) ≡ true) where
  tie_there : (w : Side) (n : ℕ) → is_some (find number n ts) ≡ true → tie_in ts w n ≡ Some (tie_at ts w n)
  tie_there w n h = ap (tie_of w) (some_of no_trade (find number n ts) h)

  pub beyond_is : (w : Side) (n : ℕ) → is_some (find number n ts) ≡ true → Not0 n
      → beyond (tie_in ts) xs w n ≡ cond (eqb (on ts xs w n) 0) nothing (a_trade (on ts xs w n))
  unfolding beyond
  beyond_is w n h z =
      ap (by_tie (tie_in ts) xs w n) (tie_there w n h) ∙
      ⊎_elim (λ (e : tie_at ts w n ≡ 0). rw (eq-eqb _ _ e, eq-eqb (on ts xs w n) 0 (ap (leg_at xs (other w)) e ∙ (half (other w)).leg_none)) refl)
      (λ (e : Not0 (tie_at ts w n)).
      let i = tie_at ts w n in
      let own : leg_at xs w i ≡ n = (half w).back n e in
      let here : is_some (find id i xs) ≡ true = leg_some xs w i (λ y. z (sym own ∙ y)) in
      rw (ne_eqb _ _ e) (
      ap (by_intermediation (tie_in ts) w n) (some_of no_intermediation (find id i xs) here)
      ∙ ap (λ b. cond b (cond (eqb (on ts xs w n) 0) nothing (tied_back (intermediation_in xs i).id (on ts xs w n) (tie_in ts (other w) (on ts xs w n)))) broken) (eq-eqb _ _ own) ∙
      ⊎_elim (λ (d : on ts xs w n ≡ 0). rw (eq-eqb (on ts xs w n) 0 d) refl)
      (λ (d : Not0 (on ts xs w n)). rw (ne_eqb (on ts xs w n) 0 d) (
      ap (tied_back (intermediation_in xs i).id (on ts xs w n)) (tie_there (other w) (on ts xs w n) (there (other w) i d))
      ∙ ap (λ b. cond b (a_trade (on ts xs w n)) broken) (eq-eqb _ _ ((half (other w)).forth i d ∙ sym (intermediation_id xs i here)))))
      (cases_eq (on ts xs w n) 0)))
      (cases_eq (tie_at ts w n) 0)

  way_on : (w : Side) (most n : ℕ) → is_some (find number n ts) ≡ true → Not0 n
      → way (tie_in ts) xs w (suc most) n ≡ cond (eqb (on ts xs w n) 0) (Some []) (onto (on ts xs w n) (way (tie_in ts) xs w most (on ts xs w n)))
  unfolding way
  way_on w most n h z =
      ap (λ (b : Beyond). onward b (λ m. way (tie_in ts) xs w most m)) (beyond_is w n h z)
      ∙ ⊎_elim (λ (d : eqb (on ts xs w n) 0 ≡ true). rw d refl) (λ (d : eqb (on ts xs w n) 0 ≡ false). rw d refl) (cases_Bool (eqb (on ts xs w n) 0))

  way_end : (w : Side) (most n : ℕ) → is_some (find number n ts) ≡ true → Not0 n → on ts xs w n ≡ 0 → way (tie_in ts) xs w (suc most) n ≡ Some []
  way_end w most n h z e = way_on w most n h z ∙ rw (eq-eqb _ _ e) refl

  on_there : (w : Side) (n : ℕ) → Not0 (on ts xs w n) → is_some (find number (on ts xs w n) ts) ≡ true
  on_there w n z = there (other w) (tie_at ts w n) z

  -- the trades ahead, by number
  abbrev pub ahead : Side → ℕ → List ℕ
  ahead w n = cond (eqb (on ts xs w n) 0) [] (on ts xs w n ∷ cond (eqb (on ts xs w (on ts xs w n)) 0) [] (on ts xs w (on ts xs w n) ∷ []))

  pub way_is : (w : Side) (n : ℕ) → is_some (find number n ts) ≡ true → Not0 n → on ts xs w (on ts xs w (on ts xs w n)) ≡ 0
      → way (tie_in ts) xs w 3 n ≡ Some (ahead w n)
  way_is w n h z short =
      way_on w 2 n h z ∙
      ⊎_elim (λ (d : on ts xs w n ≡ 0). rw (eq-eqb _ _ d) refl)
      (λ (d : Not0 (on ts xs w n)). rw (ne_eqb _ _ d) (
      ap (onto (on ts xs w n)) (way_on w 1 (on ts xs w n) (on_there w n d) d) ∙
      ⊎_elim (λ (e : on ts xs w (on ts xs w n) ≡ 0). rw (eq-eqb _ _ e) refl)
      (λ (e : Not0 (on ts xs w (on ts xs w n))). rw (ne_eqb _ _ e) (
      ap (λ o. onto (on ts xs w n) (onto (on ts xs w (on ts xs w n)) o)) (way_end w 0 (on ts xs w (on ts xs w n)) (on_there w (on ts xs w n) e) e short)))
      (cases_eq (on ts xs w (on ts xs w n)) 0)))
      (cases_eq (on ts xs w n) 0)

  -- a chain from its first trade on, and its rows
  abbrev pub numbers_from : ℕ → List ℕ
  numbers_from f = f ∷ ahead Buyer f

  abbrev pub line : ℕ → List Trade
  line f = map (trade_in ts) (numbers_from f)

  two : (x : ℕ) (a b : Bool) (u v : ℕ) → together (Some []) x (Some (cond a [] (u ∷ cond b [] (v ∷ [])))) ≡ Some (x ∷ cond a [] (u ∷ cond b [] (v ∷ [])))
  two x true b u v = refl
  two x false true u v = refl
  two x false false u v = refl

  pub chain_is : Walk (on ts xs Buyer) (on ts xs Seller) → (n : ℕ) → is_some (find number n ts) ≡ true → Not0 n
      → chain (tie_in ts) xs n ≡ Some (numbers_from (far (on ts xs Seller) n))
  unfolding chain
  chain_is w n h z =
      let nx = on ts xs Buyer in
      let pv = on ts xs Seller in
      ap₂ (λ o q. together o n q) (way_is Seller n h z ((turned nx pv w).short n)) (way_is Buyer n h z (w.short n)) ∙
      ⊎_elim (λ (e : pv n ≡ 0). rw (first_is nx pv w n e, eq-eqb (pv n) 0 e) (two n (eqb (nx n) 0) (eqb (nx (nx n)) 0) (nx n) (nx (nx n))))
      (λ (e : Not0 (pv n)).
      let b : nx (pv n) ≡ n = w.back n e in
      ⊎_elim (λ (d : pv (pv n) ≡ 0).
      let f : far pv n ≡ pv n = far_is pv n ∙ ap (one pv) (one_goes pv n e) ∙ one_stays pv (pv n) d in
      let s : nx (nx n) ≡ 0 = ap (λ k. nx (nx k)) (sym b) ∙ w.short (pv n) in
      rw (f, ne_eqb (pv n) 0 e, eq-eqb (pv (pv n)) 0 d, b, ne_eqb n 0 z, eq-eqb (nx (nx n)) 0 s) (one_back (pv n) n (eqb (nx n) 0) (nx n)))
      (λ (d : Not0 (pv (pv n))).
      let c : nx (pv (pv n)) ≡ pv n = w.back (pv n) d in
      let f : far pv n ≡ pv (pv n) = far_is pv n ∙ ap (one pv) (one_goes pv n e) ∙ one_goes pv (pv n) d in
      let s : nx n ≡ 0 = ap nx (sym b) ∙ ap (λ k. nx (nx k)) (sym c) ∙ w.short (pv (pv n)) in
      rw (f, ne_eqb (pv n) 0 e, ne_eqb (pv (pv n)) 0 d, c, b, ne_eqb (pv n) 0 e, ne_eqb n 0 z, eq-eqb (nx n) 0 s) refl)
      (cases_eq (pv (pv n)) 0))
      (cases_eq (pv n) 0)
    where
      one_back : (x y : ℕ) (a : Bool) (u : ℕ) → together (Some (x ∷ [])) y (Some (cond a [] (u ∷ []))) ≡ Some (x ∷ (y ∷ cond a [] (u ∷ [])))
      one_back x y true u = refl
      one_back x y false u = refl

  -- what holds of a line, trade by trade
  pub length_line : (f : ℕ) → on ts xs Buyer 0 ≡ 0 → length (numbers_from f) ≡ count_from (on ts xs Buyer) f
  unfolding count_from
  length_line f z =
      let nx = on ts xs Buyer in
      ⊎_elim (λ (e : nx f ≡ 0). rw (eq-eqb (nx f) 0 e, eq-eqb (nx (nx f)) 0 (ap nx e ∙ z)) refl)
      (λ (e : Not0 (nx f)). rw (ne_eqb (nx f) 0 e) (
      ⊎_elim (λ (d : nx (nx f) ≡ 0). rw (eq-eqb _ _ d) refl) (λ (d : Not0 (nx (nx f))). rw (ne_eqb _ _ d) refl) (cases_eq (nx (nx f)) 0)))
      (cases_eq (nx f) 0)

  pub all_line : (p : Trade → Bool) (q : ℕ → Bool) (f : ℕ) → on ts xs Buyer 0 ≡ 0 → q 0 ≡ true → ((k : ℕ) → Not0 k → q k ≡ p (trade_in ts k)) → Not0 f
      → all p (line f) ≡ whole_from (on ts xs Buyer) q f
  unfolding whole_from
  all_line p q f z q0 qk zf =
      let nx = on ts xs Buyer in
      ap (λ b. b && all p (map (trade_in ts) (ahead Buyer f))) (sym (qk f zf)) ∙
      ⊎_elim (λ (e : nx f ≡ 0). rw (e, z, q0) refl)
      (λ (e : Not0 (nx f)). rw (ne_eqb (nx f) 0 e) (
      ap (λ b. q f && (b && all p (map (trade_in ts) (cond (eqb (nx (nx f)) 0) [] (nx (nx f) ∷ []))))) (sym (qk (nx f) e)) ∙
      ⊎_elim (λ (d : nx (nx f) ≡ 0). rw (d, q0) refl)
      (λ (d : Not0 (nx (nx f))). rw (ne_eqb (nx (nx f)) 0 d) (ap (λ b. q f && (q (nx f) && b)) (and_true (p (trade_in ts (nx (nx f)))) ∙ sym (qk (nx (nx f)) d))))
      (cases_eq (nx (nx f)) 0)))
      (cases_eq (nx f) 0)
    where
      and_true : (b : Bool) → (b && true) ≡ b
      and_true true = refl
      and_true false = refl

  -- none of a line
  pub none_line : (q : ℕ → Bool) (f : ℕ) → any q (numbers_from f) ≡ false
      → (q f ≡ false) × (Not0 (on ts xs Buyer f) → q (on ts xs Buyer f) ≡ false)
      × (Not0 (on ts xs Buyer f) → Not0 (on ts xs Buyer (on ts xs Buyer f)) → q (on ts xs Buyer (on ts xs Buyer f)) ≡ false)
  none_line q f h =
      let nx = on ts xs Buyer in
      let a = or_parts (q f) (any q (ahead Buyer f)) h in
      let b : Not0 (nx f) → (q (nx f) || any q (cond (eqb (nx (nx f)) 0) [] (nx (nx f) ∷ []))) ≡ false = λ z. rw (ne_eqb (nx f) 0 z) at a.1 in (
        a.0,
        (λ z. (or_parts _ _ (b z)).0),
        (λ z y. (or_parts (q (nx (nx f))) false (sym (ap (λ c. any q (cond c [] (nx (nx f) ∷ []))) (ne_eqb (nx (nx f)) 0 y)) ∙ (or_parts _ _ (b z)).1)).0),
      )

  pub last_line : (f : ℕ) → on ts xs Buyer 0 ≡ 0 → last_of (line f) ≡ trade_in ts (far (on ts xs Buyer) f)
  last_line f z =
      let nx = on ts xs Buyer in
      rw far_is (
      ⊎_elim (λ (e : nx f ≡ 0). rw (one_stays nx f e, one_stays nx f e, eq-eqb (nx f) 0 e) refl)
      (λ (e : Not0 (nx f)). rw (one_goes nx f e, ne_eqb (nx f) 0 e) (
      ⊎_elim (λ (d : nx (nx f) ≡ 0). rw (one_stays nx (nx f) d, eq-eqb (nx (nx f)) 0 d) refl)
      (λ (d : Not0 (nx (nx f))). rw (one_goes nx (nx f) d, ne_eqb (nx (nx f)) 0 d) refl)
      (cases_eq (nx (nx f)) 0)))
      (cases_eq (nx f) 0))
