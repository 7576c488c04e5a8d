-- The intermediations that go: those found by the ties are those that name the trade.
use Rattle.keyed.proofs.Words.{Bool, true, false, cond, ◌&&◌, ◌||◌, List, [], ◌∷◌, ◌⊎◌, inl, inr, ⊎_elim, ◌≡◌, refl, sym, ap, ap₂, subst, ◌∙◌, ℕ, ◌<◌, arith, eqb, ltb, cases_eq, ne_eqb, eq-eqb, and_parts, Option, Some, None}
use Rattle.law.proofs.Subject.{Intermediation, Side, Buyer, Seller, or_else, those, any, In, find, changed, removed, rises_above, id, leg, number, allocation, no_trade, Empty, Trade, State, trade, Chains, Holder, PlainTrade, Plain, plain_number, put, gone, all_gone, names}
use Rattle.keyed.proofs.Keys.{each_row, row_found, row_in, below_absent, removed_absent, removed_none, removed_swap, changed_swap}
use Rattle.keyed.proofs.Lists.{some_same, none_some, each_in}
use Rattle.law.proofs.Legs.{gone_if}

pub those_same : {X : Type 0} (p q : X → Bool) (xs : List X) → ((x : X) → In x xs → p x ≡ q x) → those p xs ≡ those q xs
those_same p q [] h = refl
those_same p q (x ∷ xs) h = ap₂ (λ b ys. cond b (x ∷ ys) ys) (h x (inl refl)) (those_same p q xs (λ y i. h y (inr i)))

pub any_same : {X : Type 0} (p q : X → Bool) (xs : List X) → ((x : X) → In x xs → p x ≡ q x) → any p xs ≡ any q xs
any_same p q [] h = refl
any_same p q (x ∷ xs) h = ap₂ ◌||◌ (h x (inl refl)) (any_same p q xs (λ y i. h y (inr i)))

-- ── Two that go may go in either order ──

put_number : (w : Side) (t : PlainTrade) → plain_number (put w Empty t) ≡ plain_number t
put_number Buyer t = refl
put_number Seller t = refl

put_swap : (v w : Side) (t : PlainTrade) → put v Empty (put w Empty t) ≡ put w Empty (put v Empty t)
put_swap Buyer Buyer t = refl
put_swap Buyer Seller t = refl
put_swap Seller Buyer t = refl
put_swap Seller Seller t = refl

-- side v of trade n emptied
abbrev hush : Side → ℕ → List PlainTrade → List PlainTrade
hush v n ts = changed plain_number n (put v Empty) ts

hush_swap : (v : Side) (n : ℕ) (w : Side) (m : ℕ) (ts : List PlainTrade) → hush v n (hush w m ts) ≡ hush w m (hush v n ts)
hush_swap v n w m ts = changed_swap plain_number (put v Empty) (put w Empty) (put_number v) (put_number w) (put_swap v w) n m ts

gone_swap : (x y : Intermediation) (p : Plain) → gone x (gone y p) ≡ gone y (gone x p)
gone_swap x y p = λ i. record { day = p.day; trades = trades i; standing = removed_swap id x.id y.id p.standing i }
  where
    trades : hush Seller x.sold (hush Buyer x.bought (hush Seller y.sold (hush Buyer y.bought p.trades)))
        ≡ hush Seller y.sold (hush Buyer y.bought (hush Seller x.sold (hush Buyer x.bought p.trades)))
    trades =
        ap (hush Seller x.sold) (hush_swap Buyer x.bought Seller y.sold (hush Buyer y.bought p.trades))
        ∙ hush_swap Seller x.sold Seller y.sold (hush Buyer x.bought (hush Buyer y.bought p.trades))
        ∙ ap (λ ts. hush Seller y.sold (hush Seller x.sold ts)) (hush_swap Buyer x.bought Buyer y.bought p.trades)
        ∙ ap (hush Seller y.sold) (hush_swap Seller x.sold Buyer y.bought (hush Buyer x.bought p.trades))

gone_if_swap : (x : Intermediation) (y : Option Intermediation) (p : Plain) → gone_if y (gone x p) ≡ gone x (gone_if y p)
gone_if_swap x None p = refl
gone_if_swap x (Some y) p = gone_swap y x p

-- ── Those with one of two ids ──

abbrev pub picks : ℕ → ℕ → Intermediation → Bool
picks b c x = eqb x.id b || eqb x.id c

pub picked_gone : (k b c : ℕ) (xs : List Intermediation) → rises_above id k xs ≡ true → (p : Plain)
    → all_gone (those (picks b c) xs) p ≡ gone_if (find id c (removed id b xs)) (gone_if (find id b xs) p)
picked_gone k b c [] r p = refl
picked_gone k b c (x ∷ xs) r p =
    let h : rises_above id x.id xs ≡ true = (and_parts (ltb k x.id) (rises_above id x.id xs) r).1 in
    let past : find id x.id xs ≡ None = below_absent id x.id x.id xs h (omega arith) in
    ⊎_elim (λ (e : x.id ≡ b).
    let z : find id b xs ≡ None = subst (λ n. find id n xs ≡ None) e past in
    rw (eq-eqb _ _ e) (picked_gone x.id b c xs h (gone x p)
    ∙ ap₂ (λ ys o. gone_if (find id c ys) (gone_if o (gone x p))) (removed_absent id b xs z) z))
    (λ (e : x.id ≡ b → ⊥). ⊎_elim (λ (i : x.id ≡ c).
    let z : find id c xs ≡ None = subst (λ n. find id n xs ≡ None) i past in
    rw (ne_eqb _ _ e) (rw (eq-eqb _ _ i) (picked_gone x.id b c xs h (gone x p)
    ∙ ap (λ o. gone_if o (gone_if (find id b xs) (gone x p))) (removed_none id b c xs z)
    ∙ gone_if_swap x (find id b xs) p)))
    (λ (i : x.id ≡ c → ⊥). rw (ne_eqb _ _ e) (rw (ne_eqb _ _ i) (picked_gone x.id b c xs h p)))
    (cases_eq x.id c))
    (cases_eq x.id b)

abbrev pub passes_if : (Intermediation → Bool) → Option Intermediation → Bool
passes_if H None = false
passes_if H (Some x) = H x

or_false : (b : Bool) → b ≡ (b || false)
or_false true = refl
or_false false = refl

or_swap : (a b : Bool) → (a || b) ≡ (b || a)
or_swap true true = refl
or_swap true false = refl
or_swap false true = refl
or_swap false false = refl

pub picked_any : (k b c : ℕ) (xs : List Intermediation) → rises_above id k xs ≡ true → (H : Intermediation → Bool)
    → any (λ x. picks b c x && H x) xs ≡ (passes_if H (find id c (removed id b xs)) || passes_if H (find id b xs))
picked_any k b c [] r H = refl
picked_any k b c (x ∷ xs) r H =
    let h : rises_above id x.id xs ≡ true = (and_parts (ltb k x.id) (rises_above id x.id xs) r).1 in
    let past : find id x.id xs ≡ None = below_absent id x.id x.id xs h (omega arith) in
    let ih = picked_any x.id b c xs h H in
    ⊎_elim (λ (e : x.id ≡ b).
    let z : find id b xs ≡ None = subst (λ n. find id n xs ≡ None) e past in
    rw (eq-eqb _ _ e) (ap (λ y. H x || y) (ih
    ∙ ap₂ (λ ys o. passes_if H (find id c ys) || passes_if H o) (removed_absent id b xs z) z ∙ sym (or_false _))
    ∙ or_swap (H x) (passes_if H (find id c xs))))
    (λ (e : x.id ≡ b → ⊥). ⊎_elim (λ (i : x.id ≡ c).
    let z : find id c xs ≡ None = subst (λ n. find id n xs ≡ None) i past in
    rw (ne_eqb _ _ e) (rw (eq-eqb _ _ i) (ap (λ y. H x || y) (ih
    ∙ ap (λ o. passes_if H o || passes_if H (find id b xs)) (removed_none id b c xs z)))))
    (λ (i : x.id ≡ c → ⊥). rw (ne_eqb _ _ e) (rw (ne_eqb _ _ i) ih))
    (cases_eq x.id c))
    (cases_eq x.id b)

-- ── One id ──

pub one_gone : (k b : ℕ) (xs : List Intermediation) → rises_above id k xs ≡ true → (p : Plain)
    → all_gone (those (λ x. eqb x.id b) xs) p ≡ gone_if (find id b xs) p
one_gone k b [] r p = refl
one_gone k b (x ∷ xs) r p =
    let h : rises_above id x.id xs ≡ true = (and_parts (ltb k x.id) (rises_above id x.id xs) r).1 in
    let past : find id x.id xs ≡ None = below_absent id x.id x.id xs h (omega arith) in
    ⊎_elim (λ (e : x.id ≡ b).
    rw (eq-eqb _ _ e) (one_gone x.id b xs h (gone x p) ∙ ap (λ o. gone_if o (gone x p)) (subst (λ n. find id n xs ≡ None) e past)))
    (λ (e : x.id ≡ b → ⊥). rw (ne_eqb _ _ e) (one_gone x.id b xs h p))
    (cases_eq x.id b)

pub one_any : (k b : ℕ) (xs : List Intermediation) → rises_above id k xs ≡ true → (H : Intermediation → Bool)
    → any (λ x. eqb x.id b && H x) xs ≡ passes_if H (find id b xs)
one_any k b [] r H = refl
one_any k b (x ∷ xs) r H =
    let h : rises_above id x.id xs ≡ true = (and_parts (ltb k x.id) (rises_above id x.id xs) r).1 in
    let past : find id x.id xs ≡ None = below_absent id x.id x.id xs h (omega arith) in
    ⊎_elim (λ (e : x.id ≡ b).
    rw (eq-eqb _ _ e) (ap (λ y. H x || y) (one_any x.id b xs h H ∙ ap (passes_if H) (subst (λ n. find id n xs ≡ None) e past)) ∙ sym (or_false (H x))))
    (λ (e : x.id ≡ b → ⊥). rw (ne_eqb _ _ e) (one_any x.id b xs h H))
    (cases_eq x.id b)

-- ── Those that name a trade are those of its ties ──

eqb_same : (a b c d : ℕ) → (a ≡ b → c ≡ d) → (c ≡ d → a ≡ b) → eqb a b ≡ eqb c d
eqb_same a b c d f g =
    ⊎_elim (λ (e : a ≡ b). eq-eqb a b e ∙ sym (eq-eqb c d (f e))) (λ (e : a ≡ b → ⊥). ne_eqb a b e ∙ sym (ne_eqb c d (λ i. e (g i)))) (cases_eq a b)

module _ (s : State) (c : Chains s) (ids : rises_above id 0 s.intermediations.rows ≡ true) (n : ℕ) (pos : 0 < n) (t : Trade) (here : find number n s.trades.rows ≡ Some t) where
  named_by : (w : Side) (x : Intermediation) → In x s.intermediations.rows → eqb (leg w x) n ≡ eqb x.id (allocation w (trade s n)).tie
  named_by w x i = eqb_same (leg w x) n x.id (allocation w (trade s n)).tie
      (λ e.
      let l = each_in _ x s.intermediations.rows (c.legs w) i in
      let q : 0 < leg w x = subst (λ k. 0 < k) (sym e) pos in
      sym (ap (λ k. (allocation w (trade s k)).tie) (sym e) ∙ (l q).1))
      (λ e. back e (each_row number _ n s.trades.rows t (c.ties w) here))
    where
      same : (allocation w t).tie ≡ (allocation w (trade s n)).tie
      same = ap (λ (o : Option Trade). (allocation w (or_else no_trade o)).tie) (sym here)

      back : x.id ≡ (allocation w (trade s n)).tie → ((allocation w t).tie ≡ 0) ⊎ Holder s.intermediations.rows w (allocation w t).tie (number t) → leg w x ≡ n
      back e u = ⊎_elim (λ (z : (allocation w t).tie ≡ 0).
          let y : x.id ≡ 0 = e ∙ sym same ∙ z in
          absurd (none_some x (sym (below_absent id 0 x.id s.intermediations.rows ids (omega arith)) ∙ row_in id 0 s.intermediations.rows x ids i)))
          (λ (h : Holder s.intermediations.rows w (allocation w t).tie (number t)).
          let y : h.by.id ≡ x.id = h.has_id ∙ same ∙ sym e in
          let z : h.by ≡ x = some_same _ _ (sym (row_in id 0 s.intermediations.rows h.by ids h.stands) ∙ ap (λ k. find id k s.intermediations.rows) y ∙ row_in id 0 s.intermediations.rows x ids i) in
          ap (leg w) (sym z) ∙ h.holds ∙ (row_found number n s.trades.rows t here).1)
          u

  pub names_picks : (x : Intermediation) → In x s.intermediations.rows → names n x ≡ picks (trade s n).buyer.tie (trade s n).seller.tie x
  names_picks x i = ap₂ ◌||◌ (named_by Buyer x i) (named_by Seller x i)
