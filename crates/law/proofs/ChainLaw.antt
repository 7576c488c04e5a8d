-- A sound book has lawful chains.
use Rattle.keyed.proofs.Words.{true, ◌&&◌, List, [], ◌∷◌, inl, inr, ⊎_elim, ◌≡◌, refl, sym, ap, subst, ◌∙◌, ℕ, ◌≤◌, ◌<◌, arith, eqb, length, cases_eq, eq-eqb, and_from}
use Rattle.law.proofs.Subject.{Intermediation, Kind, Selic, Side, Buyer, Terms, or_else, is_some, In, Each, find, id, leg, no_intermediation, number, allocation, no_trade, alike, Trade, State, trade, intermediation, NoneTwice, Link, Holder, Linked, Chains}
use Rattle.fields.specs.declared.trade.Kind.TheVariants.{Deposited, Registered}
use Rattle.keyed.proofs.Keys.{row_found, row_in}
use Rattle.keyed.proofs.Lists.{none_by, some_of, from_in, none_some}
use Rattle.rows.specs.Accounts.{same_kind}
use Rattle.chains.proofs.Walk.{Not0}
use Rattle.law.proofs.Books.{Sound, halves_of, there_of, not0_pos}
use Rattle.law.proofs.Chained.{tie_at, leg_at, leg_some, intermediation_id}
use Rattle.law.proofs.Shown.{common, view}
use Rattle.law.proofs.Views.{Common, next}

pub pos_not0 : (n : ℕ) → 0 < n → Not0 n
pos_not0 n h e = absurd (omega arith)

kind_self : (k : Kind) → same_kind k k ≡ true
kind_self Selic = refl
kind_self Deposited = refl
kind_self Registered = refl

pub common_alike : (t u : Terms) → common t ≡ common u → alike t u ≡ true
common_alike t u e =
    and_from (same_kind t.kind u.kind && eqb t.asset u.asset && eqb t.quantity u.quantity) (eqb t.settlement u.settlement)
    (and_from (same_kind t.kind u.kind && eqb t.asset u.asset) (eqb t.quantity u.quantity)
    (and_from (same_kind t.kind u.kind) (eqb t.asset u.asset)
    (ap (same_kind t.kind) (sym (ap (λ (c : Common). c.kind) e)) ∙ kind_self t.kind) (eq-eqb _ _ (ap (λ (c : Common). c.asset) e)))
    (eq-eqb _ _ (ap (λ (c : Common). c.quantity) e)))
    (eq-eqb _ _ (ap (λ (c : Common). c.settlement) e))

module _ (s : State) (g : Sound s) where
  pub intermediation_of : (x : Intermediation) → In x s.intermediations.rows → intermediation s x.id ≡ x
  intermediation_of x i = ap (or_else no_intermediation) (row_in id 0 s.intermediations.rows x g.intermediation_keys i)

  trade_of : (t : Trade) → In t s.trades.rows → trade s (number t) ≡ t
  trade_of t i = ap (or_else no_trade) (row_in number 0 s.trades.rows t g.trade_keys i)

  leg_of : (w : Side) (x : Intermediation) → In x s.intermediations.rows → leg_at s.intermediations.rows w x.id ≡ leg w x
  leg_of w x i = ap (leg w) (intermediation_of x i)

  tied_to : (w : Side) (x : Intermediation) → In x s.intermediations.rows → 0 < leg w x → (allocation w (trade s (leg w x))).tie ≡ x.id
  tied_to w x i h =
      let e = leg_of w x i in
      ap (tie_at s.trades.rows w) (sym e) ∙ (halves_of s g w).forth x.id (λ y. pos_not0 (leg w x) h (sym e ∙ y))

  stands_at : (w : Side) (x : Intermediation) → In x s.intermediations.rows → 0 < leg w x → is_some (find number (leg w x) s.trades.rows) ≡ true
  stands_at w x i h =
      let e = leg_of w x i in
      subst (λ n. is_some (find number n s.trades.rows) ≡ true) e (there_of s g w x.id (λ y. pos_not0 (leg w x) h (sym e ∙ y)))

  held_by : (w : Side) (n : ℕ) → Not0 n → Not0 (tie_at s.trades.rows w n) → Holder s.intermediations.rows w (tie_at s.trades.rows w n) n
  held_by w n z t =
      let i = tie_at s.trades.rows w n in
      let own : leg_at s.intermediations.rows w i ≡ n = (halves_of s g w).back n t in
      let there : is_some (find id i s.intermediations.rows) ≡ true = leg_some s.intermediations.rows w i (λ y. z (sym own ∙ y)) in
      record { by = intermediation s i; stands = (row_found id i s.intermediations.rows (intermediation s i) (some_of no_intermediation (find id i s.intermediations.rows) there)).0; has_id = intermediation_id s.intermediations.rows i there; holds = own }

  pub link_next : (n m : ℕ) → Link s.intermediations.rows n m → next (view s) n ≡ m
  link_next n m l =
      let x = l.by in
      let t : (view s).buys n ≡ x.id = ap (view s).buys (sym l.bought) ∙ tied_to Buyer x l.stands (subst (λ k. 0 < k) (sym l.bought) l.bought_there) in
      ap (view s).sold t ∙ ap (λ (y : Intermediation). y.sold) (intermediation_of x l.stands) ∙ l.sold

  pub next_link : (n m : ℕ) → Not0 n → Not0 m → next (view s) n ≡ m → Link s.intermediations.rows n m
  next_link n m zn zm e =
      let i = (view s).buys n in
      let zi : Not0 i = λ y. zm (sym e ∙ ap (view s).sold y ∙ g.seen.selling.leg_none) in
      let h = held_by Buyer n zn zi in
      record {
        by = h.by;
        stands = h.stands;
        bought = h.holds;
        sold = ap (λ (y : Intermediation). y.sold) (sym (intermediation_of h.by h.stands) ∙ ap (intermediation s) h.has_id) ∙ e;
        bought_there = not0_pos n zn;
        sold_there = not0_pos m zm;
      }

  no_four : (a b c d : ℕ) → Link s.intermediations.rows a b → Link s.intermediations.rows b c → Link s.intermediations.rows c d → ⊥
  no_four a b c d p q r =
      pos_not0 d r.sold_there (sym (link_next c d r) ∙ ap (next (view s)) (sym (link_next b c q)) ∙ ap (λ k. next (view s) (next (view s) k)) (sym (link_next a b p)) ∙ g.seen.short a)

  no_own : (a b : ℕ) → Link s.intermediations.rows a b → a ≡ b → ⊥
  no_own a b p e =
      let n : next (view s) a ≡ a = link_next a b p ∙ sym e in
      pos_not0 a p.bought_there (sym n ∙ ap (next (view s)) (sym n) ∙ ap (λ k. next (view s) (next (view s) k)) (sym n) ∙ g.seen.short a)

  no_return : (a b c : ℕ) → Link s.intermediations.rows a b → Link s.intermediations.rows b c → a ≡ c → ⊥
  no_return a b c p q e =
      let n : next (view s) a ≡ b = link_next a b p in
      let m : next (view s) b ≡ a = link_next b c q ∙ sym e in
      pos_not0 b p.sold_there (sym n ∙ ap (next (view s)) (sym m) ∙ ap (λ k. next (view s) (next (view s) k)) (sym n) ∙ g.seen.short a)

  short : (ns : List ℕ) → Linked s.intermediations.rows ns → length ns ≤ 3
  short [] l = omega arith
  short (a ∷ []) l = omega arith
  short (a ∷ (b ∷ [])) l = omega arith
  short (a ∷ (b ∷ (c ∷ []))) l = omega arith
  short (a ∷ (b ∷ (c ∷ (d ∷ ns)))) l = absurd (no_four a b c d l.0 l.1.0 l.1.1.0)

  once : (ns : List ℕ) → Linked s.intermediations.rows ns → NoneTwice ns
  once [] l = tt
  once (a ∷ []) l = ((λ i. i), tt)
  once (a ∷ (b ∷ [])) l = (⊎_elim (no_own a b l.0) (λ i. i), ((λ i. i), tt))
  once (a ∷ (b ∷ (c ∷ []))) l =
      (⊎_elim (no_own a b l.0) (⊎_elim (no_return a b c l.0 l.1.0) (λ i. i)), (⊎_elim (no_own b c l.1.0) (λ i. i), ((λ i. i), tt)))
  once (a ∷ (b ∷ (c ∷ (d ∷ ns)))) l = absurd (no_four a b c d l.0 l.1.0 l.1.1.0)

  equal_from : (t : Common) (n : ℕ) (ns : List ℕ) → Linked s.intermediations.rows (n ∷ ns) → t ≡ common (trade s n).terms → Each (λ m. t ≡ common (trade s m).terms) ns
  equal_from t n [] l e = tt
  equal_from t n (m ∷ ns) l e =
      let x = link_next n m l.0 in
      let d : t ≡ common (trade s m).terms = e ∙ sym (ap (λ k. common (trade s k).terms) (sym x) ∙ g.seen.alike n (λ y. pos_not0 m l.0.sold_there (sym x ∙ y))) in
      (d, equal_from t m ns l.1 d)

  each_alike : (t : Terms) (ns : List ℕ) → Each (λ m. common t ≡ common (trade s m).terms) ns → Each (λ m. alike t (trade s m).terms ≡ true) ns
  each_alike t [] h = tt
  each_alike t (m ∷ ns) h = (common_alike t (trade s m).terms h.0, each_alike t ns h.1)

  pub chains : Chains s
  chains = record {
    legs = λ w. from_in _ s.intermediations.rows (λ x i h. (stands_at w x i h, tied_to w x i h));
    ties = λ w. from_in _ s.trades.rows (λ t i.
        let e = trade_of t i in
        let z : Not0 (number t) = λ y. none_some t (sym (none_by _ g.seen.none) ∙ ap (λ k. find number k s.trades.rows) (sym y) ∙ row_in number 0 s.trades.rows t g.trade_keys i) in
        ⊎_elim (λ (d : (allocation w t).tie ≡ 0). inl d)
        (λ (d : Not0 (allocation w t).tie).
        let f : tie_at s.trades.rows w (number t) ≡ (allocation w t).tie = ap (λ u. (allocation w u).tie) e in
        inr (subst (λ k. Holder s.intermediations.rows w k (number t)) f (held_by w (number t) z (λ y. d (sym f ∙ y)))))
        (cases_eq (allocation w t).tie 0));
    alone = λ w x y i j h e.
        let same : x.id ≡ y.id = sym (tied_to w x i h) ∙ ap (tie_at s.trades.rows w) e ∙ tied_to w y j (subst (λ k. 0 < k) e h) in
        sym (intermediation_of x i) ∙ ap (intermediation s) same ∙ intermediation_of y j;
    short = short;
    never_twice = once;
    equal = λ n ns l. each_alike (trade s n).terms ns (equal_from (common (trade s n).terms) n ns l refl);
  }
