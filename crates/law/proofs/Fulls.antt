-- The chains that are whole and confirmed are those that are numbered, and what keeps the numbered trades keeps them.
use Rattle.keyed.proofs.Words.{true, false, not, ◌&&◌, cond, List, [], ◌∷◌, ⊎_elim, ◌≡◌, refl, sym, ap, subst, ◌∙◌, ℕ, arith, eqb, cases_eq, cases_Bool, ne_eqb, eq-eqb, both_ways, and_parts, and_from}
use Rattle.law.proofs.Subject.{is_some, Each, find, number, both_confirmed, State, trade, Link, Linked, Chain, final, AllConfirmed}
use Rattle.chains.proofs.Ties.{first_is}
use Rattle.chains.proofs.Walk.{Not0, Walk, whole_from}
use Rattle.chains.proofs.Walks.{far_is, one_stays, one_goes, turned, far_stops, whole_made}
use Rattle.law.proofs.Books.{Sound, walk_in}
use Rattle.law.proofs.ChainLaw.{chains, link_next, next_link, pos_not0}
use Rattle.law.proofs.Kept.{full_none, full_parts, full_made, absent_num}
use Rattle.law.proofs.PairLaw.{Full}
use Rattle.law.proofs.Shown.{view}
use Rattle.law.proofs.Views.{next, prev, full, last}

-- the trades behind a first one
abbrev pub behind : (ℕ → ℕ) → ℕ → List ℕ
behind nx f = cond (eqb (nx f) 0) [] (nx f ∷ cond (eqb (nx (nx f)) 0) [] (nx (nx f) ∷ []))

module _ (s : State) (g : Sound s) where
  abbrev pub after : ℕ → ℕ
  after = next (view s)

  w : Walk (next (view s)) (prev (view s))
  w = walk_in s g

  pub num_there : (n : ℕ) → (view s).num n ≡ true → is_some (find number n s.trades.rows) ≡ true
  num_there n h = ⊎_elim (λ (e : is_some (find number n s.trades.rows) ≡ true). e)
      (λ (e : is_some (find number n s.trades.rows) ≡ false). absurd (both_ways _ (absent_num (view s) g.seen n (ap (λ b. b && not ((view s).cancelled n)) e)) h))
      (cases_Bool (is_some (find number n s.trades.rows)))

  pub num_not0 : (n : ℕ) → (view s).num n ≡ true → Not0 n
  num_not0 n h e = both_ways _ g.seen.numbers.none_num (ap (view s).num (sym e) ∙ h)

  full_both : (n : ℕ) → Not0 n → full (view s) n ≡ true → both_confirmed (trade s n) ≡ true
  full_both n z h = let q = full_parts (view s).buyer (view s).seller n z h in and_from _ _ q.0 q.1

  both_full : (n : ℕ) → both_confirmed (trade s n) ≡ true → full (view s) n ≡ true
  both_full n h = let q = and_parts _ _ h in full_made (view s).buyer (view s).seller n (λ _. q.0) (λ _. q.1)

  -- what holds of the first and goes on holds of all
  pub each_behind : (P : ℕ → Type 0) (f : ℕ) → P f → ((n : ℕ) → P n → Not0 (after n) → P (after n)) → Each P (behind after f)
  each_behind P f p more =
      ⊎_elim (λ (e : after f ≡ 0). rw (eq-eqb _ _ e) tt)
      (λ (e : Not0 (after f)). rw (ne_eqb _ _ e) (
        more f p e,
        ⊎_elim (λ (d : after (after f) ≡ 0). subst (λ b. Each P (cond b [] (after (after f) ∷ []))) (sym (eq-eqb _ _ d)) tt)
            (λ (d : Not0 (after (after f))). subst (λ b. Each P (cond b [] (after (after f) ∷ []))) (sym (ne_eqb _ _ d)) (more (after f) (more f p e) d, tt))
            (cases_eq (after (after f)) 0),
      ))
      (cases_eq (after f) 0)

  pub final_behind : (f : ℕ) → final f (behind after f) ≡ last (view s) f
  final_behind f = rw far_is (
      ⊎_elim (λ (e : after f ≡ 0). rw (one_stays after f e, one_stays after f e, eq-eqb (after f) 0 e) refl)
      (λ (e : Not0 (after f)). rw (one_goes after f e, ne_eqb (after f) 0 e) (
      ⊎_elim (λ (d : after (after f) ≡ 0). rw (one_stays after (after f) d, eq-eqb (after (after f)) 0 d) refl)
      (λ (d : Not0 (after (after f))). rw (one_goes after (after f) d, ne_eqb (after (after f)) 0 d) refl)
      (cases_eq (after (after f)) 0)))
      (cases_eq (after f) 0))

  linked : (f : ℕ) → Not0 f → Linked s.intermediations.rows (f ∷ behind after f)
  linked f z =
      ⊎_elim (λ (e : after f ≡ 0). rw (eq-eqb _ _ e) tt)
      (λ (e : Not0 (after f)).
      ⊎_elim (λ (d : after (after f) ≡ 0). rw (ne_eqb _ _ e, eq-eqb _ _ d) (next_link s g f (after f) z e refl, tt))
      (λ (d : Not0 (after (after f))). rw (ne_eqb _ _ e, ne_eqb _ _ d) (next_link s g f (after f) z e refl, (next_link s g (after f) (after (after f)) e d refl, tt)))
      (cases_eq (after (after f)) 0))
      (cases_eq (after f) 0)

  -- a numbered chain is whole and confirmed
  pub num_full : (f : ℕ) → (view s).num f ≡ true → prev (view s) f ≡ 0 → Full s f (behind after f)
  num_full f h p =
      let nums : Each (λ n. (view s).num n ≡ true) (behind after f) = each_behind (λ n. (view s).num n ≡ true) f h (λ n k z. g.seen.numbers.num_next n k z) in
      record {
        chain = record {
          stands = num_there f h;
          linked = linked f (num_not0 f h);
          none_before = λ n l. let e = link_next s g n f l in
              pos_not0 n l.bought_there (sym (w.there n (λ y. num_not0 f h (sym e ∙ y))) ∙ ap (prev (view s)) e ∙ p);
          none_behind = λ n l. pos_not0 n l.sold_there (sym (link_next s g _ n l) ∙ ap after (final_behind f)
              ∙ far_stops (prev (view s)) (next (view s)) (turned (next (view s)) (prev (view s)) w) f);
        };
        confirmed = (sure f h, sures (behind after f) nums);
      }
    where
      sure : (n : ℕ) → (view s).num n ≡ true → both_confirmed (trade s n) ≡ true
      sure n k = full_both n (num_not0 n k) (g.seen.numbers.num_full n k)

      sures : (ns : List ℕ) → Each (λ n. (view s).num n ≡ true) ns → AllConfirmed s ns
      sures [] k = tt
      sures (n ∷ ns) k = (sure n k.0, sures ns k.1)

  first_not0 : (f : ℕ) → is_some (find number f s.trades.rows) ≡ true → Not0 f
  first_not0 f h e = both_ways _ g.seen.none (ap (λ n. is_some (find number n s.trades.rows)) (sym e) ∙ h)

  stop : (n : ℕ) → Not0 n → ((k : ℕ) → Link s.intermediations.rows n k → ⊥) → after n ≡ 0
  stop n z h = ⊎_elim (λ (e : after n ≡ 0). e) (λ (e : Not0 (after n)). absurd (h (after n) (next_link s g n (after n) z e refl))) (cases_eq (after n) 0)

  -- the trades behind are those that the walk finds
  pub others_are : (f : ℕ) (os : List ℕ) → Chain s f os → os ≡ behind after f
  others_are f [] c = rw (eq-eqb _ _ (stop f (first_not0 f c.stands) c.none_behind)) refl
  others_are f (a ∷ []) c =
      let e = link_next s g f a c.linked.0 in
      let za = pos_not0 a c.linked.0.sold_there in
      let d = stop a za c.none_behind in
      rw (e, ne_eqb a 0 za, eq-eqb _ _ d) refl
  others_are f (a ∷ (b ∷ [])) c =
      let e = link_next s g f a c.linked.0 in
      let d = link_next s g a b c.linked.1.0 in
      let za = pos_not0 a c.linked.0.sold_there in
      let zb = pos_not0 b c.linked.1.0.sold_there in
      rw (e, ne_eqb a 0 za, d, ne_eqb b 0 zb) refl
  others_are f (a ∷ (b ∷ (d ∷ os))) c = let l = (chains s g).short (f ∷ (a ∷ (b ∷ (d ∷ os)))) c.linked in absurd (omega arith)

  -- and a whole and confirmed chain is numbered
  pub full_num : (f : ℕ) (os : List ℕ) → Full s f os → ((view s).num f ≡ true) × (prev (view s) f ≡ 0)
  full_num f os h =
      let z = first_not0 f h.chain.stands in
      let p : prev (view s) f ≡ 0 = ⊎_elim (λ (e : prev (view s) f ≡ 0). e)
      (λ (e : Not0 (prev (view s) f)). absurd (h.chain.none_before (prev (view s) f) (next_link s g (prev (view s) f) f e z (w.back f e)))) (cases_eq (prev (view s) f) 0) in
      let c : AllConfirmed s (f ∷ behind after f) = subst (λ ns. AllConfirmed s (f ∷ ns)) (others_are f os h.chain) h.confirmed in
      let f2 : full (view s) (after f) ≡ true = ⊎_elim (λ (e : after f ≡ 0). ap (full (view s)) e ∙ full_none (view s).buyer (view s).seller)
      (λ (e : Not0 (after f)). both_full (after f) (subst (λ b. AllConfirmed s (cond b [] (after f ∷ cond (eqb (after (after f)) 0) [] (after (after f) ∷ [])))) (ne_eqb _ _ e) c.1).0) (cases_eq (after f) 0) in
      let f3 : full (view s) (after (after f)) ≡ true = ⊎_elim (λ (e : after (after f) ≡ 0). ap (full (view s)) e ∙ full_none (view s).buyer (view s).seller)
      (λ (d : Not0 (after (after f))).
      let e : Not0 (after f) = λ y. d (ap after y ∙ w.next_none) in
      let k = (subst (λ b. AllConfirmed s (cond b [] (after f ∷ cond (eqb (after (after f)) 0) [] (after (after f) ∷ [])))) (ne_eqb _ _ e) c.1).1 in
      both_full (after (after f)) (subst (λ b. AllConfirmed s (cond b [] (after (after f) ∷ []))) (ne_eqb _ _ d) k).0) (cases_eq (after (after f)) 0) in (
        g.seen.numbers.full_num f z (subst (λ k. whole_from (next (view s)) (full (view s)) k ≡ true) (sym (first_is (next (view s)) (prev (view s)) w f p))
            (whole_made (next (view s)) (prev (view s)) (full (view s)) f (both_full f c.0) f2 f3)),
        p,
      )
