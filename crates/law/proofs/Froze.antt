-- What is numbered stays as it is.
use Rattle.keyed.proofs.Words.{Bool, true, false, cond, List, [], ◌∷◌, ⊎_elim, ◌≡◌, refl, sym, ap, ap₂, subst, ◌∙◌, ℕ, eqb, cases_eq, ne_eqb, eq-eqb, both_ways, Option, Some, None}
use Rattle.law.proofs.Subject.{intermediation_in, Intermediation, Side, Buyer, Seller, or_else, Each, find, changed, entered, removed, entries_held, id, leg, no_intermediation, number, allocation, is_numbered, no_trade, Trade, trade_in, State, trade, intermediation, final}
use Rattle.keyed.proofs.Keys.{row_changed, row_entered, row_removed}
use Rattle.keyed.proofs.Lists.{mapped}
use Rattle.rows.proofs.Sides.{none_leg}
use Rattle.chains.proofs.Walk.{Not0}
use Rattle.law.proofs.Books.{Sound, walk_in, halves_of}
use Rattle.law.proofs.Completed.{final_each}
use Rattle.law.proofs.Fulls.{behind, each_behind, num_full, full_num, others_are, num_not0}
use Rattle.law.proofs.PairLaw.{Full, StillFull}
use Rattle.law.proofs.Shown.{view}
use Rattle.law.proofs.Views.{next, prev, first}

pub record Same (t u : Trade) : Type 0 where
  pub terms : t.terms ≡ u.terms
  pub numbered : is_numbered u.state ≡ true → is_numbered t.state ≡ true
  pub buyer : t.buyer ≡ u.buyer
  pub seller : t.seller ≡ u.seller

pub same_self : (t : Trade) → Same t t
same_self t = record { terms = refl; numbered = λ h. h; buyer = refl; seller = refl }

pub same_path : (t u : Trade) → t ≡ u → Same t u
same_path t u e = record { terms = ap (λ x. x.terms) e; numbered = λ h. ap (λ x. is_numbered x.state) e ∙ h; buyer = ap (λ x. x.buyer) e; seller = ap (λ x. x.seller) e }

pub same_then : (t u x : Trade) → Same t u → Same u x → Same t x
same_then t u x a b = record { terms = a.terms ∙ b.terms; numbered = λ h. a.numbered (b.numbered h); buyer = a.buyer ∙ b.buyer; seller = a.seller ∙ b.seller }

-- numbered trades and their intermediations are as they were, and no trade became numbered
pub record Frozen (s t : State) : Type 0 where
  pub parts : (m : ℕ) → (view s).num m ≡ true → Same (trade t m) (trade s m)
  pub intermediations : (w : Side) (m : ℕ) → (view s).num m ≡ true → intermediation t (allocation w (trade s m)).tie ≡ intermediation s (allocation w (trade s m)).tie

abbrev pub Fewer : State → State → Type 0
Fewer s t = (m : ℕ) → (view t).num m ≡ true → (view s).num m ≡ true

pub frozen_num : (s t : State) → Frozen s t → (m : ℕ) → (view s).num m ≡ true → (view t).num m ≡ true
frozen_num s t f m h = (f.parts m h).numbered h

pub frozen_then : (s t u : State) → Frozen s t → Frozen t u → Frozen s u
frozen_then s t u f k = record {
  parts = λ m h. same_then _ _ _ (k.parts m (frozen_num s t f m h)) (f.parts m h);
  intermediations = λ w m h.
      let e : (allocation w (trade t m)).tie ≡ (allocation w (trade s m)).tie = tie_same w (trade t m) (trade s m) (f.parts m h) in
      ap (intermediation u) (sym e) ∙ k.intermediations w m (frozen_num s t f m h) ∙ ap (intermediation t) e ∙ f.intermediations w m h;
}
  where
    tie_same : (w : Side) (x y : Trade) → Same x y → (allocation w x).tie ≡ (allocation w y).tie
    tie_same Buyer x y p = ap (λ d. d.tie) p.buyer
    tie_same Seller x y p = ap (λ d. d.tie) p.seller

-- a row changed that is not numbered, and one changed in nothing that counts
pub changed_froze : (num : ℕ → Bool) (n : ℕ) (f : Trade → Trade) (ts : List Trade) → ((t : Trade) → number (f t) ≡ number t) → num n ≡ false
    → (m : ℕ) → num m ≡ true → Same (trade_in (changed number n f ts) m) (trade_in ts m)
changed_froze num n f ts keeps nn m h =
    same_path _ _ (ap (or_else no_trade) (row_changed number f keeps n ts m ∙ ap (λ b. cond b (mapped f (find number n ts)) (find number m ts)) (ne_eqb m n (λ e. both_ways _ nn (ap num (sym e) ∙ h)))))

pub changed_alike : (n : ℕ) (f : Trade → Trade) (ts : List Trade) → ((t : Trade) → Same (f t) t) → (m : ℕ) → Same (trade_in (changed number n f ts) m) (trade_in ts m)
changed_alike n f ts same m =
    same_then _ _ _ (same_path _ _ (ap (or_else no_trade) (row_changed number f (λ t. ap (λ e. e.number) (same t).terms) n ts m)))
    (⊎_elim (λ (e : m ≡ n). subst (λ b. Same (or_else no_trade (cond b (mapped f (find number n ts)) (find number m ts))) (trade_in ts m)) (sym (eq-eqb _ _ e))
    (subst (λ k. Same (or_else no_trade (mapped f (find number n ts))) (trade_in ts k)) (sym e) (go (find number n ts))))
    (λ (e : m ≡ n → ⊥). subst (λ b. Same (or_else no_trade (cond b (mapped f (find number n ts)) (find number m ts))) (trade_in ts m)) (sym (ne_eqb _ _ e)) (same_self _))
    (cases_eq m n))
  where
    go : (o : Option Trade) → Same (or_else no_trade (mapped f o)) (or_else no_trade o)
    go None = same_self no_trade
    go (Some t) = same t

-- no trade became numbered by a change
pub changed_fewer : (n : ℕ) (f : Trade → Trade) (ts : List Trade) → ((t : Trade) → number (f t) ≡ number t) → ((t : Trade) → is_numbered (f t).state ≡ true → is_numbered t.state ≡ true)
    → (m : ℕ) → is_numbered (trade_in (changed number n f ts) m).state ≡ true → is_numbered (trade_in ts m).state ≡ true
changed_fewer n f ts keeps less m h =
    let k : is_numbered (or_else no_trade (cond (eqb m n) (mapped f (find number n ts)) (find number m ts))).state ≡ true =
    ap (λ o. is_numbered (or_else no_trade o).state) (sym (row_changed number f keeps n ts m)) ∙ h in
    ⊎_elim (λ (e : m ≡ n). subst (λ j. is_numbered (trade_in ts j).state ≡ true) (sym e)
    (go (find number n ts) (subst (λ b. is_numbered (or_else no_trade (cond b (mapped f (find number n ts)) (find number m ts))).state ≡ true) (eq-eqb _ _ e) k)))
    (λ (e : m ≡ n → ⊥). subst (λ b. is_numbered (or_else no_trade (cond b (mapped f (find number n ts)) (find number m ts))).state ≡ true) (ne_eqb _ _ e) k)
    (cases_eq m n)
  where
    go : (o : Option Trade) → is_numbered (or_else no_trade (mapped f o)).state ≡ true → is_numbered (or_else no_trade o).state ≡ true
    go None x = x
    go (Some t) x = less t x

-- an intermediation entered, and one removed that holds nothing numbered
pub entered_froze : (s : State) → Sound s → (x : Intermediation) → Not0 x.id → find id x.id s.intermediations.rows ≡ None
    → (w : Side) (m : ℕ) → (view s).num m ≡ true → intermediation_in (entered id x s.intermediations.rows) (allocation w (trade s m)).tie ≡ intermediation s (allocation w (trade s m)).tie
entered_froze s g x z none w m h =
    ap (or_else no_intermediation) (row_entered id x s.intermediations.rows (allocation w (trade s m)).tie none ∙ ap (λ b. cond b (Some x) (find id (allocation w (trade s m)).tie s.intermediations.rows)) (ne_eqb (allocation w (trade s m)).tie x.id other))
  where
    other : (allocation w (trade s m)).tie ≡ x.id → ⊥
    other e =
        let own : leg w (intermediation s (allocation w (trade s m)).tie) ≡ m = (halves_of s g w).back m (λ y. z (sym e ∙ y)) in
        num_not0 s g m h (sym own ∙ ap (λ i. leg w (intermediation s i)) e ∙ ap (λ o. leg w (or_else no_intermediation o)) none ∙ none_leg w)

pub removed_froze : (s : State) → Sound s → (i : ℕ) → Not0 i → (view s).num (intermediation s i).bought ≡ false → (view s).num (intermediation s i).sold ≡ false
    → (w : Side) (m : ℕ) → (view s).num m ≡ true → intermediation_in (removed id i s.intermediations.rows) (allocation w (trade s m)).tie ≡ intermediation s (allocation w (trade s m)).tie
removed_froze s g i z nb ns w m h =
    ap (or_else no_intermediation) (row_removed id i s.intermediations.rows (allocation w (trade s m)).tie 0 g.intermediation_keys ∙ ap (λ b. cond b None (find id (allocation w (trade s m)).tie s.intermediations.rows)) (ne_eqb (allocation w (trade s m)).tie i (other w)))
  where
    other : (w : Side) → (allocation w (trade s m)).tie ≡ i → ⊥
    other Buyer e = both_ways _ nb (ap (λ k. (view s).num (intermediation s k).bought) (sym e) ∙ ap (view s).num ((halves_of s g Buyer).back m (λ y. z (sym e ∙ y))) ∙ h)
    other Seller e = both_ways _ ns (ap (λ k. (view s).num (intermediation s k).sold) (sym e) ∙ ap (view s).num ((halves_of s g Seller).back m (λ y. z (sym e ∙ y))) ∙ h)

-- ── What was whole and confirmed is so still ──

module _ (s t : State) (g : Sound s) (k : Sound t) (f : Frozen s t) where
  pub same_next : (m : ℕ) → (view s).num m ≡ true → next (view t) m ≡ next (view s) m
  same_next m h = ap (λ d. (intermediation t d.tie).sold) (f.parts m h).buyer ∙ ap (λ x. x.sold) (f.intermediations Buyer m h)

  pub same_prev : (m : ℕ) → (view s).num m ≡ true → prev (view t) m ≡ prev (view s) m
  same_prev m h = ap (λ d. (intermediation t d.tie).bought) (f.parts m h).seller ∙ ap (λ x. x.bought) (f.intermediations Seller m h)

  second : (m : ℕ) → (view s).num m ≡ true → next (view t) (next (view s) m) ≡ next (view s) (next (view s) m)
  second m h = ⊎_elim (λ (e : next (view s) m ≡ 0). ap (next (view t)) e ∙ (walk_in t k).next_none ∙ sym (ap (next (view s)) e ∙ (walk_in s g).next_none))
      (λ (e : Not0 (next (view s) m)). same_next (next (view s) m) (g.seen.numbers.num_next m h e)) (cases_eq (next (view s) m) 0)

  pub same_behind : (m : ℕ) → (view s).num m ≡ true → behind (next (view t)) m ≡ behind (next (view s)) m
  same_behind m h =
      let a = same_next m h in
      let b : next (view t) (next (view t) m) ≡ next (view s) (next (view s) m) = ap (next (view t)) a ∙ second m h in
      ap₂ (λ x y. cond (eqb x 0) [] (x ∷ cond (eqb y 0) [] (y ∷ []))) a b

  still_full : (m : ℕ) → (view s).num m ≡ true → prev (view s) m ≡ 0 → Full t m (behind (next (view s)) m)
  still_full m h p = subst (Full t m) (same_behind m h) (num_full t k m (frozen_num s t f m h) (same_prev m h ∙ p))

  pub stays : StillFull s t
  stays first others full =
      let n = full_num s g first others full in
      let o = others_are s g first others full.chain in
      let nums : Each (λ m. (view s).num m ≡ true) others = subst (Each (λ m. (view s).num m ≡ true)) (sym o) (each_behind s g (λ m. (view s).num m ≡ true) first n.0 (λ m h z. g.seen.numbers.num_next m h z)) in
      let end : (view s).num (final first others) ≡ true = final_each (λ m. (view s).num m ≡ true) first others n.0 nums in (
        subst (Full t first) (sym o) (still_full first n.0 n.1),
        record { terms = (f.parts first n.0).terms; sold = ap entries_held (f.parts first n.0).seller; bought = ap entries_held (f.parts (final first others) end).buyer },
      )

  -- a numbered chain of after, numbered before
  pub was_full : (first : ℕ) (others : List ℕ) → Full t first others → (view s).num first ≡ true → Full s first others
  was_full first others full h =
      let n = full_num t k first others full in
      subst (Full s first) (sym (others_are t k first others full.chain ∙ same_behind first h)) (num_full s g first h (sym (same_prev first h) ∙ n.1))
