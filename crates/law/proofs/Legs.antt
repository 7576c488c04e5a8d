-- One leg, or one row of the intermediations, changed.
use Rattle.keyed.proofs.Words.{Bool, true, false, cond, not, ◌&&◌, List, [], map, ◌≡◌, refl, sym, ap, subst, subst₂, ◌∙◌, ℕ, ◌+◌, ◌-◌, eqb, eqb-true, ne_eqb, and_parts, false≢true, Option, Some, None}
use Rattle.law.proofs.Subject.{Intermediation, Side, Buyer, Seller, or_else, is_some, find, changed, removed, entered, removed_in, held, is_empty, emptied, confirmed, total, id, number, allocation, at_side, no_trade, Allocation, AllocationState, Empty, Confirmed, KeptEntry, Trade, excluded, cancelled, excluded_by, State, trade, at_trade, with_intermediations, as_plain, Plain, plain_number, put, side_now, gone, is_side, holds_side, Filling}
use Rattle.std.proofs.lemmas.Bool.{true≢false}
use Rattle.keyed.proofs.Keys.{row_found, length_entered, length_removed, removed_absent, seen_put, each_changed, map_changed, changed_twice, length_changed}
use Rattle.keyed.proofs.Lists.{none_some, none_by}
use Rattle.keyed.specs.Rows.{entered_in}
use Rattle.rows.proofs.Sides.{held_confirmed}
use Rattle.law.proofs.Fair.{held_in, Adds, Sided, Fair, plain_number_is, by, there_left, held_kept, held_leg, adds_at, agrees_at, same_side}

pub none_left : (v : Side) (n : ℕ) (g : Trade → Allocation → Allocation) (ts : List Trade) (m : ℕ) → find number m ts ≡ None → find number m (changed number n (by v g) ts) ≡ None
none_left v n g ts m e = none_by _ (there_left v n g ts m ∙ ap is_some e)

pub fair_o : (p : Plain) (o u : Side → ℕ → Option Filling) (s : State) → ((w : Side) (n : ℕ) → o w n ≡ u w n) → Fair p o s → Fair p u s
fair_o p o u s e f = record { agrees = f.agrees; sided = λ w n. subst (λ x. Sided x w (held_in s.trades.rows w n)) (e w n) (f.sided w n); adds = f.adds }

pub sided_cond : (b : Bool) (o u : Option Filling) (w : Side) (es ds : List KeptEntry) → (b ≡ true → Sided o w es) → Sided u w ds → Sided (cond b o u) w (cond b es ds)
sided_cond true o u w es ds h k = h refl
sided_cond false o u w es ds h k = k

abbrev pub on_leg : Side → ℕ → Side → ℕ → Bool
on_leg v n w m = is_side v w && (not (eqb n 0) && eqb n m)

module _ (p : Plain) (o : Side → ℕ → Option Filling) (s : State) (f : Fair p o s) where
  module _ (zero : find number 0 s.trades.rows ≡ None) (v : Side) (n : ℕ) where
    pub empty_leg : Fair (side_now Empty v n p) (λ w m. cond (on_leg v n w m) None (o w m)) (at_trade n (at_side v emptied) s)
    empty_leg = record {
      agrees = agrees_at v n (λ t. emptied) Empty (λ t d. refl) p s f.agrees;
      sided = λ w m. subst (λ es. Sided (cond (on_leg v n w m) None (o w m)) w es)
          (sym (held_leg v n (λ t. emptied) s.trades.rows [] zero (λ t e. refl) (λ i e. refl) w m))
          (sided_cond (on_leg v n w m) None (o w m) w [] (held_in s.trades.rows w m) (λ e. (refl, tt)) (f.sided w m));
      adds = adds_at v n (λ t. emptied) s.trades.rows (λ t e k z. absurd (true≢false z)) f.adds;
    }

    not_zero : (t : Trade) → find number n s.trades.rows ≡ Some t → not (eqb n 0) ≡ true
    not_zero t e = ap not (ne_eqb n 0 (λ i. none_some t (sym zero ∙ ap (λ k. find number k s.trades.rows) (sym i) ∙ e)))

    pub confirm_leg : (not (eqb n 0) ≡ true → is_empty (allocation v (trade s n)).state ≡ false) → Fair (side_now Confirmed v n p) o (at_trade n (at_side v confirmed) s)
    confirm_leg full = record {
      agrees = agrees_at v n (λ t. confirmed) Confirmed (λ t d. refl) p s f.agrees;
      sided = λ w m. subst (λ es. Sided (o w m) w es)
          (sym (held_kept v n (λ t. confirmed) s.trades.rows (λ t e. held_confirmed (allocation v t) (is_full t e)) w m)) (f.sided w m);
      adds = adds_at v n (λ t. confirmed) s.trades.rows (λ t e k z.
          ap (λ es. total (map (λ (e : KeptEntry). e.entry) es)) (held_confirmed (allocation v t) (is_full t e)) ∙ k (is_full t e)) f.adds;
    }
      where
        is_full : (t : Trade) → find number n s.trades.rows ≡ Some t → is_empty (allocation v t).state ≡ false
        is_full t e = ap (λ (x : Option Trade). is_empty (allocation v (or_else no_trade x)).state) (sym e) ∙ full (not_zero t e)

    pub fill_leg : (g : Trade → Allocation → Allocation) (st : AllocationState) (fill : ℕ → Filling) (es : List KeptEntry)
        → ((t : Trade) (d : Allocation) → (g t d).state ≡ st)
        → (not (eqb n 0) ≡ true → is_some (find number n s.trades.rows) ≡ true)
        → ((t : Trade) → find number n s.trades.rows ≡ Some t → held (g t (allocation v t)) ≡ es)
        → ((t : Trade) → find number n s.trades.rows ≡ Some t → total (map (λ (e : KeptEntry). e.entry) es) ≡ t.terms.quantity)
        → (not (eqb n 0) ≡ true → Sided (Some (fill n)) v es)
        → Fair (side_now st v n p) (λ w m. cond (on_leg v n w m) (Some (fill m)) (o w m)) (at_trade n (by v g) s)
    fill_leg g st fill es state there holds sum good = record {
      agrees = agrees_at v n g st state p s f.agrees;
      sided = λ w m. subst (λ ds. Sided (cond (on_leg v n w m) (Some (fill m)) (o w m)) w ds)
          (sym (held_leg v n g s.trades.rows es zero holds (λ i e. absurd (false≢true (sym (ap is_some e) ∙ there i))) w m))
          (sided_cond (on_leg v n w m) (Some (fill m)) (o w m) w es (held_in s.trades.rows w m)
          (λ e. let b = and_parts _ _ e in let c = and_parts _ _ b.1 in
          subst₂ (λ w m. Sided (Some (fill m)) w es) (same_side v w b.0) (eqb-true n m c.1) (good c.0))
          (f.sided w m));
      adds = adds_at v n g s.trades.rows (λ t e k z. ap (λ ds. total (map (λ (e : KeptEntry). e.entry) ds)) (holds t e) ∙ sum t e) f.adds;
    }

  pub enter_row : (x : Intermediation) → Fair (record { day = p.day; trades = p.trades; standing = entered id x p.standing }) o (with_intermediations (entered_in id x) s)
  enter_row x = let a = f.agrees in record {
    agrees = record {
      day = a.day;
      trades = a.trades;
      intermediations = ap (entered id x) a.intermediations;
      trade_count = a.trade_count;
      intermediation_count = ap (λ n. n + 1) a.intermediation_count ∙ sym (length_entered id x s.intermediations.rows);
      pair_count = a.pair_count;
    };
    sided = f.sided;
    adds = f.adds;
  }

  pub remove_row : (k : ℕ) (x : Intermediation) → find id k s.intermediations.rows ≡ Some x
      → Fair (record { day = p.day; trades = p.trades; standing = removed id x.id p.standing }) o (with_intermediations (removed_in id k) s)
  remove_row k x e = let a = f.agrees in record {
    agrees = record {
      day = a.day;
      trades = a.trades;
      intermediations = ap (λ n. removed id n s.intermediations.rows) (sym (row_found id k s.intermediations.rows x e).1) ∙ ap (removed id x.id) a.intermediations;
      trade_count = a.trade_count;
      intermediation_count = ap (λ n. n - 1) a.intermediation_count ∙ sym (length_removed id k s.intermediations.rows x e);
      pair_count = a.pair_count;
    };
    sided = f.sided;
    adds = f.adds;
  }

-- ── Exclusion ──

abbrev pub gone_if : Option Intermediation → Plain → Plain
gone_if None p = p
gone_if (Some x) p = gone x p

abbrev pub holds_if : Option Intermediation → Side → ℕ → Bool
holds_if None w n = false
holds_if (Some x) w n = holds_side w n x

abbrev pub clear : Option Intermediation → (Side → ℕ → Option Filling) → Side → ℕ → Option Filling
clear x o w n = cond (holds_if x w n) None (o w n)

pub excluded_is : (k : ℕ) (s : State) → excluded k s ≡ excluded_by (find id k s.intermediations.rows) k s
unfolding excluded
excluded_is k s = refl

cleared_is : (x : Intermediation) (o : Side → ℕ → Option Filling) (w : Side) (m : ℕ)
    → cond (on_leg Seller x.sold w m) None (cond (on_leg Buyer x.bought w m) None (o w m)) ≡ cond (holds_side w m x) None (o w m)
cleared_is x o Buyer m = refl
cleared_is x o Seller m = refl

pub excluded_fair : (p : Plain) (o : Side → ℕ → Option Filling) (s : State) → Fair p o s → find number 0 s.trades.rows ≡ None
    → (k : ℕ) → Fair (gone_if (find id k s.intermediations.rows) p) (clear (find id k s.intermediations.rows) o) (excluded k s)
excluded_fair p o s f zero k = subst (Fair (gone_if (find id k s.intermediations.rows) p) (clear (find id k s.intermediations.rows) o)) (sym (excluded_is k s)) (go (find id k s.intermediations.rows) refl)
  where
    go : (x : Option Intermediation) → find id k s.intermediations.rows ≡ x → Fair (gone_if x p) (clear x o) (excluded_by x k s)
    go None e = f
    go (Some x) e =
        let f1 = remove_row p o s f k x e in
        let f2 = empty_leg _ _ _ f1 zero Buyer x.bought in
        let f3 = empty_leg _ _ _ f2 (none_left Buyer x.bought (λ t. emptied) s.trades.rows 0 zero) Seller x.sold in
        fair_o _ _ (clear (Some x) o) _ (cleared_is x o) f3

pub excluded_zero : (s : State) (k m : ℕ) → find number m s.trades.rows ≡ None → find number m (excluded k s).trades.rows ≡ None
excluded_zero s k m zero = subst (λ (u : State). find number m u.trades.rows ≡ None) (sym (excluded_is k s)) (go (find id k s.intermediations.rows))
  where
    go : (x : Option Intermediation) → find number m (excluded_by x k s).trades.rows ≡ None
    go None = zero
    go (Some x) = none_left Seller x.sold (λ t. emptied) _ m (none_left Buyer x.bought (λ t. emptied) s.trades.rows m zero)

pub excluded_rows : (s : State) (k : ℕ) → (excluded k s).intermediations.rows ≡ removed id k s.intermediations.rows
excluded_rows s k = ap (λ (u : State). u.intermediations.rows) (excluded_is k s) ∙ go (find id k s.intermediations.rows) refl
  where
    go : (x : Option Intermediation) → find id k s.intermediations.rows ≡ x → (excluded_by x k s).intermediations.rows ≡ removed id k s.intermediations.rows
    go None e = sym (removed_absent id k s.intermediations.rows e)
    go (Some x) e = refl

-- ── A trade cancelled ──

cancelled_holds : (w : Side) (t : Trade) → held (allocation w (cancelled t)) ≡ []
cancelled_holds Buyer t = refl
cancelled_holds Seller t = refl

nothing_holds : (w : Side) → held (allocation w no_trade) ≡ []
nothing_holds Buyer = refl
nothing_holds Seller = refl

cancelled_adds : (w : Side) (t : Trade) → Adds w (cancelled t)
cancelled_adds Buyer t e = absurd (true≢false e)
cancelled_adds Seller t e = absurd (true≢false e)

pub cancelled_fair : (p : Plain) (o : Side → ℕ → Option Filling) (s : State) → Fair p o s → (n : ℕ)
    → Fair (side_now Empty Seller n (side_now Empty Buyer n p)) (λ w m. cond (eqb n m) None (o w m)) (at_trade n cancelled s)
cancelled_fair p o s f n = let a = f.agrees in record {
  agrees = record {
    day = a.day;
    trades = map_changed number plain_number as_plain plain_number_is cancelled (λ x. put Seller Empty (put Buyer Empty x)) (λ t. refl) n s.trades.rows
        ∙ sym (changed_twice plain_number (put Seller Empty) (put Buyer Empty) (λ x. refl) n (map as_plain s.trades.rows))
        ∙ ap (λ ts. changed plain_number n (put Seller Empty) (changed plain_number n (put Buyer Empty) ts)) a.trades;
    intermediations = a.intermediations;
    trade_count = a.trade_count ∙ sym (length_changed number cancelled (λ x. refl) n s.trades.rows);
    intermediation_count = a.intermediation_count;
    pair_count = a.pair_count;
  };
  sided = λ w m. subst (λ es. Sided (cond (eqb n m) None (o w m)) w es)
      (sym (seen_put number cancelled (λ x. refl) no_trade (λ (t : Trade). held (allocation w t)) n s.trades.rows m [] (λ t e. cancelled_holds w t) (λ e. nothing_holds w)))
      (sided_cond (eqb n m) None (o w m) w [] (held_in s.trades.rows w m) (λ e. (refl, tt)) (f.sided w m));
  adds = λ w. each_changed number (Adds w) cancelled n s.trades.rows (λ t e k. cancelled_adds w t) (f.adds w);
}
