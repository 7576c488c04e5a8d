-- The parts of the law that a request's own changes keep: agreement with the plain book, and the sides.
use Rattle.keyed.proofs.Words.{Bool, true, false, cond, not, ◌&&◌, List, [], ◌∷◌, map, ⊎_elim, ◌≡◌, refl, sym, ap, subst, ◌∙◌, ℕ, ◌+◌, eqb, length, cases_eq, cases_Bool, eqb-true, false≢true, Option, Some, None, Ok}
use Rattle.law.proofs.Subject.{Answer, Entry, Pair, Side, Buyer, Seller, Terms, or_else, is_some, Each, Table, find, changed, changed_in, Listed, Request, held, is_empty, total, entries_held, number, allocation, at_side, no_trade, numbered, Allocation, AllocationState, KeptEntry, Trade, trade_in, kept_entry, all_numbered, numbering, with_numbers, new_pairs, History, State, trade, at_trade, Agrees, Sides, as_plain, PlainTrade, Plain, plain, plain_number, put, side_now, touch, is_side, Filling, last_filling, filling_entries, terms_in, leaves, touched}
use Rattle.std.proofs.lemmas.List.{length-append}
use Rattle.keyed.proofs.Keys.{row_map, map_changed, length_changed, seen_put, seen_kept, each_changed, each_row, row_changed_same, row_changed_other}
use Rattle.keyed.proofs.Lists.{mapped, none_some}
use Rattle.law.specs.Law.{EntitledBy}
use Rattle.law.specs.Plain.{terms_of, Touch}

-- ── What a side holds, by number ──

abbrev pub held_in : List Trade → Side → ℕ → List KeptEntry
held_in ts w n = held (allocation w (trade_in ts n))

abbrev pub Adds : Side → Trade → Type 0
Adds w t = is_empty (allocation w t).state ≡ false → total (entries_held (allocation w t)) ≡ t.terms.quantity

abbrev pub Sided : Option Filling → Side → List KeptEntry → Type 0
Sided o w es = (map (λ (e : KeptEntry). e.entry) es ≡ filling_entries o) × EntitledBy o w es

-- the last filling after a touch
pub last_is : (day : ℕ) (w : Side) (n : ℕ) (q : Request) (r : List Listed) (a : Answer) (ps : List Pair) (h : History)
    → last_filling day w n (record { asked = q; register = r; answered = Ok a; wrote = ps } ∷ h)
    ≡ touched (touch (plain day h) q a w n) r (plain day h).day (terms_in (plain day h) n) (last_filling day w n h)
unfolding last_filling
last_is day w n q r a ps h = refl

-- a touch by a test, and what the side holds by the same test
pub sided_if : (b : Bool) (t : Touch) (r : List Listed) (day : ℕ) (m : Terms) (o : Option Filling) (w : Side) (es ds : List KeptEntry)
    → (b ≡ true → Sided (touched t r day m o) w es) → Sided o w ds → Sided (touched (cond b t leaves) r day m o) w (cond b es ds)
sided_if true t r day m o w es ds h k = h refl
sided_if false t r day m o w es ds h k = k

pub record Fair (p : Plain) (o : Side → ℕ → Option Filling) (s : State) : Type 0 where
  pub agrees : Agrees p s
  pub sided : (w : Side) (n : ℕ) → Sided (o w n) w (held_in s.trades.rows w n)
  pub adds : (w : Side) → Each (Adds w) s.trades.rows

pub fair_sides : (day : ℕ) (h : History) (s : State) (p : Plain) → Fair p (λ w n. last_filling day w n h) s → Sides day h s
fair_sides day h s p f = record { holds = λ w n. (f.sided w n).0; entitled = λ w n. (f.sided w n).1; adds_up = f.adds }

pub fair_from : (day : ℕ) (h : History) (s : State) → Agrees (plain day h) s → Sides day h s → Fair (plain day h) (λ w n. last_filling day w n h) s
fair_from day h s a d = record { agrees = a; sided = λ w n. (d.holds w n, d.entitled w n); adds = d.adds_up }

-- ── A side changed ──

pub plain_number_is : (t : Trade) → plain_number (as_plain t) ≡ number t
plain_number_is t = refl

-- the side v of a trade changed, by a rule that may look at the trade
abbrev pub by : Side → (Trade → Allocation → Allocation) → Trade → Trade
by v g t = at_side v (g t) t

pub by_number : (v : Side) (g : Trade → Allocation → Allocation) (t : Trade) → number (by v g t) ≡ number t
by_number Buyer g t = refl
by_number Seller g t = refl

pub by_terms : (v : Side) (g : Trade → Allocation → Allocation) (t : Trade) → (by v g t).terms ≡ t.terms
by_terms Buyer g t = refl
by_terms Seller g t = refl

pub told_by : (v : Side) (g : Trade → Allocation → Allocation) (st : AllocationState) → ((t : Trade) (d : Allocation) → (g t d).state ≡ st) → (t : Trade) → as_plain (by v g t) ≡ put v st (as_plain t)
told_by Buyer g st h t = ap (λ (x : AllocationState). let y : PlainTrade = record { terms = t.terms; buyer = x; seller = t.seller.state } in y) (h t t.buyer)
told_by Seller g st h t = ap (λ (x : AllocationState). let y : PlainTrade = record { terms = t.terms; buyer = t.buyer.state; seller = x } in y) (h t t.seller)

module _ (v : Side) (n : ℕ) (g : Trade → Allocation → Allocation) (ts : List Trade) where
  -- what the change leaves of every trade
  pub terms_left : (m : ℕ) → (trade_in (changed number n (by v g) ts) m).terms ≡ (trade_in ts m).terms
  terms_left m = seen_kept number (by v g) (by_number v g) no_trade (λ (t : Trade). t.terms) n ts m (λ x e. by_terms v g x)

  pub there_left : (m : ℕ) → is_some (find number m (changed number n (by v g) ts)) ≡ is_some (find number m ts)
  there_left m =
      ⊎_elim (λ (e : n ≡ m). subst (λ k. is_some (find number k (changed number n (by v g) ts)) ≡ is_some (find number k ts)) e
      (ap is_some (row_changed_same number (by v g) (by_number v g) n ts) ∙ go (find number n ts)))
      (λ (e : n ≡ m → ⊥). ap is_some (row_changed_other number (by v g) (by_number v g) n m ts e)) (cases_eq n m)
    where
      go : (o : Option Trade) → is_some (mapped (by v g) o) ≡ is_some o
      go None = refl
      go (Some t) = refl

-- the side put to what holds es; where the trade is not there, es is nothing
pub held_put : (v : Side) (n : ℕ) (g : Trade → Allocation → Allocation) (ts : List Trade) (es : List KeptEntry)
    → ((t : Trade) → find number n ts ≡ Some t → held (g t (allocation v t)) ≡ es) → (find number n ts ≡ None → [] ≡ es)
    → (w : Side) (m : ℕ) → held_in (changed number n (by v g) ts) w m ≡ cond (is_side v w && eqb n m) es (held_in ts w m)
held_put Buyer n g ts es some none Buyer m = seen_put number (by Buyer g) (by_number Buyer g) no_trade (λ (t : Trade). held (allocation Buyer t)) n ts m es some none
held_put Buyer n g ts es some none Seller m = seen_kept number (by Buyer g) (by_number Buyer g) no_trade (λ (t : Trade). held (allocation Seller t)) n ts m (λ x e. refl)
held_put Seller n g ts es some none Buyer m = seen_kept number (by Seller g) (by_number Seller g) no_trade (λ (t : Trade). held (allocation Buyer t)) n ts m (λ x e. refl)
held_put Seller n g ts es some none Seller m = seen_put number (by Seller g) (by_number Seller g) no_trade (λ (t : Trade). held (allocation Seller t)) n ts m es some none

-- the side left to what it holds
pub held_kept : (v : Side) (n : ℕ) (g : Trade → Allocation → Allocation) (ts : List Trade)
    → ((t : Trade) → find number n ts ≡ Some t → held (g t (allocation v t)) ≡ held (allocation v t))
    → (w : Side) (m : ℕ) → held_in (changed number n (by v g) ts) w m ≡ held_in ts w m
held_kept Buyer n g ts some Buyer m = seen_kept number (by Buyer g) (by_number Buyer g) no_trade (λ (t : Trade). held (allocation Buyer t)) n ts m some
held_kept Buyer n g ts some Seller m = seen_kept number (by Buyer g) (by_number Buyer g) no_trade (λ (t : Trade). held (allocation Seller t)) n ts m (λ x e. refl)
held_kept Seller n g ts some Buyer m = seen_kept number (by Seller g) (by_number Seller g) no_trade (λ (t : Trade). held (allocation Buyer t)) n ts m (λ x e. refl)
held_kept Seller n g ts some Seller m = seen_kept number (by Seller g) (by_number Seller g) no_trade (λ (t : Trade). held (allocation Seller t)) n ts m some

-- the side of a leg, which may be absent
pub held_leg : (v : Side) (n : ℕ) (g : Trade → Allocation → Allocation) (ts : List Trade) (es : List KeptEntry) → find number 0 ts ≡ None
    → ((t : Trade) → find number n ts ≡ Some t → held (g t (allocation v t)) ≡ es) → (not (eqb n 0) ≡ true → find number n ts ≡ None → [] ≡ es)
    → (w : Side) (m : ℕ) → held_in (changed number n (by v g) ts) w m ≡ cond (is_side v w && (not (eqb n 0) && eqb n m)) es (held_in ts w m)
held_leg v n g ts es zero some none w m =
    ⊎_elim (λ (e : eqb n 0 ≡ true). rw e (held_kept v n g ts (λ t i. absurd (none_some t (sym zero ∙ ap (λ k. find number k ts) (sym (eqb-true _ _ e)) ∙ i))) w m ∙ off (is_side v w)))
    (λ (e : eqb n 0 ≡ false). rw e (held_put v n g ts es some (none (ap not e)) w m))
    (cases_Bool (eqb n 0))
  where
    off : (b : Bool) → held_in ts w m ≡ cond (b && false) es (held_in ts w m)
    off true = refl
    off false = refl

-- a side that adds up still does on a trade of which the other side was changed
pub adds_side : (v : Side) (g : Trade → Allocation → Allocation) (t : Trade)
    → (is_empty (g t (allocation v t)).state ≡ false → total (entries_held (g t (allocation v t))) ≡ t.terms.quantity)
    → (w : Side) → Adds w t → Adds w (by v g t)
adds_side Buyer g t h Buyer a = h
adds_side Buyer g t h Seller a = a
adds_side Seller g t h Buyer a = a
adds_side Seller g t h Seller a = h

pub adds_at : (v : Side) (n : ℕ) (g : Trade → Allocation → Allocation) (ts : List Trade)
    → ((t : Trade) → find number n ts ≡ Some t → Adds v t → is_empty (g t (allocation v t)).state ≡ false → total (entries_held (g t (allocation v t))) ≡ t.terms.quantity)
    → ((w : Side) → Each (Adds w) ts) → (w : Side) → Each (Adds w) (changed number n (by v g) ts)
adds_at v n g ts h a w = each_changed number (Adds w) (by v g) n ts (λ t e k. adds_side v g t (h t e (each_row number (Adds v) n ts t (a v) e)) w k) (a w)

-- the plain book's side is then so too
pub agrees_at : (v : Side) (n : ℕ) (g : Trade → Allocation → Allocation) (st : AllocationState) → ((t : Trade) (d : Allocation) → (g t d).state ≡ st)
    → (p : Plain) (s : State) → Agrees p s → Agrees (side_now st v n p) (at_trade n (by v g) s)
agrees_at v n g st h p s a = record {
  day = a.day;
  trades = map_changed number plain_number as_plain plain_number_is (by v g) (put v st) (told_by v g st h) n s.trades.rows ∙ ap (changed plain_number n (put v st)) a.trades;
  intermediations = a.intermediations;
  trade_count = a.trade_count ∙ sym (length_changed number (by v g) (by_number v g) n s.trades.rows);
  intermediation_count = a.intermediation_count;
  pair_count = a.pair_count;
}

-- ── Numbering ──

pub told_numbered : (n : ℕ) (ts : List Trade) → map as_plain (changed number n numbered ts) ≡ map as_plain ts
told_numbered n ts = map_changed number plain_number as_plain plain_number_is numbered (λ x. x) (λ t. refl) n ts ∙ same plain_number n (map as_plain ts)
  where
    same : {Q : Type 0} (key : Q → ℕ) (n : ℕ) (xs : List Q) → changed key n (λ x. x) xs ≡ xs
    same key n [] = refl
    same key n (x ∷ xs) = elim (eqb (key x) n) as (λ b. cond b (x ∷ xs) (x ∷ changed key n (λ y. y) xs) ≡ x ∷ xs) [ true ↦ refl | false ↦ ap (λ ys. x ∷ ys) (same key n xs) ]

adds_numbered : (w : Side) (t : Trade) → Adds w t → Adds w (numbered t)
adds_numbered Buyer t a = a
adds_numbered Seller t a = a

held_numbered : (w : Side) (t : Trade) → held (allocation w (numbered t)) ≡ held (allocation w t)
held_numbered Buyer t = refl
held_numbered Seller t = refl

pub all_numbered_told : (c : List Trade) (t : Table Trade) → map as_plain (all_numbered c t).rows ≡ map as_plain t.rows
all_numbered_told [] t = refl
all_numbered_told (u ∷ c) t = all_numbered_told c (changed_in number (number u) numbered t) ∙ told_numbered (number u) t.rows

pub all_numbered_length : (c : List Trade) (t : Table Trade) → length (all_numbered c t).rows ≡ length t.rows
all_numbered_length [] t = refl
all_numbered_length (u ∷ c) t = all_numbered_length c (changed_in number (number u) numbered t) ∙ length_changed number numbered (λ x. refl) (number u) t.rows

pub all_numbered_count : (c : List Trade) (t : Table Trade) → (all_numbered c t).count ≡ t.count
all_numbered_count [] t = refl
all_numbered_count (u ∷ c) t = all_numbered_count c (changed_in number (number u) numbered t)

pub all_numbered_held : (c : List Trade) (t : Table Trade) (w : Side) (n : ℕ) → held_in (all_numbered c t).rows w n ≡ held_in t.rows w n
all_numbered_held [] t w n = refl
all_numbered_held (u ∷ c) t w n = all_numbered_held c (changed_in number (number u) numbered t) w n
    ∙ seen_kept number numbered (λ x. refl) no_trade (λ (x : Trade). held (allocation w x)) (number u) t.rows n (λ x e. held_numbered w x)

pub all_numbered_adds : (c : List Trade) (t : Table Trade) (w : Side) → Each (Adds w) t.rows → Each (Adds w) (all_numbered c t).rows
all_numbered_adds [] t w a = a
all_numbered_adds (u ∷ c) t w a = all_numbered_adds c (changed_in number (number u) numbered t) w (each_changed number (Adds w) numbered (number u) t.rows (λ x e. adds_numbered w x) a)

pub numbering_fair : (p : Plain) (o : Side → ℕ → Option Filling) (c : List Trade) (s : State) → Fair p o s → Fair p o (with_numbers c s)
unfolding numbering
numbering_fair p o [] s f = f
numbering_fair p o (t ∷ c) s f =
    let a = f.agrees in
    record {
      agrees = record {
        day = a.day;
        trades = all_numbered_told (t ∷ c) s.trades ∙ a.trades;
        intermediations = a.intermediations;
        trade_count = all_numbered_count (t ∷ c) s.trades ∙ a.trade_count ∙ sym (all_numbered_length (t ∷ c) s.trades);
        intermediation_count = a.intermediation_count;
        pair_count = ap (λ n. n + length (new_pairs (t ∷ c) s)) a.pair_count ∙ sym (length-append s.pairs.rows (new_pairs (t ∷ c) s));
      };
      sided = λ w n. subst (λ es. Sided (o w n) w es) (sym (all_numbered_held (t ∷ c) s.trades w n)) (f.sided w n);
      adds = λ w. all_numbered_adds (t ∷ c) s.trades w (f.adds w);
    }

-- ── What the plain book knows of a trade ──

pub terms_known : (p : Plain) (s : State) → Agrees p s → (n : ℕ) → terms_in p n ≡ (trade s n).terms
terms_known p s a n =
    ap (λ ts. terms_of (find plain_number n ts)) (sym a.trades)
    ∙ ap terms_of (row_map number plain_number as_plain plain_number_is n s.trades.rows)
    ∙ go (find number n s.trades.rows)
  where
    go : (x : Option Trade) → terms_of (mapped as_plain x) ≡ (or_else no_trade x).terms
    go None = refl
    go (Some t) = refl

-- ── Filled and confirmed sides ──

pub entries_kept : (r : List Listed) (es : List Entry) → map (λ (e : KeptEntry). e.entry) (map (kept_entry r) es) ≡ es
entries_kept r [] = refl
entries_kept r (e ∷ es) = ap (λ xs. e ∷ xs) (entries_kept r es)

pub same_side : (v w : Side) → is_side v w ≡ true → v ≡ w
same_side Buyer Buyer e = refl
same_side Buyer Seller e = absurd (false≢true e)
same_side Seller Buyer e = absurd (false≢true e)
same_side Seller Seller e = refl
