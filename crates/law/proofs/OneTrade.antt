-- Requests for one trade: a capture, an inclusion, a removal, a confirmation; and a closing.
use Rattle.keyed.proofs.Words.{false, cond, ◌&&◌, List, [], map, ⊎_elim, ◌≡◌, refl, sym, ap, subst, subst₂, ◌∙◌, ℕ, ◌+◌, eqb, cases_eq, eqb-true, ne_eqb, eq-eqb, and_parts, Option, Some, None}
use Rattle.law.proofs.Subject.{Answer, Side, Buyer, Seller, Terms, or_else, Each, find, entered, Listed, Closing, Inclusion, NewTrade, Request, Capture, Include, Remove, Confirm, Close, SideCall, held, is_empty, emptied, confirmed, total, number, allocation, no_trade, captured, Allocation, Empty, Confirmed, KeptEntry, Trade, placed, kept_entry, entries_of, included, State, trade, Entitled, as_plain, touched, Plain, fed, plain_number, filled_as, touch, is_side, Filling, terms_in, empties, fills}
use Rattle.std.proofs.lemmas.Bool.{true≢false}
use Rattle.keyed.proofs.Keys.{row_entered, each_entered, length_entered, map_entered}
use Rattle.keyed.proofs.Lists.{none_by, some_of, none_some}
use Rattle.rows.proofs.Sides.{held_filled, held_confirmed, filled_state}
use Rattle.law.proofs.Fair.{held_in, Adds, Sided, sided_if, Fair, plain_number_is, held_put, held_kept, adds_at, agrees_at, terms_known, entries_kept, same_side}
use Rattle.law.proofs.Passed.{Captures, Confirms, Includes}

-- the last filling after an accepted request
abbrev pub next : Plain → (Side → ℕ → Option Filling) → List Listed → Request → Answer → Side → ℕ → Option Filling
next p o r q a w n = touched (touch p q a w n) r p.day (terms_in p n) (o w n)

pub found_is : (s : State) (n : ℕ) (t : Trade) → find number n s.trades.rows ≡ Some t → trade s n ≡ t
found_is s n t e = ap (or_else no_trade) e

-- ── Capture ──

captured_holds : (w : Side) (t : Terms) → [] ≡ held (allocation w (captured t))
captured_holds Buyer t = refl
captured_holds Seller t = refl

captured_adds : (w : Side) (t : Terms) → Adds w (captured t)
captured_adds Buyer t e = absurd (true≢false e)
captured_adds Seller t e = absurd (true≢false e)

absent_holds : (ts : List Trade) (w : Side) (n : ℕ) → find number n ts ≡ None → held_in ts w n ≡ []
absent_holds ts Buyer n e = ap (λ o. held (allocation Buyer (or_else no_trade o))) e
absent_holds ts Seller n e = ap (λ o. held (allocation Seller (or_else no_trade o))) e

entered_holds : (ts : List Trade) (t : Terms) → find number t.number ts ≡ None → (w : Side) (n : ℕ) → held_in ts w n ≡ held_in (entered number (captured t) ts) w n
entered_holds ts t e w n =
    ⊎_elim (λ (i : t.number ≡ n). absent_holds ts w n (subst (λ k. find number k ts ≡ None) i e) ∙ captured_holds w t
    ∙ ap (λ o. held (allocation w (or_else no_trade o))) (sym (row_entered number (captured t) ts n e ∙ ap (λ b. cond b (Some (captured t)) (find number n ts)) (eq-eqb _ _ (sym i)))))
    (λ (i : t.number ≡ n → ⊥). ap (λ o. held (allocation w (or_else no_trade o))) (sym (row_entered number (captured t) ts n e ∙ ap (λ b. cond b (Some (captured t)) (find number n ts)) (ne_eqb _ _ (λ y. i (sym y))))))
    (cases_eq t.number n)

module _ (p : Plain) (o : Side → ℕ → Option Filling) (r : List Listed) (s : State) (f : Fair p o s) where
  pub capture_fair : (q : NewTrade) (a : Answer) → Captures s q → Fair (fed p (Capture q) a) (next p o r (Capture q) a) (placed r s (Capture q))
  unfolding placed
  capture_fair q a t =
      let e = none_by (find number q.terms.number s.trades.rows) t.absent in
      let g = f.agrees in
      let c : Trade = captured q.terms in
      record {
        agrees = record {
          day = g.day;
          trades = map_entered number plain_number as_plain plain_number_is c s.trades.rows ∙ ap (entered plain_number (as_plain c)) g.trades;
          intermediations = g.intermediations;
          trade_count = ap (λ n. n + 1) g.trade_count ∙ sym (length_entered number c s.trades.rows);
          intermediation_count = g.intermediation_count;
          pair_count = g.pair_count;
        };
        sided = λ w n. subst (λ es. Sided (o w n) w es) (entered_holds s.trades.rows q.terms e w n) (f.sided w n);
        adds = λ w. each_entered number (Adds w) c s.trades.rows (captured_adds w q.terms) (f.adds w);
      }

  pub remove_fair : (q : SideCall) (a : Answer) → Fair (fed p (Remove q) a) (next p o r (Remove q) a) (placed r s (Remove q))
  unfolding placed
  remove_fair q a = record {
    agrees = agrees_at q.side q.trade (λ t. emptied) Empty (λ t d. refl) p s f.agrees;
    sided = λ w n. subst (λ es. Sided (next p o r (Remove q) a w n) w es)
        (sym (held_put q.side q.trade (λ t. emptied) s.trades.rows [] (λ t e. refl) (λ e. refl) w n))
        (sided_if (is_side q.side w && eqb q.trade n) empties r p.day (terms_in p n) (o w n) w [] (held_in s.trades.rows w n) (λ e. (refl, tt)) (f.sided w n));
    adds = adds_at q.side q.trade (λ t. emptied) s.trades.rows (λ t e k z. absurd (true≢false z)) f.adds;
  }

  -- a side that is not empty, confirmed
  pub confirm_held : (v : Side) (n : ℕ) (t : Trade) → find number n s.trades.rows ≡ Some t → is_empty (allocation v (trade s n)).state ≡ false
      → held (confirmed (allocation v t)) ≡ held (allocation v t)
  confirm_held v n t e h = held_confirmed (allocation v t) (ap (λ (x : Trade). is_empty (allocation v x).state) (sym (found_is s n t e)) ∙ h)

  pub confirm_fair : (q : SideCall) (a : Answer) → Confirms r s q → Fair (fed p (Confirm q) a) (next p o r (Confirm q) a) (placed r s (Confirm q))
  unfolding placed
  confirm_fair q a t =
      let h = t.holds in
      record {
        agrees = agrees_at q.side q.trade (λ t. confirmed) Confirmed (λ t d. refl) p s f.agrees;
        sided = λ w n. subst (λ es. Sided (o w n) w es)
            (sym (held_kept q.side q.trade (λ t. confirmed) s.trades.rows (λ t e. confirm_held q.side q.trade t e h) w n)) (f.sided w n);
        adds = adds_at q.side q.trade (λ t. confirmed) s.trades.rows (λ t e k z.
            ap (λ es. total (map (λ (e : KeptEntry). e.entry) es)) (confirm_held q.side q.trade t e h)
            ∙ k (ap (λ (x : Trade). is_empty (allocation q.side x).state) (sym (found_is s q.trade t e)) ∙ h)) f.adds;
      }

  pub include_fair : (q : Inclusion) (a : Answer) → Includes r s q → Fair (fed p (Include q) a) (next p o r (Include q) a) (placed r s (Include q))
  unfolding placed
  include_fair q a t =
      let n = q.trade in
      let v = q.side in
      let es = map (kept_entry r) (entries_of q) in
      let here : find number n s.trades.rows ≡ Some (trade s n) = some_of no_trade (find number n s.trades.rows) t.free.trade.here in
      let good = t.entitled in
      let sums = t.sums in
      let rule : Trade → Allocation → Allocation = λ t. included r q in
      let fills_it : Sided (touched (fills (entries_of q)) r p.day (terms_in p n) (o v n)) v es =
      (entries_kept r (entries_of q), subst₂ (λ day m. Each (Entitled r day m v) es) f.agrees.day (sym (terms_known p s f.agrees n)) good) in
      record {
        agrees = agrees_at v n rule (filled_as q.now) (λ t d. filled_state q.now es 0 d) p s f.agrees;
        sided = λ w m. subst (λ ds. Sided (next p o r (Include q) a w m) w ds)
            (sym (held_put v n rule s.trades.rows es (λ t e. held_filled q.now es 0 (allocation v t)) (λ e. absurd (none_some _ (sym e ∙ here))) w m))
            (sided_if (is_side v w && eqb n m) (fills (entries_of q)) r p.day (terms_in p m) (o w m) w es (held_in s.trades.rows w m)
            (λ e. let b = and_parts _ _ e in
            subst₂ (λ w m. Sided (touched (fills (entries_of q)) r p.day (terms_in p m) (o w m)) w es) (same_side v w b.0) (eqb-true n m b.1) fills_it)
            (f.sided w m));
        adds = adds_at v n rule s.trades.rows (λ t e k z.
            ap (λ ds. total (map (λ (e : KeptEntry). e.entry) ds)) (held_filled q.now es 0 (allocation v t))
            ∙ ap total (entries_kept r (entries_of q)) ∙ sums ∙ ap (λ (x : Trade). x.terms.quantity) (found_is s n t e)) f.adds;
      }

  pub close_fair : (q : Closing) (a : Answer) → Fair (fed p (Close q) a) (next p o r (Close q) a) (placed r s (Close q))
  unfolding placed
  close_fair q a = record {
    agrees = record { day = refl; trades = refl; intermediations = refl; trade_count = refl; intermediation_count = refl; pair_count = refl };
    sided = nothing;
    adds = λ w. tt;
  }
    where
      nothing : (w : Side) (n : ℕ) → Sided None w (held_in [] w n)
      nothing Buyer n = (refl, tt)
      nothing Seller n = (refl, tt)
