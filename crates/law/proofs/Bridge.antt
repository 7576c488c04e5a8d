-- What each change of the tables shows by number.
use Rattle.keyed.proofs.Words.{Bool, true, false, List, ⊎_elim, ◌≡◌, refl, sym, ap, ◌∙◌, ℕ, cases_eq, ne_eqb, eq-eqb, None, fun_ext, Option, Some, cond, eqb}
use Rattle.law.proofs.Subject.{intermediation_in, Intermediation, Pair, Side, Buyer, Seller, Terms, or_else, is_some, find, changed, entered, removed, rises_above, emptied, id, no_intermediation, number, allocation, is_cancelled, is_numbered, no_trade, at_side, numbered, AllocationState, Empty, Trade, trade_in, cancelled}
use Rattle.keyed.proofs.Keys.{row_entered, row_removed, still_there}
use Rattle.rows.specs.Trades.{captured as captured_row}
use Rattle.rows.specs.declared.row.Allocation.{Allocation as HalfRow}
use Rattle.chains.proofs.Puts.{put_same}
use Rattle.chains.proofs.Ties.{put_on}
use Rattle.chains.proofs.Walk.{put, Not0, Walk, far, joined}
use Rattle.chains.proofs.Walks.{put_cases, put_off, far_next, far_far, member}
use Rattle.rows.specs.Trades.{marked as marked_row}
use Rattle.law.proofs.Shown.{common, shows, Here, None0, left, made, Only, buyer_view, seller_view, both_view, same_sides, is_numbered_trade, is_void, of_chain, rows_view, trade_put}
use Rattle.law.proofs.Views.{View, next, prev, sides, link, captured, voided, exclude, re_numbered, with_sides, with_ties}

-- the two legs that a side is
abbrev pub as_bought : ℕ → Side → ℕ
as_bought n Buyer = n
as_bought n Seller = 0

abbrev pub as_sold : ℕ → Side → ℕ
as_sold n Buyer = 0
as_sold n Seller = n

pub only_side : (w : Side) (d : Trade → HalfRow → HalfRow) → Only w (λ t. at_side w (d t) t)
only_side Buyer d = record { terms = λ t. refl; state = λ t. refl; across = λ t. refl }
only_side Seller d = record { terms = λ t. refl; state = λ t. refl; across = λ t. refl }

-- a side changed, its tie left
pub side_view : (w : Side) (n : ℕ) (d : HalfRow → HalfRow) (ts : List Trade) (xs : List Intermediation) (ps : List Pair) → Here n ts → None0 ts
    → (x : AllocationState) → (d (allocation w (trade_in ts n))).state ≡ x → (d (allocation w (trade_in ts n))).tie ≡ (allocation w (trade_in ts n)).tie
    → shows (changed number n (at_side w d) ts) xs ps ≡ sides (as_bought n w) (as_sold n w) x (shows ts xs ps)
side_view Buyer n d ts xs ps h z x ex ei =
    buyer_view n (at_side Buyer d) ts xs ps (only_side Buyer (λ _. d)) h z x ex (trade_in ts n).buyer.tie ei
    ∙ same_sides (shows ts xs ps) (λ m. refl) (λ m. sym (put_off 0 x (λ k. (trade_in ts k).seller.state) m (λ e. e))) (λ m. put_same n (trade_in ts n).buyer.tie (λ k. (trade_in ts k).buyer.tie) m (λ _. refl)) (λ m. refl)
side_view Seller n d ts xs ps h z x ex ei =
    seller_view n (at_side Seller d) ts xs ps (only_side Seller (λ _. d)) h z x ex (trade_in ts n).seller.tie ei
    ∙ same_sides (shows ts xs ps) (λ m. sym (put_off 0 x (λ k. (trade_in ts k).buyer.state) m (λ e. e))) (λ m. refl) (λ m. refl) (λ m. put_same n (trade_in ts n).seller.tie (λ k. (trade_in ts k).seller.tie) m (λ _. refl))

-- sides put twice
pub put_again : {X : Type 0} (a : ℕ) (x y : X) (f : ℕ → X) (m : ℕ) → put a x (put a y f) m ≡ put a x f m
put_again a x y f m = put_cases (λ r. r ≡ put a x f m) a x (put a y f) m (λ e z. sym (put_on a x f m e z))
    (λ q. put_off a y f m q ∙ sym (put_off a x f m q))

pub sides_again : (a c : ℕ) (x y : AllocationState) (v : View) → sides a c x (sides a c y v) ≡ sides a c x v
sides_again a c x y v = same_sides v (put_again a x y v.buyer) (put_again c x y v.seller) (λ m. refl) (λ m. refl)

-- an intermediation entered, and one removed
pub entered_leg : (g : Intermediation → ℕ) (x : Intermediation) (xs : List Intermediation) → Not0 x.id → find id x.id xs ≡ None
    → (m : ℕ) → g (intermediation_in (entered id x xs) m) ≡ put x.id (g x) (λ k. g (intermediation_in xs k)) m
entered_leg g x xs z a m =
    ap (λ o. g (or_else no_intermediation o)) (row_entered id x xs m a)
    ∙ ⊎_elim (λ (e : m ≡ x.id). rw (eq-eqb _ _ e) (sym (put_on x.id (g x) (λ k. g (intermediation_in xs k)) m e (λ y. z (sym e ∙ y)))))
    (λ (e : m ≡ x.id → ⊥). rw (ne_eqb _ _ e) (sym (put_off x.id (g x) (λ k. g (intermediation_in xs k)) m (λ q. absurd (e q))))) (cases_eq m x.id)

pub removed_leg : (g : Intermediation → ℕ) → g no_intermediation ≡ 0 → (n : ℕ) (xs : List Intermediation) → rises_above id 0 xs ≡ true → Not0 n
    → (m : ℕ) → g (intermediation_in (removed id n xs) m) ≡ put n 0 (λ k. g (intermediation_in xs k)) m
removed_leg g gz n xs r z m =
    ap (λ o. g (or_else no_intermediation o)) (row_removed id n xs m 0 r)
    ∙ ⊎_elim (λ (e : m ≡ n). rw (eq-eqb _ _ e) (gz ∙ sym (put_on n 0 (λ k. g (intermediation_in xs k)) m e (λ y. z (sym e ∙ y)))))
    (λ (e : m ≡ n → ⊥). rw (ne_eqb _ _ e) (sym (put_off n 0 (λ k. g (intermediation_in xs k)) m (λ q. absurd (e q))))) (cases_eq m n)

-- the same sides and ties, with other legs
same_legs : (v : View) {b s : ℕ → AllocationState} {b' s' x x₂ y y₂ : ℕ → ℕ} → ((n : ℕ) → x n ≡ x₂ n) → ((n : ℕ) → y n ≡ y₂ n) → with_ties b' s' x y (with_sides b s v) ≡ with_ties b' s' x₂ y₂ (with_sides b s v)
same_legs v {b} {s} {b'} {s'} ex ey = λ i. with_ties b' s' (fun_ext ex i) (fun_ext ey i) (with_sides b s v)

pub entered_view : (x : Intermediation) (f g : Trade → Trade) (ts : List Trade) (xs : List Intermediation) (ps : List Pair)
    → Only Buyer f → Only Seller g → Here x.bought ts → Here x.sold ts → None0 ts → Not0 x.id → find id x.id xs ≡ None
    → (d : AllocationState) → ((t : Trade) → (f t).buyer.state ≡ d) → ((t : Trade) → (g t).seller.state ≡ d)
    → ((t : Trade) → (f t).buyer.tie ≡ x.id) → ((t : Trade) → (g t).seller.tie ≡ x.id)
    → shows (changed number x.sold g (changed number x.bought f ts)) (entered id x xs) ps
    ≡ link x.id x.bought x.sold (sides x.bought x.sold d (shows ts xs ps))
entered_view x f g ts xs ps of og ha hc z i a d fx gx fi gi =
    both_view x.bought x.sold f g ts (entered id x xs) ps of og ha hc z d fx gx x.id fi gi
    ∙ same_legs (shows ts xs ps) (entered_leg (λ y. y.bought) x xs i a) (entered_leg (λ y. y.sold) x xs i a)

pub excluded_view : (n : ℕ) (ts : List Trade) (xs : List Intermediation) (ps : List Pair)
    → Here (intermediation_in xs n).bought ts → Here (intermediation_in xs n).sold ts → None0 ts → Not0 n → rises_above id 0 xs ≡ true
    → shows (changed number (intermediation_in xs n).sold (at_side Seller emptied) (changed number (intermediation_in xs n).bought (at_side Buyer emptied) ts)) (removed id n xs) ps
    ≡ exclude n (shows ts xs ps)
excluded_view n ts xs ps ha hc z i r =
    both_view (intermediation_in xs n).bought (intermediation_in xs n).sold (at_side Buyer emptied) (at_side Seller emptied) ts (removed id n xs) ps
    (only_side Buyer (λ _. emptied)) (only_side Seller (λ _. emptied)) ha hc z Empty (λ t. refl) (λ t. refl) 0 (λ t. refl) (λ t. refl)
    ∙ same_legs (shows ts xs ps) (removed_leg (λ y. y.bought) refl n xs r i) (removed_leg (λ y. y.sold) refl n xs r i)

-- an exclusion of none
pub nothing_excluded : (n : ℕ) (v : View) → v.bought n ≡ 0 → v.sold n ≡ 0 → exclude n v ≡ v
nothing_excluded n v b s = λ i. with_ties (fun_ext (λ m. put_off (v.bought n) 0 v.buys m (λ e. e ∙ b)) i) (fun_ext (λ m. put_off (v.sold n) 0 v.sells m (λ e. e ∙ s)) i)
    (fun_ext (λ m. put_same n 0 v.bought m (λ _. sym b)) i) (fun_ext (λ m. put_same n 0 v.sold m (λ _. sym s)) i)
    (with_sides (fun_ext (λ m. put_off (v.bought n) Empty v.buyer m (λ e. e ∙ b)) i) (fun_ext (λ m. put_off (v.sold n) Empty v.seller m (λ e. e ∙ s)) i) v)

pub captured_view : (t : Terms) (ts : List Trade) (xs : List Intermediation) (ps : List Pair) → Not0 t.number → find number t.number ts ≡ None
    → shows (entered number (captured_row t) ts) xs ps ≡ captured t.number (common t) (shows ts xs ps)
captured_view t ts xs ps z a =
    let us = entered number (captured_row t) ts in
    let n = t.number in
    let u = captured_row t in
    let none : trade_in ts t.number ≡ no_trade = ap (or_else no_trade) a in
    λ j. rows_view (fun_ext (λ m. ap is_some (row_entered number u ts m a) ∙ put_cond (is_some {X = Trade}) m) j) (made us ts n u there is_void false refl j)
    (left us ts n u there is_numbered_trade (λ _. ap is_numbered_trade (sym none)) j) (made us ts n u there of_chain (common t) refl j)
    (made us ts n u there (λ x. x.buyer.state) Empty refl j) (made us ts n u there (λ x. x.seller.state) Empty refl j)
    (left us ts n u there (λ x. x.buyer.tie) (λ _. ap (λ x. x.buyer.tie) (sym none)) j) (left us ts n u there (λ x. x.seller.tie) (λ _. ap (λ x. x.seller.tie) (sym none)) j) xs ps
  where
    put_cond : {X : Type 0} (g : Option Trade → X) (m : ℕ) → g (cond (eqb m t.number) (Some (captured_row t)) (find number m ts)) ≡ put t.number (g (Some (captured_row t))) (λ k. g (find number k ts)) m
    put_cond g m = ⊎_elim (λ (e : m ≡ t.number). rw (eq-eqb _ _ e) (sym (put_on t.number (g (Some (captured_row t))) (λ k. g (find number k ts)) m e (λ y. z (sym e ∙ y)))))
        (λ (e : m ≡ t.number → ⊥). rw (ne_eqb _ _ e) (sym (put_off t.number (g (Some (captured_row t))) (λ k. g (find number k ts)) m (λ q. absurd (e q))))) (cases_eq m t.number)

    there : (m : ℕ) → trade_in (entered number (captured_row t) ts) m ≡ put t.number (captured_row t) (trade_in ts) m
    there m = ap (or_else no_trade) (row_entered number (captured_row t) ts m a) ∙ put_cond (or_else no_trade) m

pub marked_view : (n : ℕ) (ts : List Trade) (xs : List Intermediation) (ps : List Pair) → Here n ts → None0 ts
    → shows (changed number n marked_row ts) xs ps ≡ shows ts xs ps
marked_view n ts xs ps h z =
    let us = changed number n marked_row ts in
    let u = marked_row (trade_in ts n) in
    let e = trade_put n marked_row ts (λ _. refl) h z in
    λ j. rows_view (fun_ext (still_there number marked_row (λ _. refl) n ts) j) (left us ts n u e is_void (λ _. refl) j) (left us ts n u e is_numbered_trade (λ _. refl) j)
    (left us ts n u e of_chain (λ _. refl) j) (left us ts n u e (λ t. t.buyer.state) (λ _. refl) j) (left us ts n u e (λ t. t.seller.state) (λ _. refl) j)
    (left us ts n u e (λ t. t.buyer.tie) (λ _. refl) j) (left us ts n u e (λ t. t.seller.tie) (λ _. refl) j) xs ps

pub voided_view : (n : ℕ) (ts : List Trade) (xs : List Intermediation) (ps : List Pair) → Here n ts → None0 ts → is_numbered (trade_in ts n).state ≡ false
    → (trade_in ts n).buyer.tie ≡ 0 → (trade_in ts n).seller.tie ≡ 0
    → shows (changed number n cancelled ts) xs ps ≡ voided n (shows ts xs ps)
voided_view n ts xs ps h z nn zb zs =
    let us = changed number n cancelled ts in
    let u = cancelled (trade_in ts n) in
    let e = trade_put n cancelled ts (λ _. refl) h z in
    λ j. rows_view (fun_ext (still_there number cancelled (λ _. refl) n ts) j) (made us ts n u e is_void true refl j) (left us ts n u e is_numbered_trade (λ _. sym nn) j)
    (left us ts n u e of_chain (λ _. refl) j) (made us ts n u e (λ t. t.buyer.state) Empty refl j) (made us ts n u e (λ t. t.seller.state) Empty refl j)
    (left us ts n u e (λ t. t.buyer.tie) (λ _. sym zb) j) (left us ts n u e (λ t. t.seller.tie) (λ _. sym zs) j) xs ps

-- trades numbered
pub numbered_one : (n : ℕ) (ts : List Trade) (xs : List Intermediation) (ps : List Pair) → Here n ts → None0 ts → (Not0 n → is_cancelled (trade_in ts n).state ≡ false)
    → shows (changed number n numbered ts) xs ps ≡ re_numbered (put n true (shows ts xs ps).num) (shows ts xs ps)
numbered_one n ts xs ps h z nx =
    let us = changed number n numbered ts in
    let u = numbered (trade_in ts n) in
    let e = trade_put n numbered ts (λ _. refl) h z in
    λ j. rows_view (fun_ext (still_there number numbered (λ _. refl) n ts) j) (left us ts n u e is_void (λ y. sym (nx y)) j) (made us ts n u e is_numbered_trade true refl j)
    (left us ts n u e of_chain (λ _. refl) j) (left us ts n u e (λ t. t.buyer.state) (λ _. refl) j) (left us ts n u e (λ t. t.seller.state) (λ _. refl) j)
    (left us ts n u e (λ t. t.buyer.tie) (λ _. refl) j) (left us ts n u e (λ t. t.seller.tie) (λ _. refl) j) xs ps

-- three marks number the chain
pub joined_yes : (prev : ℕ → ℕ) (n : ℕ) (num : ℕ → Bool) (k : ℕ) → Not0 k → far prev k ≡ far prev n → joined prev n num k ≡ true
unfolding joined
joined_yes prev n num k z e = rw (ne_eqb _ _ z, eq-eqb _ _ e) refl

pub joined_no : (prev : ℕ → ℕ) (n : ℕ) (num : ℕ → Bool) (k : ℕ) → (Not0 k → far prev k ≡ far prev n → ⊥) → joined prev n num k ≡ num k
unfolding joined
joined_no prev n num k h = ⊎_elim (λ (e : k ≡ 0). rw (eq-eqb _ _ e) refl) (λ (z : Not0 k). rw (ne_eqb _ _ z, ne_eqb _ _ (h z)) refl) (cases_eq k 0)

pub marked : (next prev : ℕ → ℕ) → Walk next prev → (n : ℕ) (num : ℕ → Bool) (k : ℕ)
    → put (next (next (far prev n))) true (put (next (far prev n)) true (put (far prev n) true num)) k ≡ joined prev n num k
marked next prev w n num k =
    put_cases (λ y. y ≡ joined prev n num k) h true (put g true (put f true num)) k (λ e z. sym (joined_yes prev n num k z (in_h e z)))
    (λ qh. put_cases (λ y. y ≡ joined prev n num k) g true (put f true num) k (λ e z. sym (joined_yes prev n num k z (in_g e z)))
    (λ qg. put_cases (λ y. y ≡ joined prev n num k) f true num k (λ e z. sym (joined_yes prev n num k z (ap (far prev) e ∙ far_far next prev w n)))
    (λ qf. sym (joined_no prev n num k (λ z e.
    member next prev w (λ x. x ≡ k → ⊥) k (λ d. z (qf (sym d ∙ e))) (λ d. z (qg (sym d ∙ ap next e))) (λ d. z (qh (sym d ∙ ap (λ x. next (next x)) e))) refl)))))
  where
    f : ℕ
    f = far prev n

    g : ℕ
    g = next f

    h : ℕ
    h = next g

    in_g : k ≡ g → Not0 k → far prev k ≡ far prev n
    in_g e z = ap (far prev) e ∙ far_next next prev w f (λ y. z (e ∙ y)) ∙ far_far next prev w n

    in_h : k ≡ h → Not0 k → far prev k ≡ far prev n
    in_h e z = ap (far prev) e ∙ far_next next prev w g (λ y. z (e ∙ y))
        ∙ far_next next prev w f (λ y. z (e ∙ ap next y ∙ w.next_none)) ∙ far_far next prev w n
