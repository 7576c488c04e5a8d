-- What the rows of a book show by number.
use Rattle.keyed.proofs.Words.{true, false, List, map, ◌≡◌, refl, ap, fun_ext, ◌∙◌, ℕ, Bool}
use Rattle.law.proofs.Subject.{intermediation_in, Intermediation, Pair, Side, Buyer, Seller, Terms, is_some, find, changed, other, number, allocation, is_cancelled, is_numbered, no_trade, AllocationState, Trade, trade_in, State}
use Rattle.keyed.proofs.Keys.{still_there}
use Rattle.chains.proofs.Puts.{put_map, put_same, look_put}
use Rattle.chains.proofs.Walk.{put, Not0, Pair as Ends, pair}
use Rattle.law.proofs.Views.{View, Common, sides, with_sides, with_ties, view_of}

abbrev pub common : Terms → Common
common t = record { kind = t.kind; asset = t.asset; quantity = t.quantity; settlement = t.settlement }

abbrev pub ends : Pair → Ends
ends p = pair p.first p.last

-- what is seen of a trade
abbrev pub is_void : Trade → Bool
is_void t = is_cancelled t.state

abbrev pub is_numbered_trade : Trade → Bool
is_numbered_trade t = is_numbered t.state

abbrev pub of_chain : Trade → Common
of_chain t = common t.terms

-- trades, whatever they are, with these intermediations and pairs
abbrev pub rows_view : (ℕ → Bool) → (ℕ → Bool) → (ℕ → Bool) → (ℕ → Common) → (ℕ → AllocationState) → (ℕ → AllocationState) → (ℕ → ℕ) → (ℕ → ℕ) → List Intermediation → List Pair → View
rows_view p c n t b s b' s' xs ps = view_of p c n t b s b' s' (λ i. (intermediation_in xs i).bought) (λ i. (intermediation_in xs i).sold) (map ends ps)

abbrev pub shows : List Trade → List Intermediation → List Pair → View
shows ts xs ps =
    rows_view (λ n. is_some (find number n ts)) (λ n. is_void (trade_in ts n)) (λ n. is_numbered_trade (trade_in ts n)) (λ n. of_chain (trade_in ts n))
    (λ n. (trade_in ts n).buyer.state) (λ n. (trade_in ts n).seller.state) (λ n. (trade_in ts n).buyer.tie) (λ n. (trade_in ts n).seller.tie) xs ps

abbrev pub view : State → View
view s = shows s.trades.rows s.intermediations.rows s.pairs.rows

-- the trade of that number is in the list
abbrev pub Here : ℕ → List Trade → Type 0
Here n ts = Not0 n → is_some (find number n ts) ≡ true

abbrev pub None0 : List Trade → Type 0
None0 ts = is_some (find number 0 ts) ≡ false

module _ (n : ℕ) (f : Trade → Trade) (ts : List Trade) (keeps : (t : Trade) → number (f t) ≡ number t) where
  pub here_after : (m : ℕ) → Here m ts → Here m (changed number n f ts)
  here_after m h z = still_there number f keeps n ts m ∙ h z

  pub none_after : None0 ts → None0 (changed number n f ts)
  none_after h = still_there number f keeps n ts 0 ∙ h

  module _ (here : Here n ts) (none : None0 ts) where
    pub trade_put : (m : ℕ) → trade_in (changed number n f ts) m ≡ put n (f (trade_in ts n)) (trade_in ts) m
    trade_put m = look_put number no_trade f keeps n ts here none m

-- The trades us, which are those of ts with another one at n: a part of it that is as before, and one that is another.
module _ (us ts : List Trade) (n : ℕ) (t : Trade) (e : (m : ℕ) → trade_in us m ≡ put n t (trade_in ts) m) where
  pub made : {X : Type 0} (g : Trade → X) (x : X) → g t ≡ x → ◌≡◌ {A = ℕ → X} (λ m. g (trade_in us m)) (put n x (λ k. g (trade_in ts k)))
  made g x h = fun_ext (λ m. ap g (e m) ∙ put_map g n t (trade_in ts) m ∙ ap (λ y. put n y (λ k. g (trade_in ts k)) m) h)

  pub left : {X : Type 0} (g : Trade → X) → (Not0 n → g t ≡ g (trade_in ts n)) → ◌≡◌ {A = ℕ → X} (λ m. g (trade_in us m)) (λ k. g (trade_in ts k))
  left g h = fun_ext (λ m. ap g (e m) ∙ put_map g n t (trade_in ts) m ∙ put_same n (g t) (λ k. g (trade_in ts k)) m h)

-- the same book with other sides
abbrev pub re_sided : (ℕ → AllocationState) → (ℕ → AllocationState) → (ℕ → ℕ) → (ℕ → ℕ) → View → View
re_sided b s b' s' v = with_ties b' s' v.bought v.sold (with_sides b s v)

pub same_sides : (v : View) {b c s t : ℕ → AllocationState} {b' c' s' t' : ℕ → ℕ} → ((n : ℕ) → b n ≡ c n) → ((n : ℕ) → s n ≡ t n) → ((n : ℕ) → b' n ≡ c' n) → ((n : ℕ) → s' n ≡ t' n)
    → re_sided b s b' s' v ≡ re_sided c t c' t' v
same_sides v eb es eb' es' = λ i. re_sided (fun_ext eb i) (fun_ext es i) (fun_ext eb' i) (fun_ext es' i) v

-- a change of one side alone
pub record Only (w : Side) (f : Trade → Trade) : Type 0 where
  pub terms : (t : Trade) → (f t).terms ≡ t.terms
  pub state : (t : Trade) → (f t).state ≡ t.state
  pub across : (t : Trade) → allocation (other w) (f t) ≡ allocation (other w) t

pub buyer_view : (n : ℕ) (f : Trade → Trade) (ts : List Trade) (xs : List Intermediation) (ps : List Pair) → Only Buyer f → Here n ts → None0 ts
    → (x : AllocationState) → (f (trade_in ts n)).buyer.state ≡ x → (i : ℕ) → (f (trade_in ts n)).buyer.tie ≡ i
    → shows (changed number n f ts) xs ps ≡ re_sided (put n x (shows ts xs ps).buyer) (shows ts xs ps).seller (put n i (shows ts xs ps).buys) (shows ts xs ps).sells (shows ts xs ps)
buyer_view n f ts xs ps o h z x ex i ei =
    let us = changed number n f ts in
    let keeps : (t : Trade) → number (f t) ≡ number t = λ t. ap (λ (e : Terms). e.number) (o.terms t) in
    let e = trade_put n f ts keeps h z in
    let u = f (trade_in ts n) in
    λ j. rows_view (fun_ext (still_there number f keeps n ts) j) (left us ts n u e is_void (λ _. ap is_cancelled (o.state _)) j) (left us ts n u e is_numbered_trade (λ _. ap is_numbered (o.state _)) j)
    (left us ts n u e of_chain (λ _. ap common (o.terms _)) j) (made us ts n u e (λ t. t.buyer.state) x ex j) (left us ts n u e (λ t. t.seller.state) (λ _. ap (λ d. d.state) (o.across _)) j)
    (made us ts n u e (λ t. t.buyer.tie) i ei j) (left us ts n u e (λ t. t.seller.tie) (λ _. ap (λ d. d.tie) (o.across _)) j) xs ps

pub seller_view : (n : ℕ) (f : Trade → Trade) (ts : List Trade) (xs : List Intermediation) (ps : List Pair) → Only Seller f → Here n ts → None0 ts
    → (x : AllocationState) → (f (trade_in ts n)).seller.state ≡ x → (i : ℕ) → (f (trade_in ts n)).seller.tie ≡ i
    → shows (changed number n f ts) xs ps ≡ re_sided (shows ts xs ps).buyer (put n x (shows ts xs ps).seller) (shows ts xs ps).buys (put n i (shows ts xs ps).sells) (shows ts xs ps)
seller_view n f ts xs ps o h z x ex i ei =
    let us = changed number n f ts in
    let keeps : (t : Trade) → number (f t) ≡ number t = λ t. ap (λ (e : Terms). e.number) (o.terms t) in
    let e = trade_put n f ts keeps h z in
    let u = f (trade_in ts n) in
    λ j. rows_view (fun_ext (still_there number f keeps n ts) j) (left us ts n u e is_void (λ _. ap is_cancelled (o.state _)) j) (left us ts n u e is_numbered_trade (λ _. ap is_numbered (o.state _)) j)
    (left us ts n u e of_chain (λ _. ap common (o.terms _)) j) (left us ts n u e (λ t. t.buyer.state) (λ _. ap (λ d. d.state) (o.across _)) j) (made us ts n u e (λ t. t.seller.state) x ex j)
    (left us ts n u e (λ t. t.buyer.tie) (λ _. ap (λ d. d.tie) (o.across _)) j) (made us ts n u e (λ t. t.seller.tie) i ei j) xs ps

-- both legs: the buyer side of a, then the seller side of c
module _ (a c : ℕ) (f g : Trade → Trade) (ts : List Trade) (xs : List Intermediation) (ps : List Pair) (of : Only Buyer f) (og : Only Seller g)
    (ha : Here a ts) (hc : Here c ts) (z : None0 ts) where
  us : List Trade
  us = changed number a f ts

  kf : (t : Trade) → number (f t) ≡ number t
  kf t = ap (λ (e : Terms). e.number) (of.terms t)

  -- every such change makes the side so
  pub both_view : (x : AllocationState) → ((t : Trade) → (f t).buyer.state ≡ x) → ((t : Trade) → (g t).seller.state ≡ x)
      → (i : ℕ) → ((t : Trade) → (f t).buyer.tie ≡ i) → ((t : Trade) → (g t).seller.tie ≡ i)
      → shows (changed number c g (changed number a f ts)) xs ps
      ≡ re_sided (put a x (shows ts xs ps).buyer) (put c x (shows ts xs ps).seller) (put a i (shows ts xs ps).buys) (put c i (shows ts xs ps).sells) (shows ts xs ps)
  both_view x fx gx i fi gi =
      seller_view c g (changed number a f ts) xs ps og (here_after a f ts kf c hc) (none_after a f ts kf z) x (gx _) i (gi _)
      ∙ ap (λ (v : View). re_sided v.buyer (put c x v.seller) v.buys (put c i v.sells) v)
      (buyer_view a f ts xs ps of ha z x (fx _) i (fi _))

  -- or leaves its tie
  pub both_kept : (x : AllocationState) → ((t : Trade) → (f t).buyer.state ≡ x) → ((t : Trade) → (g t).seller.state ≡ x)
      → ((t : Trade) → (f t).buyer.tie ≡ t.buyer.tie) → ((t : Trade) → (g t).seller.tie ≡ t.seller.tie)
      → shows (changed number c g (changed number a f ts)) xs ps ≡ sides a c x (shows ts xs ps)
  both_kept x fx gx fi gi =
      seller_view c g (changed number a f ts) xs ps og (here_after a f ts kf c hc) (none_after a f ts kf z) x (gx _) (trade_in (changed number a f ts) c).seller.tie (gi _)
      ∙ ap (λ (v : View). re_sided v.buyer (put c x v.seller) v.buys (put c (v.sells c) v.sells) v)
      (buyer_view a f ts xs ps of ha z x (fx _) (trade_in ts a).buyer.tie (fi _))
      ∙ same_sides (shows ts xs ps) (λ m. refl) (λ m. refl) (λ m. put_same a (trade_in ts a).buyer.tie (λ k. (trade_in ts k).buyer.tie) m (λ _. refl)) (λ m. put_same c (trade_in ts c).seller.tie (λ k. (trade_in ts k).seller.tie) m (λ _. refl))
