-- The book seen by numbers: what stands at each trade and at each intermediation.
use Rattle.keyed.proofs.Words.{Bool, true, false, not, ◌&&◌, cond, List, [], ◌++◌, ◌≡◌, ℕ, eqb}
use Rattle.law.proofs.Subject.{Kind, Selic, is_confirmed, AllocationState, Empty}
use Rattle.chains.proofs.Walk.{put, Not0, far, whole, Pair, joined, Half, Numbered}

abbrev pub sure : AllocationState → Bool
sure x = is_confirmed x

-- what the trades of a chain have in common
pub record Common : Type 0 where
  pub kind : Kind
  pub asset : ℕ
  pub quantity : ℕ
  pub settlement : ℕ

-- 0 is no trade, no intermediation and no tie
pub record View : Type 0 where
  pub present : ℕ → Bool
  pub cancelled : ℕ → Bool
  pub num : ℕ → Bool
  pub terms : ℕ → Common
  pub buyer : ℕ → AllocationState
  pub seller : ℕ → AllocationState
  pub buys : ℕ → ℕ
  pub sells : ℕ → ℕ
  pub bought : ℕ → ℕ
  pub sold : ℕ → ℕ
  pub pairs : List Pair

abbrev pub next : View → ℕ → ℕ
next v n = v.sold (v.buys n)

abbrev pub prev : View → ℕ → ℕ
prev v n = v.bought (v.sells n)

unfoldable pub full_by : (ℕ → AllocationState) → (ℕ → AllocationState) → ℕ → Bool
full_by buyer seller n = cond (eqb n 0) true (sure (buyer n) && sure (seller n))

abbrev pub full : View → ℕ → Bool
full v = full_by v.buyer v.seller

abbrev pub first : View → ℕ → ℕ
first v = far (prev v)

abbrev pub last : View → ℕ → ℕ
last v = far (next v)

abbrev pub whole_chain : View → ℕ → Bool
whole_chain v n = whole (next v) (prev v) (full v) n

-- a view by its parts, and one with other trades, sides, ties or pairs
abbrev pub view_of : (ℕ → Bool) → (ℕ → Bool) → (ℕ → Bool) → (ℕ → Common) → (ℕ → AllocationState) → (ℕ → AllocationState) → (ℕ → ℕ) → (ℕ → ℕ) → (ℕ → ℕ) → (ℕ → ℕ) → List Pair → View
view_of p c n t b s b' s' x y ps = record { present = p; cancelled = c; num = n; terms = t; buyer = b; seller = s; buys = b'; sells = s'; bought = x; sold = y; pairs = ps }

abbrev pub with_trades : (ℕ → Bool) → (ℕ → Bool) → (ℕ → Bool) → (ℕ → Common) → View → View
with_trades p c n t v = view_of p c n t v.buyer v.seller v.buys v.sells v.bought v.sold v.pairs

abbrev pub with_sides : (ℕ → AllocationState) → (ℕ → AllocationState) → View → View
with_sides b s v = view_of v.present v.cancelled v.num v.terms b s v.buys v.sells v.bought v.sold v.pairs

abbrev pub with_ties : (ℕ → ℕ) → (ℕ → ℕ) → (ℕ → ℕ) → (ℕ → ℕ) → View → View
with_ties b s x y v = view_of v.present v.cancelled v.num v.terms v.buyer v.seller b s x y v.pairs

abbrev pub with_pairs : List Pair → View → View
with_pairs ps v = view_of v.present v.cancelled v.num v.terms v.buyer v.seller v.buys v.sells v.bought v.sold ps

-- the buyer side of a and the seller side of c
abbrev pub sides : ℕ → ℕ → AllocationState → View → View
sides a c x v = with_sides (put a x v.buyer) (put c x v.seller) v

abbrev pub link : ℕ → ℕ → ℕ → View → View
link id a c v = with_ties (put a id v.buys) (put c id v.sells) (put id a v.bought) (put id c v.sold) v

abbrev pub unlink : ℕ → View → View
unlink id v = with_ties (put (v.bought id) 0 v.buys) (put (v.sold id) 0 v.sells) (put id 0 v.bought) (put id 0 v.sold) v

abbrev pub captured : ℕ → Common → View → View
captured n t v = sides n n Empty (with_trades (put n true v.present) (put n false v.cancelled) v.num (put n t v.terms) v)

abbrev pub voided : ℕ → View → View
voided n v = sides n n Empty (with_trades v.present (put n true v.cancelled) v.num v.terms v)

-- other trades are numbered
abbrev pub re_numbered : (ℕ → Bool) → View → View
re_numbered b v = with_trades v.present v.cancelled b v.terms v

-- the chain of n becomes numbered and has its pairs
abbrev pub numbered : List Pair → ℕ → View → View
numbered ps n v = with_pairs (v.pairs ++ ps) (re_numbered (joined (prev v) n v.num) v)

-- one of two legs that is there
abbrev pub leg : ℕ → ℕ → ℕ
leg a c = cond (eqb a 0) c a

abbrev pub exclude : ℕ → View → View
exclude id v = unlink id (sides (v.bought id) (v.sold id) Empty v)

abbrev pub nothing : View
nothing =
    view_of (λ n. false) (λ n. false) (λ n. false) (λ n. record { kind = Selic; asset = 0; quantity = 0; settlement = 0 }) (λ n. Empty) (λ n. Empty) (λ n. 0) (λ n. 0) (λ n. 0) (λ n. 0) []

-- captured and not cancelled
abbrev pub live : View → ℕ → Bool
live v n = v.present n && not (v.cancelled n)

-- what every request keeps
pub record Sound (v : View) : Type 0 where
  pub buying : Half v.buys v.bought
  pub selling : Half v.sells v.sold
  pub short : (n : ℕ) → next v (next v (next v n)) ≡ 0
  pub alike : (n : ℕ) → Not0 (next v n) → v.terms (next v n) ≡ v.terms n
  pub numbers : Numbered (next v) (prev v) (full v) v.num v.pairs
  pub none : v.present 0 ≡ false
  pub blank : (n : ℕ) → live v n ≡ false → (v.buys n ≡ 0) × (v.sells n ≡ 0) × (v.buyer n ≡ Empty)
