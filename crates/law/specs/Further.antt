-- What else holds in every run from an empty book.
use Rattle.std.specs.Prelude.{◌≡◌, ℕ, ◌+◌, ◌≤◌, true, List, [], ◌∷◌, length, None, Err, ◌≢◌}
use Rattle.fields.specs.Refusals.{refused}
use Rattle.fields.specs.declared.ground.Ground.{Ground}
use Rattle.fields.specs.declared.trade.Side.{Side}
use Rattle.keyed.specs.Members.{Each, In}
use Rattle.register.specs.Meaning.{Listed}
use Rattle.requests.specs.declared.request.NewIntermediation.{NewIntermediation}
use Rattle.requests.specs.declared.request.Request.{Request}
use Rattle.requests.specs.declared.request.Request.TheVariants.{Intermediate}
use Rattle.rows.specs.Trades.{allocation, is_numbered}
use Rattle.rows.specs.declared.row.Trade.{Trade}
use Rattle.book.specs.Runs.{Beginning, Call, begun, ran, Run, stepped}
use Rattle.book.specs.State.{State, intermediation, trade}
use Rattle.book.specs.Steps.{step}
use Rattle.book.specs.Verdicts.{verdict}
use Rattle.law.specs.Law.{AllConfirmed, Chain, final, pairs_of}
use Rattle.law.specs.Plain.{closes}
use Rattle.fields.specs.declared.ground.Ground.TheVariants as ground

-- ── A numbered chain stays as it is until the closing ──

-- a trade is as it was, but for its mark: its terms, and both sides with their states, entries and ties; and it is numbered
pub record AsItWas (before after : Trade) : Type 0 where
  pub terms : after.terms ≡ before.terms
  pub buyer : after.buyer ≡ before.buyer
  pub seller : after.seller ≡ before.seller
  pub numbered : is_numbered after.state ≡ true

-- the intermediation that holds a side of trade n is as it was
abbrev pub HeldAsBefore : State → State → ℕ → Type 0
HeldAsBefore s t n = (w : Side) → intermediation t (allocation w (trade s n)).tie ≡ intermediation s (allocation w (trade s n)).tie

-- the chain of s is one of t too, with its sides, its ties and its pairs
pub record Stays (s t : State) (first : ℕ) (others : List ℕ) : Type 0 where
  pub chain : Chain t first others
  pub trades : Each (λ n. AsItWas (trade s n) (trade t n)) (first ∷ others)
  pub ties : Each (HeldAsBefore s t) (first ∷ others)
  pub pairs : pairs_of t first (final first others) ≡ pairs_of s first (final first others)

-- the request closes the day: it asks for that, and is accepted
abbrev pub Closes : State → Call → Type 0
Closes s c = (closes c.asked ≡ true) × (verdict c.register s c.asked ≡ None)

-- none of these requests closes the day
abbrev pub NoneCloses : Run → List Call → Type 0
NoneCloses run [] = Unit {0}
NoneCloses run (c ∷ cs) = (Closes run.state c → ⊥) × NoneCloses (stepped run c) cs

-- after any run cs, and any further requests ds of which none closes the day
abbrev pub NumberedChainStays : Type 0
NumberedChainStays =
    (b : Beginning) (cs ds : List Call) → NoneCloses (ran (begun b) cs) ds
    → (first : ℕ) (others : List ℕ) → Chain (ran (begun b) cs).state first others → AllConfirmed (ran (begun b) cs).state (first ∷ others)
    → Stays (ran (begun b) cs).state (ran (ran (begun b) cs) ds).state first others

-- ── Refusals that do not arise ──

-- no request is answered so, at any place
abbrev pub Never : Ground → List Listed → State → Request → Type 0
Never g r s q = (place : ℕ) → (step r s q).answer ≢ Err (refused g place)

-- after any run no request is refused for a broken chain
abbrev pub NeverBroken : Type 0
NeverBroken = (b : Beginning) (cs : List Call) (r : List Listed) (q : Request) → Never ground.BrokenChain r (ran (begun b) cs).state q

-- a chain of s that this trade is in
pub record ChainOf (s : State) (n : ℕ) : Type 0 where
  pub first : ℕ
  pub others : List ℕ
  pub chain : Chain s first others
  pub member : In n (first ∷ others)

-- An intermediation may be asked for that makes one chain of two. If the two are not one already and have at most three trades together, it is
-- not refused for the length of the chain.
abbrev pub NeverTooLong : Type 0
NeverTooLong =
    (b : Beginning) (cs : List Call) (r : List Listed) (q : NewIntermediation)
    → (x : ChainOf (ran (begun b) cs).state q.intermediation.bought) (y : ChainOf (ran (begun b) cs).state q.intermediation.sold)
    → (In q.intermediation.sold (x.first ∷ x.others) → ⊥) → length (x.first ∷ x.others) + length (y.first ∷ y.others) ≤ 3
    → Never ground.ChainTooLong r (ran (begun b) cs).state (Intermediate q)
