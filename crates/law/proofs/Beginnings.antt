-- What is known of the empty book.
use mathlib.Core.Bool.{false≢true}
use Rattle.keyed.proofs.Words.{List, [], ◌≡◌, refl, ℕ}
use Rattle.law.proofs.Subject.{Side, Buyer, Seller, entries_held, allocation, Beginning, begun, trade, Agrees, Sides, Pairs, Chain, plain, last_filling, filling_entries, given, written_since}

pub begun_agrees : (b : Beginning) → Agrees (plain b.day []) (begun b).state
unfolding plain
begun_agrees b = record { day = refl; trades = refl; intermediations = refl; trade_count = refl; intermediation_count = refl; pair_count = refl }

holds : (b : Beginning) (w : Side) (n : ℕ) → entries_held (allocation w (trade (begun b).state n)) ≡ filling_entries (last_filling b.day w n [])
unfolding last_filling
holds b Buyer n = refl
holds b Seller n = refl

pub begun_sides : (b : Beginning) → Sides b.day [] (begun b).state
unfolding last_filling
begun_sides b = record { holds = holds b; entitled = λ w n. tt; adds_up = λ w. tt }

no_chain : (b : Beginning) (first : ℕ) (others : List ℕ) → Chain (begun b).state first others → ⊥
no_chain b first others c = false≢true c.stands

pub begun_pairs : (b : Beginning) → Pairs b [] (begun b).state
unfolding given written_since
begun_pairs b = record {
  confirmed = λ f os c a. absurd (no_chain b f os c);
  unconfirmed = λ f os c a. refl;
  of_chains = tt;
  rows = refl;
  answered = tt;
  selic_numbers = refl;
  control_numbers = refl;
}
