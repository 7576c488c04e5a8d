-- What holds of the book after every list of requests, each with its own register: the law, one record with a field for each promise.
use Rattle.std.specs.Prelude.{◌≡◌, ℕ, ◌+◌, ◌<◌, ◌≤◌, true, false, cond, ◌&&◌, ◌⊎◌, List, [], ◌∷◌, ◌++◌, map, length, Some, None, Ok, Err, Option, Result, ◌==◌}
use Rattle.fields.specs.declared.account.Account.{Account}
use Rattle.fields.specs.declared.answer.Answer.{Answer}
use Rattle.fields.specs.declared.answer.Answer.TheVariants.{Marked, Written}
use Rattle.fields.specs.declared.answer.Refusal.{Refusal}
use Rattle.fields.specs.declared.trade.Intermediation.{Intermediation}
use Rattle.fields.specs.declared.trade.Pair.{Pair}
use Rattle.fields.specs.declared.trade.Side.{Side}
use Rattle.fields.specs.declared.trade.Terms.{Terms}
use Rattle.keyed.specs.Lists.{is_some, those}
use Rattle.keyed.specs.Members.{Each, In}
use Rattle.keyed.specs.Rows.{find}
use Rattle.register.specs.Meaning.{Listed, account_in, tied_in}
use Rattle.rows.specs.Accounts.{active, is_selic, suits}
use Rattle.rows.specs.Allocations.{entries_held, held, is_empty, total}
use Rattle.rows.specs.Legs.{leg}
use Rattle.rows.specs.Trades.{alike, allocation, both_confirmed, number, party}
use Rattle.rows.specs.declared.row.KeptEntry.{KeptEntry}
use Rattle.rows.specs.declared.row.Trade.{Trade}
use Rattle.chains.specs.Paired.{Paired}
use Rattle.book.specs.Runs.{Beginning, Call, History, begun, ran}
use Rattle.book.specs.State.{State, trade}
use Rattle.law.specs.Plain.{Filling, Plain, PlainTrade, filling_entries, given, last_filling, plain, written_since}

-- ── The tables agree with the plain book ──

abbrev pub as_plain : Trade → PlainTrade
as_plain t = record { terms = t.terms; buyer = t.buyer.state; seller = t.seller.state }

pub record Agrees (p : Plain) (s : State) : Type 0 where
  pub day : s.day ≡ p.day
  pub trades : map as_plain s.trades.rows ≡ p.trades
  pub intermediations : s.intermediations.rows ≡ p.standing
  pub trade_count : s.trades.count ≡ length s.trades.rows
  pub intermediation_count : s.intermediations.count ≡ length s.intermediations.rows
  pub pair_count : s.pairs.count ≡ length s.pairs.rows

-- ── Sides ──

-- by this register and on this day the entry's account was active, suited, and tied to this side of the trade; its type then was kept
pub record Entitled (r : List Listed) (day : ℕ) (t : Terms) (w : Side) (e : KeptEntry) : Type 0 where
  pub account : Account
  pub listed : account_in r e.entry.account ≡ Some account
  pub active_then : active day account ≡ true
  pub suited : suits t.kind account ≡ true
  pub tied : tied_in r e.entry.account (party w t) ≡ true
  pub type_kept : e.found ≡ account.class

abbrev pub EntitledBy : Option Filling → Side → List KeptEntry → Type 0
EntitledBy None w es = Unit {0}
EntitledBy (Some f) w es = Each (Entitled f.register f.day f.terms w) es

abbrev pub AddsUp : Side → Trade → Type 0
AddsUp w t = is_empty (allocation w t).state ≡ false → total (entries_held (allocation w t)) ≡ t.terms.quantity

pub record Sides (day : ℕ) (h : History) (s : State) : Type 0 where
  -- a side holds, in order, the entries of the last accepted request that filled it, or nothing if none did or a later one emptied it
  pub holds : (w : Side) (n : ℕ) → entries_held (allocation w (trade s n)) ≡ filling_entries (last_filling day w n h)
  -- by that request's register each account was active, suited and tied to the side
  pub entitled : (w : Side) (n : ℕ) → EntitledBy (last_filling day w n h) w (held (allocation w (trade s n)))
  -- a filled side adds up to the trade's quantity
  pub adds_up : (w : Side) → Each (AddsUp w) s.trades.rows

-- ── Chains ──

-- an intermediation that stands leads from trade n to trade m
pub record Link (xs : List Intermediation) (n m : ℕ) : Type 0 where
  pub by : Intermediation
  pub stands : In by xs
  pub bought : by.bought ≡ n
  pub sold : by.sold ≡ m
  pub bought_there : 0 < n
  pub sold_there : 0 < m

-- an intermediation that stands has this id and holds side w of trade n
pub record Holder (xs : List Intermediation) (w : Side) (id n : ℕ) : Type 0 where
  pub by : Intermediation
  pub stands : In by xs
  pub has_id : by.id ≡ id
  pub holds : leg w by ≡ n

-- each trade leads to the next
abbrev pub Linked : List Intermediation → List ℕ → Type 0
Linked xs [] = Unit {0}
Linked xs (n ∷ []) = Unit {0}
Linked xs (n ∷ (m ∷ ns)) = Link xs n m × Linked xs (m ∷ ns)

abbrev pub NoneTwice : List ℕ → Type 0
NoneTwice [] = Unit {0}
NoneTwice (n ∷ ns) = (In n ns → ⊥) × NoneTwice ns

-- a leg that is there leads to a trade that is there, whose side is tied to this intermediation
abbrev pub LegHolds : State → Side → Intermediation → Type 0
LegHolds s w x = 0 < leg w x → (is_some (find number (leg w x) s.trades.rows) ≡ true) × ((allocation w (trade s (leg w x))).tie ≡ x.id)

-- a tied side is held by the intermediation of that id
abbrev pub TieHeld : State → Side → Trade → Type 0
TieHeld s w t = ((allocation w t).tie ≡ 0) ⊎ Holder s.intermediations.rows w (allocation w t).tie (number t)

pub record Chains (s : State) : Type 0 where
  pub legs : (w : Side) → Each (LegHolds s w) s.intermediations.rows
  pub ties : (w : Side) → Each (TieHeld s w) s.trades.rows
  -- no two intermediations hold one side
  pub alone : (w : Side) (x y : Intermediation) → In x s.intermediations.rows → In y s.intermediations.rows → 0 < leg w x → leg w x ≡ leg w y → x ≡ y
  -- a chain has at most three trades
  pub short : (ns : List ℕ) → Linked s.intermediations.rows ns → length ns ≤ 3
  -- and meets none twice
  pub never_twice : (ns : List ℕ) → Linked s.intermediations.rows ns → NoneTwice ns
  -- its trades are equal in kind, asset, quantity and settlement day
  pub equal : (n : ℕ) (ns : List ℕ) → Linked s.intermediations.rows (n ∷ ns) → Each (λ m. alike (trade s n).terms (trade s m).terms ≡ true) ns

-- ── Pairs and numbers ──

-- the last of these trades
abbrev pub final : ℕ → List ℕ → ℕ
final n [] = n
final n (m ∷ ns) = final m ns

-- the trades from first on are a chain, which ends at both its ends
pub record Chain (s : State) (first : ℕ) (others : List ℕ) : Type 0 where
  pub stands : is_some (find number first s.trades.rows) ≡ true
  pub linked : Linked s.intermediations.rows (first ∷ others)
  pub none_before : (n : ℕ) → Link s.intermediations.rows n first → ⊥
  pub none_behind : (n : ℕ) → Link s.intermediations.rows (final first others) n → ⊥

abbrev pub AllConfirmed : State → List ℕ → Type 0
AllConfirmed s ns = Each (λ n. both_confirmed (trade s n) ≡ true) ns

-- the pairs that name these two trades
abbrev pub pairs_of : State → ℕ → ℕ → List Pair
pairs_of s first last = those (λ p. (p.first == first) && p.last == last) s.pairs.rows

-- the list with which the issuer for these terms began
abbrev pub begun_for : Beginning → Terms → List ℕ
begun_for b t = cond (is_selic t.kind) b.selic b.control

-- the rows that an answer names are those by which the pair table grew: n of them, from behind the rows before
abbrev pub Named : Result Answer Refusal → ℕ → ℕ → Type 0
Named (Err f) before grown = grown ≡ 0
Named (Ok Marked) before grown = grown ≡ 0
Named (Ok (Written n first)) before grown = (grown ≡ n) × (((n ≡ 0) × (first ≡ 0)) ⊎ ((0 < n) × (first ≡ before + 1)))

abbrev pub AllNamed : History → Type 0
AllNamed [] = Unit {0}
AllNamed (e ∷ h) = Named e.answered (length (written_since h)) (length e.wrote) × AllNamed h

pub record Pairs (b : Beginning) (h : History) (s : State) : Type 0 where
  -- a chain all of whose sides are confirmed has its pairs: taken and numbered as they should be, they add up at each end
  pub confirmed : (first : ℕ) (others : List ℕ) → Chain s first others → AllConfirmed s (first ∷ others)
      → Paired (begun_for b (trade s first).terms) (entries_held (trade s first).seller) (entries_held (trade s (final first others)).buyer) (pairs_of s first (final first others))
  -- any other has none
  pub unconfirmed : (first : ℕ) (others : List ℕ) → Chain s first others → (AllConfirmed s (first ∷ others) → ⊥) → pairs_of s first (final first others) ≡ []
  -- and each pair is a chain's
  pub of_chains : Each (λ p. (others : List ℕ) × Chain s p.first others × (final p.first others ≡ p.last)) s.pairs.rows
  -- the pair table holds what was written since the last closing, and each answer tells how it grew
  pub rows : s.pairs.rows ≡ written_since h
  pub answered : AllNamed h
  -- the numbers given, in order, and then those left are the list that the issuer began with
  pub selic_numbers : given true b.day h ++ s.selic ≡ b.selic
  pub control_numbers : given false b.day h ++ s.control ≡ b.control

-- ── The law ──

pub record Lawful (b : Beginning) (h : History) (s : State) : Type 0 where
  pub agrees : Agrees (plain b.day h) s
  pub sides : Sides b.day h s
  pub chains : Chains s
  pub pairs : Pairs b h s

-- for every beginning and every list of requests, each with its own register's meaning, the run from the empty book is lawful
abbrev pub EveryRunLawful : Type 0
EveryRunLawful =
    (b : Beginning) (cs : List Call) → Lawful b (ran (begun b) cs).history (ran (begun b) cs).state

-- its first case: the empty book
abbrev pub BeginningLawful : Type 0
BeginningLawful = (b : Beginning) → Lawful b [] (begun b).state
