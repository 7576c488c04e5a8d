-- What is known of a side that is filled or confirmed, and of a trade of which one side is changed.
use Rattle.keyed.proofs.Words.{Bool, List, arith, cond, false, length, refl, true, ℕ, ◌≡◌, ◌<◌}
use Rattle.std.proofs.Common.{rules}
use Rattle.std.proofs.lemmas.Grind.{common_steps}
use Rattle.fields.specs.declared.trade.Entry.{Entry}
use Rattle.fields.specs.declared.trade.Kind.{Kind}
use Rattle.fields.specs.declared.trade.Side.{Side}
use Rattle.fields.specs.declared.trade.Terms.{Terms}
use Rattle.rows.specs.Accounts.{same_kind}
use Rattle.rows.specs.Allocations.{confirmed_if, held, is_confirmed, is_empty, total, filled, confirmed}
use Rattle.rows.specs.Legs.{leg, no_intermediation}
use Rattle.rows.specs.Trades.{alike, at_side, number}
use Rattle.rows.specs.declared.row.Allocation.{Allocation}
use Rattle.rows.specs.declared.row.AllocationState.{AllocationState}
use Rattle.rows.specs.declared.row.AllocationState.TheVariants.{Allocated, Confirmed}
use Rattle.rows.specs.declared.row.KeptEntry.{KeptEntry}
use Rattle.rows.specs.declared.row.Trade.{Trade}

pub filled_state : (b : Bool) (es : List KeptEntry) (i : ℕ) (d : Allocation) → (confirmed_if b (filled es i d)).state ≡ cond b Confirmed Allocated
filled_state b es i d = search rules

pub filled_tie : (b : Bool) (es : List KeptEntry) (i : ℕ) (d : Allocation) → (confirmed_if b (filled es i d)).tie ≡ i
filled_tie b es i d = search rules

pub held_filled : (b : Bool) (es : List KeptEntry) (i : ℕ) (d : Allocation) → held (confirmed_if b (filled es i d)) ≡ es
held_filled b es i d = grind (arith, common_steps)

pub held_confirmed : (d : Allocation) → is_empty d.state ≡ false → held (confirmed d) ≡ held d
held_confirmed d e = rw e refl

pub confirmed_filled : (st : AllocationState) → is_confirmed st ≡ true → is_empty st ≡ false
confirmed_filled st h = search rules

pub some_entries : (es : List Entry) → 0 < total es → 0 < length es
some_entries es h = grind (arith, common_steps)

pub side_terms : (w : Side) (f : Allocation → Allocation) (t : Trade) → (at_side w f t).terms ≡ t.terms
side_terms w f t = search rules

pub side_number : (w : Side) (f : Allocation → Allocation) (t : Trade) → number (at_side w f t) ≡ number t
side_number w f t = search rules

pub side_state : (w : Side) (f : Allocation → Allocation) (t : Trade) → (at_side w f t).state ≡ t.state
side_state w f t = search rules

pub same_kinds : (k l : Kind) → same_kind k l ≡ true → k ≡ l
same_kinds k l h = search rules

-- the parts of what makes trades alike
pub record Alike (t u : Terms) : Type 0 where
  pub kind : t.kind ≡ u.kind
  pub asset : t.asset ≡ u.asset
  pub quantity : t.quantity ≡ u.quantity
  pub settlement : t.settlement ≡ u.settlement

pub alike_parts : (t u : Terms) → alike t u ≡ true → Alike t u
alike_parts t u h = record { kind = search rules; asset = search rules; quantity = search rules; settlement = search rules }

pub none_leg : (w : Side) → leg w no_intermediation ≡ 0
none_leg w = search rules
