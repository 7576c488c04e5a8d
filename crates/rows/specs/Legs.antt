-- Intermediations, found by their ids, and their legs. An intermediation holds the buyer side of its bought trade and the seller side of its
-- sold trade; a leg 0 is absent.
use Rattle.std.specs.Prelude.{ℕ, Bool, cond, not, ◌&&◌, ◌||◌, List, ◌==◌}
use Rattle.fields.specs.declared.trade.Intermediation.{Intermediation}
use Rattle.fields.specs.declared.trade.Side.{Side}
use Rattle.fields.specs.declared.trade.Side.TheVariants.{Buyer, Seller}
use Rattle.keyed.specs.Lists.{is_some, or_else}
use Rattle.keyed.specs.Rows.{find}
use Rattle.rows.specs.Trades.{allocation, number, trade_in}
use Rattle.rows.specs.declared.row.AllocationState.{AllocationState}
use Rattle.rows.specs.declared.row.Trade.{Trade}

abbrev pub id : Intermediation → ℕ
id x = x.id

-- stands for an intermediation that is not there
abbrev pub no_intermediation : Intermediation
no_intermediation = record { id = 0; participant = 0; account = 0; bought = 0; sold = 0 }

-- the intermediation with this id, or the blank one
abbrev pub intermediation_in : List Intermediation → ℕ → Intermediation
intermediation_in xs n = or_else no_intermediation (find id n xs)

-- the trade whose buyer side, or whose seller side, it holds; 0 for none
abbrev pub leg : Side → Intermediation → ℕ
leg Buyer x = x.bought
leg Seller x = x.sold

abbrev pub has_leg : Side → Intermediation → Bool
has_leg w x = not (leg w x == 0)

abbrev pub both_legs : Intermediation → Bool
both_legs x = has_leg Buyer x && has_leg Seller x

-- one of the legs, the bought one if it is there
abbrev pub any_leg : Intermediation → ℕ
any_leg x = cond (has_leg Buyer x) (leg Buyer x) (leg Seller x)

-- holds of each leg that is there
abbrev pub each_leg : (Side → Bool) → Intermediation → Bool
each_leg p x = (not (has_leg Buyer x) || p Buyer) && (not (has_leg Seller x) || p Seller)

-- how the side stands that a leg holds
abbrev pub leg_state : List Trade → Intermediation → Side → AllocationState
leg_state ts x w = (allocation w (trade_in ts (leg w x))).state

-- a leg leads to a trade whose side is tied to this intermediation
abbrev pub leg_holds : List Trade → Intermediation → Side → Bool
leg_holds ts x w = is_some (find number (leg w x) ts) && (allocation w (trade_in ts (leg w x))).tie == x.id

abbrev pub legs_hold : List Trade → Intermediation → Bool
legs_hold ts x = each_leg (leg_holds ts x) x
