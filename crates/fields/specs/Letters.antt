-- The letters that stand for kinds and sides in lines.
use Rattle.std.specs.Prelude.{ℕ}
use Rattle.fields.specs.declared.trade.Kind.{Kind}
use Rattle.fields.specs.declared.trade.Kind.TheVariants.{Selic, Deposited, Registered}
use Rattle.fields.specs.declared.trade.Side.{Side}
use Rattle.fields.specs.declared.trade.Side.TheVariants.{Buyer, Seller}

-- S, D or R
abbrev pub kind_letter : Kind → ℕ
kind_letter Selic = 83
kind_letter Deposited = 68
kind_letter Registered = 82

-- B or S
abbrev pub side_letter : Side → ℕ
side_letter Buyer = 66
side_letter Seller = 83
