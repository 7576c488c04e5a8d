-- Tests and verdicts. A verdict is the refusal of the first test that does not pass, or none.
use Rattle.std.specs.Prelude.{◌≡◌, ℕ, Bool, true, false, cond, List, [], ◌∷◌, Some, None, Ok, Err, Option, Result}
use Rattle.fields.specs.declared.answer.Refusal.{Refusal}
use Rattle.fields.specs.declared.ground.Ground.{Ground}

-- whether it passes, and the ground and the place of the refusal if it does not
pub record Test : Type 0 where
  pub ground : Ground
  pub place : ℕ
  pub passes : Bool

abbrev pub test : Ground → ℕ → Bool → Test
test g p b = record { ground = g; place = p; passes = b }

abbrev pub refusal : Test → Refusal
refusal t = record { ground = t.ground; place = t.place }

abbrev pub first_refusal : List Test → Option Refusal
first_refusal [] = None
first_refusal (t ∷ ts) = cond t.passes (first_refusal ts) (Some (refusal t))

-- what a test by itself answers
abbrev pub unless : Bool → Ground → ℕ → Result (Unit {0}) Refusal
unless b g p = cond b (Ok tt) (Err (record { ground = g; place = p }))

-- one verdict, and then another
abbrev pub in_turn : Option Refusal → Option Refusal → Option Refusal
in_turn None v = v
in_turn (Some f) v = Some f

-- a verdict that is asked for in one case only
abbrev pub only_if : Bool → Option Refusal → Option Refusal
only_if true v = v
only_if false v = None

-- what a function answers that judges: the verdict's refusal, or a value of which P holds
abbrev pub Judges : {X : Type 0} → Option Refusal → (X → Type 0) → Result X Refusal → Type 0
Judges v P (Ok x) = (v ≡ None) × P x
Judges v P (Err f) = v ≡ Some f
