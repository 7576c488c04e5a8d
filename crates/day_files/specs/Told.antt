-- What a reader that may run out of memory tells.
use Rattle.std.specs.Prelude.{◌≡◌, Ok, Err, Result}
use Rattle.fields.specs.declared.answer.Refusal.{Refusal}
use Rattle.day_files.specs.declared.stop.Stop.{Stop}
use Rattle.day_files.specs.declared.stop.Stop.TheVariants.{OutOfMemory, Refused}

abbrev pub IsOutOfMemory : Stop → Type 0
IsOutOfMemory (Refused f) = ⊥
IsOutOfMemory (OutOfMemory e) = Unit {0}

-- the answer is `wanted`, of which a value is seen by `view`, unless memory ran out
abbrev pub Tells : {A B : Type 0} → (B → A) → Result A Refusal → Result B Stop → Type 0
Tells view wanted (Ok v) = wanted ≡ Ok (view v)
Tells view wanted (Err (Refused f)) = wanted ≡ Err f
Tells view wanted (Err (OutOfMemory e)) = Unit {0}
