-- A refusal from its parts.
use Rattle.std.specs.Prelude.{ℕ}
use Rattle.fields.specs.declared.answer.Refusal.{Refusal}
use Rattle.fields.specs.declared.ground.Ground.{Ground}

-- refused on this ground, at this place
abbrev pub refused : (ground : Ground) → ℕ → Refusal
refused ground place = record { ground = ground; place = place }
