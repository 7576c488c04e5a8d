-- Numbers that are read one line after the other.
use Rattle.std.proofs.Common.{ℕ, List, ◌++◌, Ok, Result}
use Rattle.fields.specs.declared.answer.Refusal.{Refusal}
use Rattle.text.specs.Reading.{then}

-- ns before the numbers that are read
abbrev pub prefixed : List ℕ → Result (List ℕ) Refusal → Result (List ℕ) Refusal
prefixed ns r = then r (λ ms. Ok (ns ++ ms))
