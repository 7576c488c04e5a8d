-- Fields read from left to right: the first fault is the refusal.
use Rattle.std.specs.Prelude.{ℕ, List, [], ◌∷◌, Some, None, Ok, Err, Option, Result}
use Rattle.fields.specs.Refusals.{refused}
use Rattle.fields.specs.declared.answer.Refusal.{Refusal}
use Rattle.fields.specs.declared.range.Range.{Range}
use Rattle.fields.specs.declared.ground.Ground.{Ground}
use Rattle.fields.specs.declared.ground.Ground.TheVariants.{BadField, FieldCount}
use Rattle.text.specs.Fields.{fields, number}

abbrev pub refusal : Ground → ℕ → Refusal
refusal g k = refused g k

-- what is read next, unless there was a refusal
abbrev pub then : {A B : Type 0} → Result A Refusal → (A → Result B Refusal) → Result B Refusal
then (Ok x) go = go x
then (Err e) go = Err e

-- a value and the fields behind it; a field that does not read is bad at its place k
abbrev pub readable : {A : Type 0} → Option A → ℕ → List (List ℕ) → Result (A × List (List ℕ)) Refusal
readable (Some v) k fs = Ok (v, fs)
readable None k fs = Err (refusal BadField k)

-- the field at place k and the fields behind it; it may be missing
abbrev pub field : {A : Type 0} → (List ℕ → Option A) → ℕ → List (List ℕ) → Result (A × List (List ℕ)) Refusal
field read k [] = Err (refusal FieldCount k)
field read k (f ∷ fs) = readable (read f) k fs

-- no field may be left: one at place k is too many
abbrev pub end : ℕ → List (List ℕ) → Result (Unit {0}) Refusal
end k [] = Ok tt
end k (f ∷ fs) = Err (refusal FieldCount k)

-- the number in a line of one field; each fault has place k
abbrev pub only : Range → ℕ → List ℕ → Result ℕ Refusal
only r k line = then (field (number r) k (fields line)) (λ n. then (end k n.1) (λ _. Ok n.0))
