-- Where a reader stands in a line: on the comma before a field, or at the end.
use Rattle.std.specs.Prelude.{◌≡◌, ℕ, cond, List, [], ◌∷◌, Some, None, Ok, Err, Option, Result, MatchOption, ◌==◌}
use Rattle.std.specs.Borrow.{Bor}
use Rattle.fields.specs.declared.answer.Refusal.{Refusal}
use Rattle.text.specs.Fields.{fields}

-- the bytes before the first mark, and those from it on
abbrev pub before : ℕ → List ℕ → List ℕ
before mark [] = []
before mark (b ∷ bs) = cond (b == mark) [] (b ∷ before mark bs)

abbrev pub onward : ℕ → List ℕ → List ℕ
onward mark [] = []
onward mark (b ∷ bs) = cond (b == mark) (b ∷ bs) (onward mark bs)

-- the same at the first comma
abbrev pub front : List ℕ → List ℕ
front = before 44

abbrev pub after : List ℕ → List ℕ
after = onward 44

-- a reader of the field that a text begins with gave its value and what follows it, or nothing
abbrev pub Takes : {A : Type 0} → (List ℕ → Option A) → List ℕ → Option (A × Bor (List ℕ)) → Type 0
Takes read text r = MatchOption r (read (front text) ≡ None) (λ p. (read (front text) ≡ Some p.0) × (p.1.now ≡ after text))

-- the fields that are left
abbrev pub left : List ℕ → List (List ℕ)
left [] = []
left (b ∷ bs) = cond (b == 44) (fields bs) []

-- what a reader of a field returns, by the fields that it leaves
abbrev pub seen : {A : Type 0} → Result (A × Bor (List ℕ)) Refusal → Result (A × List (List ℕ)) Refusal
seen (Ok p) = Ok (p.0, left p.1.now)
seen (Err e) = Err e
