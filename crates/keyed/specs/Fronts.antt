-- How far a table of any origin can be relied on.
use Rattle.std.specs.Prelude.{◌≡◌, ℕ, ◌+◌, ◌<◌, Bool, true, cond, ◌&&◌, List, [], ◌∷◌, Ok, Err, Result, nat_lt}
use Rattle.std.proofs.lemmas.Bool.{and_parts, ltb-true, cond_both}
use Rattle.fields.specs.Refusals.{refused}
use Rattle.fields.specs.declared.answer.Refusal.{Refusal}
use Rattle.fields.specs.declared.ground.Ground.TheVariants.{EndsEarly}

-- the rows up to the last one before the keys stop rising, the first above k, or a row is not good
abbrev pub rising_front : {R : Type 0} → (R → ℕ) → (R → Bool) → ℕ → List R → List R
rising_front key good k [] = []
rising_front key good k (x ∷ xs) = cond (nat_lt k (key x) && good x) (x ∷ rising_front key good (key x) xs) []

-- what holds of no rows, and of a good row before those above it, holds of every such front
pub rising_front_holds : {R : Type 0} (key : R → ℕ) (good : R → Bool) (P : ℕ → List R → Type 0) → ((k : ℕ) → P k []) → ((k : ℕ) (x : R) (xs : List R) → k < key x → good x ≡ true → P (key x) xs → P k (x ∷ xs)) → (k : ℕ) (xs : List R) → P k (rising_front key good k xs)
rising_front_holds key good P none more k [] = none k
rising_front_holds key good P none more k (x ∷ xs) =
    cond_both (nat_lt k (key x) && good x) (x ∷ rising_front key good (key x) xs) [] (P k)
    (λ e. let both = and_parts (nat_lt k (key x)) (good x) e in more k x (rising_front key good (key x) xs) (ltb-true k (key x) both.0) both.1 (rising_front_holds key good P none more (key x) xs))
    (λ _. none k)

-- a table of which only the first `good` rows count ends early, at the row after them
abbrev pub ends_early : ℕ → ℕ → Result (Unit {0}) Refusal
ends_early good rows = cond (nat_lt good rows) (Err (refused EndsEarly (good + 1))) (Ok tt)
