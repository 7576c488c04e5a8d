-- Walks over numbered things, where 0 stands for none.
use Rattle.std.specs.List.{Contains}
use Rattle.keyed.proofs.Words.{Bool, true, false, ◌&&◌, cond, List, ◌≡◌, ℕ, ◌+◌, eqb}

-- f with x at a; nothing is put at 0
unfoldable pub put : {X : Type 0} → ℕ → X → (ℕ → X) → ℕ → X
put a x f n = cond (eqb a 0) (f n) (cond (eqb n a) x (f n))

abbrev pub Not0 : ℕ → Type 0
Not0 n = n ≡ 0 → ⊥

-- one step, or none where there is nothing
unfoldable pub one : (ℕ → ℕ) → ℕ → ℕ
one step n = cond (eqb (step n) 0) n (step n)

-- the end that two steps reach
unfoldable pub far : (ℕ → ℕ) → ℕ → ℕ
far step n = one step (one step n)

-- next and prev undo one another, and no walk has four
pub record Walk (next prev : ℕ → ℕ) : Type 0 where
  pub next_none : next 0 ≡ 0
  pub prev_none : prev 0 ≡ 0
  pub there : (n : ℕ) → Not0 (next n) → prev (next n) ≡ n
  pub back : (n : ℕ) → Not0 (prev n) → next (prev n) ≡ n
  pub short : (n : ℕ) → next (next (next n)) ≡ 0

-- the test of a whole chain
unfoldable pub whole_from : (ℕ → ℕ) → (ℕ → Bool) → ℕ → Bool
whole_from next full f = full f && (full (next f) && full (next (next f)))

abbrev pub whole : (ℕ → ℕ) → (ℕ → ℕ) → (ℕ → Bool) → ℕ → Bool
whole next prev full n = whole_from next full (far prev n)

-- the first and the last trade that a pair names
pub record Pair : Type 0 where
  pub opens : ℕ
  pub ends : ℕ

abbrev pub pair : ℕ → ℕ → Pair
pair a b = record { opens = a; ends = b }

-- some pair of the list names these two
abbrev pub Named : ℕ → ℕ → List Pair → Type 0
Named a b ps = (p : Pair) × Contains ps p × (p.opens ≡ a) × (p.ends ≡ b)

-- full and numbered go together along chains, and the numbered ones have their pairs
pub record Numbered (next prev : ℕ → ℕ) (full num : ℕ → Bool) (pairs : List Pair) : Type 0 where
  pub none_full : full 0 ≡ true
  pub none_num : num 0 ≡ false
  pub num_full : (n : ℕ) → num n ≡ true → full n ≡ true
  pub num_next : (n : ℕ) → num n ≡ true → Not0 (next n) → num (next n) ≡ true
  pub num_prev : (n : ℕ) → num n ≡ true → Not0 (prev n) → num (prev n) ≡ true
  pub full_num : (n : ℕ) → Not0 n → whole next prev full n ≡ true → num n ≡ true
  pub pair_num : (p : Pair) → Contains pairs p → (num p.opens ≡ true) × (prev p.opens ≡ 0) × (p.ends ≡ far next p.opens)
  pub num_pair : (n : ℕ) → num n ≡ true → Named (far prev n) (far next n) pairs

-- the chain of n numbered
unfoldable pub joined : (ℕ → ℕ) → ℕ → (ℕ → Bool) → ℕ → Bool
joined prev n num k = cond (eqb k 0) (num k) (cond (eqb (far prev k) (far prev n)) true (num k))

-- a tie and its leg lead back to one another
pub record Half (tie leg : ℕ → ℕ) : Type 0 where
  pub tie_none : tie 0 ≡ 0
  pub leg_none : leg 0 ≡ 0
  pub back : (n : ℕ) → Not0 (tie n) → leg (tie n) ≡ n
  pub forth : (i : ℕ) → Not0 (leg i) → tie (leg i) ≡ i

abbrev pub one_if : ℕ → ℕ
one_if n = cond (eqb n 0) 0 1

-- how many trades the chain has
unfoldable pub count_from : (ℕ → ℕ) → ℕ → ℕ
count_from next f = 1 + (one_if (next f) + one_if (next (next f)))

abbrev pub count : (ℕ → ℕ) → (ℕ → ℕ) → ℕ → ℕ
count next prev n = count_from next (far prev n)
