-- A chain of places has one trade, two or three.
use Rattle.keyed.proofs.Words.{Bool, List, ◌&&◌, ◌||◌, ◌≡◌, ap, cases_eq, false, refl, subst, sym, true, ℕ, ⊎_elim}
use Rattle.std.proofs.Common.{length}
use Rattle.keyed.specs.Lists.{all, any}
use Rattle.rows.specs.declared.row.Trade.{Trade}
use Rattle.chains.specs.Following.{first_of, last_of}
use Rattle.chains.specs.Places.{Chain, Shaped, number_at, numbers_at, places_of, row_at, rows_at}

-- what holds of each shape holds of the chain
pub shapes : (P : Chain → Type 0) → ((i : ℕ) → P (i, i, i, 1)) → ((i k : ℕ) → P (i, i, k, 2)) → ((i j k : ℕ) → P (i, j, k, 3)) → (c : Chain) → Shaped c → P c
shapes P one two three c s =
    ⊎_elim (λ (e : c.3 ≡ 1).
    let d = s.one e in
    subst P (λ t. (c.0, sym d.0 t, sym d.1 t, sym e t)) (one c.0))
    (λ (e : c.3 ≡ 1 → ⊥). ⊎_elim (λ (f : c.3 ≡ 2). subst P (λ t. (c.0, sym (s.two f) t, c.2, sym f t)) (two c.0 c.2))
    (λ (f : c.3 ≡ 2 → ⊥). subst P (λ t. (c.0, c.1, c.2, sym (s.three e f) t)) (three c.0 c.1 c.2))
    (cases_eq c.3 2))
    (cases_eq c.3 1)

module _ (c : Chain) (s : Shaped c) (ts : List Trade) where
  pub first_is : first_of (rows_at ts (places_of c)) ≡ row_at ts c.0
  first_is = shapes (λ d. first_of (rows_at ts (places_of d)) ≡ row_at ts d.0) (λ i. refl) (λ i k. refl) (λ i j k. refl) c s

  pub last_is : last_of (rows_at ts (places_of c)) ≡ row_at ts c.2
  last_is = shapes (λ d. last_of (rows_at ts (places_of d)) ≡ row_at ts d.2) (λ i. refl) (λ i k. refl) (λ i j k. refl) c s

  -- asked of all three, or of any
  pub all_is : (p : Trade → Bool) → all p (rows_at ts (places_of c)) ≡ (p (row_at ts c.0) && (p (row_at ts c.1) && p (row_at ts c.2)))
  all_is p = shapes (λ d. all p (rows_at ts (places_of d)) ≡ (p (row_at ts d.0) && (p (row_at ts d.1) && p (row_at ts d.2))))
      (λ i. once (p (row_at ts i))) (λ i k. twice (p (row_at ts i)) (p (row_at ts k))) (λ i j k. ap (λ b. p (row_at ts i) && (p (row_at ts j) && b)) (alone (p (row_at ts k)))) c s
    where
      alone : (b : Bool) → (b && true) ≡ b
      alone true = refl
      alone false = refl

      once : (b : Bool) → (b && true) ≡ (b && (b && b))
      once true = refl
      once false = refl

      twice : (a b : Bool) → (a && (b && true)) ≡ (a && (a && b))
      twice true true = refl
      twice true false = refl
      twice false b = refl

  pub any_is : (p : ℕ → Bool) → any p (numbers_at ts (places_of c)) ≡ (p (number_at ts c.0) || (p (number_at ts c.1) || p (number_at ts c.2)))
  any_is p = shapes (λ d. any p (numbers_at ts (places_of d)) ≡ (p (number_at ts d.0) || (p (number_at ts d.1) || p (number_at ts d.2))))
      (λ i. once (p (number_at ts i))) (λ i k. twice (p (number_at ts i)) (p (number_at ts k))) (λ i j k. ap (λ b. p (number_at ts i) || (p (number_at ts j) || b)) (alone (p (number_at ts k)))) c s
    where
      alone : (b : Bool) → (b || false) ≡ b
      alone true = refl
      alone false = refl

      once : (b : Bool) → (b || false) ≡ (b || (b || b))
      once true = refl
      once false = refl

      twice : (a b : Bool) → (a || (b || false)) ≡ (a || (a || b))
      twice true b = refl
      twice false true = refl
      twice false false = refl

  pub length_is : length (numbers_at ts (places_of c)) ≡ c.3
  length_is = shapes (λ d. length (numbers_at ts (places_of d)) ≡ d.3) (λ i. refl) (λ i k. refl) (λ i j k. refl) c s
