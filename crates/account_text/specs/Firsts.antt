-- The first account of each code.
use Rattle.std.specs.Prelude.{◌≡◌, ℕ, Bool, true, false, cond, not, List, [], ◌∷◌, ◌==◌, ◌≢◌, refl}
use Rattle.std.proofs.lemmas.Bool.{eqb-false}
use Rattle.keyed.specs.Lists.{those}
use Rattle.register.specs.Meaning.{Listed, code_of, Absent, Apart}

-- the accounts with another code
abbrev pub other_than : ℕ → List Listed → List Listed
other_than code ls = those (λ l. not (code_of l == code)) ls

abbrev pub firsts : List Listed → List Listed
firsts [] = []
firsts (l ∷ ls) = l ∷ other_than (code_of l) (firsts ls)

gone : (code : ℕ) (ls : List Listed) → Absent code (other_than code ls)
gone code [] = tt
gone code (l ∷ ls) = go (gone code ls) (code_of l == code) (eqb-false (code_of l) code)
  where
    go : Absent code (other_than code ls) → (b : Bool) → (b ≡ false → code_of l ≢ code) → Absent code (cond (not b) (l ∷ other_than code ls) (other_than code ls))
    go ih true ne = ih
    go ih false ne = (ne refl, ih)

still_absent : (code other : ℕ) (ls : List Listed) → Absent other ls → Absent other (other_than code ls)
still_absent code other [] h = tt
still_absent code other (l ∷ ls) h =
    elim (code_of l == code) as (λ b. Absent other (cond (not b) (l ∷ other_than code ls) (other_than code ls))) [
      | true ↦ still_absent code other ls h.1
      | false ↦ (h.0, still_absent code other ls h.1)
    ]

still_apart : (code : ℕ) (ls : List Listed) → Apart ls → Apart (other_than code ls)
still_apart code [] h = tt
still_apart code (l ∷ ls) h =
    elim (code_of l == code) as (λ b. Apart (cond (not b) (l ∷ other_than code ls) (other_than code ls))) [
      | true ↦ still_apart code ls h.1
      | false ↦ (still_absent code (code_of l) ls h.0, still_apart code ls h.1)
    ]

-- no code occurs twice among them
pub firsts_apart : (ls : List Listed) → Apart (firsts ls)
firsts_apart [] = tt
firsts_apart (l ∷ ls) = (gone (code_of l) (firsts ls), still_apart (code_of l) (firsts ls) (firsts_apart ls))
