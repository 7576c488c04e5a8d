-- Tests one after the other.
use Rattle.std.proofs.Common.{◌≡◌, ℕ, Bool, true, false, cond, List, [], ◌∷◌, ◌++◌, Ok, Err, Result, refl, arith}
use Rattle.fields.specs.Ranges.{is_in_range}
use Rattle.fields.specs.declared.answer.Refusal.{Refusal}
use Rattle.fields.specs.declared.ground.Ground.TheVariants.{BadField}
use Rattle.requests.specs.Tests.{Test, tested}

abbrev bad : Test → Result (Unit {0}) Refusal
bad t = Err (record { ground = BadField; place = t.place })

-- where all of the first pass, the others decide
pub passed_on : (ts us : List Test) → tested ts ≡ Ok tt → tested (ts ++ us) ≡ tested us
passed_on [] us h = refl
passed_on (t ∷ ts) us h =
    let P : Bool → Type 0 = λ b. cond b (tested ts) (bad t) ≡ Ok tt → cond b (tested (ts ++ us)) (bad t) ≡ tested us in
    (elim (is_in_range t.range t.value) as P [
      | true ↦ λ e. passed_on ts us e
      | false ↦ λ e. let z : ◌≡◌ {A = ℕ} 0 1 = cc in absurd (omega arith)
    ]) h

-- every test passed: each number is in its range
abbrev pub AllIn : List Test → Type 0
AllIn [] = Unit {0}
AllIn (t ∷ ts) = (is_in_range t.range t.value ≡ true) × AllIn ts

pub all_in : (ts : List Test) → tested ts ≡ Ok tt → AllIn ts
all_in [] h = tt
all_in (t ∷ ts) h =
    let P : Bool → Type 0 = λ b. is_in_range t.range t.value ≡ b → cond b (tested ts) (Err (record { ground = BadField; place = t.place })) ≡ Ok tt → AllIn (t ∷ ts) in
    (elim (is_in_range t.range t.value) as P [
      | true ↦ λ e k. (e, all_in ts k)
      | false ↦ λ e k. let z : ◌≡◌ {A = ℕ} 0 1 = cc in absurd (omega arith)
    ]) refl h
