-- The numbers of a band.
use Rattle.std.specs.Prelude.{◌≡◌, ℕ, zero, suc, ◌+◌, ◌-◌, ◌<◌, ◌≤◌, cond, List, Some, None, Option}
use Rattle.std.specs.List.{range_with_len}
use Rattle.std.proofs.Common.{inl, inr, arith}
use Rattle.std.proofs.lemmas.Bool.{cases_lt, le-leb}
use Rattle.fields.specs.Refusals.{refused}
use Rattle.fields.specs.Ranges.{is_in_range, issued}
use Rattle.fields.specs.declared.answer.Refusal.{Refusal}
use Rattle.fields.specs.declared.ground.Ground.TheVariants.{BadField}
use Rattle.issuers.specs.Numbers.{NotIn, Fresh}

-- from the first to the last, none if the first exceeds the last
abbrev pub band : ℕ → ℕ → List ℕ
band first last = range_with_len first (last + 1 - first)

-- both ends have to be numbers that may be issued
abbrev pub band_fault : ℕ → ℕ → Option Refusal
band_fault first last =
    cond (is_in_range issued first) (cond (is_in_range issued last) None (Some (refused BadField 2))) (Some (refused BadField 1))

above : (n from count : ℕ) → n < from → NotIn n (range_with_len from count)
above n from zero h = tt
above n from (suc count) h = (λ e. omega arith, above n (from + 1) count (omega arith))

range_fresh : (from count : ℕ) → 1 ≤ from → from + count ≤ 1000000000001 → Fresh (range_with_len from count)
range_fresh from zero one h = tt
range_fresh from (suc count) one h =
    let low = le-leb 1 from one in
    let high = le-leb from 1000000000000 (omega arith) in
    (rw (low, high), above from (from + 1) count (omega arith), range_fresh (from + 1) count (omega arith) (omega arith))

pub band_fresh : (first last : ℕ) → 1 ≤ first → last ≤ 1000000000000 → Fresh (band first last)
band_fresh first last one h =
    elim (cases_lt (last + 1) first) [
      | inl over ↦ let none : last + 1 - first ≡ 0 = omega arith in rw none tt
      | inr under ↦ range_fresh first (last + 1 - first) one (omega arith)
    ]
