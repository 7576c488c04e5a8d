-- The codes that a hold layer keeps, in rising order.
use Rattle.std.specs.Prelude.{ℕ, Bool, cond, not, ◌||◌, List, length, Ok, Err, Result, ◌==◌, nat_eq, nat_lt}
use Rattle.keyed.specs.Lists.{any, those}
use Rattle.keyed.specs.Rows.{entered, rises_above}
use Rattle.fields.specs.Refusals.{refused}
use Rattle.fields.specs.Ranges.{is_in_range, accounts}
use Rattle.fields.specs.declared.answer.Refusal.{Refusal}
use Rattle.fields.specs.declared.ground.Ground.TheVariants.{BadField, HoldsFull}

abbrev pub held : ℕ → List ℕ → Bool
held code cs = any (λ c. nat_eq c code) cs

abbrev pub rising : List ℕ → Bool
rising cs = rises_above (λ c. c) 0 cs

-- one more code, once, and 64 at most
abbrev pub hold_codes : ℕ → List ℕ → List ℕ
hold_codes code cs = cond (is_in_range accounts code) (cond (held code cs) cs (cond (nat_lt (length cs) 64) (entered (λ c. c) code cs) cs)) cs

abbrev pub no_account : Result (Unit {0}) Refusal
no_account = Err (refused BadField 1)

abbrev pub hold_answer : ℕ → List ℕ → Result (Unit {0}) Refusal
hold_answer code cs =
    cond (is_in_range accounts code) (cond (held code cs || nat_lt (length cs) 64) (Ok tt) (Err (refused HoldsFull 0))) no_account

-- all the others
abbrev pub release_codes : ℕ → List ℕ → List ℕ
release_codes code cs = cond (is_in_range accounts code) (those (λ c. not (c == code)) cs) cs

abbrev pub release_answer : ℕ → Result (Unit {0}) Refusal
release_answer code = cond (is_in_range accounts code) (Ok tt) no_account
