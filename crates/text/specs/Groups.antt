-- Several fields that are read as one value, and tables of such values.
use Rattle.std.specs.Prelude.{ℕ, zero, suc, ◌+◌, ◌-◌, List, [], ◌∷◌, ◌++◌, length, replicate, Ok, Err, Result}
use Rattle.std.specs.Borrow.{Bor}
use Rattle.fields.specs.Ranges.{accounts, numbers_or_none, participants, quantities}
use Rattle.fields.specs.declared.account.Party.{Party}
use Rattle.fields.specs.declared.answer.Refusal.{Refusal}
use Rattle.fields.specs.declared.trade.Entry.{Entry}
use Rattle.text.specs.Cuts.{left}
use Rattle.text.specs.Fields.{number}
use Rattle.text.specs.Reading.{field, then}

-- participant,offeror from place k
abbrev pub party : ℕ → List (List ℕ) → Result (Party × List (List ℕ)) Refusal
party k fs =
    then (field (number participants) k fs) (λ p.
    then (field (number participants) (k + 1) p.1) (λ o.
    Ok (record { participant = p.0; offeror = o.0 }, o.1)))

-- account,quantity,client from place k
abbrev pub entry : ℕ → List (List ℕ) → Result (Entry × List (List ℕ)) Refusal
entry k fs =
    then (field (number accounts) k fs) (λ a.
    then (field (number quantities) (k + 1) a.1) (λ q.
    then (field (number numbers_or_none) (k + 2) q.1) (λ c.
    Ok (record { account = a.0; quantity = q.0; client = c.0 }, c.1))))

-- how a value is read from a place on, how many fields it has, and the value that stands for none
pub record GroupOf (A : Type 0) : Type 0 where
  pub read : ℕ → List (List ℕ) → Result (A × List (List ℕ)) Refusal
  pub width : ℕ
  pub blank : A

abbrev pub party_group : GroupOf Party
party_group = record { read = party; width = 2; blank = record { participant = 0; offeror = 0 } }

abbrev pub entry_group : GroupOf Entry
entry_group = record { read = entry; width = 3; blank = record { account = 0; quantity = 0; client = 0 } }

module _ {A : Type 0} (group : GroupOf A) where
  -- n values from place k
  abbrev pub values : ℕ → ℕ → List (List ℕ) → Result (List A × List (List ℕ)) Refusal
  values zero k fs = Ok ([], fs)
  values (suc n) k fs =
      then (group.read k fs) (λ v.
      then (values n (k + group.width) v.1) (λ vs.
      Ok (v.0 ∷ vs.0, vs.1)))

  -- values in a table of that size
  abbrev pub padded : ℕ → List A → List A
  padded size vs = vs ++ replicate (size - length vs) group.blank

  -- the table that n values from place k make
  abbrev pub table : ℕ → ℕ → ℕ → List (List ℕ) → Result (List A × List (List ℕ)) Refusal
  table size n k fs = then (values n k fs) (λ vs. Ok (padded size vs.0, vs.1))

-- what a reader into slots leaves there and returns, by the fields that it leaves
abbrev pub filled : {A : Type 0} → List A → Result (Bor (List ℕ)) Refusal → Result (List A × List (List ℕ)) Refusal
filled vs (Ok rest) = Ok (vs, left rest.now)
filled vs (Err e) = Err e
