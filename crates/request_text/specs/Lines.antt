-- The request lines, field by field from left to right. The letter is field 1.
use Rattle.std.specs.Prelude.{ℕ, ◌+◌, ◌*◌, cond, List, [], ◌∷◌, Some, None, Ok, Err, Option, Result, ◌==◌}
use Rattle.fields.specs.Ranges.{minutes, numbers, numbers_or_none, participants, accounts, quantities, days, flags, entry_counts, issued}
use Rattle.fields.specs.declared.answer.Refusal.{Refusal}
use Rattle.fields.specs.declared.ground.Ground.TheVariants.{UnknownLetter}
use Rattle.text.specs.Fields.{fields, number, single}
use Rattle.text.specs.Groups.{entry_group, party, table}
use Rattle.text.specs.Reading.{refusal, then, field, end}
use Rattle.text.specs.Words.{kind, side}
use Rattle.requests.specs.declared.request.Request.{Request}
use Rattle.requests.specs.declared.request.Request.TheVariants.{Capture, Cancel, Include, Remove, Confirm, Intermediate, ConfirmIntermediation, ExcludeIntermediation, Close}
use Rattle.requests.specs.declared.request.SideCall.{SideCall}
use Rattle.requests.specs.declared.request.IntermediationCall.{IntermediationCall}
use Rattle.requests.specs.Tests.{sold_range}
use Rattle.request_text.specs.declared.opening.Opening.{Opening}

-- C,minute,trade,kind,asset,quantity,settlement,buyer,its offeror,seller,its offeror
abbrev pub capture_line : List (List ℕ) → Result Request Refusal
capture_line fs =
    then (field (number minutes) 2 fs) (λ m.
    then (field (number numbers) 3 m.1) (λ t.
    then (field kind 4 t.1) (λ k.
    then (field (number numbers) 5 k.1) (λ a.
    then (field (number quantities) 6 a.1) (λ q.
    then (field (number days) 7 q.1) (λ d.
    then (party 8 d.1) (λ b.
    then (party 10 b.1) (λ s.
    then (end 12 s.1) (λ _.
    Ok (Capture (record { minute = m.0; terms = record { number = t.0; kind = k.0; asset = a.0; quantity = q.0; settlement = d.0; buyer = b.0; seller = s.0 } })))))))))))

-- X,minute,trade
abbrev pub cancel_line : List (List ℕ) → Result Request Refusal
cancel_line fs =
    then (field (number minutes) 2 fs) (λ m.
    then (field (number numbers) 3 m.1) (λ t.
    then (end 4 t.1) (λ _.
    Ok (Cancel (record { minute = m.0; trade = t.0 })))))

-- I,minute,participant,trade,side,now,n and n times account,quantity,client
abbrev pub include_line : List (List ℕ) → Result Request Refusal
include_line fs =
    then (field (number minutes) 2 fs) (λ m.
    then (field (number participants) 3 m.1) (λ p.
    then (field (number numbers) 4 p.1) (λ t.
    then (field side 5 t.1) (λ s.
    then (field (number flags) 6 s.1) (λ w.
    then (field (number entry_counts) 7 w.1) (λ n.
    then (table entry_group 16 n.0 8 n.1) (λ es.
    then (end (8 + 3 * n.0) es.1) (λ _.
    Ok (Include (record { minute = m.0; participant = p.0; trade = t.0; side = s.0; now = (w.0 == 1); count = n.0; entries = es.0 }))))))))))

-- minute,participant,trade,side behind D or F
abbrev pub side_call_line : List (List ℕ) → Result SideCall Refusal
side_call_line fs =
    then (field (number minutes) 2 fs) (λ m.
    then (field (number participants) 3 m.1) (λ p.
    then (field (number numbers) 4 p.1) (λ t.
    then (field side 5 t.1) (λ s.
    then (end 6 s.1) (λ _.
    Ok (record { minute = m.0; participant = p.0; trade = t.0; side = s.0 }))))))

-- J,minute,participant,id,account,bought,sold,now
abbrev pub intermediate_line : List (List ℕ) → Result Request Refusal
intermediate_line fs =
    then (field (number minutes) 2 fs) (λ m.
    then (field (number participants) 3 m.1) (λ p.
    then (field (number numbers) 4 p.1) (λ i.
    then (field (number accounts) 5 i.1) (λ a.
    then (field (number numbers_or_none) 6 a.1) (λ b.
    then (field (number (sold_range b.0)) 7 b.1) (λ s.
    then (field (number flags) 8 s.1) (λ w.
    then (end 9 w.1) (λ _.
    Ok (Intermediate (record { minute = m.0; intermediation = record { id = i.0; participant = p.0; account = a.0; bought = b.0; sold = s.0 }; now = (w.0 == 1) }))))))))))

-- minute,participant,id behind G or E
abbrev pub intermediation_call_line : List (List ℕ) → Result IntermediationCall Refusal
intermediation_call_line fs =
    then (field (number minutes) 2 fs) (λ m.
    then (field (number participants) 3 m.1) (λ p.
    then (field (number numbers) 4 p.1) (λ i.
    then (end 5 i.1) (λ _.
    Ok (record { minute = m.0; participant = p.0; id = i.0 })))))

-- Z,minute,day
abbrev pub close_line : List (List ℕ) → Result Request Refusal
close_line fs =
    then (field (number minutes) 2 fs) (λ m.
    then (field (number days) 3 m.1) (λ d.
    then (end 4 d.1) (λ _.
    Ok (Close (record { minute = m.0; day = d.0 })))))

abbrev pub unknown : {A : Type 0} → Result A Refusal
unknown = Err (refusal UnknownLetter 1)

-- the fields behind the letter, by the letter
abbrev pub by_letter : Option ℕ → List (List ℕ) → Result Request Refusal
by_letter None fs = unknown
by_letter (Some b) fs =
    cond (b == 67) (capture_line fs) (
    cond (b == 88) (cancel_line fs) (
    cond (b == 73) (include_line fs) (
    cond (b == 68) (then (side_call_line fs) (λ c. Ok (Remove c))) (
    cond (b == 70) (then (side_call_line fs) (λ c. Ok (Confirm c))) (
    cond (b == 74) (intermediate_line fs) (
    cond (b == 71) (then (intermediation_call_line fs) (λ c. Ok (ConfirmIntermediation c))) (
    cond (b == 69) (then (intermediation_call_line fs) (λ c. Ok (ExcludeIntermediation c))) (
    cond (b == 90) (close_line fs) unknown))))))))

abbrev pub of_fields : List (List ℕ) → Result Request Refusal
of_fields [] = unknown
of_fields (f ∷ fs) = by_letter (single f) fs

-- what a line asks, or its refusal
abbrev pub request : List ℕ → Result Request Refusal
request bs = of_fields (fields bs)

-- day,band first,band last behind N
abbrev pub opening_fields : List (List ℕ) → Result Opening Refusal
opening_fields fs =
    then (field (number days) 2 fs) (λ d.
    then (field (number issued) 3 d.1) (λ f.
    then (field (number issued) 4 f.1) (λ l.
    then (end 5 l.1) (λ _.
    Ok (record { day = d.0; first = f.0; last = l.0 })))))

abbrev pub opening_letter : Option ℕ → List (List ℕ) → Result Opening Refusal
opening_letter None fs = unknown
opening_letter (Some b) fs = cond (b == 78) (opening_fields fs) unknown

abbrev pub opening_of : List (List ℕ) → Result Opening Refusal
opening_of [] = unknown
opening_of (f ∷ fs) = opening_letter (single f) fs

-- what the first line of a day says, or its refusal
abbrev pub opening : List ℕ → Result Opening Refusal
opening bs = opening_of (fields bs)
