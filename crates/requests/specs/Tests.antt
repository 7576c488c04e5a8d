-- The tests of a request's fields, from left to right: the first that is out of range is the refusal.
use Rattle.std.specs.Prelude.{ℕ, ◌+◌, cond, List, [], ◌∷◌, take, Ok, Err, Result, ◌==◌}
use Rattle.fields.specs.Refusals.{refused}
use Rattle.fields.specs.Ranges.{is_in_range, minutes, numbers, numbers_or_none, participants, accounts, quantities, days, entry_counts}
use Rattle.fields.specs.declared.range.Range.{Range}
use Rattle.fields.specs.declared.answer.Refusal.{Refusal}
use Rattle.fields.specs.declared.ground.Ground.TheVariants.{BadField}
use Rattle.fields.specs.declared.trade.Entry.{Entry}
use Rattle.requests.specs.declared.request.Request.{Request}
use Rattle.requests.specs.declared.request.Request.TheVariants.{Capture, Cancel, Include, Remove, Confirm, Intermediate, ConfirmIntermediation, ExcludeIntermediation, Close}
use Rattle.requests.specs.declared.request.SideCall.{SideCall}
use Rattle.requests.specs.declared.request.IntermediationCall.{IntermediationCall}

-- a number in the field at a place, and the range that it is tested for
pub record Test : Type 0 where
  pub place : ℕ
  pub range : Range
  pub value : ℕ

abbrev pub at : ℕ → Range → ℕ → Test
at k r n = record { place = k; range = r; value = n }

abbrev pub tested : List Test → Result (Unit {0}) Refusal
tested [] = Ok tt
tested (t ∷ ts) = cond (is_in_range t.range t.value) (tested ts) (Err (refused BadField t.place))

-- one leg may be 0, and not both
abbrev pub sold_range : ℕ → Range
sold_range bought = cond (bought == 0) numbers numbers_or_none

-- each entry has three fields, the first of them at place k
abbrev pub entry_tests : ℕ → List Entry → List Test
entry_tests k [] = []
entry_tests k (e ∷ es) =
    at k accounts e.account ∷ at (k + 1) quantities e.quantity ∷ at (k + 2) numbers_or_none e.client ∷ entry_tests (k + 3) es

-- the minute, the caller, and a trade or an intermediation
abbrev pub call_tests : ℕ → ℕ → ℕ → List Test
call_tests minute participant number = at 2 minutes minute ∷ at 3 participants participant ∷ at 4 numbers number ∷ []

abbrev pub side_call_tests : SideCall → List Test
side_call_tests c = call_tests c.minute c.participant c.trade

abbrev pub intermediation_call_tests : IntermediationCall → List Test
intermediation_call_tests c = call_tests c.minute c.participant c.id

-- The places are those of the request's line. Letters and flags cannot be out of range.
abbrev pub field_tests : Request → List Test
field_tests (Capture c) =
    at 2 minutes c.minute ∷ at 3 numbers c.terms.number ∷ at 5 numbers c.terms.asset ∷ at 6 quantities c.terms.quantity
    ∷ at 7 days c.terms.settlement ∷ at 8 participants c.terms.buyer.participant ∷ at 9 participants c.terms.buyer.offeror
    ∷ at 10 participants c.terms.seller.participant ∷ at 11 participants c.terms.seller.offeror ∷ []
field_tests (Cancel c) = at 2 minutes c.minute ∷ at 3 numbers c.trade ∷ []
field_tests (Include c) =
    at 2 minutes c.minute ∷ at 3 participants c.participant ∷ at 4 numbers c.trade ∷ at 7 entry_counts c.count
    ∷ entry_tests 8 (take c.count c.entries)
field_tests (Remove c) = side_call_tests c
field_tests (Confirm c) = side_call_tests c
field_tests (Intermediate c) =
    at 2 minutes c.minute ∷ at 3 participants c.intermediation.participant ∷ at 4 numbers c.intermediation.id
    ∷ at 5 accounts c.intermediation.account ∷ at 6 numbers_or_none c.intermediation.bought
    ∷ at 7 (sold_range c.intermediation.bought) c.intermediation.sold ∷ []
field_tests (ConfirmIntermediation c) = intermediation_call_tests c
field_tests (ExcludeIntermediation c) = intermediation_call_tests c
field_tests (Close c) = at 2 minutes c.minute ∷ at 3 days c.day ∷ []

-- whether a request's fields pass, or the refusal of the first that does not
abbrev pub fields_pass : Request → Result (Unit {0}) Refusal
fields_pass r = tested (field_tests r)
