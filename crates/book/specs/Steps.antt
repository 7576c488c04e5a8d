-- A request: refused with everything left as it was, or accepted.
use Rattle.std.specs.Prelude.{List, Some, None, Ok, Err, Option, Result}
use Rattle.fields.specs.declared.answer.Answer.{Answer}
use Rattle.fields.specs.declared.answer.Refusal.{Refusal}
use Rattle.register.specs.Meaning.{Listed}
use Rattle.requests.specs.declared.request.Request.{Request}
use Rattle.book.specs.Numbering.{effect, reply}
use Rattle.book.specs.State.{State}
use Rattle.book.specs.Verdicts.{verdict}

pub record Outcome : Type 0 where
  pub answer : Result Answer Refusal
  pub after : State

abbrev pub outcome : Option Refusal → List Listed → State → Request → Outcome
outcome (Some f) r s q = record { answer = Err f; after = s }
outcome None r s q = record { answer = Ok (reply r s q); after = effect r s q }

unfoldable pub step : List Listed → State → Request → Outcome
step r s q = outcome (verdict r s q) r s q
