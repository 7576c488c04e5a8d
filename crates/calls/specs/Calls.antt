-- What a call promises.
use Rattle.std.specs.Prelude.{◌≡◌, List, Ok, Err, Result}
use Rattle.fields.specs.declared.answer.Answer.{Answer}
use Rattle.fields.specs.declared.answer.Refusal.{Refusal}
use Rattle.register.specs.Meaning.{Listed}
use Rattle.requests.specs.declared.request.Request.{Request}
use Rattle.book.specs.State.{State}
use Rattle.book.specs.Steps.{Outcome, outcome}
use Rattle.book.specs.Verdicts.{own_verdict}

-- an answer, and the state that it leaves
abbrev pub told : Result Answer Refusal → State → Outcome
told r s = record { answer = r; after = s }

-- a request whose fields have passed, on tables that have
unfoldable pub own_step : List Listed → State → Request → Outcome
own_step r s q = outcome (own_verdict r s q) r s q

-- a refusal leaves a thing as it was
abbrev pub Kept : {X : Type 0} → Result Answer Refusal → X → X → Type 0
Kept (Ok a) before after = Unit {0}
Kept (Err f) before after = after ≡ before
