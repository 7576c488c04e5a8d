-- The fields of a request, tested from left to right: ground 2 at the place of the first that is out of range.
use Rattle.std.specs.Prelude.{Some, None, Ok, Err, Option, Result}
use Rattle.fields.specs.declared.answer.Refusal.{Refusal}
use Rattle.requests.specs.Tests.{fields_pass}
use Rattle.requests.specs.declared.request.Request.{Request}

-- what a test answers, as a verdict
abbrev pub as_verdict : Result (Unit {0}) Refusal → Option Refusal
as_verdict (Ok _) = None
as_verdict (Err f) = Some f

unfoldable pub fields_verdict : Request → Option Refusal
fields_verdict q = as_verdict (fields_pass q)
