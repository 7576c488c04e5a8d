-- A request, written and read again.
use Rattle.std.specs.Prelude.{◌≡◌, Ok}
use Rattle.requests.specs.Tests.{fields_pass}
use Rattle.requests.specs.declared.request.Request.{Request}
use Rattle.request_text.specs.Lines.{request}
use Rattle.request_writer.specs.Canonical.{request_line, tidy}

-- where its fields pass, its canonical line reads as the request
abbrev pub ReadsBack : Request → Type 0
ReadsBack v = fields_pass v ≡ Ok tt → request (request_line v) ≡ Ok (tidy v)
