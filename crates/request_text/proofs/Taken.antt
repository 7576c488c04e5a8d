-- What a line says, by its letter and what stands behind it.
use Rattle.std.proofs.Common.{◌≡◌, ℕ, List, ap}
use Rattle.text.specs.Fields.{single}
use Rattle.text.specs.Cuts.{front, after, left}
use Rattle.text.proofs.Taken.{fields_is}
use Rattle.request_text.specs.Lines.{by_letter, of_fields, opening, opening_letter, opening_of, request}

pub opening_is : (line : List ℕ) → opening line ≡ opening_letter (single (front line)) (left (after line))
opening_is line = ap opening_of (fields_is line)

pub request_is : (line : List ℕ) → request line ≡ by_letter (single (front line)) (left (after line))
request_is line = ap of_fields (fields_is line)
