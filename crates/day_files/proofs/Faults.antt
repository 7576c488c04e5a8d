-- A fault on the line that is read.
use Rattle.std.proofs.Common.{◌≡◌, ℕ, List, ◌∷◌, Err, sym, ap, ◌∙◌}
use Rattle.fields.specs.declared.answer.Refusal.{Refusal}
use Rattle.day_files.specs.Files.{hold_line, hold_lines, left_with}

-- it is that of the lines from there on, whatever way the line is counted
pub fault_there : (place k : ℕ) (cs new : List ℕ) (l : List ℕ) (ls : List (List ℕ)) (f : Refusal) → place ≡ k → left_with (Err f) new ≡ hold_line place cs l → left_with (Err f) new ≡ hold_lines k cs (l ∷ ls)
fault_there place k cs new l ls f e h = let is : hold_line k cs l ≡ Err f = ap (λ p. hold_line p cs l) (sym e) ∙ sym h in rw is
