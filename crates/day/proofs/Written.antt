-- What stands in a buffer after a line was written.
use Rattle.std.proofs.Common.{◌≡◌, ℕ, ◌-◌, List, take, Ok, sym, ap, ◌∙◌, arith}
use Rattle.writing.specs.Written.{sent, with_line}
use Rattle.writing.proofs.Over.{line_in_front}

module _ (line out after : List ℕ) (n : ℕ) (is : Ok n ≡ sent line out) (then : after ≡ with_line line out) where
  pub part_is : take (n - 0) after ≡ line
  part_is =
      let e : n - 0 ≡ n = omega arith in
      ap (λ k. take k after) e ∙ ap (take n) then ∙ (line_in_front line out n (sym is)).2
