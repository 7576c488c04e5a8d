use Rattle.std.proofs.Common.{◌≡◌, List, ℕ, subst}
use Rattle.fields.specs.Ranges.{is_in_range, issued}
use Rattle.keyed.proofs.Steps.{sound_rest}
use Rattle.issuers.specs.Rolls.{rising}
use Rattle.issuers.proofs.roll.RollIssuer.next.Goals as goal

pub invariant_of-self : goal.invariant_of-self
invariant_of-self c =
    let P : List ℕ → Type 0 = λ ns. rising 0 ns ≡ ns in
    record { rises = sound_rest (λ m. m) (is_in_range issued) _ _ (subst P c.in_ok-number.ensures.cases.0 c.args.self.now.rises) }
