use Rattle.std.proofs.Common.{◌≡◌, true, false, MatchResult, subst, rules}
use Rattle.keyed.specs.Places.{below}
use Rattle.layers.specs.Codes.{held, rising}
use Rattle.layers.proofs.Holding.{sought}
use Rattle.layers.proofs.hold.Held.seek.Goals as goal

pub returns-clause-place : goal.returns-clause-place
returns-clause-place c =
    let code = c.args.code in
    let cs = c.as_slice.result.now in
    let up : rising cs ≡ true = search rules in
    let seen : cs ≡ c.args.self.now.codes.items = search rules in
    subst (λ l. MatchResult c.binary_search.result (λ _. held code l ≡ true) (λ at. (held code l ≡ false) × (at ≡ below (λ x. x) code l))) seen
    (sought code cs c.binary_search.result up c.binary_search.ensures.position)
