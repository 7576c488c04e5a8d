use Rattle.std.proofs.Common.{[], ◌∷◌, vec_items, refl, ◌∙◌, append_assoc}
use Rattle.std.proofs.lemmas.Slice.{pushed}
use Rattle.day.proofs.whole.push_line.Goals as goal

pub returns : goal.returns
returns c =
    let line = c.args.line.now in
    let a = pushed line refl c.in_ok-extend_from_slice.was c.extend_from_slice.ensures.items in
    let b = pushed (10 ∷ []) a c.in_ok-push.was c.push.ensures.items in
    b ∙ append_assoc (vec_items c.args.out.now) line (10 ∷ [])
