use Rattle.std.proofs.Common.{[], ◌∷◌, ◌++◌, get_or, take, ap, ◌∙◌, arith}
use Rattle.text.specs.Groups.{entry_group}
use Rattle.request_writer.specs.Canonical.{entry_pieces, inclusion_head}
use Rattle.request_writer.proofs.Fill.{entry_more}
use Rattle.request_writer.proofs.writer.inclusion.Goals as goal

pub loop-entry-preserved : goal.loop-entry-preserved
loop-entry-preserved c =
    let es = take c.min.result c.args.c.now.entries in
    let i = c.loop-entry.entry-index in (
      c.push_entry.ensures.items ∙ ap (λ l. l ++ entry_pieces (get_or es i entry_group.blank ∷ [])) c.loop-entry.invariant.0
          ∙ entry_more (inclusion_head c.args.c.now) es i c.loop-entry-test.true,
      omega (arith, c.push_entry.ensures.len, c.loop-entry.invariant.1),
    )
