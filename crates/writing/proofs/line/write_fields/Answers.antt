use Rattle.std.proofs.Common.{◌+◌, set, sym, ap, ◌∙◌, arith, length-set}
use Rattle.writing.specs.Written.{over, bytes_of}
use Rattle.writing.proofs.Commas.{fits_more, length_more, over_more, this}
use Rattle.writing.proofs.Over.{over_none}
use Rattle.writing.proofs.line.write_fields.Goals as goal

pub loop-piece-init : goal.loop-piece-init
loop-piece-init c = (omega arith, sym (over_none c.args.out.now c.args.start))

pub bounds-out-at : goal.bounds-out-at
bounds-out-at c =
    omega (arith, c.loop-piece.invariant.0, fits_more c.args.pieces.now c.loop-piece.piece-index c.loop-piece-test.true)

pub overflow_add-at : goal.overflow_add-at
overflow_add-at c =
    omega (arith, c.loop-piece.invariant.0, fits_more c.args.pieces.now c.loop-piece.piece-index c.loop-piece-test.true)

pub write_piece-at-requires : goal.write_piece-at-requires
write_piece-at-requires c =
    omega (arith, c.loop-piece.invariant.0, fits_more c.args.pieces.now c.loop-piece.piece-index c.loop-piece-test.true, length-set c.loop-piece.out c.loop-piece.at 44)

pub loop-piece-preserved : goal.loop-piece-preserved
loop-piece-preserved c =
    let ps = c.args.pieces.now in
    let i = c.loop-piece.piece-index in
    let h = c.loop-piece-test.true in
    let w = c.write_piece-at.ensures in (
      omega (arith, w.value, c.loop-piece.invariant.0, length_more ps i h),
      w.after ∙ ap (λ l. over (set l c.loop-piece.at 44) (c.loop-piece.at + 1) (bytes_of (this ps i h))) c.loop-piece.invariant.1
          ∙ over_more ps i h c.args.out.now c.args.start c.loop-piece.at c.loop-piece.invariant.0,
    )
