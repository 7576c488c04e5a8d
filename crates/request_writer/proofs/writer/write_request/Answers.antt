use Rattle.std.proofs.Common.{sym, subst, arith}
use Rattle.writing.specs.Written.{Writes}
use Rattle.writing.proofs.Commas.{line_sent}
use Rattle.requests.specs.declared.request.Request.TheVariants.{Capture}
use Rattle.request_writer.specs.Canonical.{pieces_of, request_line}
use Rattle.request_writer.proofs.writer.write_request.Goals as goal

pub returns-in-Capture-clause-line : goal.returns-in-Capture-clause-line
returns-in-Capture-clause-line c =
    subst (λ v. Writes (request_line v) 1135 c.args.out.now c.write_line.new.out c.write_line.result) (sym c.in-Capture.is)
    (line_sent 67 c.new_trade.result (pieces_of (Capture c.in-Capture.c)) c.args.out.now c.write_line.new.out c.write_line.result c.new_trade.ensures (omega arith) c.write_line.ensures)
