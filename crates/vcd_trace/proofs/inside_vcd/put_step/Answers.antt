use Rattle.std.proofs.Common.{sym, ap, ◌∙◌, [], append-nil, arith}
use Rattle.pio_edge.specs.Edge.{with_bytes}
use Rattle.pio_edge.proofs.PutLaws.{going_begins, takes_failed}
use Rattle.vcd_trace.proofs.ChangesLaws.{same_rest-equal}
use Rattle.vcd_trace.proofs.InsideSame.{inside-whole}
use Rattle.vcd_trace.proofs.PlaceLaws.{rest-of-room}
use Rattle.vcd_trace.proofs.inside_vcd.put_step.Goals as goal

pub returns-in_err-put-clause-bytes : goal.returns-in_err-put-clause-bytes
returns-in_err-put-clause-bytes g c =
    let text = rest-of-room 1246 c.in-Some.start c.write.new.self.room (omega arith) ∙ c.in-Some.ensures.text in
    takes_failed _ _ _ _ _ _ [] c.from_residual.result (going_begins _ _) (sym text ∙ sym (append-nil _)) c.from_residual.ensures.0 c.in_err-put.ensures.bytes

pub returns-clause-bytes : goal.returns-clause-bytes
returns-clause-bytes g c =
    let text = rest-of-room 1246 c.in-Some.start c.write.new.self.room (omega arith) ∙ c.in-Some.ensures.text in
    c.in_ok-put.ensures.bytes ∙ ap (with_bytes (g.S.Sink.taken c.args.sink.now)) text

pub returns-clause-kept : goal.returns-clause-kept
returns-clause-kept g c = inside-whole c.args.now.now _ (same_rest-equal c.args.last.now.sample c.args.now.now.sample c.in-Some.ensures.rest)
