use Rattle.std.proofs.Common.{◌∙◌, [], None, cond, is_some, slice_index_or, sym, ap}
use Rattle.std.proofs.lemmas.Bool.{cond-false}
use Rattle.pio_edge.specs.Edge.{with_bytes}
use Rattle.pio_edge.proofs.PutLaws.{with_bytes-nil}
use Rattle.block_shares.specs.Report.{share_texts, alone_line, feels_any}
use Rattle.block_shares.proofs.report.put_machine.Goals as goal

pub returns-then-not-is_configured-clause-bytes : goal.returns-then-not-is_configured-clause-bytes
returns-then-not-is_configured-clause-bytes g c =
    let s = c.args.setup.now in
    let m = c.args.m in
    sym (with_bytes-nil (g.S.Sink.taken c.args.sink.now))
    ∙ ap (with_bytes (g.S.Sink.taken c.args.sink.now))
    (sym (cond-false (is_some (slice_index_or s.machines m None)) (cond (feels_any s m) (share_texts s m) (alone_line m)) [] (sym c.is_configured.ensures ∙ c.if-not-is_configured.true)))
