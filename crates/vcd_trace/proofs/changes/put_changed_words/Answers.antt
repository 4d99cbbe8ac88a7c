use Rattle.std.proofs.Common.{sym, ap, ◌∙◌}
use Rattle.pio_edge.specs.Edge.{with_bytes}
use Rattle.pio_edge.proofs.PutLaws.{with_bytes-nil}
use Rattle.vcd_trace.proofs.ChangesLaws.{same_words-none}
use Rattle.vcd_trace.proofs.changes.put_changed_words.Goals as goal

pub returns-then-has_same_words-clause-bytes : goal.returns-then-has_same_words-clause-bytes
returns-then-has_same_words-clause-bytes g c =
    let a = c.args in
    let none = same_words-none a.first a.before.now a.now.now (sym c.has_same_words.ensures ∙ c.if-has_same_words.true) in
    sym (ap (with_bytes (g.S.Sink.taken a.sink.now)) none ∙ with_bytes-nil (g.S.Sink.taken a.sink.now))
