use Rattle.std.proofs.Common.{ℕ, List, subst, ◌++◌}
use Rattle.pio_edge.specs.Edge.{Takes}
use Rattle.pio_edge.proofs.PutLaws.{takes_off, takes_on}
use Rattle.span_meter.specs.SeenText.{end_text, front_text, seen_line}
use Rattle.span_meter.proofs.line.put_seen.Goals as goal

pub returns-in_err-put_front-clause-bytes : goal.returns-in_err-put_front-clause-bytes
unfolding seen_line
returns-in_err-put_front-clause-bytes g c =
    let s = c.args.seen in
    let P : List ℕ → Type 0 = λ name. Takes (g.S.Sink.taken c.args.sink.now) (front_text name s ++ end_text s.assumed) (g.S.Sink.taken c.put_front.new.sink) c.from_residual.result in
    subst P c.as_bytes.ensures
    (takes_off _ _ (front_text c.as_bytes.result.now s) (end_text s.assumed) c.from_residual.result c.from_residual.ensures.0 c.in_err-put_front.ensures.bytes)

pub returns-clause-bytes : goal.returns-clause-bytes
unfolding seen_line
returns-clause-bytes g c =
    let s = c.args.seen in
    let P : List ℕ → Type 0 = λ name. Takes (g.S.Sink.taken c.args.sink.now) (front_text name s ++ end_text s.assumed) (g.S.Sink.taken c.put_end.new.sink) c.put_end.result in
    subst P c.as_bytes.ensures
    (takes_on _ _ _ (front_text c.as_bytes.result.now s) (end_text s.assumed) c.put_end.result c.in_ok-put_front.ensures.bytes c.put_end.ensures.bytes)
