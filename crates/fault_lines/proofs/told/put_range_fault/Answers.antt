use Rattle.std.proofs.Common.{rules, ◌≡◌, ◌++◌, ℕ, List, codes, subst, ◌∙◌}
use Rattle.std.specs.Fmt.{signed_decimal}
use Rattle.pio_edge.specs.Edge.{Takes}
use Rattle.pio_assemble.specs.Fault.{quantity_text}
use Rattle.fault_lines.specs.Told.{source_fault}
use Rattle.fault_lines.proofs.Pieces.{joined, joined-same, joined-line}
use Rattle.fault_lines.proofs.told.put_range_fault.Goals as goal

pub returns-clause-bytes : goal.returns-clause-bytes
returns-clause-bytes g c =
    let a = c.args in
    let number = c.as_bytes.ensures.value ∙ c.format.ensures.text in
    let code = c.as_bytes-2.ensures.value in
    let what = c.as_bytes-3.ensures.value ∙ c.text.ensures in
    let digits : c.as_bytes-4.result.now ≡ signed_decimal a.value = simp (c.as_bytes-4.ensures.value, c.format-2.ensures.text) (search rules) in
    let line = source_fault a.line (a.code.now ++ codes " " ++ quantity_text a.what ++ codes " " ++ signed_decimal a.value) in
    let e : joined c.as_bytes.result.now c.as_bytes-2.result.now c.as_bytes-3.result.now c.as_bytes-4.result.now ≡ line =
    joined-same _ _ _ _ _ _ _ _ number code what digits ∙ joined-line a.line a.code.now a.what a.value in
    let P : List ℕ → Type 0 = λ text. Takes (g.E.Sink.taken a.err.now) text (g.E.Sink.taken c.put_all.new.sink) c.put_all.result in
    subst P e (unfold joined in c.put_all.ensures.bytes)
