use Rattle.std.proofs.Common.{◌≡◌, ℕ, List, subst, ◌∙◌}
use Rattle.pio_assemble.specs.Program.{assembled_of}
use Rattle.pio_edge.specs.Edge.{Takes}
use Rattle.program_listing.specs.Listing.{program_line}
use Rattle.program_listing.proofs.Pieces.{joined, joined-line}
use Rattle.program_listing.proofs.heading.put_program_line.Goals as goal

pub returns-clause-bytes : goal.returns-clause-bytes
returns-clause-bytes g c =
    let p = c.args.program.now in
    let name = c.as_bytes.ensures in
    let origin = c.as_bytes-2.ensures.value ∙ c.origin_text.ensures in
    let bits = c.as_bytes-3.ensures.value ∙ c.format.ensures.text in
    let opt = c.as_bytes-4.ensures.value ∙ c.opt_text.ensures in
    let pindirs = c.as_bytes-5.ensures.value ∙ c.pindirs_text.ensures in
    let bottom = c.as_bytes-6.ensures.value ∙ c.format-2.ensures.text in
    let top = c.as_bytes-7.ensures.value ∙ c.format-3.ensures.text in
    let e : joined c.as_bytes.result.now c.as_bytes-2.result.now c.as_bytes-3.result.now c.as_bytes-4.result.now c.as_bytes-5.result.now c.as_bytes-6.result.now c.as_bytes-7.result.now ≡ program_line (assembled_of p) = cc (name, origin, bits, opt, pindirs, bottom, top) ∙ joined-line (assembled_of p) in
    let P : List ℕ → Type 0 = λ text. Takes (g.S.Sink.taken c.args.sink.now) text (g.S.Sink.taken c.put_all.new.sink) c.put_all.result in
    subst P e (unfold joined in c.put_all.ensures.bytes)
