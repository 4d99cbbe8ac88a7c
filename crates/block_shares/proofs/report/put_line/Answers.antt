use Rattle.std.proofs.Common.{◌≡◌, ℕ, List, subst, ◌∙◌}
use Rattle.pio_edge.specs.Edge.{Takes}
use Rattle.block_shares.specs.Report.{share_line}
use Rattle.block_shares.proofs.Pieces.{joined, joined-line}
use Rattle.block_shares.proofs.report.put_line.Goals as goal

pub returns-clause-bytes : goal.returns-clause-bytes
returns-clause-bytes g c =
    let m = c.as_bytes.ensures.value ∙ c.format.ensures.text in
    let k = c.as_bytes-2.ensures.value ∙ c.format-2.ensures.text in
    let a = c.as_bytes-3.ensures.value ∙ c.digit_at.ensures in
    let b = c.as_bytes-4.ensures.value ∙ c.digit_at-2.ensures in
    let d = c.as_bytes-5.ensures.value ∙ c.digit_at-3.ensures in
    let e = c.as_bytes-6.ensures.value ∙ c.digit_at-4.ensures in
    let f = c.as_bytes-7.ensures.value ∙ c.digit_at-5.ensures in
    let h = c.as_bytes-8.ensures.value ∙ c.digit_at-6.ensures in
    let i = c.as_bytes-9.ensures.value ∙ c.digit_at-7.ensures in
    let j = c.as_bytes-10.ensures.value ∙ c.digit_at-8.ensures in
    let y = c.as_bytes-11.ensures.value ∙ c.digit_at-9.ensures in
    let z = c.as_bytes-12.ensures.value ∙ c.digit_at-10.ensures in
    let same : joined c.as_bytes.result.now c.as_bytes-2.result.now c.as_bytes-3.result.now c.as_bytes-4.result.now c.as_bytes-5.result.now c.as_bytes-6.result.now c.as_bytes-7.result.now c.as_bytes-8.result.now c.as_bytes-9.result.now c.as_bytes-10.result.now c.as_bytes-11.result.now c.as_bytes-12.result.now ≡ share_line c.args.m c.args.k c.args.felt = cc (m, k, a, b, d, e, f, h, i, j, y, z) ∙ joined-line c.args.m c.args.k c.args.felt in
    let P : List ℕ → Type 0 = λ text. Takes (g.S.Sink.taken c.args.sink.now) text (g.S.Sink.taken c.put_all.new.sink) c.put_all.result in
    subst P same (unfold joined in c.put_all.ensures.bytes)
