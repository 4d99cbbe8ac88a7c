use Rattle.std.proofs.Common.{◌≡◌, ◌+◌, ◌<◌, ◌^◌, ℕ, length, ap, ◌∙◌, w32, arith, rules, min, slice_index_or}
use Rattle.std.specs.Int.{trailing_zeros}
use Rattle.std.proofs.lemmas.List.{length-set}
use Rattle.std.proofs.lemmas.Nat.Bits.{bit_at-trailing_zeros}
use Rattle.sample_trace.specs.Edges.{most}
use Rattle.sample_trace.proofs.EdgeLaws.{changed_edge, counted_left, set_within, uncounted_none}
use Rattle.sample_trace.proofs.edges.count.Goals as goal

pub loop-changed-init : goal.loop-changed-init
loop-changed-init c =
    let a = c.args in
    record {
      long = search rules;
      within = λ p. omega (arith, c.fits-counts p);
      left = λ p. ap (λ n. min (slice_index_or a.counts.now p 0 + n) most) (changed_edge p a.before a.level);
    }

pub loop-changed-preserved : goal.loop-changed-preserved
loop-changed-preserved c =
    let xs = c.loop-changed.counts in
    let n = c.loop-changed.changed in
    let i = c.loop-changed.invariant in
    let g = c.saturating_add.result in
    let k : ℕ = trailing_zeros w32 n in
    let some : 0 < n = omega (arith, c.loop-changed-test.true) in
    let fits : n < 2 ^ 32 = search rules in
    let low : k < 32 = (bit_at-trailing_zeros w32 n some fits).0 in
    let long : k < length xs = omega (arith, i.long) in
    let counted : g ≡ min (slice_index_or xs k 0 + 1) most = c.saturating_add.ensures in
    record {
      long = length-set xs k g ∙ i.long;
      within = λ p. set_within xs k g p long (omega arith) (i.within p);
      left = λ p. counted_left xs n g p some fits long counted ∙ i.left p;
    }

pub returns : goal.returns
returns c pin low =
    let i = c.loop-changed.invariant in
    uncounted_none _ pin c.loop-changed.changed _ c.loop-changed-test.false (i.within pin) (i.left pin)
