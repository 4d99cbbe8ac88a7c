-- No count of edges reaches the most that a trace can keep: a clock has one edge of a pin at most.
use Rattle.std.proofs.Common.{◌≡◌, ℕ, zero, suc, ◌≤◌, ◌^◌, Bool, true, false, List, [], ◌∷◌, length, min, cond, ap, refl, ◌∙◌, arith, length-append}
use Rattle.std.specs.Prelude.{slice_index_or}
use Rattle.dreq_pacing.specs.declared.line.Line.{Line}
use Rattle.block_core.specs.declared.sample.Sample.{Sample}
use Rattle.block_core.specs.Block.{Run}
use Rattle.block_core.specs.Hosted.{samples, sample_at}
use Rattle.block_core.specs.Shown.{moved_of}
use Rattle.sample_trace.specs.Edges.{edge_of, edges_in, most}
use Rattle.drawn_load.specs.declared.summary.Summary.{Summary}

one_at_most : (same : Bool) → cond same 0 1 ≤ 1
one_at_most true = omega arith
one_at_most false = omega arith

edges_few : (pin before : ℕ) (l : List Sample) → edges_in pin before l ≤ length l
unfolding edges_in
edges_few pin before [] = omega arith
edges_few pin before (s ∷ rest) =
    let one : edge_of pin before s.level ≤ 1 = one_at_most _ in
    let few = edges_few pin s.level rest in
    omega arith

-- one sample a clock
samples_many : (start : Run) (lines : List Line) (n : ℕ) → length (samples start lines n) ≡ n
unfolding samples
samples_many start lines zero = refl
samples_many start lines (suc n) =
    let before = samples_many start lines n in
    omega (arith, length-append (samples start lines n) (sample_at start lines n ∷ []))

all_counted : (pin levels : ℕ) (start : Run) (lines : List Line) (n : ℕ) → n ≤ 10 ^ 12
    → min (edges_in pin levels (samples start lines n)) most ≡ edges_in pin levels (samples start lines n)
all_counted pin levels start lines n within =
    let few = edges_few pin levels (samples start lines n) in
    let many = samples_many start lines n in
    omega arith

-- a count is that of the pin's edges, with the levels of the start before clock 0
pub pin_counted : (pin levels first : ℕ) (start : Run) (lines : List Line) (n k : ℕ) (counts : List ℕ) → n ≤ 10 ^ 12 → first ≡ levels
    → k ≡ slice_index_or counts pin 0 → slice_index_or counts pin 0 ≡ min (edges_in pin first (samples start lines n)) most
    → k ≡ edges_in pin levels (samples start lines n)
pin_counted pin levels first start lines n k counts within same is counted =
    is ∙ counted ∙ all_counted pin first start lines n within ∙ ap (λ l. edges_in pin l (samples start lines n)) same

-- what is read of a block's transfers after its run
pub sent_counted : (machine : ℕ) (now end : Run) (moved : ℕ × ℕ) → moved ≡ moved_of machine now.state → now ≡ end → moved.0 ≡ (moved_of machine end.state).0
sent_counted machine now end moved is same = ap (λ p. p.0) is ∙ ap (λ r. (moved_of machine r.state).0) same

pub got_counted : (machine : ℕ) (now end : Run) (moved : ℕ × ℕ) → moved ≡ moved_of machine now.state → now ≡ end → moved.1 ≡ (moved_of machine end.state).1
got_counted machine now end moved is same = ap (λ p. p.1) is ∙ ap (λ r. (moved_of machine r.state).1) same

abbrev summary : (clocks a b c sent got : ℕ) → Summary
summary clocks a b c sent got = record { clocks = clocks; edges_0 = a; edges_1 = b; edges_3 = c; sent = sent; got = got }

-- summaries of the same clocks with equal numbers are one
pub same_summary : (n : ℕ) {a b c d e u v w x y : ℕ} → a ≡ u → b ≡ v → c ≡ w → d ≡ x → e ≡ y → summary n a b c d e ≡ summary n u v w x y
same_summary n {a} {b} {c} {d} {e} {u} {v} {w} {x} {y} p q r s t =
    ap (λ i. summary n i b c d e) p ∙ ap (λ i. summary n u i c d e) q ∙ ap (λ i. summary n u v i d e) r
    ∙ ap (λ i. summary n u v w i e) s ∙ ap (λ i. summary n u v w x i) t
