-- The laws of a run, clock by clock.
use Rattle.std.proofs.Common.{◌≡◌, ℕ, zero, suc, ◌+◌, ◌==◌, ◌&&◌, not, List, refl, ap, sym, ◌∙◌, arith}
use Rattle.pin_matrix.specs.declared.setup.Setup.{Setup}
use Rattle.pin_matrix.specs.Pads.{seen_of}
use Rattle.dreq_pacing.specs.declared.due.Due.{Due}
use Rattle.dreq_pacing.specs.declared.line.Line.{Line}
use Rattle.dreq_pacing.specs.Ports.{due_in, due_at, transfers_at, transfers_after}
use Rattle.block_core.specs.Block.{Run, run_at, run_from, first_run, next, stepped}
use Rattle.block_core.specs.Following.{Follows}
use Rattle.block_core.specs.History.{pad_at, last_pad, pad_before}
use Rattle.block_core.specs.Stirring.{pads_change}
use Rattle.block_core.specs.Hosted.{hosted_at, hosted_next, host_of, asked_at}

pub clock-run_from : (start : Run) (host : ℕ → Due) (c : ℕ) → (run_from start host c).clock ≡ start.clock + c
unfolding run_from next
clock-run_from start host zero = omega arith
clock-run_from start host (suc c) = let before = clock-run_from start host c in omega (arith, before)

pub memory-run_from : (start : Run) (host : ℕ → Due) (c : ℕ) → (run_from start host c).memory ≡ start.memory
unfolding run_from next
memory-run_from start host zero = refl
memory-run_from start host (suc c) = memory-run_from start host c

pub run-hosted_at : (start : Run) (lines : List Line) (c : ℕ) → (hosted_at start lines c).run ≡ run_from start (host_of start lines) c
unfolding run_from hosted_at hosted_next
run-hosted_at start lines zero = refl
run-hosted_at start lines (suc c) = ap (next (host_of start lines c)) (run-hosted_at start lines c)

pub clock-hosted_at : (start : Run) (lines : List Line) (c : ℕ) → (hosted_at start lines c).run.clock ≡ start.clock + c
clock-hosted_at start lines c = ap (λ (r : Run). r.clock) (run-hosted_at start lines c) ∙ clock-run_from start (host_of start lines) c

transfers-hosted_at : (start : Run) (lines : List Line) (c : ℕ) → start.clock ≡ 0 → (hosted_at start lines c).transfers ≡ transfers_at lines (asked_at start lines) c
unfolding hosted_at hosted_next transfers_at
transfers-hosted_at start lines zero e = refl
transfers-hosted_at start lines (suc c) e =
    let at : (hosted_at start lines c).run.clock ≡ c = omega (arith, clock-hosted_at start lines c, e) in
    ap (λ (k : ℕ). transfers_after lines k (asked_at start lines c) (hosted_at start lines c).transfers) at
    ∙ ap (transfers_after lines c (asked_at start lines c)) (transfers-hosted_at start lines c e)

pub host_of-due_at : (start : Run) (lines : List Line) (c : ℕ) → start.clock ≡ 0 → host_of start lines c ≡ due_at lines (asked_at start lines) c
unfolding due_at
host_of-due_at start lines c e =
    let at : (hosted_at start lines c).run.clock ≡ c = omega (arith, clock-hosted_at start lines c, e) in
    ap (λ (k : ℕ). due_in lines k (asked_at start lines c) (hosted_at start lines c).transfers) at
    ∙ ap (due_in lines c (asked_at start lines c)) (transfers-hosted_at start lines c e)

-- the synchronisers hold the pads of the two clocks before
pad_2-run_at : (s : Setup) (host : ℕ → Due) (c : ℕ) → (run_at s host c).synchroniser.pad_2 ≡ pad_before s host c
unfolding run_from next
pad_2-run_at s host zero = refl
pad_2-run_at s host (suc zero) = refl
pad_2-run_at s host (suc (suc c)) = refl

pad_1-run_at : (s : Setup) (host : ℕ → Due) (c : ℕ) → (run_at s host c).synchroniser.pad_1 ≡ last_pad s host c
unfolding run_from next
pad_1-run_at s host zero = refl
pad_1-run_at s host (suc c) = refl

pub changes_at : (s : Setup) (host : ℕ → Due) (c : ℕ) →
    pads_change (host c) (run_at s host c) ≡ not ((pad_at s host c == last_pad s host c) && (pad_at s host c == pad_before s host c))
changes_at s host c = rw (pad_1-run_at s host c, pad_2-run_at s host c) refl

bypass-run_at : (s : Setup) (host : ℕ → Due) (c : ℕ) → (run_at s host c).synchroniser.bypass ≡ s.bypass
unfolding run_from next
bypass-run_at s host zero = refl
bypass-run_at s host (suc c) = bypass-run_at s host c

pub state-run_at : (s : Setup) (host : ℕ → Due) (c : ℕ) →
    (run_at s host (suc c)).state ≡ stepped s.memory (seen_of s.bypass (pad_at s host c) (pad_before s host c)) (host c) (run_at s host c).state
unfolding run_from next
state-run_at s host c =
    rw (memory-run_from _ host c, bypass-run_at s host c, pad_2-run_at s host c) refl

-- what the machines see of the block's own pads
abbrev pub seen_at : Setup → (ℕ → Due) → ℕ → ℕ
seen_at s host c = seen_of s.bypass (pad_at s host c) (pad_before s host c)

pub run_follows : (s : Setup) (host : ℕ → Due) → Follows s.memory (seen_at s host) host (λ c. (run_at s host c).state)
run_follows s host c = state-run_at s host c

-- with a stimulus
pub hosted_follows : (s : Setup) (lines : List Line) → Follows s.memory (seen_at s (host_of (first_run s) lines)) (host_of (first_run s) lines) (λ c. (hosted_at (first_run s) lines c).run.state)
hosted_follows s lines c =
    let start = first_run s in
    let host = host_of start lines in
    ap (λ (r : Run). r.state) (run-hosted_at start lines (suc c))
    ∙ state-run_at s host c
    ∙ ap (λ (r : Run). stepped s.memory (seen_at s host c) (host c) r.state) (sym (run-hosted_at start lines c))
