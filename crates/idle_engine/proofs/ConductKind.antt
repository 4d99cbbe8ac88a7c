-- A run that shows what its machines did in the last clock of note is of its kind.
use Rattle.std.proofs.Common.{◌≡◌, ℕ, zero, suc, ◌<◌, ◌≤◌, Bool, false, List, cond, refl, ap, ◌∙◌, sym, arith}
use Rattle.dreq_pacing.specs.declared.line.Line.{Line}
use Rattle.dreq_pacing.specs.declared.due.Requests.{Requests}
use Rattle.dreq_pacing.specs.Due.{quiet}
use Rattle.dreq_pacing.specs.Ports.{Ports, acts_in, due_in, first_ports, transfers_after}
use Rattle.dreq_pacing.specs.Transfers.{Transfers}
use Rattle.block_core.specs.declared.conduct.Conduct.{Conduct}
use Rattle.block_core.specs.Block.{Run, next, run_from}
use Rattle.block_core.specs.Conduct.{conduct_after, conduct_at, conduct_before, conduct_in, conducts, is_noted, no_conduct}
use Rattle.block_core.specs.Hosted.{Hosted, due_of, hosted_at}
use Rattle.block_core.specs.Leaps.{leapt}
use Rattle.block_core.specs.Shown.{requests_of}
use Rattle.block_core.specs.Stirring.{moves_on}
use Rattle.idle_engine.specs.Kinds.{AreFirsts, IsCalm, IsCourse, IsKind}
use Rattle.idle_engine.specs.One.{one}
use Rattle.idle_engine.specs.OneConduct.{Conducting, conducting_from, conducting_next, one_conduct}
use Rattle.idle_engine.proofs.OneKind.{QuietDue, QuietTransfers, asked-next, does_nothing, one-kind}

pub conduct-kind : QuietDue → QuietTransfers → IsKind one_conduct
unfolding conducting_from
conduct-kind quiet_due quiet_transfers =
    let k = one-kind quiet_due quiet_transfers in
    record {
      later = λ lines h n in_clock. k.later lines h.hosted n in_clock;
      quiet = λ lines h n in_clock rests.
          let d = does_nothing quiet_due quiet_transfers lines h.hosted n in_clock rests in
          rw (k.quiet lines h.hosted n in_clock rests, d.due) refl;
      acting = λ lines h n in_clock acts. k.acting lines h.hosted n in_clock acts;
      moving = λ lines h n in_clock rests. k.moving lines h.hosted n in_clock rests;
      none = λ h. refl;
      more = λ h n. refl;
    }

-- a clock for which the ports are asked
pub conduct-asked : (lines : List Line) (h : Hosted) (last after : Conduct) (n : ℕ) (run : Run) (t : Transfers)
    → h.run.clock ≡ n → run ≡ next (due_in lines n (requests_of h.run.state) h.transfers) h.run
    → t ≡ transfers_after lines n (requests_of h.run.state) h.transfers
    → after ≡ conduct_after (due_in lines n (requests_of h.run.state) h.transfers) h.run last
    → record { hosted = record { run = run; transfers = t }; last = after } ≡ conducting_next lines (record { hosted = h; last = last })
conduct-asked lines h last after n run t in_clock is_run is_t is_after =
    let due : due_in lines n (requests_of h.run.state) h.transfers ≡ due_of lines h = ap (λ (k : ℕ). due_in lines k (requests_of h.run.state) h.transfers) (sym in_clock) in
    rw (asked-next lines h n run t in_clock is_run is_t, is_after, due) refl

-- some clocks on, the block is where it would be else
pub hosted_from : (h : Conducting) (n : ℕ) → (conducting_from h n).hosted ≡ record h.hosted { run = run_from h.hosted.run (λ c. quiet) n }
unfolding conducting_from run_from
hosted_from h zero = refl
hosted_from h (suc n) = ap (λ (b : Hosted). one.quiet_next b) (hosted_from h n)

pub moves_from : (h : Conducting) (n : ℕ)
    → one_conduct.moves_on (one_conduct.quiet_from h n) ≡ moves_on quiet (run_from h.hosted.run (λ c. quiet) n)
moves_from h n = ap (λ (b : Hosted). one.moves_on b) (hosted_from h n)

-- and where none of them is of note, what is told stays
pub last_from : (h : Conducting) (n : ℕ)
    → ((k : ℕ) → k < n → is_noted quiet (run_from h.hosted.run (λ c. quiet) k) ≡ false)
    → (conducting_from h n).last ≡ h.last
unfolding conducting_from
last_from h zero none = refl
last_from h (suc n) none =
    let r = run_from h.hosted.run (λ c. quiet) n in
    ap (λ (b : Hosted). conduct_after quiet b.run (conducting_from h n).last) (hosted_from h n)
    ∙ ap (λ (b : Bool). cond b (conduct_in quiet r) (conducting_from h n).last) (none n (omega arith))
    ∙ last_from h n (λ k lt. none k (omega (arith, lt)))

pub conduct-from : (h : Conducting) (n : ℕ)
    → ((k : ℕ) → k < n → is_noted quiet (run_from h.hosted.run (λ c. quiet) k) ≡ false)
    → record { hosted = record h.hosted { run = run_from h.hosted.run (λ c. quiet) n }; last = h.last } ≡ conducting_from h n
conduct-from h n none =
    let mk : Hosted → Conduct → Conducting = λ b c. record { hosted = b; last = c } in
    ap (λ (b : Hosted). mk b h.last) (sym (hosted_from h n)) ∙ ap (mk (conducting_from h n).hosted) (sym (last_from h n none))

pub conduct-calm : (h : Conducting) (n : ℕ) → ((r : Run) (k : ℕ) → requests_of (leapt k r).state ≡ requests_of r.state)
    → ((k : ℕ) → k ≤ n → run_from h.hosted.run (λ c. quiet) k ≡ leapt k h.hosted.run)
    → ((k : ℕ) → k < n → moves_on quiet (run_from h.hosted.run (λ c. quiet) k) ≡ false)
    → ((k : ℕ) → k < n → is_noted quiet (run_from h.hosted.run (λ c. quiet) k) ≡ false) → IsCalm one_conduct h n
conduct-calm h n asks rests calm none = record {
  asks = λ j le l m.
      ap (λ (b : Hosted). acts_in l m (requests_of b.run.state) b.transfers) (hosted_from h j)
      ∙ ap (λ (q : Requests). acts_in l m q h.hosted.transfers) (ap (λ (r : Run). requests_of r.state) (rests j le) ∙ asks h.hosted.run j);
  shows = λ j le. last_from h j (λ k lt. none k (omega (arith, lt, le)));
  rests = λ j lt. moves_from h j ∙ calm j lt;
}

-- from ports at clock 0 on
conducts-firsts : (start : Run) (lines : List Line) → AreFirsts (conduct_at start lines) (conducts start lines)
unfolding conducts
conducts-firsts start lines = record { none = refl; more = λ n. refl }

pub conduct-course : (start : Run) (last : Conduct) (lines : List Line) (p : Ports) → start.clock ≡ 0
    → last ≡ no_conduct start → p ≡ first_ports lines
    → IsCourse one_conduct p.lines (record { hosted = record { run = start; transfers = p.transfers }; last = last })
    (record { at = λ n. record { hosted = hosted_at start p.lines n; last = conduct_before start p.lines n }; samples = conducts start p.lines })
unfolding hosted_at conduct_before
conduct-course start last lines p fresh untold first = record {
  fresh = fresh;
  begins = rw (ap (λ (p : Ports). p.transfers) first, untold) refl;
  goes = λ n. refl;
  samples = conducts-firsts start p.lines;
}
