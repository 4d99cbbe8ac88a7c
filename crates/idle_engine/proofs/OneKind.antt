-- A run of one block is of its kind.
use Rattle.std.proofs.Common.{◌≡◌, ℕ, ◌+◌, ◌<◌, ◌≤◌, ◌||◌, Bool, false, List, inl, inr, refl, ap, ◌∙◌}
use Rattle.std.proofs.lemmas.Bool.{cases_lt, or_parts}
use Rattle.dreq_pacing.specs.declared.line.Line.{Line}
use Rattle.dreq_pacing.specs.declared.due.Requests.{Requests}
use Rattle.dreq_pacing.specs.Due.{quiet}
use Rattle.dreq_pacing.specs.Lines.{NoneBetween, has_line}
use Rattle.dreq_pacing.specs.Transfers.{Transfers}
use Rattle.dreq_pacing.specs.Ports.{acts_in, due_in, moves_in, transfers_after}
use Rattle.block_core.specs.Block.{Run, next, run_from}
use Rattle.block_core.specs.Hosted.{Hosted, due_of, hosted_next, transfers_on}
use Rattle.block_core.specs.Shown.{requests_of}
use Rattle.block_core.specs.Stirring.{moves_on, stirs_in}
use Rattle.idle_engine.specs.Kinds.{IsKind}
use Rattle.idle_engine.specs.One.{one}

-- the laws of the ports: where nothing acts, the system does nothing, and the transfers stay
abbrev pub QuietDue : Type 0
QuietDue = (lines : List Line) (clock : ℕ) (requests : Requests) (t : Transfers) → acts_in lines clock requests t ≡ false → due_in lines clock requests t ≡ quiet

abbrev pub QuietTransfers : Type 0
QuietTransfers = (lines : List Line) (clock : ℕ) (requests : Requests) (t : Transfers) → acts_in lines clock requests t ≡ false → transfers_after lines clock requests t ≡ t

-- what the system does at a hosted block in a clock in which it doesn't act
pub record DoesNothing (lines : List Line) (h : Hosted) : Type 0 where
  pub acts : acts_in lines h.run.clock (requests_of h.run.state) h.transfers ≡ false
  pub due : due_of lines h ≡ quiet
  pub transfers : transfers_on lines h ≡ h.transfers

pub does_nothing : QuietDue → QuietTransfers → (lines : List Line) (h : Hosted) (n : ℕ) → h.run.clock ≡ n
    → acts_in lines n (requests_of h.run.state) h.transfers ≡ false → DoesNothing lines h
does_nothing quiet_due quiet_transfers lines h n in_clock rests =
    let e : acts_in lines h.run.clock (requests_of h.run.state) h.transfers ≡ false = ap (λ (k : ℕ). acts_in lines k (requests_of h.run.state) h.transfers) in_clock ∙ rests in
    record {
      acts = e;
      due = quiet_due lines h.run.clock (requests_of h.run.state) h.transfers e;
      transfers = quiet_transfers lines h.run.clock (requests_of h.run.state) h.transfers e;
    }

pub one-kind : QuietDue → QuietTransfers → IsKind one
unfolding hosted_next next run_from stirs_in
one-kind quiet_due quiet_transfers = record {
  later = λ lines h n in_clock. ap (λ (k : ℕ). k + 1) in_clock;
  quiet = λ lines h n in_clock rests.
      let d = does_nothing quiet_due quiet_transfers lines h n in_clock rests in
      rw (d.due, d.transfers) refl;
  acting = λ lines h n in_clock acts.
      ap (λ (b : Bool). b || moves_on (due_of lines h) h.run) (ap (λ (k : ℕ). acts_in lines k (requests_of h.run.state) h.transfers) in_clock ∙ acts);
  moving = λ lines h n in_clock rests.
      let d = does_nothing quiet_due quiet_transfers lines h n in_clock rests in
      rw (d.acts, d.due) refl;
  none = λ h. refl;
  more = λ h n. refl;
}

-- a clock for which the ports are asked
pub asked-next : (lines : List Line) (h : Hosted) (n : ℕ) (run : Run) (t : Transfers) → h.run.clock ≡ n
    → run ≡ next (due_in lines n (requests_of h.run.state) h.transfers) h.run
    → t ≡ transfers_after lines n (requests_of h.run.state) h.transfers
    → record { run = run; transfers = t } ≡ hosted_next lines h
unfolding hosted_next
asked-next lines h n run t in_clock is_run is_t = rw (is_run, is_t, in_clock) refl

no_line : (lines : List Line) (c : ℕ) (requests : Requests) (t : Transfers) → acts_in lines c requests t ≡ false → has_line c lines ≡ false
unfolding acts_in
no_line lines c requests t h = (or_parts (has_line c lines) (moves_in c requests t) h).0

-- no line is passed over in clocks in which the system doesn't act
pub none_before : (lines : List Line) (requests : Requests) (t : Transfers) (next n m : ℕ) → NoneBetween lines next n
    → ((c : ℕ) → n ≤ c → c < m → acts_in lines c requests t ≡ false) → NoneBetween lines next m
none_before lines requests t next n m none rests c from below =
    elim (cases_lt c n) [
      | inl lt ↦ none c from lt
      | inr ge ↦ no_line lines c requests t (rests c ge below)
    ]
