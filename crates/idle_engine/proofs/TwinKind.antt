-- A run of two blocks is of its kind.
use Rattle.std.proofs.Common.{◌≡◌, ℕ, ◌+◌, ◌||◌, min, Bool, true, false, List, inl, inr, refl, ap, ◌∙◌, sym, arith}
use Rattle.std.proofs.lemmas.Bool.{cases_lt, or_from, or_left, or_parts, or_right}
use Rattle.dreq_pacing.specs.declared.line.Line.{Line}
use Rattle.dreq_pacing.specs.declared.due.Due.{Due}
use Rattle.dreq_pacing.specs.Due.{quiet}
use Rattle.dreq_pacing.specs.Transfers.{Transfers}
use Rattle.dreq_pacing.specs.Ports.{acts_in, due_in, transfers_after}
use Rattle.block_core.specs.Block.{Run, next_over, uses_fifos_over}
use Rattle.block_core.specs.Hosted.{due_of}
use Rattle.block_core.specs.HostedTwin.{HostedTwin, twin_of, hosted_pads, hosted_twin_next, twin_stirs_in}
use Rattle.block_core.specs.Shown.{requests_of}
use Rattle.block_core.specs.Stirring.{moves_on_over}
use Rattle.block_core.specs.Twin.{TwinRun, twin_next, twin_from, twin_pads_in, twin_moves_on, twin_uses_fifos_in}
use Rattle.idle_engine.specs.Kinds.{IsKind, IsUntil}
use Rattle.idle_engine.specs.Twin.{twin}
use Rattle.idle_engine.proofs.OneKind.{QuietDue, QuietTransfers, DoesNothing, does_nothing}

-- a clock in which the system acts at either stirs, whatever moves
either_acts : (a b m n : Bool) → (a || b) ≡ true → ((a || m) || (b || n)) ≡ true
either_acts true b m n h = refl
either_acts false true true n h = refl
either_acts false true false n h = refl
either_acts false false m n h = cc

-- it does nothing at both
both_rest : QuietDue → QuietTransfers → (lines : List Line × List Line) (h : HostedTwin) (n : ℕ) → twin.in_clock h n
    → twin.acts lines h n ≡ false → DoesNothing lines.0 h.first × DoesNothing lines.1 h.second
both_rest quiet_due quiet_transfers lines h n in_clock rests =
    let e = or_parts (acts_in lines.0 n (requests_of h.first.run.state) h.first.transfers) (acts_in lines.1 n (requests_of h.second.run.state) h.second.transfers) rests in
    (does_nothing quiet_due quiet_transfers lines.0 h.first n in_clock.0 e.0, does_nothing quiet_due quiet_transfers lines.1 h.second n in_clock.1 e.1)

pub twin-kind : QuietDue → QuietTransfers → IsKind twin
unfolding hosted_twin_next twin_next twin_from twin_stirs_in twin_moves_on
twin-kind quiet_due quiet_transfers = record {
  later = λ lines h n in_clock. (ap (λ (k : ℕ). k + 1) in_clock.0, ap (λ (k : ℕ). k + 1) in_clock.1);
  quiet = λ lines h n in_clock rests.
      let d = both_rest quiet_due quiet_transfers lines h n in_clock rests in
      rw (d.0.due, d.0.transfers, d.1.due, d.1.transfers) refl;
  acting = λ lines h n in_clock acts.
      let first : acts_in lines.0 h.first.run.clock (requests_of h.first.run.state) h.first.transfers ≡ acts_in lines.0 n (requests_of h.first.run.state) h.first.transfers = ap (λ (k : ℕ). acts_in lines.0 k (requests_of h.first.run.state) h.first.transfers) in_clock.0 in
      let second : acts_in lines.1 h.second.run.clock (requests_of h.second.run.state) h.second.transfers ≡ acts_in lines.1 n (requests_of h.second.run.state) h.second.transfers = ap (λ (k : ℕ). acts_in lines.1 k (requests_of h.second.run.state) h.second.transfers) in_clock.1 in
      either_acts
      (acts_in lines.0 h.first.run.clock (requests_of h.first.run.state) h.first.transfers)
      (acts_in lines.1 h.second.run.clock (requests_of h.second.run.state) h.second.transfers)
      (moves_on_over (hosted_pads lines.0 h) (due_of lines.0 h.first) h.first.run)
      (moves_on_over (hosted_pads lines.0 h) (due_of lines.1 h.second) h.second.run)
      (ap (λ (b : Bool). b || acts_in lines.1 h.second.run.clock (requests_of h.second.run.state) h.second.transfers) first
      ∙ ap (λ (b : Bool). acts_in lines.0 n (requests_of h.first.run.state) h.first.transfers || b) second ∙ acts);
  moving = λ lines h n in_clock rests.
      let d = both_rest quiet_due quiet_transfers lines h n in_clock rests in
      rw (d.0.acts, d.0.due, d.1.acts, d.1.due) refl;
  none = λ h. refl;
  more = λ h n. refl;
}

-- a clock for which the ports of both are asked
pub asked-next : (lines : List Line × List Line) (h : HostedTwin) (n : ℕ) (t : TwinRun) (x y : Transfers)
    → twin.in_clock h n
    → t ≡ twin_next (due_in lines.0 n (requests_of h.first.run.state) h.first.transfers) (due_in lines.1 n (requests_of h.second.run.state) h.second.transfers) (twin_of h)
    → x ≡ transfers_after lines.0 n (requests_of h.first.run.state) h.first.transfers
    → y ≡ transfers_after lines.1 n (requests_of h.second.run.state) h.second.transfers
    → record { own = t.own; first = record { run = t.first; transfers = x }; second = record { run = t.second; transfers = y } } ≡ hosted_twin_next lines.0 lines.1 h
unfolding hosted_twin_next twin_next
asked-next lines h n t x y in_clock is_t is_x is_y = rw (is_t, is_x, is_y, in_clock.0, in_clock.1) refl

-- the law of unused FIFOs
abbrev pub UnusedAsk : Type 0
UnusedAsk = (pad : ℕ) (d : Due) (r : Run) → uses_fifos_over pad d r ≡ false → requests_of (next_over pad d r).state ≡ requests_of r.state

-- where nobody does anything at a FIFO of either, both ask for what they asked before
pub both-ask : UnusedAsk → (t now : TwinRun) (used : Bool × Bool) → now ≡ twin_next quiet quiet t
    → used ≡ twin_uses_fifos_in quiet quiet t → (used.0 || used.1) ≡ false
    → (requests_of now.first.state ≡ requests_of t.first.state) × (requests_of now.second.state ≡ requests_of t.second.state)
unfolding twin_next
both-ask law t now used is_now is_used none =
    let unused = or_parts used.0 used.1 none in (
      ap (λ (t : TwinRun). requests_of t.first.state) is_now ∙ law (twin_pads_in quiet t) quiet t.first (sym (ap (λ (u : Bool × Bool). u.0) is_used) ∙ unused.0),
      ap (λ (t : TwinRun). requests_of t.second.state) is_now ∙ law (twin_pads_in quiet t) quiet t.second (sym (ap (λ (u : Bool × Bool). u.1) is_used) ∙ unused.1),
    )

-- the first clock in which either of two tests passes
pub until_either : (a b : ℕ → Bool) (end from x y : ℕ) → IsUntil a end from x → IsUntil b end from y
    → IsUntil (λ n. a n || b n) end from (min x y)
until_either a b end from x y u v =
    let ahead_x = u.ahead in
    let ahead_y = v.ahead in
    let within = u.within in
    record {
      ahead = omega arith;
      within = omega arith;
      rests = λ c low below. or_from (a c) (b c) (u.rests c low (omega arith)) (v.rests c low (omega arith));
      passes = λ early. elim (cases_lt y x) [
        | inl lt ↦ (let e : min x y ≡ y = omega arith in or_right (a (min x y)) (b (min x y)) (ap b e ∙ v.passes (omega arith)))
        | inr ge ↦ (let e : min x y ≡ x = omega arith in or_left (a (min x y)) (b (min x y)) (ap a e ∙ u.passes (omega arith)))
      ];
    }
