-- That the places of a block stay in step with its clock.
use Rattle.std.proofs.Common.{◌≡◌, ℕ, ◌+◌, ◌≤◌, ◌<◌, ◌^◌, Bool, true, false, Option, Some, None, option_map, cond, slice_index_or, ◌∙◌, refl, subst, sym, ap, arith}
use Rattle.clock_divider.specs.Timing.{Timing, resumed}
use Rattle.pin_matrix.specs.declared.machine.MachineSetup.{MachineSetup}
use Rattle.sm_registers.specs.View.{View}
use Rattle.dreq_pacing.specs.declared.due.Due.{Due}
use Rattle.block_core.specs.Block.{Run, pads_in, next, next_over, uses_fifos_over}
use Rattle.block_core.specs.Leaps.{leapt}
use Rattle.block_core.specs.Twin.{TwinRun, twin_pads_in, twin_next, twin_uses_fifos_in}
use Rattle.block_core.specs.Slots.{Slot, first_slot, counted, settled_slot, place_after}
use Rattle.block_core.specs.Kept.{AreTwins, IsInStep, IsInTime}

pub first_in_step : (m : Option MachineSetup) (s : Option Slot) → s ≡ option_map first_slot m → IsInStep 0 s
first_in_step m s e = subst (IsInStep 0) (sym e) (cases m) where
  cases : (m : Option MachineSetup) → IsInStep 0 (option_map first_slot m)
  cases None = tt
  cases (Some setup) = (refl, omega arith, omega arith)

counted-le : (more : Bool) (n clock : ℕ) → n ≤ clock → counted more n ≤ clock + 1
counted-le true n clock le = omega arith
counted-le false n clock le = omega arith

-- a restart leaves the clock
resumed_if-clock : (restarts : Bool) (t : Timing) → (cond restarts (resumed t) t).clock ≡ t.clock
resumed_if-clock true t = refl
resumed_if-clock false t = refl

place_in_step : (clock : ℕ) (v : View) (d : Due) (s : Option Slot) → IsInStep clock s → IsInStep (clock + 1) (place_after v d s)
unfolding settled_slot
place_in_step clock v d None h = tt
place_in_step clock v d (Some s) h = let id = s.machine.setup.id in (
  ap (λ n. n + 1) (resumed_if-clock (slice_index_or d.restart id false) s.timing ∙ h.0),
  counted-le (slice_index_or d.word_paced id false) s.sent clock h.1,
  counted-le (slice_index_or d.read_paced id false) s.received clock h.2,
)

pub in_step_after : (clock : ℕ) (v : View) (d : Due) (s t : Option Slot) → IsInStep clock s → t ≡ place_after v d s → IsInStep (clock + 1) t
in_step_after clock v d s t h e = subst (IsInStep (clock + 1)) (sym e) (place_in_step clock v d s h)

pub in_time : (clock : ℕ) (s : Option Slot) → clock < 2 ^ 40 → IsInStep clock s → IsInTime s
in_time clock None lt h = tt
in_time clock (Some s) lt h = (omega (arith, h.0), omega (arith, h.1), omega (arith, h.2))

-- a clock with the block's own pads
pub next_with : (d : Due) (r : Run) (pad : ℕ) (after : Run) → pad ≡ pads_in d r.state → after ≡ next_over pad d r → after ≡ next d r
unfolding next
next_with d r pad after is e = e ∙ ap (λ p. next_over p d r) is

-- a clock of two blocks, in which both see these pads
pub twin_next_with : (first second : Due) (t now : TwinRun) (pad : ℕ) (one other : Run) → t ≡ now → pad ≡ twin_pads_in first now → one ≡ next_over pad first t.first → other ≡ next_over pad second t.second → record { own = t.own; first = one; second = other } ≡ twin_next first second now
unfolding twin_next
twin_next_with first second t now pad one other is pads a b =
    rw (a, b, pads ∙ ap (twin_pads_in first) (sym is)) (ap (twin_next first second) is)

-- and what is done at the FIFOs of each
pub twin_uses_with : (first second : Due) (t now : TwinRun) (pad : ℕ) (one other : Bool) → t ≡ now → pad ≡ twin_pads_in first now → one ≡ uses_fifos_over pad first t.first → other ≡ uses_fifos_over pad second t.second → (one, other) ≡ twin_uses_fifos_in first second now
twin_uses_with first second t now pad one other is pads a b =
    rw (a, b, pads ∙ ap (twin_pads_in first) (sym is)) (ap (twin_uses_fifos_in first second) is)

-- both are in one clock, which is after one more call
pub twins_next : (first second : Due) (t : TwinRun) (pad calls : ℕ) (one other : Run) → AreTwins calls t.first.clock t.second.clock → one ≡ next_over pad first t.first → other ≡ next_over pad second t.second → AreTwins (calls + 1) one.clock other.clock
twins_next first second t pad calls one other twins a b =
    let one_clock = ap (λ (r : Run). r.clock) a in
    let other_clock = ap (λ (r : Run). r.clock) b in
    record { calls = omega (arith, one_clock, twins.calls); same = omega (arith, one_clock, other_clock, twins.same) }

-- the clock of a run that rests
pub clock-leapt : (n : ℕ) (r : Run) → (leapt n r).clock ≡ r.clock + n
unfolding leapt
clock-leapt n r = refl
