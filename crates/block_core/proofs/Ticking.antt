-- Each machine's divider and whether it is enabled, by the history of the lines.
use Rattle.std.proofs.Common.{◌≡◌, ℕ, zero, suc, ◌<◌, ◌==◌, Bool, true, false, ◌&&◌, ◌↔◌, IsTrue, Option, Some, None, option_map, IfSome, List, [], ◌∷◌, map, cond, slice_index_or, refl, sym, ap, ◌∙◌, arith, add-one}
use Rattle.std.proofs.lemmas.Bool.{and_parts, and_from}
use Rattle.std.proofs.lemmas.Bool.Decides.{nat_tests}
use Rattle.clock_divider.specs.Timing.{Timing, period_of, resumed, stepped}
use Rattle.clock_divider.specs.Ticks.{IsTickClock, is_tick}
use Rattle.pin_matrix.specs.declared.machine.MachineSetup.{MachineSetup}
use Rattle.pin_matrix.specs.declared.setup.Setup.{Setup}
use Rattle.sm_registers.specs.View.{View}
use Rattle.dreq_pacing.specs.declared.due.Due.{Due}
use Rattle.block_core.specs.Slots.{Slot, first_slot, enabled_by, timed_by, lined, has_tick, settled_slot, slot_after, place_after}
use Rattle.block_core.specs.Block as block
use Rattle.block_core.specs.Block.{BlockState, run_from, run_at, first_state, view_of}
use Rattle.block_core.specs.Following.{Follows}
use Rattle.block_core.proofs.Runs.{seen_at, run_follows}
use Rattle.block_core.specs.History.{restarted_before, restarted_at, enabled_before, enabled_at, Ticks, OfEach}

-- a divider in a clock
abbrev timing : ℕ → ℕ → ℕ → Timing
timing clock restarted period = record { clock = clock; restarted = restarted; period = period }

-- a machine's divider and whether it is enabled, at a clock's start
record IsTimed (host : ℕ → Due) (clock : ℕ) (m : Slot) : Type 0 where
  timed : m.timing ≡ timing clock (restarted_before host m.machine.setup.id clock) (period_of m.machine.setup.int m.machine.setup.frac)
  enabled : m.enabled ≡ enabled_before host m.machine.setup.id clock

resumed_if : (restarts : Bool) (clock restarted period : ℕ) → cond restarts (resumed (timing clock restarted period)) (timing clock restarted period) ≡ timing clock (cond restarts clock restarted) period
resumed_if true clock restarted period = refl
resumed_if false clock restarted period = refl

-- the divider with the clock's line
timed_by-timed : (host : ℕ → Due) (clock : ℕ) (m : Slot) → IsTimed host clock m → timed_by (host clock) m.machine.setup.id m.timing ≡ timing clock (restarted_at host m.machine.setup.id clock) (period_of m.machine.setup.int m.machine.setup.frac)
timed_by-timed host clock m h =
    let s = m.machine.setup in
    ap (timed_by (host clock) s.id) h.timed
    ∙ resumed_if (slice_index_or (host clock).restart s.id false) clock (restarted_before host s.id clock) (period_of s.int s.frac)

timed_after : (host : ℕ → Due) (clock : ℕ) (v : View) (m : Slot) → IsTimed host clock m → IsTimed host (suc clock) (slot_after v (host clock) m)
unfolding settled_slot restarted_before enabled_before
timed_after host clock v m h = let s = m.machine.setup in record {
  timed =
      ap stepped (timed_by-timed host clock m h)
      ∙ ap (λ (c : ℕ). timing c (restarted_at host s.id clock) (period_of s.int s.frac)) (add-one clock);
  enabled = ap (enabled_by (host clock) s.id) h.enabled;
}

-- what holds of each place after a clock
each_after : (P Q : Slot → Type 0) (v : View) (d : Due) → ((m : Slot) → P m → Q (slot_after v d m)) → (places : List (Option Slot)) → OfEach P places → OfEach Q (map (place_after v d) places)
each_after P Q v d f [] h = tt
each_after P Q v d f (None ∷ places) h = (tt, each_after P Q v d f places h.1)
each_after P Q v d f (Some m ∷ places) h = (f m h.0, each_after P Q v d f places h.1)

-- what follows of each place
each_then : (P Q : Slot → Type 0) → ((m : Slot) → P m → Q m) → (places : List (Option Slot)) → OfEach P places → OfEach Q places
each_then P Q f [] h = tt
each_then P Q f (None ∷ places) h = (tt, each_then P Q f places h.1)
each_then P Q f (Some m ∷ places) h = (f m h.0, each_then P Q f places h.1)

first_timed : (host : ℕ → Due) (s : Option MachineSetup) → IfSome (option_map first_slot s) (IsTimed host 0)
unfolding restarted_before enabled_before
first_timed host None = tt
first_timed host (Some s) = record { timed = refl; enabled = refl }

timed-states : (s : Setup) (memory : List ℕ) (seen : ℕ → ℕ) (host : ℕ → Due) (states : ℕ → BlockState) → states 0 ≡ first_state s → Follows memory seen host states → (clock : ℕ) → OfEach (IsTimed host clock) (states clock).machines
unfolding block.stepped
timed-states s memory seen host states begins follows zero = rw begins (first_timed host _, (first_timed host _, (first_timed host _, (first_timed host _, tt))))
timed-states s memory seen host states begins follows (suc clock) =
    let v = view_of memory (seen clock) (states clock) in
    rw (follows clock) (each_after (IsTimed host clock) (IsTimed host (suc clock)) v (host clock) (timed_after host clock v) (states clock).machines (timed-states s memory seen host states begins follows clock))

period_of-pos : (int frac : ℕ) → 0 < period_of int frac
period_of-pos zero frac = omega arith
period_of-pos (suc int) frac = let e : (suc int == 0) ≡ false = grind (arith, nat_tests) in rw e (omega arith)

-- a tick, by the history
tick_timed : ((restarted period clock : ℕ) → 0 < period → IsTrue (is_tick restarted period clock) ↔ (IsTickClock restarted period clock)) → (host : ℕ → Due) (clock : ℕ) (m : Slot) → IsTimed host clock m → IsTrue (has_tick (lined (host clock) m)) ↔ (Ticks host m.machine.setup clock)
tick_timed test host clock m h =
    let s = m.machine.setup in
    let period = period_of s.int s.frac in
    let at : has_tick (lined (host clock) m) ≡ (enabled_at host s.id clock && is_tick (restarted_at host s.id clock) period clock) =
    ap (λ (t : Timing). enabled_by (host clock) s.id m.enabled && is_tick t.restarted t.period t.clock) (timed_by-timed host clock m h)
    ∙ ap (λ (e : Bool). enabled_by (host clock) s.id e && is_tick (restarted_at host s.id clock) period clock) h.enabled in
    let ticks = test (restarted_at host s.id clock) period clock (period_of-pos s.int s.frac) in (
      (λ t. let parts = and_parts (enabled_at host s.id clock) (is_tick (restarted_at host s.id clock) period clock) (sym at ∙ t) in
          record { enabled = parts.0; period = ticks.0 parts.1 }),
      (λ t. at ∙ and_from _ _ t.enabled (ticks.1 t.period)),
    )

pub ticks-states : ((restarted period clock : ℕ) → 0 < period → IsTrue (is_tick restarted period clock) ↔ (IsTickClock restarted period clock)) → (s : Setup) (memory : List ℕ) (seen : ℕ → ℕ) (host : ℕ → Due) (states : ℕ → BlockState) → states 0 ≡ first_state s → Follows memory seen host states → (clock : ℕ) → OfEach (λ m. IsTrue (has_tick (lined (host clock) m)) ↔ (Ticks host m.machine.setup clock)) (states clock).machines
ticks-states test s memory seen host states begins follows clock =
    each_then (IsTimed host clock) (λ m. IsTrue (has_tick (lined (host clock) m)) ↔ (Ticks host m.machine.setup clock)) (tick_timed test host clock) (states clock).machines (timed-states s memory seen host states begins follows clock)

pub ticks-run_at : ((restarted period clock : ℕ) → 0 < period → IsTrue (is_tick restarted period clock) ↔ (IsTickClock restarted period clock)) → (s : Setup) (host : ℕ → Due) (clock : ℕ) → OfEach (λ m. IsTrue (has_tick (lined (host clock) m)) ↔ (Ticks host m.machine.setup clock)) (run_at s host clock).state.machines
unfolding run_from
ticks-run_at test s host clock = ticks-states test s s.memory (seen_at s host) host (λ c. (run_at s host c).state) refl (run_follows s host) clock

-- a clock leaves the setups
setups_after : (v : View) (d : Due) (places : List (Option Slot)) → map (option_map (λ (m : Slot). m.machine.setup)) (map (place_after v d) places) ≡ map (option_map (λ (m : Slot). m.machine.setup)) places
unfolding settled_slot
setups_after v d [] = refl
setups_after v d (None ∷ places) = ap (λ (rest : List (Option MachineSetup)). None ∷ rest) (setups_after v d places)
setups_after v d (Some m ∷ places) = ap (λ (rest : List (Option MachineSetup)). Some m.machine.setup ∷ rest) (setups_after v d places)

pub setups-states : (s : Setup) (memory : List ℕ) (seen : ℕ → ℕ) (host : ℕ → Due) (states : ℕ → BlockState) → states 0 ≡ first_state s → Follows memory seen host states → (clock : ℕ) → map (option_map (λ (m : Slot). m.machine.setup)) (states clock).machines ≡ map (option_map (λ (m : Slot). m.machine.setup)) (first_state s).machines
unfolding block.stepped
setups-states s memory seen host states begins follows zero = rw begins refl
setups-states s memory seen host states begins follows (suc clock) =
    rw (follows clock) (setups_after (view_of memory (seen clock) (states clock)) (host clock) (states clock).machines ∙ setups-states s memory seen host states begins follows clock)

pub setups-run_at : (s : Setup) (host : ℕ → Due) (clock : ℕ) → map (option_map (λ (m : Slot). m.machine.setup)) (run_at s host clock).state.machines ≡ map (option_map (λ (m : Slot). m.machine.setup)) (first_state s).machines
unfolding run_from
setups-run_at s host clock = setups-states s s.memory (seen_at s host) host (λ c. (run_at s host c).state) refl (run_follows s host) clock
