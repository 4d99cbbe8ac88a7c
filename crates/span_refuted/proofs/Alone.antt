-- The run of a setup without stimulus lines, for a span whose pins no other machine may write.
use Rattle.std.proofs.Common.{◌≡◌, ◌==◌, ℕ, zero, suc, ◌+◌, ◌<◌, Bool, true, false, not, ◌&&◌, ◌||◌, Option, Some, None, option_map, is_some, cond, if◌then◌else◌, IfSome, List, [], ◌∷◌, unwrap_or, slice_index_or, refl, sym, ap, subst, ◌∙◌, arith, add-zero, zero-add}
use Rattle.std.proofs.lemmas.Bool.{and_parts, or_parts, eqb-true, ne_eqb}
use Rattle.std.specs.Int.{bit_at}
use Rattle.pin_matrix.specs.Pins.{is_high, last_of}
use Rattle.pin_matrix.specs.Setups.{ids_are_places}
use Rattle.pin_matrix.specs.Spans.{is_signal, signal_bits}
use Rattle.pin_matrix.specs.declared.machine.MachineSetup.{MachineSetup}
use Rattle.pin_matrix.specs.declared.setup.Setup.{Setup}
use Rattle.pin_matrix.specs.declared.span.PinSignal.{PinSignal}
use Rattle.pin_matrix.specs.declared.span.PinSignal.TheVariants.{Level, Direction}
use Rattle.pin_matrix.specs.declared.span.Span.{Span}
use Rattle.pin_matrix.specs.declared.span.SpanUnit.{SpanUnit}
use Rattle.pin_matrix.specs.declared.span.SpanUnit.TheVariants.{Ticks}
use Rattle.dreq_pacing.specs.declared.due.Due.{Due}
use Rattle.dreq_pacing.specs.declared.line.Line.{Line}
use Rattle.dreq_pacing.specs.Due.{no_machine}
use Rattle.dreq_pacing.specs.Ports.{due_in}
use Rattle.block_core.specs.Slots.{first_slot, place_after}
use Rattle.sm_registers.specs.Intents.{two_writes}
use Rattle.block_core.specs.Block.{BlockState, Run, first_state, first_run, first_place, run_from, stepped, next, view_of}
use Rattle.block_core.specs.Following.{Follows, place_at, intent_in, leaves, OthersLeave}
use Rattle.block_core.specs.Hosted.{hosted_at, hosted_next, host_of}
use Rattle.span_step.specs.Courses.{start}
use Rattle.span_step.specs.Steps.{bounds_of, bounds_in, is_bounded, most_or, period_of}
use Rattle.span_bounds.specs.Tables.{start_context}
use Rattle.span_verdict.specs.Sharing.{holds, writes_pin, writes_span, may_write, shares, IsUnshared}
use Rattle.span_check.specs.Asked.{IsPlain}
use Rattle.span_check.specs.Marks.{Mark}
use Rattle.span_check.specs.Holding.{Holds}
use Rattle.span_check.specs.Runs.{marks_over, seen_beside, state_beside}
use Rattle.span_refuted.specs.OneWay.{IsSimple, LeavesNoChoice}
use Rattle.span_refuted.specs.Visits.{visit, HasBadVisit}
use Rattle.span_refuted.specs.Broken.{IsBroken}
use Rattle.span_refuted.proofs.Visiting.{StaysPlaced, each_visit}
use Rattle.span_refuted.proofs.Exact.{IsBrokenBy}
use Rattle.span_refuted.proofs.Clocks.{IsTested}
use Rattle.span_refuted.proofs.Clock.{AreLevels, IsLeft}
use Rattle.span_refuted.proofs.Walking.{IsRun, IsAtVisit, bad_visit_breaks}

-- what the laws of block_core say
pub record AreRuns : Type 0 where
  pub places_start : (s : Setup) (id : ℕ) → id < 4 → place_at (first_state s) id ≡ first_place s id
  pub places_go_on : (memory : List ℕ) (seen : ℕ → ℕ) (host : ℕ → Due) (states : ℕ → BlockState) → Follows memory seen host states
      → (clock id : ℕ) → place_at (states (suc clock)) id ≡ place_after (view_of memory (seen clock) (states clock)) (host clock) (place_at (states clock) id)
  pub own_pins : (s : Setup) (memory : List ℕ) (seen : ℕ → ℕ) (host : ℕ → Due) (states : ℕ → BlockState) → states 0 ≡ first_state s
      → Follows memory seen host states → (id p : ℕ) → p < 32 → OthersLeave Level id p s.machines → (clock : ℕ)
      → bit_at (states (suc clock)).levels p
      ≡ last_of p (bit_at (states clock).levels p) (two_writes (intent_in memory (seen clock) (host clock) (states clock) id).level)
  pub stimulus : (start : Run) (lines : List Line) (clock : ℕ) → (hosted_at start lines clock).run ≡ run_from start (host_of start lines) clock
  pub excused : (sp : Span) (memory : List ℕ) (seen : ℕ → ℕ) (host : ℕ → Due) (states : ℕ → BlockState) (clock : ℕ) → IsPlain sp
      → (marks_over sp memory seen host states clock).excused ≡ false
  pub misses : (sp : Span) (memory : List ℕ) (seen : ℕ → ℕ) (host : ℕ → Due) (states : ℕ → BlockState) (clock : ℕ) → IsPlain sp
      → (marks_over sp memory seen host states clock).misses ≡ false
  pub memory : (start : Run) (host : ℕ → Due) (clock : ℕ) → (run_from start host clock).memory ≡ start.memory

-- a machine that may not write the span's pins leaves them
leaves_by : (out set dirs side : Bool) → (out || (set || (is_signal (cond {A = PinSignal} dirs Direction Level) (Some Level) && side))) ≡ false → (not out && (not set && (dirs || not side))) ≡ true
leaves_by true set dirs side h = cc
leaves_by false true dirs side h = cc
leaves_by false false true side h = refl
leaves_by false false false true h = cc
leaves_by false false false false h = refl

may_not : (p : ℕ) (sp : Span) (m : Option MachineSetup) → ((s : MachineSetup) → writes_span s sp ≡ false → writes_pin s (Some Level) p ≡ false) → may_write m sp ≡ false → IfSome m (λ s. leaves p Level s ≡ true)
may_not p sp None of h = tt
may_not p sp (Some s) of h = leaves_by (holds s.out p) (holds s.set p) s.side_rule.pindirs (holds s.side p) (of s h)

not_shared : (u : Setup) (sp : Span) → IsUnshared u sp → (m : ℕ) → (m ≡ sp.machine → ⊥) → may_write (slice_index_or u.machines m None) sp ≡ false
unfolding shares
not_shared u sp h m apart = by (m == sp.machine) (ne_eqb m sp.machine apart) (h m) where
  by : (own : Bool) → own ≡ false → (not own && may_write (slice_index_or u.machines m None) sp) ≡ false → may_write (slice_index_or u.machines m None) sp ≡ false
  by true e f = cc
  by false e f = f

others_from : (u : Setup) (sp : Span) → IsSimple sp → IsUnshared u sp → OthersLeave Level sp.machine sp.from_pin u.machines
others_from u sp simple h m apart =
    may_not sp.from_pin sp (slice_index_or u.machines m None) (λ s e. subst (λ z. writes_pin s z sp.from_pin ≡ false) simple.from (or_parts (writes_pin s sp.from_signal sp.from_pin) (writes_pin s sp.to_signal sp.to_pin) e).0) (not_shared u sp h m apart)

others_to : (u : Setup) (sp : Span) → IsSimple sp → IsUnshared u sp → OthersLeave Level sp.machine sp.to_pin u.machines
others_to u sp simple h m apart =
    may_not sp.to_pin sp (slice_index_or u.machines m None) (λ s e. subst (λ z. writes_pin s z sp.to_pin ≡ false) simple.to (or_parts (writes_pin s sp.from_signal sp.from_pin) (writes_pin s sp.to_signal sp.to_pin) e).1) (not_shared u sp h m apart)

-- the machine's number is that of its place
place_id : (place i : ℕ) (machines : List (Option MachineSetup)) (s : MachineSetup) → ids_are_places place machines ≡ true → slice_index_or machines i None ≡ Some s → s.id ≡ place + i
place_id place i [] s h e = cc
place_id place zero (None ∷ machines) s h e = cc
place_id place zero (Some m ∷ machines) s h e =
    let same : m ≡ s = ap (λ (o : Option MachineSetup). unwrap_or o m) e in
    let id : m.id ≡ place = eqb-true m.id place (and_parts (m.id == place) (ids_are_places (place + 1) machines) h).0 in
    ap (λ (x : MachineSetup). x.id) (sym same) ∙ id ∙ sym (add-zero place)
place_id place (suc i) (None ∷ machines) s h e = place_id (place + 1) i machines s h e ∙ on where
  on : place + 1 + i ≡ place + suc i
  on = omega arith
place_id place (suc i) (Some m ∷ machines) s h e = place_id (place + 1) i machines s (and_parts (m.id == place) (ids_are_places (place + 1) machines) h).1 e ∙ on where
  on : place + 1 + i ≡ place + suc i
  on = omega arith

-- no line does anything to a machine
no_machine_at : (id : ℕ) → slice_index_or no_machine id false ≡ false
no_machine_at zero = refl
no_machine_at (suc zero) = refl
no_machine_at (suc (suc zero)) = refl
no_machine_at (suc (suc (suc zero))) = refl
no_machine_at (suc (suc (suc (suc id)))) = refl

left_alone : (start : Run) (c id : ℕ) → IsLeft (host_of start [] c) id
unfolding due_in
left_alone start c id = record { enable = no_machine_at id; disable = no_machine_at id; restart = no_machine_at id }

-- the setup's own run
follows : AreRuns → (u : Setup) (lines : List Line) → Follows u.memory (seen_beside u lines) (host_of (first_run u) lines) (state_beside u lines)
unfolding hosted_at hosted_next next
follows runs u lines c =
    let r = (hosted_at (first_run u) lines c).run in
    let same : r.memory ≡ u.memory = ap (λ (x : Run). x.memory) (runs.stimulus (first_run u) lines c) ∙ runs.memory (first_run u) (host_of (first_run u) lines) c in
    ap (λ m. stepped m (seen_beside u lines c) (host_of (first_run u) lines c) r.state) same

begins : (u : Setup) (lines : List Line) → state_beside u lines 0 ≡ first_state u
unfolding hosted_at
begins u lines = refl

run_alone : AreRuns → (u : Setup) (sp : Span) (s : MachineSetup) → slice_index_or u.machines sp.machine None ≡ Some s → IsSimple sp → IsUnshared u sp → IsRun sp s u.memory (seen_beside u []) (host_of (first_run u) []) (state_beside u [])
run_alone runs u sp s configured simple alone = record {
  after = λ c. record {
    left = left_alone (first_run u) c sp.machine;
    place = runs.places_go_on u.memory (seen_beside u []) (host_of (first_run u) []) (state_beside u []) (follows runs u []) c sp.machine;
    from = runs.own_pins u u.memory (seen_beside u []) (host_of (first_run u) []) (state_beside u []) (begins u []) (follows runs u []) sp.machine sp.from_pin sp.from_pin_is_a_pin (others_from u sp simple alone) c;
    to = runs.own_pins u u.memory (seen_beside u []) (host_of (first_run u) []) (state_beside u []) (begins u []) (follows runs u []) sp.machine sp.to_pin sp.to_pin_is_a_pin (others_to u sp simple alone) c;
  };
  id = place_id 0 sp.machine u.machines s u.at_their_places configured ∙ zero-add sp.machine;
}

-- it begins with the first visit
starts_there : AreRuns → (u : Setup) (sp : Span) (s : MachineSetup) (marks : ℕ → Mark) → slice_index_or u.machines sp.machine None ≡ Some s → IsSimple sp → s.pending ≡ None → IsAtVisit u sp s marks (state_beside u []) 0
unfolding visit start_context hosted_at
starts_there runs u sp s marks configured simple none = rw configured (record {
  clock = 0;
  at = record {
    m = first_slot s;
    slot = runs.places_start u sp.machine sp.machine_in_block ∙ ap (option_map first_slot) configured;
    setup = refl;
    enabled = refl;
    running = refl;
    rest = record { pc = refl; left = refl; pending = none; begun = refl };
    from = ap (λ z. is_high (signal_bits z u.level u.out) sp.from_pin) simple.from;
    to = ap (λ z. is_high (signal_bits z u.level u.out) sp.to_pin) simple.to;
    exact = tt;
  };
})

pub bad_visit_is_broken : AreRuns → AreLevels → IsTested → StaysPlaced → (u : Setup) (sp : Span) → sp.unit ≡ Ticks → LeavesNoChoice u sp → IsUnshared u sp → HasBadVisit u sp → IsBroken u sp
unfolding bounds_of
bad_visit_is_broken runs levels tested stays u sp ticks c alone b = record { clocks = broken.0; broken = λ h. broken.1 (subst (λ (x : Option ℕ). Holds Ticks sp.min x marks broken.0) (sym (asked sp.min sp.max)) (subst (λ (x : SpanUnit). Holds x sp.min sp.max marks broken.0) ticks h)) } where
  marks : ℕ → Mark
  marks = marks_over sp u.memory (seen_beside u []) (host_of (first_run u) []) (state_beside u [])

  bounds : bounds_of sp c.machine ≡ (sp.min, most_or sp.min sp.max)
  bounds = ap (λ k. bounds_in k sp (period_of c.machine)) ticks

  asked : (least : ℕ) (max : Option ℕ) → (if is_some max then Some (most_or least max) else None) ≡ max
  asked least None = refl
  asked least (Some most) = refl

  broken : IsBrokenBy (is_bounded sp) sp.min (most_or sp.min sp.max) (marks_over sp u.memory (seen_beside u []) (host_of (first_run u) []) (state_beside u []))
  broken = subst (λ (x : ℕ × ℕ). IsBrokenBy (is_bounded sp) x.0 x.1 (marks_over sp u.memory (seen_beside u []) (host_of (first_run u) []) (state_beside u []))) bounds
      (bad_visit_breaks levels tested u sp c.machine (seen_beside u []) (host_of (first_run u) []) (state_beside u []) c.simple
      (record {
        excused = λ k. runs.excused sp u.memory (seen_beside u []) (host_of (first_run u) []) (state_beside u []) k c.simple.plain;
        misses = λ k. runs.misses sp u.memory (seen_beside u []) (host_of (first_run u) []) (state_beside u []) k c.simple.plain;
      }) (run_alone runs u sp c.machine c.configured c.simple alone) (λ i. (each_visit stays u sp c i).single) (starts_there runs u sp c.machine _ c.configured c.simple c.begins) b)
