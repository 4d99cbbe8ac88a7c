-- A run with what is told of it: the span's machine at its place, and the mark of each clock.
use Rattle.std.proofs.Common.{◌≡◌, ℕ, zero, suc, ◌+◌, ◌≤◌, ◌<◌, Bool, true, false, cond, eqb, Option, Some, None, option_map, List, [], ◌∷◌, slice_index_or, unwrap_or, refl, sym, ap, subst, ◌∙◌, arith}
use Rattle.std.proofs.lemmas.Bool.{and_parts, eqb-true}
use Rattle.std.proofs.lemmas.Bool.Decides.{nat_tests}
use Rattle.pin_matrix.specs.Setups.{ids_are_places}
use Rattle.pin_matrix.specs.declared.machine.MachineSetup.{MachineSetup}
use Rattle.pin_matrix.specs.declared.setup.Setup.{Setup}
use Rattle.pin_matrix.specs.declared.span.Span.{Span}
use Rattle.clock_divider.specs.Timing.{Timing, resumed}
use Rattle.dreq_pacing.specs.declared.due.Due.{Due}
use Rattle.dreq_pacing.specs.declared.line.Line.{Line}
use Rattle.block_core.specs.declared.conduct.MachineConduct.{MachineConduct}
use Rattle.block_core.specs.Block.{Run, first_run, next, seen_in, view_of}
use Rattle.block_core.specs.Conduct.{conduct_at, conduct_before, no_conduct}
use Rattle.block_core.specs.Following.{place_at}
use Rattle.block_core.specs.Hosted.{host_of, hosted_at, hosted_next}
use Rattle.block_core.specs.Slots.{first_slot, place_after, settled_slot, slot_after}
use Rattle.block_core.proofs.OwnPlace.{place-start}
use Rattle.block_core.proofs.Runs.{clock-hosted_at, memory-run_from, run-hosted_at}
use Rattle.span_check.specs.Marks.{excused_at, mark_of}
use Rattle.span_check.specs.Runs.{marks_in, state_beside}
use Rattle.span_meter.specs.Events as events
use Rattle.span_meter.specs.Events.{conduct_of, events_in}
use Rattle.span_meter.specs.Measured.{pins_in}
use Rattle.span_meter.specs.Spoken as spoken
use Rattle.span_meter.proofs.ConductLists.{clock_at, pins_before}
use Rattle.span_seen.proofs.Telling.{IsOwn, IsTold, clock_told, place_next}

-- machines are at the places of their numbers
place_id : (place i : ℕ) (machines : List (Option MachineSetup)) (s : MachineSetup) → ids_are_places place machines ≡ true → slice_index_or machines i None ≡ Some s → s.id ≡ place + i
place_id place i [] s h e = cc
place_id place zero (None ∷ machines) s h e = cc
place_id place zero (Some m ∷ machines) s h e =
    let same : m ≡ s = ap (λ (o : Option MachineSetup). unwrap_or o m) e in
    let id : m.id ≡ place = eqb-true m.id place (and_parts (eqb m.id place) (ids_are_places (place + 1) machines) h).0 in
    ap (λ (x : MachineSetup). x.id) (sym same) ∙ id ∙ (let z : place ≡ place + 0 = omega arith in z)
place_id place (suc i) (None ∷ machines) s h e = place_id (place + 1) i machines s h e ∙ (let z : place + 1 + i ≡ place + suc i = omega arith in z)
place_id place (suc i) (Some m ∷ machines) s h e =
    place_id (place + 1) i machines s (and_parts (eqb m.id place) (ids_are_places (place + 1) machines) h).1 e ∙ (let z : place + 1 + i ≡ place + suc i = omega arith in z)

pub first_own : (u : Setup) (sp : Span) (s : MachineSetup) → slice_index_or u.machines sp.machine None ≡ Some s → IsOwn (first_run u).state sp.machine 0
first_own u sp s configured = record {
  slot = first_slot s;
  place = place-start u sp.machine sp.machine_in_block ∙ ap (option_map first_slot) configured;
  number = place_id 0 sp.machine u.machines s u.at_their_places configured ∙ (let z : 0 + sp.machine ≡ sp.machine = omega arith in z);
  clock_is = refl;
}

-- a restart leaves the clock
pub restart-clock : (restarts : Bool) (t : Timing) → (cond restarts (resumed t) t).clock ≡ t.clock
restart-clock true t = refl
restart-clock false t = refl

unfoldable pub next_own : (d : Due) (r : Run) (id c : ℕ) → IsOwn r.state id c → IsOwn (next d r).state id (suc c)
unfolding settled_slot
next_own d r id c own = record {
  slot = slot_after (view_of r.memory (seen_in d r) r.state) d own.slot;
  place = place_next d r id ∙ ap (place_after (view_of r.memory (seen_in d r) r.state) d) own.place;
  number = own.number;
  clock_is = ap (λ n. n + 1) (restart-clock (slice_index_or d.restart own.slot.machine.setup.id false) own.slot.timing ∙ own.clock_is) ∙ (let z : c + 1 ≡ suc c = omega arith in z);
}

-- in a run
abbrev pub run_on : Setup → List Line → ℕ → Run
run_on u lines c = (hosted_at (first_run u) lines c).run

pub next_run : (u : Setup) (lines : List Line) (c : ℕ) → run_on u lines (suc c) ≡ next (host_of (first_run u) lines c) (run_on u lines c)
unfolding hosted_at hosted_next
next_run u lines c = refl

own_on : (u : Setup) (sp : Span) (lines : List Line) (s : MachineSetup) → slice_index_or u.machines sp.machine None ≡ Some s → (c : ℕ) → IsOwn (run_on u lines c).state sp.machine c
unfolding hosted_at
own_on u sp lines s configured zero = first_own u sp s configured
own_on u sp lines s configured (suc c) =
    subst (λ (r : Run). IsOwn r.state sp.machine (suc c)) (sym (next_run u lines c)) (next_own (host_of (first_run u) lines c) (run_on u lines c) sp.machine c (own_on u sp lines s configured c))

pub memory_on : (u : Setup) (lines : List Line) (c : ℕ) → (run_on u lines c).memory ≡ u.memory
memory_on u lines c = ap (λ (r : Run). r.memory) (run-hosted_at (first_run u) lines c) ∙ memory-run_from (first_run u) (host_of (first_run u) lines) c

pub clock_on : (u : Setup) (lines : List Line) (c : ℕ) → (run_on u lines c).clock ≡ c
clock_on u lines c = clock-hosted_at (first_run u) lines c ∙ (let z : 0 + c ≡ c = omega arith in z)

abbrev nobody : List (Option MachineConduct)
nobody = None ∷ None ∷ None ∷ None ∷ []

four_none : (id : ℕ) → slice_index_or nobody id None ≡ None
four_none zero = refl
four_none (suc zero) = refl
four_none (suc (suc zero)) = refl
four_none (suc (suc (suc zero))) = refl
four_none (suc (suc (suc (suc id)))) = refl

none_by : (b : Bool) (o : Option MachineConduct) → o ≡ None → cond b o None ≡ None
none_by true o h = h
none_by false o h = refl

not_now : (n c : ℕ) → n < c → eqb n c ≡ false
not_now n c h = grind (arith, nat_tests)

pub untold : (u : Setup) (lines : List Line) (id c : ℕ) → conduct_of c id (conduct_before (first_run u) lines c) ≡ None
unfolding conduct_before no_conduct
untold u lines id zero = none_by (eqb (first_run u).clock 0) (slice_index_or nobody id None) (four_none id)
untold u lines id (suc c) =
    let t = conduct_at (first_run u) lines c in
    let l : t.clock ≤ 0 + c = clock_at (first_run u) lines c in
    ap (λ (b : Bool). cond b (slice_index_or t.machines id None) None) (not_now t.clock (suc c) (omega arith))

-- so each mark that is told is that of the span
abbrev pub told_mark : Setup → Span → List Line → ℕ → spoken.Mark
told_mark u sp lines c = events.mark_of (events_in sp) c (pins_in (state_beside u lines c)) (conduct_at (first_run u) lines c)

pub run_told : (u : Setup) (sp : Span) (lines : List Line) (s : MachineSetup) → slice_index_or u.machines sp.machine None ≡ Some s
    → (c : ℕ) → IsTold (events_in sp).cut (marks_in sp u lines c) (marks_in sp u lines (suc c)).excused (told_mark u sp lines c)
unfolding conduct_before mark_of hosted_at hosted_next
run_told u sp lines s configured c =
    let d = host_of (first_run u) lines c in
    let r = run_on u lines c in
    let t = told_mark u sp lines c in
    let told = clock_told sp d r (conduct_before (first_run u) lines c) c (clock_on u lines c) (own_on u sp lines s configured c) (untold u lines sp.machine c) (pins_before (first_run u) lines c) in
    subst (λ (memory : List ℕ). IsTold (events_in sp).cut (mark_of sp memory (seen_in d r) d r.state (next d r).state) (excused_at sp (place_at (next d r).state sp.machine)) t) (memory_on u lines c) told
