-- A closed and good table, and what the laws of the block say of a run, put together.
use Rattle.std.proofs.Common.{◌≡◌, ◌==◌, ℕ, zero, suc, ◌+◌, ◌<◌, nat_le, nat_lt, Bool, true, false, not, ◌&&◌, ◌||◌, cond, Option, Some, None, option_map, IfSome, List, [], ◌∷◌, length, unwrap_or, slice_index_or, refl, ap, sym, subst, ◌∙◌, arith, add-zero, zero-add}
use Rattle.std.proofs.lemmas.Bool.{and_parts, or_parts, and_from, eqb-true, ne_eqb}
use Rattle.std.proofs.lemmas.Bool.Decides.{nat_tests}
use Rattle.std.specs.Int.{bit_at}
use Rattle.std.specs.List.{AllByRecursion, Contains}
use Rattle.pin_matrix.specs.Followed.{followed}
use Rattle.pin_matrix.specs.Pins.{last_of}
use Rattle.pin_matrix.specs.Setups.{ids_are_places}
use Rattle.pin_matrix.specs.Spans.{is_signal, signal_bits}
use Rattle.pin_matrix.specs.declared.assume.Follow.{Follow}
use Rattle.pin_matrix.specs.declared.machine.MachineSetup.{MachineSetup}
use Rattle.pin_matrix.specs.declared.setup.Setup.{Setup}
use Rattle.pin_matrix.specs.declared.span.PinSignal.{PinSignal}
use Rattle.pin_matrix.specs.declared.span.PinSignal.TheVariants.{Level, Direction}
use Rattle.pin_matrix.specs.declared.span.Span.{Span}
use Rattle.sm_registers.specs.Intents.{two_writes}
use Rattle.sm_registers.specs.State.{first_registers}
use Rattle.dreq_pacing.specs.declared.due.Due.{Due}
use Rattle.block_core.specs.Slots.{first_slot}
use Rattle.block_core.specs.Block.{BlockState, first_state}
use Rattle.block_core.specs.Following.{Follows, place_at, intent_in, leaves, OthersLeave}
use Rattle.span_step.specs.declared.ages.Ages.{Ages}
use Rattle.span_step.specs.declared.ages.Ages.TheVariants.{Empty}
use Rattle.span_step.specs.declared.stepped.Next.{Next}
use Rattle.span_step.specs.Contexts.{Context, is_small}
use Rattle.span_step.specs.Courses.{start}
use Rattle.span_step.specs.Laws.{first_cause}
use Rattle.span_step.specs.Narrowing.{followed_to, nexts_of}
use Rattle.span_step.specs.Steps.{context_steps, period_of}
use Rattle.span_bounds.specs.declared.entry.Entry.{Entry}
use Rattle.span_bounds.specs.declared.entry.Entry.TheVariants.{Absent, Present}
use Rattle.span_bounds.specs.declared.row.Row.{Row}
use Rattle.span_bounds.specs.Numbers.{number_of}
use Rattle.span_bounds.specs.Tables.{entry_at, LiesAt, IsTable, started, start_context, AllLieIn, EachRow, IsClosed, IsGood, ages_of}
use Rattle.span_ticks.specs.Rows.{IsInRow, HasRow, IsSoundTable}
use Rattle.span_ticks.specs.UnderWay.{Covers, IsContextOf, flow_of}
use Rattle.span_ticks.specs.Following.{writes_to}
use Rattle.span_verdict.specs.Sharing.{holds, writes_pin, writes_span, may_write, shares, IsUnshared}
use Rattle.span_check.proofs.Levels.{bit-none}
use Rattle.span_check.proofs.Premises.{Laws}
use Rattle.span_check.proofs.Steps.{IsAfter}
use Rattle.span_check.proofs.Walk.{IsBeside}
use Rattle.span_check.proofs.Pacing.{IsRun}

-- a table as a function
abbrev pub rows_of : Follow → List Row → Context → Option Ages
rows_of d rows k = ages_of (entry_at d rows (number_of d k))

in-row : (a : Ages) (e : Entry) → LiesAt a e → IsInRow a (ages_of e)
in-row a Absent h = h
in-row a (Present b) h = h

present : (e : Entry) (a : Ages) → ages_of e ≡ Some a → e ≡ Present a
present Absent a h = cc
present (Present b) a h = ap (λ (x : Ages). let y : Entry = Present x in y) (ap (λ (o : Option Ages). unwrap_or o a) h)

all-in-rows : (d : Follow) (rows : List Row) (nexts : List Next) → AllLieIn d rows nexts → AllByRecursion (HasRow (rows_of d rows)) nexts
all-in-rows d rows [] h = tt
all-in-rows d rows (n ∷ nexts) h = (in-row n.ages (entry_at d rows (number_of d n.context)) h.0, all-in-rows d rows nexts h.1)

-- a fact of each row
at-row : (P : Row → Type 0) (rows : List Row) (r : Row) (k : ℕ) → EachRow P rows → k < length rows → slice_index_or rows k r ≡ r → P r
at-row P [] r k h below e = absurd (omega (arith, below))
at-row P (x ∷ rows) r zero h below e = subst P e h.0
at-row P (x ∷ rows) r (suc k) h below e = at-row P rows r k h.1 (omega (arith, below)) e

of-row : (P : Row → Type 0) (rows : List Row) (r : Row) → EachRow P rows → Contains rows r → P r
of-row P rows r h c = at-row P rows r c.0 h c.1 c.2

pub sound_table : (laws : Laws) (u : Setup) (sp : Span) (rows : List Row) → IsTable (followed sp) rows → IsClosed u sp rows → IsGood u sp rows → IsSoundTable u sp (rows_of (followed sp) rows)
sound_table laws u sp rows table closed good = record {
  row = λ k a placed h.
      let d : Follow = followed sp in
      let there = laws.entries d rows k a table placed (present (entry_at d rows (number_of d k)) a h) in
      record {
        closed = all-in-rows d rows _ (of-row (λ r. AllLieIn d rows (nexts_of (context_steps u sp r.context r.ages))) rows _ closed.steps there);
        good = of-row (λ r. first_cause (context_steps u sp r.context r.ages).causes ≡ None) rows _ good there;
      };
}

-- a machine that may not write the span's pins leaves them
leaves-level : (out set dirs side : Bool) → (out || (set || (is_signal (cond {A = PinSignal} dirs Direction Level) (Some Level) && side))) ≡ false → (not out && (not set && (dirs || not side))) ≡ true
leaves-level true set dirs side h = cc
leaves-level false true dirs side h = cc
leaves-level false false true side h = refl
leaves-level false false false true h = cc
leaves-level false false false false h = refl

leaves-direction : (out set dirs side : Bool) → (out || (set || (is_signal (cond {A = PinSignal} dirs Direction Level) (Some Direction) && side))) ≡ false → (not out && (not set && (not dirs || not side))) ≡ true
leaves-direction true set dirs side h = cc
leaves-direction false true dirs side h = cc
leaves-direction false false false side h = refl
leaves-direction false false true true h = cc
leaves-direction false false true false h = refl

-- what is watched of the pin is what the span watches of one of its own
may-not : (p : ℕ) (signal : PinSignal) (sp : Span) (m : Option MachineSetup) → ((s : MachineSetup) → writes_span s sp ≡ false → writes_pin s (Some signal) p ≡ false) → may_write m sp ≡ false → IfSome m (λ s. leaves p signal s ≡ true)
may-not p signal sp None of h = tt
may-not p Level sp (Some s) of h = leaves-level (holds s.out p) (holds s.set p) s.side_rule.pindirs (holds s.side p) (of s h)
may-not p Direction sp (Some s) of h = leaves-direction (holds s.out p) (holds s.set p) s.side_rule.pindirs (holds s.side p) (of s h)

not-shared : (u : Setup) (sp : Span) → IsUnshared u sp → (m : ℕ) → (m ≡ sp.machine → ⊥) → may_write (slice_index_or u.machines m None) sp ≡ false
unfolding shares
not-shared u sp h m apart = by (m == sp.machine) (ne_eqb m sp.machine apart) (h m) where
  by : (own : Bool) → own ≡ false → (not own && may_write (slice_index_or u.machines m None) sp) ≡ false → may_write (slice_index_or u.machines m None) sp ≡ false
  by true e f = cc
  by false e f = f

-- the other machines leave the watched signal of a pin, if one is watched
abbrev pub LeaveWatched : Option PinSignal → (id p : ℕ) → List (Option MachineSetup) → Type 0
LeaveWatched watched id p machines = IfSome watched (λ signal. OthersLeave signal id p machines)

others-leave : (u : Setup) (sp : Span) → IsUnshared u sp → (watched : Option PinSignal) (p : ℕ) → ((s : MachineSetup) → writes_span s sp ≡ false → writes_pin s watched p ≡ false) → LeaveWatched watched sp.machine p u.machines
others-leave u sp h None p of = tt
others-leave u sp h (Some signal) p of = λ m apart. may-not p signal sp (slice_index_or u.machines m None) of (not-shared u sp h m apart)

pub others-leave-from : (u : Setup) (sp : Span) → IsUnshared u sp → LeaveWatched sp.from_signal sp.machine sp.from_pin u.machines
others-leave-from u sp h = others-leave u sp h sp.from_signal sp.from_pin (λ s e. (or_parts (writes_pin s sp.from_signal sp.from_pin) (writes_pin s sp.to_signal sp.to_pin) e).0)

pub others-leave-to : (u : Setup) (sp : Span) → IsUnshared u sp → LeaveWatched sp.to_signal sp.machine sp.to_pin u.machines
others-leave-to u sp h = others-leave u sp h sp.to_signal sp.to_pin (λ s e. (or_parts (writes_pin s sp.from_signal sp.from_pin) (writes_pin s sp.to_signal sp.to_pin) e).1)

-- the machine's number is that of its place
place_id : (place i : ℕ) (machines : List (Option MachineSetup)) (s : MachineSetup) → ids_are_places place machines ≡ true → slice_index_or machines i None ≡ Some s → s.id ≡ place + i
place_id place i [] s h e = cc
place_id place zero (None ∷ machines) s h e = cc
place_id place zero (Some m ∷ machines) s h e =
    let same : m ≡ s = ap (λ (o : Option MachineSetup). unwrap_or o m) e in
    let id : m.id ≡ place = eqb-true m.id place (and_parts (m.id == place) (ids_are_places (place + 1) machines) h).0 in
    ap (λ (x : MachineSetup). x.id) (sym same) ∙ id ∙ sym (add-zero place)
place_id place (suc i) (None ∷ machines) s h e = place_id (place + 1) i machines s h e ∙ on where
  on : place + 1 + i ≡ place + suc i
  on = omega arith
place_id place (suc i) (Some m ∷ machines) s h e = place_id (place + 1) i machines s (and_parts (m.id == place) (ids_are_places (place + 1) machines) h).1 e ∙ on where
  on : place + 1 + i ≡ place + suc i
  on = omega arith

-- the start of a table agrees with the machine
known_covers : (most n : ℕ) → Covers (followed_to most (Some n)) n
known_covers most n = by (nat_le n most) where
  by : (b : Bool) → Covers (cond b (Some n) None) n
  by true = refl
  by false = tt

known_small : (most n : ℕ) → is_small most (followed_to most (Some n)) ≡ true
known_small most n = by (nat_le n most) refl where
  by : (b : Bool) → nat_le n most ≡ b → is_small most (cond b (Some n) None) ≡ true
  by true e = e
  by false e = refl

start-agrees : (u : Setup) (sp : Span) (s : MachineSetup) → IsContextOf sp (started (Some s) u sp) (flow_of (first_registers s))
start-agrees u sp s = record {
  placed = and_from _ _ below (and_from _ _ (known_small (followed sp).x s.x) (known_small (followed sp).y s.y));
  address = refl;
  x = known_covers (followed sp).x s.x;
  y = known_covers (followed sp).y s.y;
} where
  below : nat_lt s.start 32 ≡ true
  below = grind (arith, nat_tests, s.start_in_memory)

-- in a run of a setup, for a span whose pins no other machine may write
module _ (laws : Laws) (u : Setup) (sp : Span) (s : MachineSetup) (configured : slice_index_or u.machines sp.machine None ≡ Some s) (alone : IsUnshared u sp) (seen : ℕ → ℕ) (host : ℕ → Due) (states : ℕ → BlockState) (begins : states 0 ≡ first_state u) (follows : Follows u.memory seen host states) where
  -- what is watched of a pin that is the machine's alone
  own-signal : (signal : Option PinSignal) (p : ℕ) → p < 32 → LeaveWatched signal sp.machine p u.machines → (c : ℕ)
      → bit_at (signal_bits signal (states (suc c)).levels (states (suc c)).directions) p
      ≡ last_of p (bit_at (signal_bits signal (states c).levels (states c).directions) p) (two_writes (writes_to signal (intent_in u.memory (seen c) (host c) (states c) sp.machine)))
  own-signal None p inside others c = bit-none p
  own-signal (Some Level) p inside others c = laws.own_levels u u.memory seen host states begins follows sp.machine p inside others c
  own-signal (Some Direction) p inside others c = laws.own_directions u u.memory seen host states begins follows sp.machine p inside others c

  after-each : (c : ℕ) → IsAfter sp u.memory (seen c) (host c) (states c) (states (suc c))
  after-each c = record {
    place = laws.places_go_on u.memory seen host states follows c sp.machine;
    from = own-signal sp.from_signal sp.from_pin sp.from_pin_is_a_pin (others-leave-from u sp alone) c;
    to = own-signal sp.to_signal sp.to_pin sp.to_pin_is_a_pin (others-leave-to u sp alone) c;
  }

  first-place : place_at (states 0) sp.machine ≡ Some (first_slot s)
  first-place =
      ap (λ (x : BlockState). place_at x sp.machine) begins ∙ laws.places_start u sp.machine sp.machine_in_block ∙ ap (option_map first_slot) configured

  pub beside : (rows : List Row) → IsSoundTable u sp (rows_of (followed sp) rows) → LiesAt Empty (entry_at (followed sp) rows (number_of (followed sp) (start_context u sp))) → IsBeside u sp (rows_of (followed sp) rows) s seen host states
  unfolding start_context
  beside rows sound at_start =
      let d : Follow = followed sp in
      let k : Context = started (Some s) u sp in
      let same : started (slice_index_or u.machines sp.machine None) u sp ≡ k = ap (λ m. started m u sp) configured in
      let row : IsInRow Empty (rows_of d rows k) = in-row Empty _ (subst (λ x. LiesAt Empty (entry_at d rows (number_of d x))) same at_start) in
      record {
        configured = configured;
        sound = sound;
        m = first_slot s;
        w = start false k Empty;
        start = record {
          slot = first-place;
          setup = refl;
          under_way = laws.begins u sp (rows_of d rows) s k configured sound (start-agrees u sp s) row;
          from = rw begins refl;
          to = rw begins refl;
        };
        after = after-each;
      }

  pub run_of : IsRun sp (period_of s) u.memory seen host states
  run_of = record {
    m = first_slot s;
    slot = first-place;
    id = place_id 0 sp.machine u.machines s u.at_their_places configured ∙ zero-add sp.machine;
    clock = refl;
    period_is = refl;
    after = after-each;
  }
