-- What is told of a clock says whether the machine misses what a span assumes in it, and when its delay is over.
use Rattle.std.proofs.Common.{◌≡◌, ℕ, Bool, true, false, cond, not, ◌&&◌, Option, Some, None, List, refl, sym, ap, ap₂, subst, ◌∙◌}
use Rattle.pin_matrix.specs.Assumptions.{keeps}
use Rattle.pin_matrix.specs.declared.span.Span.{Span}
use Rattle.dreq_pacing.specs.declared.due.Due.{Due}
use Rattle.block_core.specs.declared.conduct.Conduct.{Conduct}
use Rattle.block_core.specs.declared.conduct.MachineConduct.{MachineConduct}
use Rattle.sm_registers.specs.View.{View}
use Rattle.block_core.specs.Block.{BlockState, Run, next, seen_in, view_of}
use Rattle.block_core.specs.Conduct.{conduct_after, conduct_in, is_noted, machine_conduct, rests_in}
use Rattle.block_core.specs.Following.{place_at}
use Rattle.block_core.specs.Slots.{Slot, place_after, slot_after, slot_intent}
use Rattle.span_ticks.specs.Following.{finishes, works}
use Rattle.span_check.specs.Marks.{Mark, is_rested, keeps_at, mark_of}
use Rattle.span_meter.specs.Assumed.{misses}
use Rattle.span_meter.specs.Events.{conduct_of}
use Rattle.span_seen.proofs.Delays.{is_at_rest, left_in, stays_told}
use Rattle.span_seen.proofs.Telling.{IsOwn, clock_mark, ends_same, is_quiet, none_ends, noted_machine, place_next}

-- the mark of a span whose machine this is
own_misses : (sp : Span) (memory : List ℕ) (seen : ℕ) (d : Due) (b a : BlockState) (s : Slot) → place_at b sp.machine ≡ Some s
    → let i = slot_intent (view_of memory seen b) d s in
    (mark_of sp memory seen d b a).misses ≡ (finishes (works i.kind s.machine.registers.pending) i.stalled && not (keeps_at sp s.machine.registers.pc (place_at a sp.machine)))
unfolding mark_of
own_misses sp memory seen d b a s place = rw place refl

own_rested : (sp : Span) (memory : List ℕ) (seen : ℕ) (d : Due) (b a : BlockState) → (mark_of sp memory seen d b a).rested ≡ is_rested (place_at a sp.machine)
unfolding mark_of
own_rested sp memory seen d b a = refl

-- What is told of a clock of the machine's delay: of a clock of note whether an assumption was missed in it, and the end of the delay;
-- of another one nothing, and none was missed, and the end stays as it was told.
abbrev pub Tells : Span → (clock : ℕ) → Mark → (before after : Slot) → Option MachineConduct → Type 0
Tells sp clock m before after None = (m.misses ≡ false) × (is_at_rest before ≡ false → rests_in clock after ≡ left_in before)
Tells sp clock m before after (Some c) = (misses sp.assume c ≡ m.misses) × (c.rests ≡ rests_in clock after)

noted_misses : (sp : Span) (d : Due) (r : Run) (s : Slot) → place_at r.state sp.machine ≡ Some s
    → misses sp.assume (machine_conduct r.clock (view_of r.memory (seen_in d r) r.state) d s) ≡ (clock_mark sp d r).misses
unfolding machine_conduct
noted_misses sp d r s place =
    let v = view_of r.memory (seen_in d r) r.state in
    let i = slot_intent v d s in
    let pc = s.machine.registers.pc in
    let after = slot_after v d s in
    let w = works i.kind s.machine.registers.pending in
    let keep : keeps sp.assume pc after.machine.registers.x after.machine.registers.y ≡ keeps_at sp pc (place_at (next d r).state sp.machine) =
    ap (keeps_at sp pc) (sym (place_next d r sp.machine ∙ ap (place_after v d) place)) in
    ap₂ (λ (b c : Bool). b && not c) (ends_same i.kind s.machine.registers.pending i.stalled) keep
    ∙ sym (own_misses sp r.memory (seen_in d r) d r.state (next d r).state s place)

noted_rests : (clock : ℕ) (v : View) (d : Due) (s : Slot) → (machine_conduct clock v d s).rests ≡ rests_in clock (slot_after v d s)
unfolding machine_conduct
noted_rests clock v d s = refl

noted : (sp : Span) (d : Due) (r : Run) (c : ℕ) → r.clock ≡ c → (own : IsOwn r.state sp.machine c)
    → Tells sp c (clock_mark sp d r) own.slot (slot_after (view_of r.memory (seen_in d r) r.state) d own.slot) (conduct_of c sp.machine (conduct_in d r))
noted sp d r c at own =
    let v = view_of r.memory (seen_in d r) r.state in
    let s = own.slot in
    let after = slot_after v d s in
    subst (Tells sp c (clock_mark sp d r) s after) (sym (noted_machine sp d r c s at own.place))
    (noted_misses sp d r s own.place, noted_rests r.clock v d s ∙ ap (λ (k : ℕ). rests_in k after) at)

unnoted : (sp : Span) (d : Due) (r : Run) (last : Conduct) (c : ℕ) → (own : IsOwn r.state sp.machine c) → conduct_of c sp.machine last ≡ None → is_noted d r ≡ false
    → Tells sp c (clock_mark sp d r) own.slot (slot_after (view_of r.memory (seen_in d r) r.state) d own.slot) (conduct_of c sp.machine last)
unnoted sp d r last c own past calm =
    let v = view_of r.memory (seen_in d r) r.state in
    let s = own.slot in
    let q = is_quiet d r sp.machine s own.place calm in
    let after = slot_after v d s in
    let none = none_ends v d s q.ends in
    subst (Tells sp c (clock_mark sp d r) s after) (sym past) (
      own_misses sp r.memory (seen_in d r) d r.state (next d r).state s own.place ∙ ap (λ (b : Bool). b && not (keeps_at sp s.machine.registers.pc (place_at (next d r).state sp.machine))) none,
      λ more. stays_told v d s c own.clock_is q.lined more,
    )

pub end_told : (sp : Span) (d : Due) (r : Run) (last : Conduct) (c : ℕ) → r.clock ≡ c → (own : IsOwn r.state sp.machine c) → conduct_of c sp.machine last ≡ None
    → Tells sp c (clock_mark sp d r) own.slot (slot_after (view_of r.memory (seen_in d r) r.state) d own.slot) (conduct_of c sp.machine (conduct_after d r last))
end_told sp d r last c at own past = on (is_noted d r) refl where
  on : (b : Bool) → is_noted d r ≡ b
      → Tells sp c (clock_mark sp d r) own.slot (slot_after (view_of r.memory (seen_in d r) r.state) d own.slot) (conduct_of c sp.machine (cond b (conduct_in d r) last))
  on true e = noted sp d r c at own
  on false e = unnoted sp d r last c own past e

-- after the clock no delay is left, or one is
pub rest_told : (sp : Span) (d : Due) (r : Run) (c : ℕ) → (own : IsOwn r.state sp.machine c)
    → (clock_mark sp d r).rested ≡ is_at_rest (slot_after (view_of r.memory (seen_in d r) r.state) d own.slot)
rest_told sp d r c own =
    let v = view_of r.memory (seen_in d r) r.state in
    own_rested sp r.memory (seen_in d r) d r.state (next d r).state ∙ ap is_rested (place_next d r sp.machine ∙ ap (place_after v d) own.place)
