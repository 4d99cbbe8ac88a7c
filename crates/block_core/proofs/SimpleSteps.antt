-- A simple clock of a block of one machine.
use Rattle.std.proofs.Common.{◌≡◌, ℕ, ◌+◌, true, false, Option, Some, None, option_map, is_none, List, refl, ap, sym, subst}
use Rattle.std.specs.Int.Bits.{or_zero_l}
use Rattle.irq_flags.specs.Flags.{merged_flags}
use Rattle.pin_matrix.specs.declared.machine.MachineSetup.{MachineSetup}
use Rattle.pin_matrix.specs.Pads as pads
use Rattle.pin_matrix.specs.Pads.{Synchroniser, seen_of}
use Rattle.sm_registers.specs.declared.outputs.Outputs.{Outputs}
use Rattle.sm_registers.specs.View.{View}
use Rattle.sm_registers.specs.Intents.{Wants, written_by}
use Rattle.dreq_pacing.specs.declared.due.Due.{Due}
use Rattle.dreq_pacing.specs.Due.{quiet}
use Rattle.block_core.specs.declared.sample.Sample.{Sample}
use Rattle.block_core.specs.Block.{Run, next_over, pads_in, stepped, uses_fifos_over}
use Rattle.block_core.specs.Kept.{are_empty}
use Rattle.block_core.specs.Merging.{nothing_wanted, with_intent}
use Rattle.block_core.specs.Leaps.{leapt_place}
use Rattle.block_core.specs.Shown.{Shows, sample_of}
use Rattle.block_core.specs.Slots.{Slot, first_slot, place_after, place_intent, place_uses_fifos, slot_after}
use Rattle.block_core.proofs.SimpleClocks.{WantsPins, uses_none}
use Rattle.block_core.proofs.Showing.{still_shows}
use Rattle.block_core.proofs.Unused.{StaysQuiet}
use Rattle.block_core.proofs.MergedWants.{IsStep, view, run, nothing_added, next_run, any_used}

-- which places are empty never changes: in a clock, over a leap, and from the setup on
pub empty_same : {A B : Type 0} (f : Option A → Option B) → ((s : Option A) → is_none s ≡ is_none (f s)) → {b c e : Option A} {s t u : Option B} → s ≡ f b → t ≡ f c → u ≡ f e → are_empty b c e ≡ are_empty s t u
empty_same f same {b} {c} {e} g h i = rw (g, h, i, same b, same c, same e) refl

pub after_is_empty : (v : View) (d : Due) (s : Option Slot) → is_none s ≡ is_none (place_after v d s)
after_is_empty v d None = refl
after_is_empty v d (Some s) = refl

pub leapt_is_empty : (n : ℕ) (s : Option Slot) → is_none s ≡ is_none (leapt_place n s)
leapt_is_empty n None = refl
leapt_is_empty n (Some s) = refl

pub first_is_empty : (m : Option MachineSetup) → is_none m ≡ is_none (option_map first_slot m)
first_is_empty None = refl
first_is_empty (Some setup) = refl

pub record AllEmpty (b c e : Option Slot) : Type 0 where
  pub second : b ≡ None
  pub third : c ≡ None
  pub fourth : e ≡ None

pub all_empty : (b c e : Option Slot) → are_empty b c e ≡ true → AllEmpty b c e
all_empty None None None h = record { second = refl; third = refl; fourth = refl }
all_empty (Some s) c e h = cc
all_empty None (Some s) e h = cc
all_empty None None (Some s) h = cc

-- an empty place stays as it is
pub stays_empty : (v : View) (d : Due) (s : Option Slot) → s ≡ None → s ≡ place_after v d s
stays_empty v d None e = refl
stays_empty v d (Some s) e = cc

-- the clock of the one machine, which wants nothing but pins
pub record IsSimple (memory : List ℕ) (levels directions flags : ℕ) (sync : Synchroniser) (pad seen : ℕ) (a a2 : Option Slot) (o : Outputs) : Type 0 where
  pub sees : seen ≡ seen_of sync.bypass pad sync.pad_2
  pub after : a2 ≡ place_after (view memory seen flags) quiet a
  pub outputs : o ≡ written_by (record { levels = levels; directions = directions }) (place_intent (view memory seen flags) quiet a)
  pub wants : WantsPins (place_intent (view memory seen flags) quiet a)

-- place by place: the others want nothing
as_step : (memory : List ℕ) (levels directions flags outside : ℕ) (sync : Synchroniser) (pad seen : ℕ) (a a2 : Option Slot) (o : Outputs) → IsSimple memory levels directions flags sync pad seen a a2 o →
    let w0 = nothing_wanted levels directions in
    let w1 = with_intent w0 (place_intent (view memory seen flags) quiet a) in
    IsStep quiet memory levels directions flags outside sync a None None None outside pad seen w0 w1 w1 w1 w1
as_step memory levels directions flags outside sync pad seen a a2 o s =
    let none = sym (nothing_added (with_intent (nothing_wanted levels directions) (place_intent (view memory seen flags) quiet a))) in record {
      driven = refl;
      sees = s.sees;
      start = refl;
      first = refl;
      second = none;
      third = none;
      fourth = none;
    }

flags_stay : (memory : List ℕ) (levels directions flags : ℕ) (sync : Synchroniser) (pad seen : ℕ) (a a2 : Option Slot) (o : Outputs) → IsSimple memory levels directions flags sync pad seen a a2 o →
    let w = with_intent (nothing_wanted levels directions) (place_intent (view memory seen flags) quiet a) in
    flags ≡ merged_flags flags w.clears w.sets
unfolding nothing_wanted with_intent
flags_stay memory levels directions flags sync pad seen a a2 o s =
    rw (ap (λ (x : Wants). x.clears) s.wants, ap (λ (x : Wants). x.sets) s.wants, or_zero_l flags) refl

outputs_of : (memory : List ℕ) (levels directions flags : ℕ) (sync : Synchroniser) (pad seen : ℕ) (a a2 : Option Slot) (o : Outputs) → IsSimple memory levels directions flags sync pad seen a a2 o →
    o ≡ (with_intent (nothing_wanted levels directions) (place_intent (view memory seen flags) quiet a)).outputs
unfolding nothing_wanted with_intent
outputs_of memory levels directions flags sync pad seen a a2 o s = s.outputs

pub simple_run : (memory : List ℕ) (clock levels directions flags outside : ℕ) (sync after : Synchroniser) (pad seen : ℕ) (a b c e a2 : Option Slot) (o : Outputs) → AllEmpty b c e → IsSimple memory levels directions flags sync pad seen a a2 o → after ≡ pads.stepped pad sync →
    run memory (clock + 1) o.levels o.directions flags outside after a2 b c e ≡ next_over pad quiet (run memory clock levels directions flags outside sync a b c e)
simple_run memory clock levels directions flags outside sync after pad seen a b c e a2 o none s y =
    let w0 = nothing_wanted levels directions in
    let w1 = with_intent w0 (place_intent (view memory seen flags) quiet a) in
    rw (none.second, none.third, none.fourth)
    (subst (λ (x : Outputs). run memory (clock + 1) x.levels x.directions flags outside after a2 None None None ≡ next_over pad quiet (run memory clock levels directions flags outside sync a None None None))
    (sym (outputs_of memory levels directions flags sync pad seen a a2 o s))
    (next_run quiet memory clock levels directions flags outside sync a None None None outside pad seen w0 w1 w1 w1 w1 flags after a2 None None None
    (as_step memory levels directions flags outside sync pad seen a a2 o s) (flags_stay memory levels directions flags sync pad seen a a2 o s) y s.after refl refl refl))

-- nobody does anything at a FIFO
place_uses_none : (v : View) (s : Option Slot) → WantsPins (place_intent v quiet s) → false ≡ place_uses_fifos v quiet s
place_uses_none v None w = refl
place_uses_none v (Some s) w = uses_none v s w

pub simple_uses_none : (memory : List ℕ) (clock levels directions flags outside : ℕ) (sync : Synchroniser) (pad seen : ℕ) (a b c e a2 : Option Slot) (o : Outputs) → AllEmpty b c e → IsSimple memory levels directions flags sync pad seen a a2 o →
    false ≡ uses_fifos_over pad quiet (run memory clock levels directions flags outside sync a b c e)
simple_uses_none memory clock levels directions flags outside sync pad seen a b c e a2 o none s =
    let w0 = nothing_wanted levels directions in
    let w1 = with_intent w0 (place_intent (view memory seen flags) quiet a) in
    rw (none.second, none.third, none.fourth)
    (any_used quiet memory clock levels directions flags outside sync a None None None outside pad seen w0 w1 w1 w1 w1 (as_step memory levels directions flags outside sync pad seen a a2 o s)
    false false false false (place_uses_none (view memory seen flags) a s.wants) refl refl refl)

-- so the sample still has what is seen of the machine
pub simple_shows : StaysQuiet → (memory : List ℕ) (levels directions flags : ℕ) (sync : Synchroniser) (pad seen : ℕ) (a a2 : Option Slot) (o : Outputs) (x : Sample) → IsSimple memory levels directions flags sync pad seen a a2 o → Shows 0 a x → Shows 0 a2 x
simple_shows law memory levels directions flags sync pad seen a a2 o x s h = subst (λ t. Shows 0 t x) (sym s.after) (from a s.wants h) where
  v : View
  v = view memory seen flags

  from : (a : Option Slot) → WantsPins (place_intent v quiet a) → Shows 0 a x → Shows 0 (place_after v quiet a) x
  from None w h = h
  from (Some t) w h = still_shows law 0 v quiet t (slot_after v quiet t) x refl (sym (uses_none v t w)) (ap (λ (x : Wants). x.sticky) w) h

-- where the sample is the one before, the pads of the next clock are those of this one
pub pads_stay : (pad : ℕ) (r after : Run) → after ≡ next_over pad quiet r → sample_of after.state ≡ sample_of r.state → pads_in quiet after.state ≡ pads_in quiet r.state
unfolding sample_of stepped
pads_stay pad r after is same =
    let levels : after.state.levels ≡ r.state.levels = ap (λ (s : Sample). s.level) same in
    let directions : after.state.directions ≡ r.state.directions = ap (λ (s : Sample). s.direction) same in
    let outside : after.state.outside ≡ r.state.outside = ap (λ (x : Run). x.state.outside) is in
    rw (levels, directions, outside) refl
