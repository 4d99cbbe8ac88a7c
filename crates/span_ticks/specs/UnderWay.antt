-- Where a machine is on its way through the rows of a table.
--   Watch            what is known in the middle of a course
--   Flow             what of a machine's registers the checker follows
--   is_excused_in    a machine stands so that its span doesn't speak of the from-events before
--   Covers           what is known of X or Y agrees with it
--   IsContextOf      a context agrees with a machine
--   IsResting        at an instruction, or in the delay before it
--   IsBegun          at an instruction that has stalled
--   IsUnderWay       either
use Rattle.std.specs.Prelude.{◌≡◌, ℕ, ◌⊎◌, ◌==◌, Bool, true, false, not, ◌&&◌, Option, Some, None, is_some, slice_index}
use Rattle.pio_encode.specs.declared.op.Op.{Op}
use Rattle.pio_encode.specs.Word.{reading_of}
use Rattle.pin_matrix.specs.Followed as span
use Rattle.pin_matrix.specs.declared.machine.MachineSetup.{MachineSetup}
use Rattle.pin_matrix.specs.declared.setup.Setup.{Setup}
use Rattle.pin_matrix.specs.declared.span.Span.{Span}
use Rattle.sm_registers.specs.declared.registers.Registers.{Registers}
use Rattle.span_step.specs.declared.ages.Ages.{Ages}
use Rattle.span_step.specs.declared.ages.Ages.TheVariants.{Empty}
use Rattle.span_step.specs.Contexts.{Context, is_placed}
use Rattle.span_step.specs.Outcomes.{may_stall}
use Rattle.span_step.specs.Courses.{watched, followed, start, delay_ticks}
use Rattle.span_step.specs.Laws.{first_cause}
use Rattle.span_step.specs.Steps.{rules_of, side_of, is_left_out, is_excused}
use Rattle.span_ticks.specs.Rows.{IsInRow}

-- the type of a function's values
abbrev pub ValueOf : {A B : Type 0} → (A → B) → Type 0
ValueOf {A} {B} f = B

-- What is known in the middle of a course: what is watched of the span's pins, the ages of its open from-events, and the causes so
-- far. It is what a course starts with; its crate gives the type no name to others.
abbrev pub Watch : Type 0
Watch = ValueOf (λ (k : Context). start false k Empty)

-- What of a machine's registers the checker follows: PC, X and Y, the ticks of delay that are left, the pending word, and
-- whether the instruction has begun. The shift registers and their counts are not among them.
pub record Flow : Type 0 where
  pub pc : ℕ
  pub x : ℕ
  pub y : ℕ
  pub delay : ℕ
  pub pending : Option ℕ
  pub begun : Bool

-- that of registers
abbrev pub flow_of : Registers → Flow
flow_of r = record { pc = r.pc; x = r.x; y = r.y; delay = r.delay; pending = r.pending; begun = r.begun }

-- a machine comes to the instruction in memory at PC next: no delay is left, no word is pending, and none has begun
abbrev pub stands_before : Flow → Bool
stands_before f = f.delay == 0 && (not (is_some f.pending) && not f.begun)

-- A machine waits at an address that its span doesn't name, where the span speaks of none that waits; or it comes to one next
-- through which ways are left out.
abbrev pub is_excused_in : Span → Flow → Bool
is_excused_in sp f = is_excused sp f.pc f.begun (stands_before f)

-- what is known of X or Y, if anything, is its value
abbrev pub Covers : Option ℕ → ℕ → Type 0
Covers None n = Unit {0}
Covers (Some known) n = n ≡ known

-- A context is in range and agrees with a machine: its address is PC, and what it knows of X and Y is so. In a delay PC, X and
-- Y are already those of the instruction after it.
pub record IsContextOf (sp : Span) (k : Context) (f : Flow) : Type 0 where
  pub placed : is_placed (span.followed sp) k.address k.x k.y ≡ true
  pub address : k.address ≡ f.pc
  pub x : Covers k.x f.x
  pub y : Covers k.y f.y

-- what is known after the rest of a delay; the rules of each address say the same of it, since no tick of a delay is late or has an
-- event
abbrev pub rested : MachineSetup → Span → Flow → Watch → Watch
rested s sp f w = followed (rules_of s sp f.pc) (delay_ticks f.delay) w

-- after the rest of the delay the machine is at a context whose row has the ages
pub record IsAtRow (sp : Span) (rows : Context → Option Ages) (s : MachineSetup) (f : Flow) (w : Watch) : Type 0 where
  pub context : Context
  pub agrees : IsContextOf sp context f
  pub from : context.from ≡ (rested s sp f w).from
  pub to : context.to ≡ (rested s sp f w).to
  pub row : IsInRow (rested s sp f w).ages (rows context)

-- At an instruction whose word is in memory, or in the delay before it: after the rest of the delay there is no cause. Where the
-- instruction before left X and Y as the span assumes the machine is then at a row; else there is still a delay.
pub record IsResting (sp : Span) (rows : Context → Option Ages) (s : MachineSetup) (kept : Bool) (f : Flow) (w : Watch) : Type 0 where
  pub pending : f.pending ≡ None
  pub begun : f.begun ≡ false
  pub good : first_cause (rested s sp f w).causes ≡ None
  pub comes : kept ≡ true → IsAtRow sp rows s f w
  pub delayed : kept ≡ false → f.delay ≡ 0 → ⊥

-- the instruction at an address
abbrev pub op_at : Setup → MachineSetup → ℕ → Op
op_at u s address = reading_of (slice_index u.memory address) s.side_rule

-- what is known after the first tick of a row's delayed course, which is side-set's alone
abbrev pub stalled_from : Setup → Span → MachineSetup → Context → Ages → Watch
stalled_from u sp s k a =
    let side = side_of s sp (op_at u s k.address).side in
    watched (rules_of s sp k.address) (start (is_left_out sp k.address) k a) (record { late = false; finishes = false; from = side.from; to = side.to })

-- At an instruction that may stall, and has: the first tick of its row's delayed course is over.
pub record IsBegun (u : Setup) (sp : Span) (rows : Context → Option Ages) (s : MachineSetup) (f : Flow) (w : Watch) : Type 0 where
  pub pending : f.pending ≡ None
  pub begun : f.begun ≡ true
  pub delay : f.delay ≡ 0
  pub context : Context
  pub ages : Ages
  pub agrees : IsContextOf sp context f
  pub row : rows context ≡ Some ages
  pub stalls : may_stall (op_at u s context.address).act s ≡ true
  pub watch : w ≡ stalled_from u sp s context ages

-- What is known in the middle of a course is so of a machine: what remains of the course lies before it, and ends in a row, where
-- the last instruction left X and Y as the span assumes.
abbrev pub IsUnderWay : Setup → Span → (Context → Option Ages) → MachineSetup → (kept : Bool) → Flow → Watch → Type 0
IsUnderWay u sp rows s kept f w = IsResting sp rows s kept f w ⊎ ((kept ≡ true) × IsBegun u sp rows s f w)
