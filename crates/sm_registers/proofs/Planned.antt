-- That a plan does what its act does.
use Rattle.std.proofs.Common.{◌≡◌, false, Some, refl}
use Rattle.pio_encode.specs.declared.act.Act.{Act}
use Rattle.pio_encode.specs.declared.act.Act.TheVariants as act
use Rattle.pio_encode.specs.declared.act.Condition.TheVariants as condition
use Rattle.pio_encode.specs.declared.act.SetDestination.TheVariants as set_destination
use Rattle.pin_matrix.specs.declared.machine.MachineSetup.{MachineSetup}
use Rattle.sm_registers.specs.declared.plan.Plan.{Plan}
use Rattle.sm_registers.specs.declared.plan.Plan.TheVariants.{Jump, CountX, CountY, Set, Out, Other, Whole}
use Rattle.sm_registers.specs.declared.registers.Registers.{Registers}
use Rattle.sm_registers.specs.View.{View}
use Rattle.sm_registers.specs.Effects.{Effect, finished, jmp_effect, out_effect, set_effect, bits_out_to, effect_of}
use Rattle.sm_registers.specs.Plans.{plan_of}
use Rattle.sm_registers.specs.Queues.{Queues}

-- what a plan of its own says of the effect
abbrev pub HasEffect : Plan → MachineSetup → View → Registers → Effect → Type 0
HasEffect (Jump target) s v r e = record (finished r) { jump = Some target } ≡ e
HasEffect (CountX target) s v r e = jmp_effect condition.XDecrement target s v r ≡ e
HasEffect (CountY target) s v r e = jmp_effect condition.YDecrement target s v r ≡ e
HasEffect (Set pins bits) s v r e = record (finished r) { level = (pins, bits) } ≡ e
HasEffect (Out destination count) s v r e = bits_out_to destination count s r ≡ e
HasEffect Other s v r e = Unit
HasEffect Whole s v r e = Unit

pub has_effect : (s : MachineSetup) (a : Act) (v : View) (q : Queues) (r : Registers) → s.autopull ≡ false → HasEffect (plan_of s a) s v r (effect_of a s v q r)
unfolding effect_of jmp_effect out_effect set_effect
has_effect s (act.Jmp condition.Always target) v q r h = refl
has_effect s (act.Jmp condition.XZero target) v q r h = tt
has_effect s (act.Jmp condition.XDecrement target) v q r h = refl
has_effect s (act.Jmp condition.YZero target) v q r h = tt
has_effect s (act.Jmp condition.YDecrement target) v q r h = refl
has_effect s (act.Jmp condition.XNotY target) v q r h = tt
has_effect s (act.Jmp condition.Pin target) v q r h = tt
has_effect s (act.Jmp condition.OsrNotEmpty target) v q r h = tt
has_effect s (act.Wait polarity source index) v q r h = tt
has_effect s (act.In source n) v q r h = tt
has_effect s (act.Out destination n) v q r h = rw h refl
has_effect s (act.Push if_full block) v q r h = tt
has_effect s (act.Pull if_empty block) v q r h = tt
has_effect s (act.Mov destination operation source) v q r h = tt
has_effect s (act.Irq clear waits index) v q r h = tt
has_effect s (act.Set set_destination.Pins value) v q r h = refl
has_effect s (act.Set set_destination.X value) v q r h = tt
has_effect s (act.Set set_destination.Y value) v q r h = tt
has_effect s (act.Set set_destination.Pindirs value) v q r h = tt
has_effect s act.Nothing v q r h = tt
