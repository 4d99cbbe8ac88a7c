-- Where a machine goes on after an instruction that sets neither PC nor the next instruction from data.
use Rattle.std.proofs.Common.{◌≡◌, ◌∙◌, ℕ, ◌^◌, Bool, true, false, cond, Option, Some, None, bit_or, refl, ap, rules}
use Rattle.pio_encode.specs.declared.act.Act.{Act}
use Rattle.pio_encode.specs.declared.act.Act.TheVariants.{Jmp, Wait, In, Out, Push, Pull, Mov, Irq, Set, Nothing}
use Rattle.pio_encode.specs.declared.act.Condition.{Condition}
use Rattle.pio_encode.specs.declared.act.Condition.TheVariants as condition
use Rattle.pio_encode.specs.declared.act.OutDestination.{OutDestination}
use Rattle.pio_encode.specs.declared.act.OutDestination.TheVariants as out_destination
use Rattle.pio_encode.specs.declared.act.MovDestination.{MovDestination}
use Rattle.pio_encode.specs.declared.act.MovDestination.TheVariants as mov_destination
use Rattle.pio_encode.specs.declared.act.SetDestination.{SetDestination}
use Rattle.pio_encode.specs.declared.act.SetDestination.TheVariants as set_destination
use Rattle.pin_matrix.specs.declared.machine.MachineSetup.{MachineSetup}
use Rattle.sm_registers.specs.declared.registers.Registers.{Registers}
use Rattle.sm_registers.specs.View.{View}
use Rattle.sm_registers.specs.Queues.{Queues}
use Rattle.sm_registers.specs.Effects.{Effect, jumps, counted_down, autopushed, with_bits_in, with_bits_out, out_to, pulled, mov_to, jmp_effect, wait_effect, in_effect, out_effect, push_effect, pull_effect, mov_effect, irq_effect, set_effect, effect_of, in_word}
use Rattle.block_shares.specs.Acts.{has, leads_to, jump_leads_to, is_wild, is_wild_out, is_wild_mov}
use Rattle.block_isolation.proofs.Bits.{has_own, has_or_left, has_or_right}

-- registers with PC and the pending word of others
pub record HasPlaceOf (r x : Registers) : Type 0 where
  pub pc : x.pc ≡ r.pc
  pub pending : x.pending ≡ r.pending

-- an effect that neither jumps nor makes a word pending
pub record KeepsPlace (r : Registers) (e : Effect) : Type 0 where
  pub jump : e.jump ≡ None
  pub pending : e.pending ≡ None
  pub registers : HasPlaceOf r e.registers

stays_if : (b : Bool) (r : Registers) (x y : Effect) → KeepsPlace r x → KeepsPlace r y → KeepsPlace r (cond b x y)
stays_if true r x y h k = h
stays_if false r x y h k = k

place_if : (b : Bool) (r x y : Registers) → HasPlaceOf r x → HasPlaceOf r y → HasPlaceOf r (cond b x y)
place_if true r x y h k = h
place_if false r x y h k = k

stays : (r : Registers) (e : Effect) → e.jump ≡ None → e.pending ≡ None → e.registers.pc ≡ r.pc → e.registers.pending ≡ r.pending → KeepsPlace r e
stays r e h k l m = record { jump = h; pending = k; registers = record { pc = l; pending = m } }

stays_autopushed : (s : MachineSetup) (q : Queues) (r x : Registers) → HasPlaceOf r x → KeepsPlace r (autopushed s q x)
stays_autopushed s q r x h = search (rules, stays_if)

in_place : (b : Bool) (w n : ℕ) (s : MachineSetup) (r : Registers) → HasPlaceOf r (cond b r (with_bits_in w n s r))
in_place true w n s r = record { pc = refl; pending = refl }
in_place false w n s r = record { pc = refl; pending = refl }

stays_out_to : (d : OutDestination) (value n k : ℕ) (s : MachineSetup) (r : Registers) → is_wild_out d ≡ false → KeepsPlace r (out_to d value n s (with_bits_out k s r))
stays_out_to out_destination.Pins value n k s r h = stays r _ refl refl refl refl
stays_out_to out_destination.X value n k s r h = stays r _ refl refl refl refl
stays_out_to out_destination.Y value n k s r h = stays r _ refl refl refl refl
stays_out_to out_destination.Null value n k s r h = stays r _ refl refl refl refl
stays_out_to out_destination.Pindirs value n k s r h = stays r _ refl refl refl refl
stays_out_to out_destination.Pc value n k s r h = cc
stays_out_to out_destination.Isr value n k s r h = stays r _ refl refl refl refl
stays_out_to out_destination.Exec value n k s r h = cc

stays_mov_to : (d : MovDestination) (value : ℕ) (s : MachineSetup) (r : Registers) → is_wild_mov d ≡ false → KeepsPlace r (mov_to d value s r)
stays_mov_to mov_destination.Pins value s r h = stays r _ refl refl refl refl
stays_mov_to mov_destination.X value s r h = stays r _ refl refl refl refl
stays_mov_to mov_destination.Y value s r h = stays r _ refl refl refl refl
stays_mov_to mov_destination.Exec value s r h = cc
stays_mov_to mov_destination.Pc value s r h = cc
stays_mov_to mov_destination.Isr value s r h = stays r _ refl refl refl refl
stays_mov_to mov_destination.Osr value s r h = stays r _ refl refl refl refl

stays_set : (d : SetDestination) (value : ℕ) (s : MachineSetup) (r : Registers) → KeepsPlace r (set_effect d value s r)
unfolding set_effect
stays_set set_destination.Pins value s r = stays r _ refl refl refl refl
stays_set set_destination.X value s r = stays r _ refl refl refl refl
stays_set set_destination.Y value s r = stays r _ refl refl refl refl
stays_set set_destination.Pindirs value s r = stays r _ refl refl refl refl

stays_pulled : (front : Option ℕ) (block : Bool) (r : Registers) → KeepsPlace r (pulled front block r)
stays_pulled None block r = search (rules, stays_if, stays)
stays_pulled (Some word) block r = stays r _ refl refl refl refl

-- where PC goes: to the jump's target, else to the next address
abbrev pub target : ℕ → Option ℕ → ℕ
target next None = next
target next (Some address) = address

-- An effect goes where its instruction leads, and makes no word pending.
pub record IsTameEffect (act : Act) (next : ℕ) (r : Registers) (e : Effect) : Type 0 where
  pub goes : has (leads_to act next) (target next e.jump) ≡ true
  pub pending : e.pending ≡ None
  pub registers : HasPlaceOf r e.registers

-- one that keeps its place goes to the next address
from_stays : (act : Act) (next : ℕ) (r : Registers) (e : Effect) → has (leads_to act next) next ≡ true → KeepsPlace r e → IsTameEffect act next r e
from_stays act next r e h p = record {
  goes = ap (λ (j : Option ℕ). has (leads_to act next) (target next j)) p.jump ∙ h;
  pending = p.pending;
  registers = p.registers;
}

counted_place : (c : Condition) (r : Registers) → HasPlaceOf r (counted_down c r)
counted_place condition.Always r = record { pc = refl; pending = refl }
counted_place condition.XZero r = record { pc = refl; pending = refl }
counted_place condition.XDecrement r = record { pc = refl; pending = refl }
counted_place condition.YZero r = record { pc = refl; pending = refl }
counted_place condition.YDecrement r = record { pc = refl; pending = refl }
counted_place condition.XNotY r = record { pc = refl; pending = refl }
counted_place condition.Pin r = record { pc = refl; pending = refl }
counted_place condition.OsrNotEmpty r = record { pc = refl; pending = refl }

either_way : (b : Bool) (address next : ℕ) → has (bit_or (2 ^ next) (2 ^ address)) (target next (cond b (Some address) None)) ≡ true
either_way true address next = has_or_right (2 ^ next) (2 ^ address) address (has_own address)
either_way false address next = has_or_left (2 ^ next) (2 ^ address) next (has_own next)

jump_goes : (c : Condition) (address next : ℕ) (s : MachineSetup) (v : View) (r : Registers) → has (jump_leads_to c address next) (target next (cond (jumps c s v r) (Some address) None)) ≡ true
jump_goes condition.Always address next s v r = has_own address
jump_goes condition.XZero address next s v r = either_way (jumps condition.XZero s v r) address next
jump_goes condition.XDecrement address next s v r = either_way (jumps condition.XDecrement s v r) address next
jump_goes condition.YZero address next s v r = either_way (jumps condition.YZero s v r) address next
jump_goes condition.YDecrement address next s v r = either_way (jumps condition.YDecrement s v r) address next
jump_goes condition.XNotY address next s v r = either_way (jumps condition.XNotY s v r) address next
jump_goes condition.Pin address next s v r = either_way (jumps condition.Pin s v r) address next
jump_goes condition.OsrNotEmpty address next s v r = either_way (jumps condition.OsrNotEmpty s v r) address next

pub tame_effect : (act : Act) (next : ℕ) (s : MachineSetup) (v : View) (q : Queues) (r : Registers) → is_wild act ≡ false → IsTameEffect act next r (effect_of act s v q r)
unfolding effect_of jmp_effect wait_effect in_effect out_effect push_effect pull_effect mov_effect irq_effect
tame_effect (Jmp c address) next s v q r tame = record { goes = jump_goes c address next s v r; pending = refl; registers = counted_place c r }
tame_effect (Wait polarity source index) next s v q r tame = from_stays (Wait polarity source index) next r _ (has_own next) (search (rules, stays_if, stays))
tame_effect (In source n) next s v q r tame = from_stays (In source n) next r _ (has_own next) (stays_autopushed s q r _ (in_place r.begun (in_word source s v r) n s r))
tame_effect (Out d n) next s v q r tame = from_stays (Out d n) next r _ (has_own next) (search (rules, stays_if, stays, stays_out_to, tame))
tame_effect (Push if_full block) next s v q r tame = from_stays (Push if_full block) next r _ (has_own next) (search (rules, stays_if, stays) depth 20)
tame_effect (Pull if_empty block) next s v q r tame = from_stays (Pull if_empty block) next r _ (has_own next) (search (rules, stays_if, stays, stays_pulled) depth 20)
tame_effect (Mov d o source) next s v q r tame = from_stays (Mov d o source) next r _ (has_own next) (stays_mov_to d _ s r tame)
tame_effect (Irq clear waits index) next s v q r tame = from_stays (Irq clear waits index) next r _ (has_own next) (search (rules, stays_if, stays) depth 20)
tame_effect (Set d value) next s v q r tame = from_stays (Set d value) next r _ (has_own next) (stays_set d value s r)
tame_effect Nothing next s v q r tame = from_stays Nothing next r _ (has_own next) (stays r _ refl refl refl refl)
