-- The flags that an instruction lowers and raises are those that it is said to change.
use Rattle.std.proofs.Common.{◌≡◌, ℕ, ◌^◌, ◌<◌, Bool, true, false, not, cond, Option, Some, None, refl, rules, arith}
use Rattle.std.proofs.Math.Pow.{pow-lt}
use Rattle.pio_encode.specs.declared.act.Act.{Act}
use Rattle.pio_encode.specs.declared.act.Act.TheVariants.{Jmp, Wait, In, Out, Push, Pull, Mov, Irq, Set, Nothing}
use Rattle.pio_encode.specs.declared.act.WaitSource.{WaitSource}
use Rattle.pio_encode.specs.declared.act.WaitSource.TheVariants as wait_source
use Rattle.pio_encode.specs.declared.act.OutDestination.{OutDestination}
use Rattle.pio_encode.specs.declared.act.OutDestination.TheVariants as out_destination
use Rattle.pio_encode.specs.declared.act.MovDestination.{MovDestination}
use Rattle.pio_encode.specs.declared.act.MovDestination.TheVariants as mov_destination
use Rattle.pio_encode.specs.declared.act.SetDestination.{SetDestination}
use Rattle.pio_encode.specs.declared.act.SetDestination.TheVariants as set_destination
use Rattle.irq_flags.specs.Flags.{flag_of}
use Rattle.pin_matrix.specs.declared.machine.MachineSetup.{MachineSetup}
use Rattle.sm_registers.specs.declared.registers.Registers.{Registers}
use Rattle.sm_registers.specs.View.{View}
use Rattle.sm_registers.specs.Queues.{Queues}
use Rattle.sm_registers.specs.Effects.{Effect, is_up, autopushed, out_to, pulled, mov_to, has_polarity, waited_bit, jmp_effect, wait_effect, in_effect, out_effect, push_effect, pull_effect, mov_effect, irq_effect, set_effect, effect_of}
use Rattle.block_shares.specs.Acts.{has, changes_of, wait_changes}
use Rattle.block_isolation.proofs.Bits.{has_zero, flag_lt}

-- flags are among some, and are eight
pub record IsAmong (some flags : ℕ) : Type 0 where
  pub among : (i : ℕ) → has flags i ≡ true → has some i ≡ true
  pub below : flags < 2 ^ 8

-- an effect lowers and raises some flags alone
pub record ChangesAmong (some : ℕ) (e : Effect) : Type 0 where
  pub clears : IsAmong some e.clears
  pub sets : IsAmong some e.sets

among_none : (some : ℕ) → IsAmong some 0
among_none some = record { among = λ i h. let none = has_zero i in cc; below = omega arith }

among_own : (index machine : ℕ) → IsAmong (2 ^ flag_of index machine) (2 ^ flag_of index machine)
among_own index machine = record {
  among = λ i h. h;
  below = pow-lt (flag_lt index machine);
}

changes_if : (some : ℕ) (b : Bool) (x y : Effect) → ChangesAmong some x → ChangesAmong some y → ChangesAmong some (cond b x y)
changes_if some true x y h k = h
changes_if some false x y h k = k

still : (some : ℕ) (e : Effect) → e.clears ≡ 0 → e.sets ≡ 0 → ChangesAmong some e
still some e h k = record { clears = rw h (among_none some); sets = rw k (among_none some) }

still_out_to : (some : ℕ) (d : OutDestination) (value n : ℕ) (s : MachineSetup) (r : Registers) → ChangesAmong some (out_to d value n s r)
still_out_to some out_destination.Pins value n s r = still some _ refl refl
still_out_to some out_destination.X value n s r = still some _ refl refl
still_out_to some out_destination.Y value n s r = still some _ refl refl
still_out_to some out_destination.Null value n s r = still some _ refl refl
still_out_to some out_destination.Pindirs value n s r = still some _ refl refl
still_out_to some out_destination.Pc value n s r = still some _ refl refl
still_out_to some out_destination.Isr value n s r = still some _ refl refl
still_out_to some out_destination.Exec value n s r = still some _ refl refl

still_mov_to : (some : ℕ) (d : MovDestination) (value : ℕ) (s : MachineSetup) (r : Registers) → ChangesAmong some (mov_to d value s r)
still_mov_to some mov_destination.Pins value s r = still some _ refl refl
still_mov_to some mov_destination.X value s r = still some _ refl refl
still_mov_to some mov_destination.Y value s r = still some _ refl refl
still_mov_to some mov_destination.Exec value s r = still some _ refl refl
still_mov_to some mov_destination.Pc value s r = still some _ refl refl
still_mov_to some mov_destination.Isr value s r = still some _ refl refl
still_mov_to some mov_destination.Osr value s r = still some _ refl refl

still_set : (some : ℕ) (d : SetDestination) (value : ℕ) (s : MachineSetup) (r : Registers) → ChangesAmong some (set_effect d value s r)
unfolding set_effect
still_set some set_destination.Pins value s r = still some _ refl refl
still_set some set_destination.X value s r = still some _ refl refl
still_set some set_destination.Y value s r = still some _ refl refl
still_set some set_destination.Pindirs value s r = still some _ refl refl

still_pulled : (some : ℕ) (front : Option ℕ) (block : Bool) (r : Registers) → ChangesAmong some (pulled front block r)
still_pulled some None block r = search (rules, changes_if, still)
still_pulled some (Some word) block r = still some _ refl refl

still_autopushed : (some : ℕ) (s : MachineSetup) (q : Queues) (r : Registers) → ChangesAmong some (autopushed s q r)
still_autopushed some s q r = search (rules, changes_if, still)

wait_clears : (polarity : Bool) (source : WaitSource) (index : ℕ) (s : MachineSetup) → IsAmong (wait_changes polarity source index s) (wait_changes polarity source index s)
wait_clears polarity wait_source.Gpio index s = among_none 0
wait_clears polarity wait_source.Pin index s = among_none 0
wait_clears true wait_source.Irq index s = among_own index s.id
wait_clears false wait_source.Irq index s = among_none 0

waits : (polarity : Bool) (source : WaitSource) (index : ℕ) (s : MachineSetup) (v : View) (r : Registers) → ChangesAmong (wait_changes polarity source index s) (wait_effect polarity source index s v r)
unfolding wait_effect
waits polarity wait_source.Gpio index s v r = changes_if 0 (has_polarity polarity (waited_bit wait_source.Gpio index s v)) _ _ (still 0 _ refl refl) (still 0 _ refl refl)
waits polarity wait_source.Pin index s v r = changes_if 0 (has_polarity polarity (waited_bit wait_source.Pin index s v)) _ _ (still 0 _ refl refl) (still 0 _ refl refl)
waits polarity wait_source.Irq index s v r =
    changes_if _ (has_polarity polarity (waited_bit wait_source.Irq index s v)) _ _
    (record { clears = wait_clears polarity wait_source.Irq index s; sets = among_none _ }) (still _ _ refl refl)

irq_clears : (some : ℕ) (e : Effect) → IsAmong some e.clears → e.sets ≡ 0 → ChangesAmong some e
irq_clears some e h k = record { clears = h; sets = rw k (among_none some) }

irq_sets : (some : ℕ) (e : Effect) → e.clears ≡ 0 → IsAmong some e.sets → ChangesAmong some e
irq_sets some e h k = record { clears = rw h (among_none some); sets = k }

pub changes_among : (act : Act) (s : MachineSetup) (v : View) (q : Queues) (r : Registers) → ChangesAmong (changes_of act s) (effect_of act s v q r)
unfolding effect_of jmp_effect in_effect out_effect push_effect pull_effect mov_effect irq_effect
changes_among (Jmp c address) s v q r = still 0 _ refl refl
changes_among (Wait polarity source index) s v q r = waits polarity source index s v r
changes_among (In source n) s v q r = still_autopushed 0 s q _
changes_among (Out d n) s v q r = search (rules, changes_if, still, still_out_to)
changes_among (Push if_full block) s v q r = search (rules, changes_if, still) depth 20
changes_among (Pull if_empty block) s v q r = search (rules, changes_if, still, still_pulled) depth 20
changes_among (Mov d o source) s v q r = still_mov_to 0 d _ s r
changes_among (Irq clear waits index) s v q r =
    changes_if _ clear _ _ (irq_clears _ _ (among_own index s.id) refl)
    (changes_if _ (not waits) _ _ (irq_sets _ _ refl (among_own index s.id))
    (changes_if _ (not r.begun) _ _ (irq_sets _ _ refl (among_own index s.id))
    (changes_if _ (is_up v.flags.up (flag_of index s.id)) _ _ (still _ _ refl refl) (still _ _ refl refl))))
changes_among (Set d value) s v q r = still_set 0 d value s r
changes_among Nothing s v q r = still 0 _ refl refl
