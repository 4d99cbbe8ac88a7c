-- What the effect of any act does: where it leads, which words it takes and gives, which flags its stall raises, and which pins it writes.
use Rattle.std.proofs.Common.{◌≡◌, ℕ, ◌+◌, ◌<◌, ◌≤◌, ◌==◌, min, Bool, true, false, not, ◌||◌, cond, Option, Some, None, IfSome, is_some, refl, ap, ◌∙◌, rules, arith}
use Rattle.std.proofs.lemmas.Bool.{not-true}
use Rattle.std.proofs.lemmas.Nat.Bits.{bit_at-zero}
use Rattle.std.specs.Int.{bit_at}
use Rattle.pio_encode.specs.declared.act.Act.{Act}
use Rattle.pio_encode.specs.declared.act.Act.TheVariants.{Jmp, Wait, In, Out, Push, Pull, Mov, Irq, Set, Nothing}
use Rattle.pio_encode.specs.declared.act.Condition.{Condition}
use Rattle.pio_encode.specs.declared.act.Condition.TheVariants as condition
use Rattle.pio_encode.specs.declared.act.WaitSource.{WaitSource}
use Rattle.pio_encode.specs.declared.act.InSource.{InSource}
use Rattle.pio_encode.specs.declared.act.OutDestination.{OutDestination}
use Rattle.pio_encode.specs.declared.act.OutDestination.TheVariants as out_destination
use Rattle.pio_encode.specs.declared.act.MovDestination.{MovDestination}
use Rattle.pio_encode.specs.declared.act.MovDestination.TheVariants as mov_destination
use Rattle.pio_encode.specs.declared.act.MovOperation.{MovOperation}
use Rattle.pio_encode.specs.declared.act.MovSource.{MovSource}
use Rattle.pio_encode.specs.declared.act.SetDestination.{SetDestination}
use Rattle.pio_encode.specs.declared.act.SetDestination.TheVariants as set_destination
use Rattle.pio_encode.specs.Ranges.{IsInRange}
use Rattle.pin_matrix.proofs.Mapped.{IsWrite-writes_of, bit_at-mapped_pins}
use Rattle.pin_matrix.proofs.Merging.{IsWrite-none}
use Rattle.pin_matrix.specs.Pins.{IsWrite, writes_of}
use Rattle.pin_matrix.specs.declared.mapping.Mapping.{Mapping}
use Rattle.pin_matrix.specs.declared.machine.MachineSetup.{MachineSetup}
use Rattle.sm_registers.specs.declared.registers.Registers.{Registers}
use Rattle.sm_registers.specs.View.{View}
use Rattle.sm_registers.specs.declared.sticky.TheConstants.{TX_STALL, RX_STALL}
use Rattle.sm_registers.specs.Queues.{Queues}
use Rattle.sm_registers.specs.Rules.{writes_pc, is_exec, fills_osr, holds, waits_for_tx, is_pull, bits_out, raises}
use Rattle.sm_registers.specs.Effects.{Effect, finished, stall, starves, is_due, jmp_effect, wait_effect, in_effect, isr_emptied, autopushed, with_bits_in, with_bits_out, out_to, out_effect, push_effect, pulled, pull_effect, mov_to, mov_effect, irq_effect, set_effect, effect_of}

-- the flags of a stall
abbrev pub stall_flags : Act → Queues → ℕ
stall_flags (In source n) q = RX_STALL
stall_flags (Out destination n) q = cond (starves q) TX_STALL 0
stall_flags (Push if_full block) q = RX_STALL
stall_flags (Pull if_empty block) q = TX_STALL
stall_flags act q = 0

-- TX is empty, by its level or by its front
abbrev pub is_dry : Queues → Bool
is_dry q = starves q || not (is_some q.front)

-- a write of pins that leaves those which neither OUT nor SET is mapped to
pub record OwnWrite (s : MachineSetup) (w : ℕ × ℕ) : Type 0 where
  pub write : IsWrite w
  pub own : (p : ℕ) → p < 32 → holds s.out p ≡ false → holds s.set p ≡ false → bit_at w.0 p ≡ 0

pub free_pin : (m : Mapping) (value p : ℕ) → p < 32 → holds m p ≡ false → bit_at (writes_of m value).0 p ≡ 0
free_pin m value p inside h = bit_at-mapped_pins m value p inside ∙ ap (λ b. cond b 1 0) h

own_none : (s : MachineSetup) → OwnWrite s (0, 0)
own_none s = record { write = IsWrite-none; own = λ p h k l. bit_at-zero p }

own_out : (s : MachineSetup) (value : ℕ) → OwnWrite s (writes_of s.out value)
own_out s value = record { write = IsWrite-writes_of s.out value; own = λ p h k l. free_pin s.out value p h k }

own_set : (s : MachineSetup) (value : ℕ) → OwnWrite s (writes_of s.set value)
own_set s value = record { write = IsWrite-writes_of s.set value; own = λ p h k l. free_pin s.set value p h l }

-- what an act's effect does
pub record Does (a : Act) (s : MachineSetup) (v : View) (q : Queues) (r : Registers) (e : Effect) : Type 0 where
  -- PC, the delay and the pending word are left to the tick
  pub pc : e.registers.pc ≡ r.pc
  pub delay : e.registers.delay ≡ r.delay
  pub waiting : e.registers.pending ≡ r.pending
  -- where it leads
  pub jump : writes_pc a s v r ≡ false → e.jump ≡ None
  pub quiet : is_exec a ≡ false → e.pending ≡ None
  pub exec : is_exec a ≡ true → e.stalled ≡ false → is_some e.pending ≡ true
  -- only a PULL takes a word; it then fills the OSR
  pub pulls : is_pull a ≡ false → e.take ≡ false
  pub front : e.take ≡ true → is_some q.front ≡ true
  pub osr : e.take ≡ true → (w : ℕ) → q.front ≡ Some w → e.registers.osr ≡ w
  pub full : e.take ≡ true → e.registers.out_count ≡ 0
  -- it gives a word only where there is room, and leaves an empty ISR
  pub room : is_some e.word ≡ true → q.rx_full ≡ false
  pub isr : is_some e.word ≡ true → e.registers.isr ≡ 0
  pub in_count : is_some e.word ≡ true → e.registers.in_count ≡ 0
  -- the OSR's count
  pub most : is_pull a ≡ false → e.registers.out_count ≤ r.out_count + bits_out a
  pub least : is_some q.front ≡ true → fills_osr a ≡ false → e.take ≡ false → min 32 r.out_count ≤ e.registers.out_count
  -- where it stalls it raises these flags; that of TX only, and then always, where TX is empty; an OUT stalls where autopull is due
  pub sticky : e.stalled ≡ true → e.sticky ≡ stall_flags a q
  pub told : raises TX_STALL e.sticky ≡ true → is_dry q ≡ true
  pub rises : waits_for_tx a ≡ true → e.stalled ≡ true → q.tx_level ≡ 0 → raises TX_STALL e.sticky ≡ true
  pub due : waits_for_tx a ≡ true → is_pull a ≡ false → e.stalled ≡ true → is_due s r ≡ true
  -- the ranges of the counts, and of an address that it jumps to
  pub in_fits : IsInRange a → r.in_count ≤ 32 → e.registers.in_count ≤ 32
  pub out_fits : r.out_count ≤ 32 → e.registers.out_count ≤ 32
  pub target : IsInRange a → IfSome e.jump (λ address. address < 32)
  -- its own writes to pins
  pub level : OwnWrite s e.level
  pub direction : OwnWrite s e.direction
  -- a late stall does nothing else
  pub still : r.begun ≡ true → e.stalled ≡ true → e ≡ record (stall r) { sticky = e.sticky }

does_if : (a : Act) (s : MachineSetup) (v : View) (q : Queues) (r : Registers) (b : Bool) (x y : Effect) → Does a s v q r x → Does a s v q r y → Does a s v q r (cond b x y)
does_if a s v q r true x y h k = h
does_if a s v q r false x y h k = k

-- the same, where it is known which of them it is
does_where :
    (a : Act) (s : MachineSetup) (v : View) (q : Queues) (r : Registers) (b : Bool) (x y : Effect) → (b ≡ true → Does a s v q r x)
    → (b ≡ false → Does a s v q r y) → Does a s v q r (cond b x y)
does_where a s v q r true x y h k = h refl
does_where a s v q r false x y h k = k refl

-- it finishes, and does nothing else
does_nothing : (a : Act) (s : MachineSetup) (v : View) (q : Queues) (r : Registers) → is_exec a ≡ false → Does a s v q r (finished r)
does_nothing a s v q r h = search (rules, own_none, own_out, own_set)

does_met :
    (polarity : Bool) (source : WaitSource) (index : ℕ) (s : MachineSetup) (v : View) (q : Queues) (r : Registers) (flag : ℕ)
    → Does (Wait polarity source index) s v q r (record (finished r) { clears = flag })
does_met polarity source index s v q r flag = search (rules, own_none, own_out, own_set)

does_unmet :
    (polarity : Bool) (source : WaitSource) (index : ℕ) (s : MachineSetup) (v : View) (q : Queues) (r : Registers)
    → Does (Wait polarity source index) s v q r (stall r)
does_unmet polarity source index s v q r = search (rules, own_none, own_out, own_set)

does_jmp : (c : Condition) (address : ℕ) (s : MachineSetup) (v : View) (q : Queues) (r : Registers) → Does (Jmp c address) s v q r (jmp_effect c address s v r)
unfolding jmp_effect
does_jmp condition.Always address s v q r = search (rules, own_none, own_out, own_set)
does_jmp condition.XZero address s v q r = search (rules, own_none, own_out, own_set)
does_jmp condition.XDecrement address s v q r = search (rules, own_none, own_out, own_set)
does_jmp condition.YZero address s v q r = search (rules, own_none, own_out, own_set)
does_jmp condition.YDecrement address s v q r = search (rules, own_none, own_out, own_set)
does_jmp condition.XNotY address s v q r = search (rules, own_none, own_out, own_set)
does_jmp condition.Pin address s v q r = search (rules, own_none, own_out, own_set)
does_jmp condition.OsrNotEmpty address s v q r = search (rules, own_none, own_out, own_set)

does_out_to :
    (d : OutDestination) (value n : ℕ) (s : MachineSetup) (v : View) (q : Queues) (r : Registers)
    → Does (Out d n) s v q r (out_to d value n s (with_bits_out n s r))
does_out_to out_destination.Pins value n s v q r = search (rules, own_none, own_out, own_set)
does_out_to out_destination.X value n s v q r = search (rules, own_none, own_out, own_set)
does_out_to out_destination.Y value n s v q r = search (rules, own_none, own_out, own_set)
does_out_to out_destination.Null value n s v q r = search (rules, own_none, own_out, own_set)
does_out_to out_destination.Pindirs value n s v q r = search (rules, own_none, own_out, own_set)
does_out_to out_destination.Pc value n s v q r = search (rules, own_none, own_out, own_set)
does_out_to out_destination.Isr value n s v q r = search (rules, own_none, own_out, own_set)
does_out_to out_destination.Exec value n s v q r = search (rules, own_none, own_out, own_set)

dry_if : (b c : Bool) → raises TX_STALL (cond b TX_STALL 0) ≡ true → (b || c) ≡ true
dry_if true c h = refl
dry_if false c h = cc

rises_if : (level : ℕ) → level ≡ 0 → raises TX_STALL (cond (level == 0) TX_STALL 0) ≡ true
rises_if level h = rw h refl

does_starved :
    (d : OutDestination) (n : ℕ) (s : MachineSetup) (v : View) (q : Queues) (r : Registers) → is_due s r ≡ true
    → Does (Out d n) s v q r (record (stall r) { sticky = cond (starves q) TX_STALL 0 })
does_starved d n s v q r h = search (rules, dry_if, rises_if, own_none)

does_mov_to :
    (d : MovDestination) (o : MovOperation) (source : MovSource) (value : ℕ) (s : MachineSetup) (v : View) (q : Queues) (r : Registers)
    → Does (Mov d o source) s v q r (mov_to d value s r)
does_mov_to mov_destination.Pins o source value s v q r = search (rules, own_none, own_out, own_set)
does_mov_to mov_destination.X o source value s v q r = search (rules, own_none, own_out, own_set)
does_mov_to mov_destination.Y o source value s v q r = search (rules, own_none, own_out, own_set)
does_mov_to mov_destination.Exec o source value s v q r = search (rules, own_none, own_out, own_set)
does_mov_to mov_destination.Pc o source value s v q r = search (rules, own_none, own_out, own_set)
does_mov_to mov_destination.Isr o source value s v q r = search (rules, own_none, own_out, own_set)
does_mov_to mov_destination.Osr o source value s v q r = search (rules, own_none, own_out, own_set)

does_set : (d : SetDestination) (value : ℕ) (s : MachineSetup) (v : View) (q : Queues) (r : Registers) → Does (Set d value) s v q r (set_effect d value s r)
unfolding set_effect
does_set set_destination.Pins value s v q r = search (rules, own_none, own_out, own_set)
does_set set_destination.X value s v q r = search (rules, own_none, own_out, own_set)
does_set set_destination.Y value s v q r = search (rules, own_none, own_out, own_set)
does_set set_destination.Pindirs value s v q r = search (rules, own_none, own_out, own_set)

-- an IN, whose bits are in x
does_autopushed :
    (source : InSource) (n : ℕ) (s : MachineSetup) (v : View) (q : Queues) (r x : Registers) → x.pc ≡ r.pc → x.delay ≡ r.delay
    → x.pending ≡ r.pending → x.out_count ≡ r.out_count → (r.in_count ≤ 32 → x.in_count ≤ 32) → (r.begun ≡ true → x ≡ r) → Does (In source n) s v q r (autopushed s q x)
does_autopushed source n s v q r x pc delay pending count fits late =
    let full : Does (In source n) s v q r (record (stall x) { sticky = RX_STALL }) = record {
      pc = pc;
      delay = delay;
      waiting = pending;
      jump = λ t. refl;
      quiet = λ t. refl;
      exec = λ t. cc;
      pulls = λ t. refl;
      front = λ t. cc;
      osr = λ t. cc;
      full = λ t. cc;
      room = λ t. cc;
      isr = λ t. cc;
      in_count = λ t. cc;
      most = λ t. omega arith;
      least = λ t k l. omega arith;
      sticky = λ t. refl;
      told = λ t. cc;
      rises = λ t. cc;
      due = λ t. cc;
      in_fits = λ _. fits;
      out_fits = λ h. omega arith;
      target = λ _. tt;
      level = own_none s;
      direction = own_none s;
      still = λ t _. ap (λ x. record (stall x) { sticky = RX_STALL }) (late t);
    } in
    let given : q.rx_full ≡ false → Does (In source n) s v q r (record (finished (isr_emptied x)) { word = Some x.isr }) = λ room. search (rules, own_none, own_out, own_set) in
    let kept : Does (In source n) s v q r (finished x) = search (rules, own_none, own_out, own_set) in
    does_if _ s v q r _ _ _ (does_where _ s v q r _ _ _ (λ _. full) given) kept

does_in :
    (source : InSource) (n : ℕ) (s : MachineSetup) (v : View) (q : Queues) (r : Registers) (b : Bool) (word : ℕ) → r.begun ≡ b
    → Does (In source n) s v q r (autopushed s q (cond b r (with_bits_in word n s r)))
does_in source n s v q r true word h = does_autopushed source n s v q r r refl refl refl refl (λ h. h) (λ _. refl)
does_in source n s v q r false word h = does_autopushed source n s v q r (with_bits_in word n s r) refl refl refl refl (λ h. omega arith) (λ t. cc)

does_given :
    (if_full block : Bool) (s : MachineSetup) (v : View) (q : Queues) (r : Registers) → not q.rx_full ≡ true
    → Does (Push if_full block) s v q r (record (finished (isr_emptied r)) { word = Some r.isr })
does_given if_full block s v q r h = let room = not-true q.rx_full h in search (rules, own_none, own_out, own_set)

does_lost :
    (if_full block : Bool) (s : MachineSetup) (v : View) (q : Queues) (r : Registers)
    → Does (Push if_full block) s v q r (record (finished (isr_emptied r)) { sticky = RX_STALL })
does_lost if_full block s v q r = search (rules, own_none, own_out, own_set)

does_full :
    (if_full block : Bool) (s : MachineSetup) (v : View) (q : Queues) (r : Registers)
    → Does (Push if_full block) s v q r (record (stall r) { sticky = RX_STALL })
does_full if_full block s v q r = search (rules, own_none, own_out, own_set)

does_flag :
    (clear waits : Bool) (index : ℕ) (s : MachineSetup) (v : View) (q : Queues) (r : Registers) (clears sets : ℕ)
    → Does (Irq clear waits index) s v q r (record (finished r) { clears = clears; sets = sets })
does_flag clear waits index s v q r clears sets = search (rules, own_none)

does_raise :
    (clear waits : Bool) (index : ℕ) (s : MachineSetup) (v : View) (q : Queues) (r : Registers) (sets : ℕ) → not r.begun ≡ true
    → Does (Irq clear waits index) s v q r (record (stall r) { sets = sets })
does_raise clear waits index s v q r sets h = let first = not-true r.begun h in search (rules, own_none)

does_wait : (clear waits : Bool) (index : ℕ) (s : MachineSetup) (v : View) (q : Queues) (r : Registers) → Does (Irq clear waits index) s v q r (stall r)
does_wait clear waits index s v q r = search (rules, own_none)

dry_by : (b : Bool) (front : Option ℕ) → front ≡ None → (b || not (is_some front)) ≡ true
dry_by true front h = refl
dry_by false front h = rw h refl

does_pulled :
    (if_empty block : Bool) (s : MachineSetup) (v : View) (q : Queues) (front : Option ℕ) (r : Registers) → q.front ≡ front
    → Does (Pull if_empty block) s v q r (pulled front block r)
does_pulled if_empty block s v q None r h =
    let dry : is_dry q ≡ true = dry_by (starves q) q.front h in search (rules, does_where, own_none) depth 20
does_pulled if_empty block s v q (Some word) r h = search (rules, own_none, own_out, own_set)

pub does : (a : Act) (s : MachineSetup) (v : View) (q : Queues) (r : Registers) → Does a s v q r (effect_of a s v q r)
unfolding effect_of wait_effect in_effect out_effect push_effect pull_effect mov_effect irq_effect
does (Jmp c address) s v q r = does_jmp c address s v q r
does (Wait polarity source index) s v q r = search (rules, does_if, does_met, does_unmet)
does (In source n) s v q r = does_in source n s v q r r.begun _ refl
does (Out d n) s v q r = search (rules, does_where, does_starved, does_out_to) depth 20
does (Push if_full block) s v q r = search (rules, does_where, does_given, does_lost, does_full, does_nothing) depth 20
does (Pull if_empty block) s v q r = search (rules, does_where, does_pulled, does_nothing) depth 20
does (Mov d o source) s v q r = does_mov_to d o source _ s v q r
does (Irq clear waits index) s v q r = search (rules, does_where, does_flag, does_raise, does_wait) depth 20
does (Set d value) s v q r = does_set d value s v q r
does Nothing s v q r = search (rules, own_none, own_out, own_set)
