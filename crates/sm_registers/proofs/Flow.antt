-- Where a machine goes on after a tick: PC, the pending word and the delay.
use Rattle.std.proofs.Common.{◌≡◌, ℕ, ◌+◌, ◌%◌, ◌≢◌, ◌==◌, Bool, true, false, cond, Option, Some, None, is_some, refl, sym, ap, ◌∙◌, inl, inr, arith}
use Rattle.std.proofs.lemmas.Bool.{cases_lt}
use Rattle.std.proofs.lemmas.Bool.Decides.{nat_tests}
use Rattle.pio_encode.specs.declared.act.Act.TheVariants.{Jmp}
use Rattle.pio_encode.specs.declared.act.Condition.{Condition}
use Rattle.pio_encode.specs.Word.{reading_of}
use Rattle.pin_matrix.specs.declared.machine.MachineSetup.{MachineSetup}
use Rattle.sm_registers.specs.declared.registers.Registers.{Registers}
use Rattle.sm_registers.specs.View.{View}
use Rattle.sm_registers.specs.Queues.{Queues}
use Rattle.sm_registers.specs.Rules.{current_act, writes_pc, is_exec}
use Rattle.sm_registers.specs.Effects.{jumps, jmp_effect, effect_of}
use Rattle.sm_registers.specs.Tick.{current_word, next_pc, pc_after, delay_after, tick_of}
use Rattle.sm_registers.proofs.Effects.{does}
use Rattle.sm_registers.proofs.Ticks.{op_now, effect_now, in_delay, rest_delay, stalled_is, done, stuck}

-- a taken jump
pub jump_taken :
    (s : MachineSetup) (v : View) (q : Queues) (r : Registers) (c : Condition) (address : ℕ) → current_act v r ≡ Jmp c address
    → r.delay ≡ 0 → jumps c s v r ≡ true → (tick_of s v q r).0.pc ≡ address
unfolding effect_of jmp_effect
jump_taken s v q r c address is left taken =
    let same : effect_now s v q r ≡ jmp_effect c address s v r = ap (λ a. effect_of a s v q r) is in
    let ends = done s v q r left (stalled_is s v q r left ∙ ap (λ e. e.stalled) same) in
    ends.pc ∙ ap (λ e. pc_after e.jump (is_some r.pending) s r) same
    ∙ ap (λ b. pc_after (cond b (Some address) None) (is_some r.pending) s r) taken

-- the next address
goes_on :
    (s : MachineSetup) (v : View) (q : Queues) (r : Registers) → r.pending ≡ None → r.delay ≡ 0
    → (tick_of s v q r).1.stalled ≡ false → writes_pc (current_act v r) s v r ≡ false → (tick_of s v q r).0.pc ≡ next_pc s r
goes_on s v q r none left ends stays =
    let does = does (current_act v r) s v q r in
    (done s v q r left ends).pc ∙ ap (λ j. pc_after j (is_some r.pending) s r) (does.jump stays)
    ∙ ap (λ p. pc_after None (is_some p) s r) none

pub pc_wraps :
    (s : MachineSetup) (v : View) (q : Queues) (r : Registers) → r.pending ≡ None → r.delay ≡ 0
    → (tick_of s v q r).1.stalled ≡ false → writes_pc (current_act v r) s v r ≡ false → r.pc ≡ s.wrap_top
    → (tick_of s v q r).0.pc ≡ s.wrap_bottom
pc_wraps s v q r none left ends stays top =
    let here : (r.pc == s.wrap_top) ≡ true = grind (arith, nat_tests) in
    goes_on s v q r none left ends stays ∙ ap (λ b. cond b s.wrap_bottom ((r.pc + 1) % 32)) here

pub pc_goes_on :
    (s : MachineSetup) (v : View) (q : Queues) (r : Registers) → r.pending ≡ None → r.delay ≡ 0
    → (tick_of s v q r).1.stalled ≡ false → writes_pc (current_act v r) s v r ≡ false → r.pc ≢ s.wrap_top
    → (tick_of s v q r).0.pc ≡ (r.pc + 1) % 32
pc_goes_on s v q r none left ends stays below =
    let here : (r.pc == s.wrap_top) ≡ false = grind (arith, nat_tests) in
    goes_on s v q r none left ends stays ∙ ap (λ b. cond b s.wrap_bottom ((r.pc + 1) % 32)) here

-- PC with a pending word, in a tick that finishes, that stalls, and of a delay
pending_done :
    (s : MachineSetup) (v : View) (q : Queues) (r : Registers) → is_some r.pending ≡ true → writes_pc (current_act v r) s v r ≡ false
    → r.delay ≡ 0 → (tick_of s v q r).1.stalled ≡ false → (tick_of s v q r).0.pc ≡ r.pc
pending_done s v q r some stays left ends =
    let does = does (current_act v r) s v q r in
    (done s v q r left ends).pc ∙ ap (λ j. pc_after j (is_some r.pending) s r) (does.jump stays)
    ∙ ap (λ b. pc_after None b s r) some

pending_stuck :
    (s : MachineSetup) (v : View) (q : Queues) (r : Registers) → r.delay ≡ 0 → (tick_of s v q r).1.stalled ≡ true
    → (tick_of s v q r).0.pc ≡ r.pc
pending_stuck s v q r left stalls =
    let does = does (current_act v r) s v q r in
    (stuck s v q r left stalls).pc ∙ does.pc

either : (b : Bool) (P : Type 0) → (b ≡ true → P) → (b ≡ false → P) → P
either true P h k = h refl
either false P h k = k refl

pub pending_leaves_pc :
    (s : MachineSetup) (v : View) (q : Queues) (r : Registers) → is_some r.pending ≡ true → writes_pc (current_act v r) s v r ≡ false
    → (tick_of s v q r).0.pc ≡ r.pc
pending_leaves_pc s v q r some stays =
    elim (cases_lt 0 r.delay) [
      | inl more ↦ ap (λ x. x.0.pc) (in_delay s v q r more) ∙ (rest_delay s q r).pc
      | inr none ↦
          let left : r.delay ≡ 0 = omega arith in
          either (tick_of s v q r).1.stalled ((tick_of s v q r).0.pc ≡ r.pc) (pending_stuck s v q r left) (pending_done s v q r some stays left)
    ]

pub pending_used_up :
    (s : MachineSetup) (v : View) (q : Queues) (r : Registers) → r.delay ≡ 0 → (tick_of s v q r).1.stalled ≡ false
    → is_exec (current_act v r) ≡ false → (tick_of s v q r).0.pending ≡ None
pending_used_up s v q r left ends other =
    let does = does (current_act v r) s v q r in
    (done s v q r left ends).pending ∙ does.quiet other

-- an EXEC
pub exec_pends :
    (s : MachineSetup) (v : View) (q : Queues) (r : Registers) → r.delay ≡ 0 → is_exec (current_act v r) ≡ true
    → (tick_of s v q r).1.stalled ≡ false → is_some (tick_of s v q r).0.pending ≡ true
exec_pends s v q r left exec ends =
    let does = does (current_act v r) s v q r in
    ap (λ p. is_some p) (done s v q r left ends).pending ∙ does.exec exec (sym (stalled_is s v q r left) ∙ ends)

undelayed : (pending : Option ℕ) (delay : ℕ) → is_some pending ≡ true → delay_after pending delay ≡ 0
undelayed None delay h = cc
undelayed (Some w) delay h = refl

exec_done :
    (s : MachineSetup) (v : View) (q : Queues) (r : Registers) → r.delay ≡ 0 → is_exec (current_act v r) ≡ true
    → (tick_of s v q r).1.stalled ≡ false → (tick_of s v q r).0.delay ≡ 0
exec_done s v q r left exec ends =
    let does = does (current_act v r) s v q r in
    (done s v q r left ends).delay
    ∙ undelayed (effect_now s v q r).pending (op_now s v r).delay (does.exec exec (sym (stalled_is s v q r left) ∙ ends))

exec_stuck :
    (s : MachineSetup) (v : View) (q : Queues) (r : Registers) → r.delay ≡ 0 → (tick_of s v q r).1.stalled ≡ true
    → (tick_of s v q r).0.delay ≡ 0
exec_stuck s v q r left stalls =
    let does = does (current_act v r) s v q r in
    (stuck s v q r left stalls).delay ∙ does.delay ∙ left

pub exec_undelayed :
    (s : MachineSetup) (v : View) (q : Queues) (r : Registers) → r.delay ≡ 0 → is_exec (current_act v r) ≡ true
    → (tick_of s v q r).0.delay ≡ 0
exec_undelayed s v q r left exec =
    either (tick_of s v q r).1.stalled ((tick_of s v q r).0.delay ≡ 0) (exec_stuck s v q r left) (exec_done s v q r left exec)

pub others_delayed :
    (s : MachineSetup) (v : View) (q : Queues) (r : Registers) → r.delay ≡ 0 → (tick_of s v q r).1.stalled ≡ false
    → is_exec (current_act v r) ≡ false → (tick_of s v q r).0.delay ≡ (reading_of (current_word v r) s.side_rule).delay
others_delayed s v q r left ends other =
    let does = does (current_act v r) s v q r in
    (done s v q r left ends).delay ∙ ap (λ p. delay_after p (op_now s v r).delay) (does.quiet other)
