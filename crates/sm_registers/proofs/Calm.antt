-- Ticks that change nothing, and ticks that see only what they read.
use Rattle.std.proofs.Common.{◌≡◌, ℕ, ◌+◌, ◌-◌, ◌*◌, ◌/◌, ◌%◌, ◌^◌, ◌<◌, ◌==◌, nat_lt, min, Bool, true, false, cond, not, ◌&&◌, if◌then◌else◌, Option, Some, None, is_some, [], ◌∷◌, refl, sym, ap, ◌∙◌, arith}
use Rattle.std.proofs.lemmas.Bool.{and_parts, not-true}
use Rattle.std.proofs.lemmas.Bool.Decides.{nat_tests}
use Rattle.pio_encode.specs.declared.act.Act.{Act}
use Rattle.pio_encode.specs.declared.act.Act.TheVariants.{Jmp, Wait, In, Out, Push, Pull, Mov, Irq, Set, Nothing}
use Rattle.pio_encode.specs.declared.act.Condition.{Condition}
use Rattle.pio_encode.specs.declared.act.Condition.TheVariants as condition
use Rattle.pio_encode.specs.declared.act.WaitSource.{WaitSource}
use Rattle.pio_encode.specs.declared.act.WaitSource.TheVariants as wait_source
use Rattle.pio_encode.specs.declared.act.InSource.{InSource}
use Rattle.pio_encode.specs.declared.act.InSource.TheVariants as in_source
use Rattle.pio_encode.specs.declared.act.MovDestination.{MovDestination}
use Rattle.pio_encode.specs.declared.act.MovOperation.{MovOperation}
use Rattle.pio_encode.specs.declared.act.MovSource.{MovSource}
use Rattle.pio_encode.specs.declared.act.MovSource.TheVariants as mov_source
use Rattle.pio_encode.specs.declared.op.Op.{Op}
use Rattle.pio_encode.specs.Word.{reading_of}
use Rattle.irq_flags.specs.Flags.{flag_of}
use Rattle.pin_matrix.specs.Pins.{rotated_right}
use Rattle.pin_matrix.specs.declared.machine.MachineSetup.{MachineSetup}
use Rattle.sm_registers.specs.declared.registers.Registers.{Registers}
use Rattle.sm_registers.specs.View.{View}
use Rattle.sm_registers.specs.Queues.{Queues}
use Rattle.sm_registers.specs.declared.intent.Intent.{Intent}
use Rattle.sm_registers.specs.declared.intent.Kind.{Kind}
use Rattle.sm_registers.specs.declared.intent.Kind.TheVariants.{First, Late, Delay}
use Rattle.sm_registers.specs.Intents.{no_intent}
use Rattle.sm_registers.specs.Laws.{IsAlike, bit_of, read_of, jmp_reads, wait_reads, in_reads, mov_reads, irq_reads}
use Rattle.sm_registers.specs.Idling.{is_unmet, stays, undelayed, waits_again}
use Rattle.sm_registers.specs.Effects.{Effect, is_due, finished, stall, has_polarity, waited_bit, waited_flag, jmp_effect, wait_effect, in_effect, autopushed, mov_to, mov_effect, operated, irq_effect, effect_of}
use Rattle.sm_registers.specs.Rules.{current_act}
use Rattle.sm_registers.specs.Tick.{current_word, after_effect, refills, refilled, osr_filled_from, side_writes, tick_delay, tick_by, tick_word, tick_of}
use Rattle.sm_registers.proofs.Effects.{does}

-- without a refill the registers stay
unfilled : (due : Bool) (front : Option ℕ) (r : Registers) → (due && is_some front) ≡ false → cond due (osr_filled_from front r) r ≡ r
unfilled false front r h = refl
unfilled true None r h = refl
unfilled true (Some word) r h = cc

unrefilled : (s : MachineSetup) (q : Queues) (r : Registers) → refills s q r ≡ false → refilled s q r ≡ r
unrefilled s q r h = unfilled (is_due s r) q.front r h

-- a tick of a delay is that of tick_delay
delays : (s : MachineSetup) (v : View) (q : Queues) (r : Registers) → 0 < r.delay → tick_of s v q r ≡ tick_delay s q r
unfolding tick_of
delays s v q r h = let left : nat_lt 0 r.delay ≡ true = grind (arith, nat_tests) in rw left refl

pub delay_counts :
    (s : MachineSetup) (v : View) (q : Queues) (r : Registers) → 0 < r.delay → refills s q r ≡ false
    → tick_of s v q r ≡ (record r { delay = r.delay - 1 }, record no_intent { kind = Delay })
unfolding tick_delay
delay_counts s v q r h k =
    let after : Registers = record r { delay = r.delay - 1 } in
    delays s v q r h ∙ ap (λ x. (x, record no_intent { take = refills s q after; kind = Delay })) (unrefilled s q after k)
    ∙ ap (λ b. (after, record no_intent { take = b; kind = Delay })) k

pub delay_sees_nothing : (s : MachineSetup) (v w : View) (q : Queues) (r : Registers) → 0 < r.delay → tick_of s v q r ≡ tick_of s w q r
delay_sees_nothing s v w q r h = delays s v q r h ∙ sym (delays s w q r h)

-- an effect is the same in two views that agree on what its act reads
jmp_alike :
    (c : Condition) (a : ℕ) (s : MachineSetup) (v w : View) (r : Registers) → jmp_reads c s v ≡ jmp_reads c s w
    → jmp_effect c a s v r ≡ jmp_effect c a s w r
unfolding jmp_effect
jmp_alike condition.Always a s v w r h = refl
jmp_alike condition.XZero a s v w r h = refl
jmp_alike condition.XDecrement a s v w r h = refl
jmp_alike condition.YZero a s v w r h = refl
jmp_alike condition.YDecrement a s v w r h = refl
jmp_alike condition.XNotY a s v w r h = refl
jmp_alike condition.Pin a s v w r h = ap (λ b. record (finished r) { jump = cond (b == 1) (Some a) None }) h
jmp_alike condition.OsrNotEmpty a s v w r h = refl

wait_alike :
    (polarity : Bool) (source : WaitSource) (index : ℕ) (s : MachineSetup) (v w : View) (r : Registers)
    → wait_reads source index s v ≡ wait_reads source index s w → wait_effect polarity source index s v r ≡ wait_effect polarity source index s w r
unfolding wait_effect
wait_alike polarity wait_source.Gpio index s v w r h =
    ap (λ b. cond (has_polarity polarity (b == 1)) (record (finished r) { clears = waited_flag polarity wait_source.Gpio index s }) (stall r)) h
wait_alike polarity wait_source.Pin index s v w r h =
    ap (λ b. cond (has_polarity polarity (b == 1)) (record (finished r) { clears = waited_flag polarity wait_source.Pin index s }) (stall r)) h
wait_alike polarity wait_source.Irq index s v w r h =
    ap (λ b. cond (has_polarity polarity (b == 1)) (record (finished r) { clears = waited_flag polarity wait_source.Irq index s }) (stall r)) h

-- the ISR with bits that are given as a number
abbrev bits_in : ℕ → ℕ → MachineSetup → Registers → Registers
bits_in m n s r = record r {
  isr = if s.in_right then r.isr / 2 ^ n + m * 2 ^ (32 - n) else (r.isr * 2 ^ n + m) % 2 ^ 32;
  in_count = min 32 (r.in_count + n);
}

same_bits_in :
    (b : Bool) (m k n : ℕ) (s : MachineSetup) (r : Registers) → cond b 0 m ≡ cond b 0 k
    → cond b r (bits_in m n s r) ≡ cond b r (bits_in k n s r)
same_bits_in true m k n s r h = refl
same_bits_in false m k n s r h = ap (λ m. bits_in m n s r) h

in_alike :
    (source : InSource) (n : ℕ) (s : MachineSetup) (v w : View) (q : Queues) (r : Registers)
    → in_reads source n s v r ≡ in_reads source n s w r → in_effect source n s v q r ≡ in_effect source n s w q r
unfolding in_effect
in_alike in_source.Pins n s v w q r h =
    ap (λ x. autopushed s q x) (same_bits_in r.begun (rotated_right v.seen s.in_base % 2 ^ n) (rotated_right w.seen s.in_base % 2 ^ n) n s r h)
in_alike in_source.X n s v w q r h = refl
in_alike in_source.Y n s v w q r h = refl
in_alike in_source.Null n s v w q r h = refl
in_alike in_source.Isr n s v w q r h = refl
in_alike in_source.Osr n s v w q r h = refl

mov_alike :
    (d : MovDestination) (o : MovOperation) (source : MovSource) (s : MachineSetup) (v w : View) (q : Queues) (r : Registers)
    → mov_reads source s v ≡ mov_reads source s w → mov_effect d o source s v q r ≡ mov_effect d o source s w q r
unfolding mov_effect
mov_alike d o mov_source.Pins s v w q r h = ap (λ word. mov_to d (operated o word) s r) h
mov_alike d o mov_source.X s v w q r h = refl
mov_alike d o mov_source.Y s v w q r h = refl
mov_alike d o mov_source.Null s v w q r h = refl
mov_alike d o mov_source.Status s v w q r h = refl
mov_alike d o mov_source.Isr s v w q r h = refl
mov_alike d o mov_source.Osr s v w q r h = refl

irq_same :
    (clear waits begun : Bool) (m k : ℕ) (a b c d e : Effect)
    → cond clear 0 (cond (not waits) 0 (cond (not begun) 0 m)) ≡ cond clear 0 (cond (not waits) 0 (cond (not begun) 0 k))
    → cond clear a (cond (not waits) b (cond (not begun) c (cond (m == 1) d e)))
    ≡ cond clear a (cond (not waits) b (cond (not begun) c (cond (k == 1) d e)))
irq_same true waits begun m k a b c d e h = refl
irq_same false false begun m k a b c d e h = refl
irq_same false true false m k a b c d e h = refl
irq_same false true true m k a b c d e h = ap (λ m. cond (m == 1) d e) h

irq_alike :
    (clear waits : Bool) (index : ℕ) (s : MachineSetup) (v w : View) (r : Registers)
    → irq_reads clear waits r.begun index s v ≡ irq_reads clear waits r.begun index s w
    → irq_effect clear waits index s v r ≡ irq_effect clear waits index s w r
unfolding irq_effect
irq_alike clear waits index s v w r h =
    irq_same clear waits r.begun (bit_of v.flags.up (flag_of index s.id)) (bit_of w.flags.up (flag_of index s.id)) _ _ _ _ _ h

effect_alike :
    (a : Act) (s : MachineSetup) (v w : View) (q : Queues) (r : Registers) → read_of a s r v ≡ read_of a s r w
    → effect_of a s v q r ≡ effect_of a s w q r
unfolding effect_of
effect_alike (Jmp c a) s v w q r h = jmp_alike c a s v w r h
effect_alike (Wait polarity source index) s v w q r h = wait_alike polarity source index s v w r h
effect_alike (In source n) s v w q r h = in_alike source n s v w q r h
effect_alike (Out d n) s v w q r h = refl
effect_alike (Push if_full block) s v w q r h = refl
effect_alike (Pull if_empty block) s v w q r h = refl
effect_alike (Mov d o source) s v w q r h = mov_alike d o source s v w q r h
effect_alike (Irq clear waits index) s v w q r h = irq_alike clear waits index s v w r h
effect_alike (Set d value) s v w q r h = refl
effect_alike Nothing s v w q r h = refl

pub tick_alike :
    (s : MachineSetup) (v w : View) (q : Queues) (r : Registers) → IsAlike s r v w → tick_of s v q r ≡ tick_of s w q r
unfolding tick_of tick_word reading_of
tick_alike s v w q r h =
    let op : Op = reading_of (current_word v r) s.side_rule in
    let effects : effect_of op.act s v q r ≡ effect_of op.act s w q r = effect_alike op.act s v w q r h.reads in
    ap (λ e. cond (nat_lt 0 r.delay) (tick_delay s q r) (tick_by op s q r e)) effects
    ∙ ap (λ u. cond (nat_lt 0 r.delay) (tick_delay s q r) (tick_word (reading_of u s.side_rule) s w q r)) h.word

-- the intent of a tick that stalls and does nothing else, by its side-set and whether it refills
abbrev waiting : (pindirs : Bool) (side_set : ℕ × ℕ) (take : Bool) (kind : Kind) (c : ℕ) → Intent
waiting pindirs side_set take kind c = record {
  level = (0, 0) ∷ (if pindirs then (0, 0) else side_set) ∷ [];
  direction = (0, 0) ∷ (if pindirs then side_set else (0, 0)) ∷ [];
  clears = 0;
  sets = 0;
  take = take;
  word = None;
  sticky = c;
  kind = kind;
  stalled = true;
}

waiting_none : (pindirs : Bool) (c : ℕ) → waiting pindirs (0, 0) false Late c ≡ record no_intent { sticky = c; kind = Late; stalled = true }
waiting_none true c = refl
waiting_none false c = refl

no_side : (side : Option ℕ) (begun : Bool) (s : MachineSetup) → begun ≡ true → side_writes side begun s ≡ (0, 0)
no_side None begun s h = refl
no_side (Some value) true s h = refl
no_side (Some value) false s h = cc

late : (begun : Bool) → begun ≡ true → cond begun Late First ≡ Late
late true h = refl
late false h = cc

still_tick :
    (op : Op) (s : MachineSetup) (q : Queues) (r : Registers) (c : ℕ) → r.begun ≡ true → refills s q r ≡ false
    → tick_by op s q r (record (stall r) { sticky = c }) ≡ (r, record no_intent { sticky = c; kind = Late; stalled = true })
unfolding tick_by after_effect
still_tick op s q r c begun h =
    let after : Registers = record r { begun = true } in
    let p : Bool = s.side_rule.pindirs in
    let side_set : ℕ × ℕ = side_writes op.side r.begun s in
    let kind : Kind = cond r.begun Late First in
    let stays : refilled s q after ≡ r = unrefilled s q after h ∙ ap (λ b. record r { begun = b }) (sym begun) in
    ap (λ x. (x, waiting p side_set (refills s q after) kind c)) stays
    ∙ ap (λ b. (r, waiting p side_set b kind c)) h
    ∙ ap (λ w. (r, waiting p w false kind c)) (no_side op.side r.begun s begun)
    ∙ ap (λ k. (r, waiting p (0, 0) false k c)) (late r.begun begun)
    ∙ ap (λ i. (r, i)) (waiting_none p c)

pub late_stall_waits :
    (s : MachineSetup) (v : View) (q : Queues) (r : Registers)
    → r.begun ≡ true → r.delay ≡ 0 → refills s q r ≡ false → (tick_of s v q r).1.stalled ≡ true
    → tick_of s v q r ≡ (r, record no_intent { sticky = (tick_of s v q r).1.sticky; kind = Late; stalled = true })
unfolding tick_of tick_word tick_by
late_stall_waits s v q r begun left h stalled =
    let op : Op = reading_of (current_word v r) s.side_rule in
    let e : Effect = effect_of op.act s v q r in
    let none : nat_lt 0 r.delay ≡ false = grind (arith, nat_tests) in
    let here : tick_of s v q r ≡ tick_by op s q r e = rw none refl in
    let same : e ≡ record (stall r) { sticky = e.sticky } =
    (does op.act s v q r).still begun (sym (ap (λ x. x.1.stalled) here) ∙ stalled) in
    here ∙ ap (λ x. tick_by op s q r x) same ∙ still_tick op s q r e.sticky begun h
    ∙ ap (λ c. (r, record no_intent { sticky = c; kind = Late; stalled = true })) (sym (ap (λ x. x.1.sticky) here))

-- a WAIT whose bit hasn't the polarity only stalls
unmet_effect : (act : Act) (s : MachineSetup) (v : View) (q : Queues) (r : Registers) → is_unmet act s v ≡ true → effect_of act s v q r ≡ stall r
unfolding effect_of wait_effect
unmet_effect (Wait polarity source index) s v q r h = rw (not-true (has_polarity polarity (waited_bit source index s v)) h) refl
unmet_effect (Jmp c address) s v q r h = cc
unmet_effect (In source n) s v q r h = cc
unmet_effect (Out destination n) s v q r h = cc
unmet_effect (Push if_full block) s v q r h = cc
unmet_effect (Pull if_empty block) s v q r h = cc
unmet_effect (Mov destination operation source) s v q r h = cc
unmet_effect (Irq clear waits index) s v q r h = cc
unmet_effect (Set destination value) s v q r h = cc
unmet_effect Nothing s v q r h = cc

pub unmet_waits : (s : MachineSetup) (v : View) (q : Queues) (r : Registers) → waits_again s v r ≡ true → tick_of s v q r ≡ (r, record no_intent { kind = Late; stalled = true })
unfolding tick_of tick_word tick_by
unmet_waits s v q r h =
    let op : Op = reading_of (current_word v r) s.side_rule in
    let e : Effect = effect_of op.act s v q r in
    let a = and_parts (not s.autopull) (r.delay == 0 && (r.begun && is_unmet op.act s v)) h in
    let b = and_parts (r.delay == 0) (r.begun && is_unmet op.act s v) a.1 in
    let c = and_parts r.begun (is_unmet op.act s v) b.1 in
    let left : r.delay ≡ 0 = is_zero r.delay b.0 in
    let none : nat_lt 0 r.delay ≡ false = grind (arith, nat_tests) in
    let here : tick_of s v q r ≡ tick_by op s q r e = rw none refl in
    let stalls : e ≡ stall r = unmet_effect op.act s v q r c.1 in
    let empty : refills s q r ≡ false = rw (not-true s.autopull a.0) refl in
    late_stall_waits s v q r c.0 left empty (ap (λ x. x.1.stalled) here ∙ ap (λ (x : Effect). x.stalled) stalls)
    ∙ ap (λ k. (r, record no_intent { sticky = k; kind = Late; stalled = true })) (ap (λ x. x.1.sticky) here ∙ ap (λ (x : Effect). x.sticky) stalls)
  where
    is_zero : (n : ℕ) → (n == 0) ≡ true → n ≡ 0
    is_zero n h = grind (arith, nat_tests)

-- so does the instruction as soon as no delay is left
pub unmet_stays : (s : MachineSetup) (v : View) (q : Queues) (r : Registers) → waits_again s v r ≡ true → stays s v q r ≡ true
unfolding reading_of
unmet_stays s v q r h =
    let a = and_parts (not s.autopull) (r.delay == 0 && (r.begun && is_unmet (current_act v r) s v)) h in
    let b = and_parts (r.delay == 0) (r.begun && is_unmet (current_act v r) s v) a.1 in
    let c = and_parts r.begun (is_unmet (current_act v r) s v) b.1 in
    both r.begun (undelayed s v q r).stalled c.0 (ap (λ (e : Effect). e.stalled) (unmet_effect (current_act v r) s v q (record r { delay = 0 }) c.1))
  where
    both : (a b : Bool) → a ≡ true → b ≡ true → (a && b) ≡ true
    both true b h k = k
    both false b h k = cc
