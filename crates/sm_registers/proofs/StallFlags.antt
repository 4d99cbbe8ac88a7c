-- Which sticky flags stay up: what a stall has raised, in late ticks that raise it again.
use Rattle.std.proofs.Common.{◌≡◌, ℕ, ◌-◌, ◌<◌, ◌≤◌, ◌==◌, nat_le, max, Bool, true, false, cond, ◌&&◌, Option, Some, None, is_some, List, [], ◌∷◌, length, slice_get, bit_or, refl, sym, ap, subst, ◌∙◌, inl, inr, arith}
use Rattle.std.specs.Int.{bit_at}
use Rattle.std.specs.Int.Bits.{or_zero_l}
use Rattle.std.proofs.lemmas.Bool.{cases_lt, and_parts}
use Rattle.std.proofs.lemmas.Bool.Decides.{nat_tests}
use Rattle.std.proofs.lemmas.Nat.Bits.{bit_at_or, same_from_bits}
use Rattle.pio_encode.specs.declared.act.Act.{Act}
use Rattle.pio_encode.specs.declared.act.Act.TheVariants.{Jmp, Wait, In, Out, Push, Pull, Mov, Irq, Set, Nothing}
use Rattle.pio_encode.specs.declared.act.OutDestination.{OutDestination}
use Rattle.pio_encode.specs.Word.{act_of}
use Rattle.fifo_pair.specs.Fifos.{Fifos}
use Rattle.pin_matrix.specs.declared.machine.MachineSetup.{MachineSetup}
use Rattle.sm_registers.specs.declared.sticky.TheConstants.{TX_STALL, RX_STALL}
use Rattle.sm_registers.specs.declared.registers.Registers.{Registers}
use Rattle.sm_registers.specs.View.{View}
use Rattle.sm_registers.specs.Queues.{Queues}
use Rattle.sm_registers.specs.Rules.{current_act}
use Rattle.sm_registers.specs.Effects.{Effect, starves, effect_of}
use Rattle.sm_registers.specs.State.{queues_of}
use Rattle.sm_registers.specs.Tick.{word_at, after_effect, refilled, osr_filled_from, tick_delay, tick_by, tick_of}
use Rattle.sm_registers.specs.Idling.{stirs}
use Rattle.sm_registers.specs.StallFlags.{AreUp, IsToldAct, IsKnown}
use Rattle.sm_registers.proofs.Autopull.{below_refilled}
use Rattle.sm_registers.proofs.Effects.{stall_flags, does}
use Rattle.sm_registers.proofs.Ticks.{op_now, effect_now, in_delay, at_rest, sticky_is}
use Rattle.sm_registers.proofs.Stirs.{calm_from}

-- what was raised is up, and stays up
max_twice : (a b : ℕ) → max a (max a b) ≡ max a b
max_twice a b = omega arith

max_more : (a x b : ℕ) → max a b ≡ b → max a (max x b) ≡ max x b
max_more a x b h = omega arith

up_now : (flags sticky : ℕ) → AreUp flags (bit_or flags sticky)
up_now f k = same_from_bits _ _ (λ i.
    bit_at_or f (bit_or f k) i ∙ ap (λ m. max (bit_at f i) m) (bit_at_or f k i)
    ∙ max_twice (bit_at f i) (bit_at k i) ∙ sym (bit_at_or f k i))

up_more : (flags more sticky : ℕ) → AreUp flags sticky → AreUp flags (bit_or more sticky)
up_more f x k h = same_from_bits _ _ (λ i.
    bit_at_or f (bit_or x k) i ∙ ap (λ m. max (bit_at f i) m) (bit_at_or x k i)
    ∙ max_more (bit_at f i) (bit_at x i) (bit_at k i) (sym (bit_at_or f k i) ∙ ap (λ m. bit_at m i) h)
    ∙ sym (bit_at_or x k i))

told_more :
    (a : Act) (s : MachineSetup) (count more sticky : ℕ) → IsToldAct a s count sticky → IsToldAct a s count (bit_or more sticky)
told_more (Jmp c address) s r x k h = h
told_more (Wait polarity source index) s r x k h = h
told_more (In source n) s r x k h = up_more RX_STALL x k h
told_more (Out destination n) s r x k h = λ t. up_more TX_STALL x k (h t)
told_more (Push if_full block) s r x k h = up_more RX_STALL x k h
told_more (Pull if_empty block) s r x k h = up_more TX_STALL x k h
told_more (Mov destination operation source) s r x k h = h
told_more (Irq clear waits index) s r x k h = h
told_more (Set destination value) s r x k h = h
told_more Nothing s r x k h = h

-- flags that come to those that are known stay known
pub known_more :
    (s : MachineSetup) (v : View) (r : Registers) (more sticky : ℕ) → IsKnown v s r sticky → IsKnown v s r (bit_or more sticky)
known_more s v r x k h = λ t. told_more (current_act v r) s r.out_count x k (h t)

-- an OUT stalls where the OSR's count has reached the threshold, with autopull
out_stalls :
    (d : OutDestination) (n : ℕ) (s : MachineSetup) (v : View) (q : Queues) (r : Registers) → (effect_of (Out d n) s v q r).stalled ≡ true
    → (s.autopull ≡ true) × (nat_le s.pull_threshold r.out_count ≡ true)
out_stalls d n s v q r h = and_parts s.autopull _ ((does (Out d n) s v q r).due refl refl h)

-- a refill keeps what is known
reached_if :
    (b : Bool) (front : Option ℕ) (threshold : ℕ) (r : Registers) → 1 ≤ threshold
    → nat_le threshold (cond b (osr_filled_from front r) r).out_count ≡ true → nat_le threshold r.out_count ≡ true
reached_if false front threshold r some h = h
reached_if true None threshold r some h = h
reached_if true (Some word) threshold r some h = let above : nat_le threshold 0 ≡ false = grind (arith, nat_tests) in cc

told_filled :
    (a : Act) (s : MachineSetup) (q : Queues) (r : Registers) (sticky : ℕ) → IsToldAct a s r.out_count sticky → IsToldAct a s (refilled s q r).out_count sticky
told_filled (Jmp c address) s q r k h = h
told_filled (Wait polarity source index) s q r k h = h
told_filled (In source n) s q r k h = h
told_filled (Out d n) s q r k h = λ t. h (reached_if (s.autopull && nat_le s.pull_threshold r.out_count) q.front s.pull_threshold r s.pulls_some t)
told_filled (Push if_full block) s q r k h = h
told_filled (Pull if_empty block) s q r k h = h
told_filled (Mov destination operation source) s q r k h = h
told_filled (Irq clear waits index) s q r k h = h
told_filled (Set destination value) s q r k h = h
told_filled Nothing s q r k h = h

-- registers that agree in PC, the pending word, and whether the instruction has begun
record SamePlace (x y : Registers) : Type 0 where
  pc : x.pc ≡ y.pc
  pending : x.pending ≡ y.pending
  begun : x.begun ≡ y.begun

place_if : (b : Bool) (front : Option ℕ) (r : Registers) → SamePlace (cond b (osr_filled_from front r) r) r
place_if false front r = record { pc = refl; pending = refl; begun = refl }
place_if true None r = record { pc = refl; pending = refl; begun = refl }
place_if true (Some word) r = record { pc = refl; pending = refl; begun = refl }

place_filled : (s : MachineSetup) (q : Queues) (r : Registers) → SamePlace (refilled s q r) r
place_filled s q r = place_if (s.autopull && nat_le s.pull_threshold r.out_count) q.front r

act_at : (v : View) (x y : Registers) → x.pc ≡ y.pc → x.pending ≡ y.pending → current_act v x ≡ current_act v y
act_at v x y h k = ap (λ p. act_of (word_at p v x.pc)) k ∙ ap (λ pc. act_of (word_at y.pending v pc)) h

known_filled :
    (s : MachineSetup) (v : View) (q : Queues) (r : Registers) (sticky : ℕ)
    → (r.begun ≡ true → IsToldAct (current_act v r) s (refilled s q r).out_count sticky) → IsKnown v s (refilled s q r) sticky
known_filled s v q r k h = λ t.
    let place = place_filled s q r in
    subst (λ a. IsToldAct a s (refilled s q r).out_count k) (sym (act_at v (refilled s q r) r place.pc place.pending)) (h (sym place.begun ∙ t))

-- TX is empty or has a word
abbrev IsOneTx : Queues → Type 0
IsOneTx q = starves q ≡ false → is_some q.front ≡ true

one_tx : (tx : List ℕ) → (length tx == 0) ≡ false → is_some (slice_get tx 0) ≡ true
one_tx [] h = cc
one_tx (word ∷ tx) h = refl

-- the flags of a stall are up after it
up_if :
    (starving : Bool) (sticky : ℕ) → (starving ≡ false → ⊥) → AreUp TX_STALL (bit_or (cond starving TX_STALL 0) sticky)
up_if true k h = up_now TX_STALL k
up_if false k h = absurd (h refl)

not_below : (threshold count : ℕ) → count < threshold → nat_le threshold count ≡ true → ⊥
not_below threshold count h k = let above : nat_le threshold count ≡ false = grind (arith, nat_tests) in cc

told_stalled :
    (a : Act) (s : MachineSetup) (v : View) (q : Queues) (r x : Registers) (sticky : ℕ) → IsOneTx q → (effect_of a s v q r).stalled ≡ true
    → IsToldAct a s (refilled s q x).out_count (bit_or (stall_flags a q) sticky)
unfolding effect_of
told_stalled (Jmp c address) s v q r x k one h = tt
told_stalled (Wait polarity source index) s v q r x k one h = tt
told_stalled (In source n) s v q r x k one h = up_now RX_STALL k
told_stalled (Out d n) s v q r x k one h = λ t.
    let pulls = (out_stalls d n s v q r h).0 in
    up_if (starves q) k (λ some. not_below _ _ (below_refilled s q x pulls (one some)) t)
told_stalled (Push if_full block) s v q r x k one h = up_now RX_STALL k
told_stalled (Pull if_empty block) s v q r x k one h = up_now TX_STALL k
told_stalled (Mov destination operation source) s v q r x k one h = tt
told_stalled (Irq clear waits index) s v q r x k one h = tt
told_stalled (Set destination value) s v q r x k one h = tt
told_stalled Nothing s v q r x k one h = tt

known_delay :
    (s : MachineSetup) (v : View) (q : Queues) (r : Registers) (sticky : ℕ) → IsKnown v s r sticky
    → IsKnown v s (tick_delay s q r).0 (bit_or (tick_delay s q r).1.sticky sticky)
unfolding tick_delay
known_delay s v q r k h =
    let after : Registers = record r { delay = r.delay - 1 } in
    known_filled s v q after (bit_or 0 k) (λ t. told_filled (current_act v r) s q after (bit_or 0 k) (told_more (current_act v r) s r.out_count 0 k (h t)))

-- what an instruction leaves of its place where it stalls; one that finishes has not begun
after_stalled : (delay : ℕ) (s : MachineSetup) (r : Registers) (e : Effect) (stalled : Bool) → e.stalled ≡ stalled → (after_effect delay s r e).begun ≡ stalled
unfolding after_effect
after_stalled delay s r e true h = rw h refl
after_stalled delay s r e false h = rw h refl

after_act :
    (delay : ℕ) (s : MachineSetup) (v : View) (q : Queues) (r : Registers) (e : Effect) → e.stalled ≡ true → e.registers.pc ≡ r.pc → e.registers.pending ≡ r.pending
    → current_act v (after_effect delay s r e) ≡ current_act v r
unfolding after_effect
after_act delay s v q r e h pc pending = rw h (act_at v (record e.registers { begun = true }) r pc pending)

known_by :
    (s : MachineSetup) (v : View) (q : Queues) (r : Registers) (sticky : ℕ) → IsOneTx q
    → IsKnown v s (tick_by (op_now s v r) s q r (effect_now s v q r)).0
    (bit_or (tick_by (op_now s v r) s q r (effect_now s v q r)).1.sticky sticky)
unfolding tick_by
known_by s v q r k one =
    let e : Effect = effect_now s v q r in
    let delay : ℕ = (op_now s v r).delay in
    let after : Registers = after_effect delay s r e in
    let does = does (current_act v r) s v q r in
    known_filled s v q after (bit_or e.sticky k) (λ t.
    let stalled : e.stalled ≡ true = sym (after_stalled delay s r e e.stalled refl) ∙ t in
    let flags = does.sticky stalled in
    let told = told_stalled (current_act v r) s v q r after k one stalled in
    subst (λ a. IsToldAct a s (refilled s q after).out_count (bit_or e.sticky k)) (sym (after_act delay s v q r e stalled does.pc does.waiting))
    (subst (λ f. IsToldAct (current_act v r) s (refilled s q after).out_count (bit_or f k)) (sym flags) told))

-- a tick keeps what is known
known_tick :
    (s : MachineSetup) (v : View) (q : Queues) (r : Registers) (sticky : ℕ) → IsOneTx q → IsKnown v s r sticky
    → IsKnown v s (tick_of s v q r).0 (bit_or (tick_of s v q r).1.sticky sticky)
known_tick s v q r k one h = elim (cases_lt 0 r.delay) [
  | inl left ↦ rw (in_delay s v q r left) (known_delay s v q r k h)
  | inr none ↦ let rest : r.delay ≡ 0 = omega arith in rw (at_rest s v q r rest) (known_by s v q r k one)
]

pub known_after :
    (s : MachineSetup) (v : View) (f : Fifos) (r : Registers) (sticky : ℕ) → IsKnown v s r sticky
    → IsKnown v s (tick_of s v (queues_of f) r).0 (bit_or (tick_of s v (queues_of f) r).1.sticky sticky)
known_after s v f r k h = known_tick s v (queues_of f) r k (one_tx f.tx) h

-- a stall that lasts raises nothing new
up_either : (b : Bool) (sticky : ℕ) → AreUp TX_STALL sticky → AreUp (cond b TX_STALL 0) sticky
up_either true k h = h
up_either false k h = or_zero_l k

up_stalled :
    (a : Act) (s : MachineSetup) (v : View) (q : Queues) (r : Registers) (sticky : ℕ) → (effect_of a s v q r).stalled ≡ true
    → IsToldAct a s r.out_count sticky → AreUp (stall_flags a q) sticky
unfolding effect_of
up_stalled (Jmp c address) s v q r k h told = or_zero_l k
up_stalled (Wait polarity source index) s v q r k h told = or_zero_l k
up_stalled (In source n) s v q r k h told = told
up_stalled (Out d n) s v q r k h told = up_either (starves q) k (told (out_stalls d n s v q r h).1)
up_stalled (Push if_full block) s v q r k h told = told
up_stalled (Pull if_empty block) s v q r k h told = told
up_stalled (Mov destination operation source) s v q r k h told = or_zero_l k
up_stalled (Irq clear waits index) s v q r k h told = or_zero_l k
up_stalled (Set destination value) s v q r k h told = or_zero_l k
up_stalled Nothing s v q r k h told = or_zero_l k

pub calm_raises :
    (s : MachineSetup) (v : View) (q : Queues) (r : Registers) (sticky : ℕ) → IsKnown v s r sticky → stirs (tick_of s v q r).1 ≡ false
    → AreUp (tick_of s v q r).1.sticky sticky
unfolding tick_delay
calm_raises s v q r k known h = elim (cases_lt 0 r.delay) [
  | inl left ↦ ap (λ x. bit_or x.1.sticky k) (in_delay s v q r left) ∙ or_zero_l k
  | inr none ↦ (let rest : r.delay ≡ 0 = omega arith in
      let calm = calm_from s v q r rest h in
      let flags = sticky_is s v q r rest ∙ (does (current_act v r) s v q r).sticky calm.stalled in
      ap (λ f. bit_or f k) flags ∙ up_stalled (current_act v r) s v q r k calm.stalled (known calm.begun))
]
