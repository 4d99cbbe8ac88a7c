-- What an instruction does when it finishes is one of the outcomes that the checker knows of.
use Rattle.std.proofs.Common.{◌≡◌, ℕ, ◌==◌, Bool, true, false, not, cond, if◌then◌else◌, Option, Some, None, List, [], ◌∷◌, ◌++◌, map, flat_map, refl, sym, ap, subst, ◌∙◌, rules}
use Rattle.std.proofs.lemmas.Bool.{and_parts, eqb-true}
use Rattle.std.proofs.lemmas.Nat.Bits.{bit_at-zero}
use Rattle.std.specs.Int.{bit_at}
use Rattle.std.specs.List.{AllByRecursion}
use Rattle.pio_encode.specs.declared.act.Act.{Act}
use Rattle.pio_encode.specs.declared.act.Act.TheVariants.{Jmp, Wait, In, Out, Push, Pull, Mov, Irq, Set, Nothing}
use Rattle.pio_encode.specs.declared.act.Condition.{Condition}
use Rattle.pio_encode.specs.declared.act.Condition.TheVariants as condition
use Rattle.pio_encode.specs.declared.act.OutDestination.{OutDestination}
use Rattle.pio_encode.specs.declared.act.OutDestination.TheVariants as out_destination
use Rattle.pio_encode.specs.declared.act.MovDestination.{MovDestination}
use Rattle.pio_encode.specs.declared.act.MovDestination.TheVariants as mov_destination
use Rattle.pio_encode.specs.declared.act.MovOperation.{MovOperation}
use Rattle.pio_encode.specs.declared.act.MovOperation.TheVariants as mov_operation
use Rattle.pio_encode.specs.declared.act.MovSource.{MovSource}
use Rattle.pio_encode.specs.declared.act.MovSource.TheVariants as mov_source
use Rattle.pio_encode.specs.declared.act.SetDestination.{SetDestination}
use Rattle.pio_encode.specs.declared.act.SetDestination.TheVariants as set_destination
use Rattle.pin_matrix.specs.Pins.{writes_of}
use Rattle.pin_matrix.specs.declared.machine.MachineSetup.{MachineSetup}
use Rattle.pin_matrix.specs.declared.mapping.Mapping.{Mapping}
use Rattle.pin_matrix.specs.declared.span.PinSignal.{PinSignal}
use Rattle.pin_matrix.specs.declared.span.PinSignal.TheVariants.{Level, Direction}
use Rattle.pin_matrix.specs.declared.span.Span.{Span}
use Rattle.sm_registers.specs.declared.registers.Registers.{Registers}
use Rattle.sm_registers.specs.View.{View}
use Rattle.sm_registers.specs.Queues.{Queues}
use Rattle.sm_registers.specs.Effects.{Effect, fallen, counted_down, jumps, jmp_effect, wait_effect, in_effect, autopushed, out_to, out_effect, push_effect, pulled, pull_effect, mov_word, operated, mov_to, mov_effect, irq_effect, set_effect, effect_of}
use Rattle.span_step.specs.Contexts.{Context}
use Rattle.span_step.specs.Outcomes.{ContextOutcome, nothing_done, level_at, signal_at, is_held, either_level, has_one_signal, has_one_pin, unknown_levels, unknown_pins, is_zero, is_nonzero, differ, taken, after_count, ways, out_outcomes, copied, mov_outcomes, set_outcomes, outcomes, is_wild}
use Rattle.span_step.specs.Outcomes as outcome
use Rattle.span_ticks.specs.UnderWay.{Covers, flow_of}

-- an effect's write to the watched signal: to levels, or to directions
abbrev pub effect_write : Option PinSignal → Effect → ℕ × ℕ
effect_write None e = (0, 0)
effect_write (Some Level) e = e.level
effect_write (Some Direction) e = e.direction

-- an effect that finishes is as this outcome says
pub record Explains (sp : Span) (e : Effect) (o : ContextOutcome) : Type 0 where
  pub jump : e.jump ≡ o.jump
  pub pending : e.pending ≡ None
  pub x : Covers o.x e.registers.x
  pub y : Covers o.y e.registers.y
  pub from : level_at sp.from_pin (effect_write sp.from_signal e) ≡ o.from
  pub to : level_at sp.to_pin (effect_write sp.to_signal e) ≡ o.to

-- what holds of all outcomes holds of one that explains the effect
pub record Picked (P : ContextOutcome → Type 0) (sp : Span) (e : Effect) : Type 0 where
  pub outcome : ContextOutcome
  pub holds : P outcome
  pub explains : Explains sp e outcome

pub level_none : (p : ℕ) → level_at p (0, 0) ≡ None
level_none p = ap (λ b. cond (b == 1) (Some (bit_at 0 p == 1)) None) (bit_at-zero p)

-- an effect that writes nothing
pub writes_none : (signal : Option PinSignal) (p : ℕ) (e : Effect) → e.level ≡ (0, 0) → e.direction ≡ (0, 0) → level_at p (effect_write signal e) ≡ None
writes_none None p e l d = level_none p
writes_none (Some Level) p e l d = ap (level_at p) l ∙ level_none p
writes_none (Some Direction) p e l d = ap (level_at p) d ∙ level_none p

-- one that writes levels, or directions, and nothing else
abbrev IsWriteTo : PinSignal → ℕ × ℕ → Effect → Type 0
IsWriteTo Level w e = (e.level ≡ w) × (e.direction ≡ (0, 0))
IsWriteTo Direction w e = (e.direction ≡ w) × (e.level ≡ (0, 0))

writes_one : (signal : PinSignal) (watched : Option PinSignal) (p : ℕ) (e : Effect) (w : ℕ × ℕ) → IsWriteTo signal w e → level_at p (effect_write watched e) ≡ signal_at signal watched p w
writes_one Level None p e w h = level_none p
writes_one Level (Some Level) p e w h = ap (level_at p) h.0
writes_one Level (Some Direction) p e w h = ap (level_at p) h.1 ∙ level_none p
writes_one Direction None p e w h = level_none p
writes_one Direction (Some Level) p e w h = ap (level_at p) h.1 ∙ level_none p
writes_one Direction (Some Direction) p e w h = ap (level_at p) h.0

-- an effect that does nothing that the checker follows
record IsSilent (r : Registers) (e : Effect) : Type 0 where
  jump : e.jump ≡ None
  pending : e.pending ≡ None
  level : e.level ≡ (0, 0)
  direction : e.direction ≡ (0, 0)
  flow : flow_of e.registers ≡ flow_of r

silent_by : (r : Registers) (e : Effect) → e.jump ≡ None → e.pending ≡ None → e.level ≡ (0, 0) → e.direction ≡ (0, 0) → flow_of e.registers ≡ flow_of r → IsSilent r e
silent_by r e h k l d m = record { jump = h; pending = k; level = l; direction = d; flow = m }

silent_if : (r : Registers) (b : Bool) (x y : Effect) → IsSilent r x → IsSilent r y → IsSilent r (cond b x y)
silent_if r true x y h k = h
silent_if r false x y h k = k

silent_autopushed : (s : MachineSetup) (q : Queues) (r x : Registers) → flow_of x ≡ flow_of r → IsSilent r (autopushed s q x)
silent_autopushed s q r x h = search (rules, silent_if, silent_by)

silent_in : (s : MachineSetup) (q : Queues) (b : Bool) (r x : Registers) → flow_of x ≡ flow_of r → IsSilent r (autopushed s q (cond b r x))
silent_in s q true r x h = silent_autopushed s q r r refl
silent_in s q false r x h = silent_autopushed s q r x h

silent_pulled : (front : Option ℕ) (block : Bool) (r : Registers) → IsSilent r (pulled front block r)
silent_pulled None block r = search (rules, silent_if, silent_by)
silent_pulled (Some word) block r = silent_by r _ refl refl refl refl refl

-- X and Y after such an effect
explains_silent : (sp : Span) (k : Context) (r : Registers) (e : Effect) → Covers k.x r.x → Covers k.y r.y → IsSilent r e → Explains sp e (nothing_done k)
explains_silent sp k r e x y h = record {
  jump = h.jump;
  pending = h.pending;
  x = rw (ap (λ f. f.x) h.flow) x;
  y = rw (ap (λ f. f.y) h.flow) y;
  from = writes_none sp.from_signal sp.from_pin e h.level h.direction;
  to = writes_none sp.to_signal sp.to_pin e h.level h.direction;
}

picked_silent : (P : ContextOutcome → Type 0) (sp : Span) (k : Context) (r : Registers) (e : Effect) → AllByRecursion P (nothing_done k ∷ []) → Covers k.x r.x → Covers k.y r.y
    → IsSilent r e → Picked P sp e
picked_silent P sp k r e all x y h = record { outcome = nothing_done k; holds = all.0; explains = explains_silent sp k r e x y h }

-- what is known of a test agrees with it
abbrev Agrees : Option Bool → Bool → Type 0
Agrees None b = Unit {0}
Agrees (Some t) b = b ≡ t

zero_agrees : (known : Option ℕ) (n : ℕ) → Covers known n → Agrees (is_zero known) (n == 0)
zero_agrees None n h = tt
zero_agrees (Some k) n h = ap (λ m. m == 0) h

nonzero_agrees : (known : Option ℕ) (n : ℕ) → Covers known n → Agrees (is_nonzero known) (not (n == 0))
nonzero_agrees None n h = tt
nonzero_agrees (Some k) n h = ap (λ m. not (m == 0)) h

differ_agrees : (known other : Option ℕ) (m n : ℕ) → Covers known m → Covers other n → Agrees (differ known other) (not (m == n))
differ_agrees None other m n h k = tt
differ_agrees (Some x) None m n h k = tt
differ_agrees (Some x) (Some y) m n h k = rw (h, k) refl

taken_agrees : (c : Condition) (k : Context) (s : MachineSetup) (v : View) (r : Registers) → Covers k.x r.x → Covers k.y r.y → Agrees (taken c k) (jumps c s v r)
taken_agrees condition.Always k s v r x y = refl
taken_agrees condition.XZero k s v r x y = zero_agrees k.x r.x x
taken_agrees condition.XDecrement k s v r x y = nonzero_agrees k.x r.x x
taken_agrees condition.YZero k s v r x y = zero_agrees k.y r.y y
taken_agrees condition.YDecrement k s v r x y = nonzero_agrees k.y r.y y
taken_agrees condition.XNotY k s v r x y = differ_agrees k.x k.y r.x r.y x y
taken_agrees condition.Pin k s v r x y = tt
taken_agrees condition.OsrNotEmpty k s v r x y = tt

count_covers : (known : Option ℕ) (n : ℕ) → Covers known n → Covers (outcome.counted_down known) (fallen n)
count_covers None n h = tt
count_covers (Some k) n h = by (k == 0) where
  by : (z : Bool) → Covers (cond z None (Some (fallen k))) (fallen n)
  by true = tt
  by false = ap fallen h

-- a JMP that goes on
explains_count : (c : Condition) (sp : Span) (k : Context) (r : Registers) → Covers k.x r.x → Covers k.y r.y
    → Covers (after_count c k).x (counted_down c r).x × Covers (after_count c k).y (counted_down c r).y
explains_count condition.Always sp k r x y = (x, y)
explains_count condition.XZero sp k r x y = (x, y)
explains_count condition.XDecrement sp k r x y = (count_covers k.x r.x x, y)
explains_count condition.YZero sp k r x y = (x, y)
explains_count condition.YDecrement sp k r x y = (x, count_covers k.y r.y y)
explains_count condition.XNotY sp k r x y = (x, y)
explains_count condition.Pin sp k r x y = (x, y)
explains_count condition.OsrNotEmpty sp k r x y = (x, y)

no_write : (c : Condition) (k : Context) → ((after_count c k).from ≡ None) × ((after_count c k).to ≡ None) × ((after_count c k).jump ≡ None)
no_write condition.Always k = (refl, refl, refl)
no_write condition.XZero k = (refl, refl, refl)
no_write condition.XDecrement k = (refl, refl, refl)
no_write condition.YZero k = (refl, refl, refl)
no_write condition.YDecrement k = (refl, refl, refl)
no_write condition.XNotY k = (refl, refl, refl)
no_write condition.Pin k = (refl, refl, refl)
no_write condition.OsrNotEmpty k = (refl, refl, refl)

-- the effect of a JMP, by whether it is taken
abbrev jumped : Condition → ℕ → Bool → MachineSetup → View → Registers → Effect
jumped c address taken s v r = record (jmp_effect c address s v r) { registers = counted_down c r; jump = if taken then Some address else None }

module _ (P : ContextOutcome → Type 0) (c : Condition) (address : ℕ) (s : MachineSetup) (sp : Span) (k : Context) (v : View) (r : Registers) (x : Covers k.x r.x) (y : Covers k.y r.y) where
  goes : P (record (after_count c k) { jump = Some address }) → Picked P sp (jumped c address true s v r)
  unfolding jmp_effect
  goes h = let p = explains_count c sp k r x y in let n = no_write c k in record {
    outcome = record (after_count c k) { jump = Some address };
    holds = h;
    explains = record {
      jump = refl;
      pending = refl;
      x = p.0;
      y = p.1;
      from = writes_none sp.from_signal sp.from_pin _ refl refl ∙ sym n.0;
      to = writes_none sp.to_signal sp.to_pin _ refl refl ∙ sym n.1;
    };
  }

  stays : P (after_count c k) → Picked P sp (jumped c address false s v r)
  unfolding jmp_effect
  stays h = let p = explains_count c sp k r x y in let n = no_write c k in record {
    outcome = after_count c k;
    holds = h;
    explains = record {
      jump = sym n.2;
      pending = refl;
      x = p.0;
      y = p.1;
      from = writes_none sp.from_signal sp.from_pin _ refl refl ∙ sym n.0;
      to = writes_none sp.to_signal sp.to_pin _ refl refl ∙ sym n.1;
    };
  }

  picked_ways : (known : Option Bool) (b : Bool) → Agrees known b → AllByRecursion P (ways known address (after_count c k)) → Picked P sp (jumped c address b s v r)
  picked_ways (Some true) true e h = goes h.0
  picked_ways (Some true) false e h = cc
  picked_ways (Some false) true e h = cc
  picked_ways (Some false) false e h = stays h.0
  picked_ways None true e h = goes h.0
  picked_ways None false e h = stays h.1.0

  picked_jmp : AllByRecursion P (ways (taken c k) address (after_count c k)) → Picked P sp (jmp_effect c address s v r)
  unfolding jmp_effect
  picked_jmp h = picked_ways (taken c k) (jumps c s v r) (taken_agrees c k s v r x y) h

pub all_map : {A B : Type 0} (P : B → Type 0) (f : A → B) (xs : List A) → AllByRecursion P (map f xs) → AllByRecursion (λ x. P (f x)) xs
all_map P f [] h = tt
all_map P f (x ∷ xs) h = (h.0, all_map P f xs h.1)

pub all_front : {A : Type 0} (P : A → Type 0) (xs ys : List A) → AllByRecursion P (xs ++ ys) → AllByRecursion P xs × AllByRecursion P ys
all_front P [] ys h = (tt, h)
all_front P (x ∷ xs) ys h = let p = all_front P xs ys h.1 in ((h.0, p.0), p.1)

pub all_flat : {A B : Type 0} (P : B → Type 0) (f : A → List B) (xs : List A) → AllByRecursion P (flat_map f xs) → AllByRecursion (λ x. AllByRecursion P (f x)) xs
all_flat P f [] h = tt
all_flat P f (x ∷ xs) h = let p = all_front P (f x) (flat_map f xs) h in (p.0, all_flat P f xs p.1)

-- what a value writes to a pin that is held is either
all_either : (Q : Option Bool → Type 0) (held level : Bool) → AllByRecursion Q (either_level held) → Q (cond held (Some level) None)
all_either Q true true h = h.1.0
all_either Q true false h = h.0
all_either Q false level h = h.0

held_at : (signal : PinSignal) (watched : Option PinSignal) (m : Mapping) (p value : ℕ) → cond (is_held signal watched m p) (Some (bit_at (writes_of m value).1 p == 1)) None ≡ signal_at signal watched p (writes_of m value)
held_at Level None m p value = refl
held_at Level (Some Level) m p value = refl
held_at Level (Some Direction) m p value = refl
held_at Direction None m p value = refl
held_at Direction (Some Level) m p value = refl
held_at Direction (Some Direction) m p value = refl

all_signal : (Q : Option Bool → Type 0) (signal : PinSignal) (watched : Option PinSignal) (m : Mapping) (p value : ℕ) → AllByRecursion Q (either_level (is_held signal watched m p)) → Q (signal_at signal watched p (writes_of m value))
all_signal Q signal watched m p value h = subst Q (held_at signal watched m p value) (all_either Q (is_held signal watched m p) (bit_at (writes_of m value).1 p == 1) h)

same_signal : (a b : Option PinSignal) → has_one_signal a b ≡ true → b ≡ a
same_signal None b h = cc
same_signal (Some Level) None h = cc
same_signal (Some Level) (Some Level) h = refl
same_signal (Some Level) (Some Direction) h = cc
same_signal (Some Direction) None h = cc
same_signal (Some Direction) (Some Level) h = cc
same_signal (Some Direction) (Some Direction) h = refl

pub all_levels : (Q : Option Bool × Option Bool → Type 0) (signal : PinSignal) (m : Mapping) (sp : Span) (value : ℕ) → AllByRecursion Q (unknown_levels signal m sp)
    → Q (signal_at signal sp.from_signal sp.from_pin (writes_of m value), signal_at signal sp.to_signal sp.to_pin (writes_of m value))
all_levels Q signal m sp value = by (has_one_pin sp) refl where
  from : List (Option Bool)
  from = either_level (is_held signal sp.from_signal m sp.from_pin)

  to : List (Option Bool)
  to = either_level (is_held signal sp.to_signal m sp.to_pin)

  f : Option Bool
  f = signal_at signal sp.from_signal sp.from_pin (writes_of m value)

  t : Option Bool
  t = signal_at signal sp.to_signal sp.to_pin (writes_of m value)

  one : AllByRecursion Q (map (λ l. (l, l)) from) → Q (f, f)
  one h = all_signal (λ l. Q (l, l)) signal sp.from_signal m sp.from_pin value (all_map Q (λ l. (l, l)) from h)

  two : AllByRecursion Q (flat_map (λ f. map (λ t. (f, t)) to) from) → Q (f, t)
  two h = let rows = all_flat Q (λ f. map (λ t. (f, t)) to) from h in
      let row = all_signal (λ f. AllByRecursion Q (map (λ t. (f, t)) to)) signal sp.from_signal m sp.from_pin value rows in
      all_signal (λ t. Q (f, t)) signal sp.to_signal m sp.to_pin value (all_map Q (λ t. (f, t)) to row)

  same : has_one_pin sp ≡ true → t ≡ f
  same e =
      let parts = and_parts (sp.from_pin == sp.to_pin) (has_one_signal sp.from_signal sp.to_signal) e in
      let pin : sp.to_pin ≡ sp.from_pin = sym (eqb-true sp.from_pin sp.to_pin parts.0) in
      let kind : sp.to_signal ≡ sp.from_signal = same_signal sp.from_signal sp.to_signal parts.1 in
      ap (λ p. signal_at signal sp.to_signal p (writes_of m value)) pin ∙ ap (λ k. signal_at signal k sp.from_pin (writes_of m value)) kind

  by : (z : Bool) → has_one_pin sp ≡ z → AllByRecursion Q (cond z (map (λ l. (l, l)) from) (flat_map (λ f. map (λ t. (f, t)) to) from)) → Q (f, t)
  by true e h = subst (λ x. Q (f, x)) (sym (same e)) (one h)
  by false e h = two h

-- OUT PINS, MOV PINS and OUT PINDIRS
picked_pins : (P : ContextOutcome → Type 0) (signal : PinSignal) (value : ℕ) (s : MachineSetup) (sp : Span) (k : Context) (e : Effect) → AllByRecursion P (unknown_pins signal s sp k)
    → e.jump ≡ None → e.pending ≡ None → Covers k.x e.registers.x → Covers k.y e.registers.y → IsWriteTo signal (writes_of s.out value) e → Picked P sp e
picked_pins P signal value s sp k e all j p x y l =
    let write = writes_of s.out value in
    record {
      outcome = record (nothing_done k) { from = signal_at signal sp.from_signal sp.from_pin write; to = signal_at signal sp.to_signal sp.to_pin write };
      holds = all_levels (λ l. P (record (nothing_done k) { from = l.0; to = l.1 })) signal s.out sp value (all_map P (λ l. record (nothing_done k) { from = l.0; to = l.1 }) (unknown_levels signal s.out sp) all);
      explains = record {
        jump = j;
        pending = p;
        x = x;
        y = y;
        from = writes_one signal sp.from_signal sp.from_pin e write l;
        to = writes_one signal sp.to_signal sp.to_pin e write l;
      };
    }

-- one that writes no pins and has one outcome
picked_one : (P : ContextOutcome → Type 0) (sp : Span) (o : ContextOutcome) (e : Effect) → AllByRecursion P (o ∷ []) → e.jump ≡ o.jump → e.pending ≡ None → Covers o.x e.registers.x
    → Covers o.y e.registers.y → e.level ≡ (0, 0) → e.direction ≡ (0, 0) → o.from ≡ None → o.to ≡ None → Picked P sp e
picked_one P sp o e all j p x y l d f t = record {
  outcome = o;
  holds = all.0;
  explains = record {
    jump = j;
    pending = p;
    x = x;
    y = y;
    from = writes_none sp.from_signal sp.from_pin e l d ∙ sym f;
    to = writes_none sp.to_signal sp.to_pin e l d ∙ sym t;
  };
}

picked_out : (P : ContextOutcome → Type 0) (d : OutDestination) (value n : ℕ) (s : MachineSetup) (sp : Span) (k : Context) (r : Registers) → is_wild (Out d n) ≡ false → Covers k.x r.x → Covers k.y r.y
    → AllByRecursion P (out_outcomes d s sp k) → Picked P sp (out_to d value n s r)
unfolding is_wild
picked_out P out_destination.Pins value n s sp k r w x y h = picked_pins P Level value s sp k _ h refl refl x y (refl, refl)
picked_out P out_destination.X value n s sp k r w x y h = picked_one P sp _ _ h refl refl tt y refl refl refl refl
picked_out P out_destination.Y value n s sp k r w x y h = picked_one P sp _ _ h refl refl x tt refl refl refl refl
picked_out P out_destination.Null value n s sp k r w x y h = picked_one P sp _ _ h refl refl x y refl refl refl refl
picked_out P out_destination.Pindirs value n s sp k r w x y h = picked_pins P Direction value s sp k _ h refl refl x y (refl, refl)
picked_out P out_destination.Pc value n s sp k r w x y h = cc
picked_out P out_destination.Isr value n s sp k r w x y h = picked_one P sp _ _ h refl refl x y refl refl refl refl
picked_out P out_destination.Exec value n s sp k r w x y h = cc

copy_covers : (o : MovOperation) (source : MovSource) (s : MachineSetup) (v : View) (q : Queues) (k : Context) (r : Registers) → Covers k.x r.x → Covers k.y r.y
    → Covers (copied o source k) (operated o (mov_word source s v q r))
copy_covers mov_operation.Plain mov_source.Pins s v q k r x y = tt
copy_covers mov_operation.Plain mov_source.X s v q k r x y = x
copy_covers mov_operation.Plain mov_source.Y s v q k r x y = y
copy_covers mov_operation.Plain mov_source.Null s v q k r x y = refl
copy_covers mov_operation.Plain mov_source.Status s v q k r x y = tt
copy_covers mov_operation.Plain mov_source.Isr s v q k r x y = tt
copy_covers mov_operation.Plain mov_source.Osr s v q k r x y = tt
copy_covers mov_operation.Invert source s v q k r x y = tt
copy_covers mov_operation.Reverse source s v q k r x y = tt

picked_mov : (P : ContextOutcome → Type 0) (d : MovDestination) (o : MovOperation) (source : MovSource) (word : Option ℕ) (value : ℕ) (s : MachineSetup) (sp : Span) (k : Context) (r : Registers) → is_wild (Mov d o source) ≡ false
    → Covers word value → Covers k.x r.x → Covers k.y r.y → AllByRecursion P (mov_outcomes d word s sp k) → Picked P sp (mov_to d value s r)
unfolding is_wild
picked_mov P mov_destination.Pins o source word value s sp k r w c x y h = picked_pins P Level value s sp k _ h refl refl x y (refl, refl)
picked_mov P mov_destination.X o source word value s sp k r w c x y h = picked_one P sp _ _ h refl refl c y refl refl refl refl
picked_mov P mov_destination.Y o source word value s sp k r w c x y h = picked_one P sp _ _ h refl refl x c refl refl refl refl
picked_mov P mov_destination.Exec o source word value s sp k r w c x y h = cc
picked_mov P mov_destination.Pc o source word value s sp k r w c x y h = cc
picked_mov P mov_destination.Isr o source word value s sp k r w c x y h = picked_one P sp _ _ h refl refl x y refl refl refl refl
picked_mov P mov_destination.Osr o source word value s sp k r w c x y h = picked_one P sp _ _ h refl refl x y refl refl refl refl

-- SET PINS and SET PINDIRS
picked_known : (P : ContextOutcome → Type 0) (signal : PinSignal) (value : ℕ) (s : MachineSetup) (sp : Span) (k : Context) (e : Effect) → AllByRecursion P (outcome.set_pins signal value s sp k ∷ [])
    → e.jump ≡ None → e.pending ≡ None → Covers k.x e.registers.x → Covers k.y e.registers.y → IsWriteTo signal (writes_of s.set value) e → Picked P sp e
picked_known P signal value s sp k e all j p x y l = record {
  outcome = outcome.set_pins signal value s sp k;
  holds = all.0;
  explains = record {
    jump = j;
    pending = p;
    x = x;
    y = y;
    from = writes_one signal sp.from_signal sp.from_pin e (writes_of s.set value) l;
    to = writes_one signal sp.to_signal sp.to_pin e (writes_of s.set value) l;
  };
}

picked_set : (P : ContextOutcome → Type 0) (d : SetDestination) (value : ℕ) (s : MachineSetup) (sp : Span) (k : Context) (r : Registers) → Covers k.x r.x → Covers k.y r.y
    → AllByRecursion P (set_outcomes d value s sp k) → Picked P sp (set_effect d value s r)
unfolding set_effect
picked_set P set_destination.Pins value s sp k r x y h = picked_known P Level value s sp k _ h refl refl x y (refl, refl)
picked_set P set_destination.X value s sp k r x y h = picked_one P sp _ _ h refl refl refl y refl refl refl refl
picked_set P set_destination.Y value s sp k r x y h = picked_one P sp _ _ h refl refl x refl refl refl refl refl
picked_set P set_destination.Pindirs value s sp k r x y h = picked_known P Direction value s sp k _ h refl refl x y (refl, refl)

-- an OUT that doesn't stall
out_done : (P : Effect → Type 0) (b : Bool) (x y : Effect) → x.stalled ≡ true → (cond b x y).stalled ≡ false → P y → P (cond b x y)
out_done P true x y h k p = absurd (let e : true ≡ false = sym h ∙ k in cc)
out_done P false x y h k p = p

-- any instruction that finishes
pub explained : (P : ContextOutcome → Type 0) (a : Act) (s : MachineSetup) (sp : Span) (k : Context) (v : View) (q : Queues) (r : Registers)
    → is_wild a ≡ false → Covers k.x r.x → Covers k.y r.y
    → (effect_of a s v q r).stalled ≡ false → AllByRecursion P (outcomes a s sp k) → Picked P sp (effect_of a s v q r)
unfolding effect_of outcomes wait_effect in_effect out_effect push_effect pull_effect mov_effect irq_effect
explained P (Jmp c address) s sp k v q r w x y ends h = picked_jmp P c address s sp k v r x y h
explained P (Wait polarity source index) s sp k v q r w x y ends h = picked_silent P sp k r _ h x y (search (rules, silent_if, silent_by))
explained P (In source n) s sp k v q r w x y ends h = picked_silent P sp k r _ h x y (silent_in s q r.begun r _ refl)
explained P (Out d n) s sp k v q r w x y ends h = out_done (Picked P sp) _ _ _ refl ends (picked_out P d _ n s sp k _ w x y h)
explained P (Push if_full block) s sp k v q r w x y ends h = picked_silent P sp k r _ h x y (search (rules, silent_if, silent_by) depth 20)
explained P (Pull if_empty block) s sp k v q r w x y ends h = picked_silent P sp k r _ h x y (search (rules, silent_if, silent_by, silent_pulled))
explained P (Mov d o source) s sp k v q r w x y ends h = picked_mov P d o source _ _ s sp k r w (copy_covers o source s v q k r x y) x y h
explained P (Irq clear waits index) s sp k v q r w x y ends h = picked_silent P sp k r _ h x y (search (rules, silent_if, silent_by) depth 20)
explained P (Set d value) s sp k v q r w x y ends h = picked_set P d value s sp k r x y h
explained P Nothing s sp k v q r w x y ends h = picked_silent P sp k r _ h x y (silent_by r _ refl refl refl refl refl)
