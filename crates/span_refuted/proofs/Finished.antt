-- What an instruction with one way does in a tick is its one outcome.
use Rattle.std.proofs.Common.{◌≡◌, ℕ, ◌==◌, Bool, true, false, cond, Option, Some, None, List, [], ◌∷◌, map, refl, sym, ap, subst, ◌∙◌, rules}
use Rattle.std.proofs.lemmas.Nat.Bits.{bit_at-zero}
use Rattle.std.specs.Int.{bit_at}
use Rattle.pio_encode.specs.declared.act.Act.{Act}
use Rattle.pio_encode.specs.declared.act.Act.TheVariants.{Jmp, Wait, In, Out, Push, Pull, Mov, Irq, Set, Nothing}
use Rattle.pio_encode.specs.declared.act.Condition.TheVariants as condition
use Rattle.pio_encode.specs.declared.act.OutDestination.TheVariants as out_destination
use Rattle.pio_encode.specs.declared.act.MovDestination.TheVariants as mov_destination
use Rattle.pio_encode.specs.declared.act.SetDestination.TheVariants as set_destination
use Rattle.pin_matrix.specs.declared.machine.MachineSetup.{MachineSetup}
use Rattle.pin_matrix.specs.declared.span.PinSignal.TheVariants.{Level, Direction}
use Rattle.pin_matrix.specs.declared.span.Span.{Span}
use Rattle.pin_matrix.specs.Pins.{writes_of}
use Rattle.sm_registers.specs.declared.registers.Registers.{Registers}
use Rattle.sm_registers.specs.View.{View}
use Rattle.sm_registers.specs.Queues.{Queues}
use Rattle.sm_registers.specs.Effects.{Effect, jmp_effect, in_effect, out_effect, push_effect, pulled, pull_effect, mov_effect, irq_effect, set_effect, effect_of}
use Rattle.span_step.specs.Contexts.{Context}
use Rattle.span_step.specs.Outcomes.{ContextOutcome, nothing_done, level_at, signal_at, outcomes, may_stall}
use Rattle.span_refuted.specs.OneWay.{is_settled, IsSimple}
use Rattle.span_refuted.proofs.Sole.{no_turn}

-- the effect finishes, and is as this outcome says
pub record Explains (sp : Span) (o : ContextOutcome) (e : Effect) : Type 0 where
  pub stalled : e.stalled ≡ false
  pub jump : e.jump ≡ o.jump
  pub pending : e.pending ≡ None
  pub from : level_at sp.from_pin e.level ≡ o.from
  pub to : level_at sp.to_pin e.level ≡ o.to

pub level_none : (p : ℕ) → level_at p (0, 0) ≡ None
level_none p = ap (λ b. cond (b == 1) (Some (bit_at 0 p == 1)) None) (bit_at-zero p)

-- it finishes, goes on, and writes no level
record IsSilent (e : Effect) : Type 0 where
  stalled : e.stalled ≡ false
  jump : e.jump ≡ None
  pending : e.pending ≡ None
  level : e.level ≡ (0, 0)

silent_if : (b : Bool) (x y : Effect) → IsSilent x → IsSilent y → IsSilent (cond b x y)
silent_if true x y h k = h
silent_if false x y h k = k

silent_pulled : (front : Option ℕ) (r : Registers) → IsSilent (pulled front false r)
silent_pulled None r = record { stalled = refl; jump = refl; pending = refl; level = refl }
silent_pulled (Some word) r = record { stalled = refl; jump = refl; pending = refl; level = refl }

silent_by : (e : Effect) → e.stalled ≡ false → e.jump ≡ None → e.pending ≡ None → e.level ≡ (0, 0) → IsSilent e
silent_by e h j p l = record { stalled = h; jump = j; pending = p; level = l }

-- a PUSH that doesn't block
silent_push : (if_full : Bool) (s : MachineSetup) (q : Queues) (r : Registers) → IsSilent (push_effect if_full false s q r)
unfolding push_effect
silent_push if_full s q r = search (rules, silent_if, silent_by) depth 20

-- a PULL that doesn't block
silent_pull : (if_empty : Bool) (s : MachineSetup) (q : Queues) (r : Registers) → IsSilent (pull_effect if_empty false s q r)
unfolding pull_effect
silent_pull if_empty s q r = search (rules, silent_if, silent_by, silent_pulled)

head_same : {A : Type 0} (x y : A) (xs ys : List A) → x ∷ xs ≡ y ∷ ys → x ≡ y
head_same x y xs ys e = cc

by_outcome : (sp : Span) (x o : ContextOutcome) (e : Effect) → x ∷ [] ≡ o ∷ [] → Explains sp x e → Explains sp o e
by_outcome sp x o e h k = subst (λ y. Explains sp y e) (head_same x o [] [] h) k

explains_silent : (sp : Span) (x o : ContextOutcome) (e : Effect) → x ∷ [] ≡ o ∷ [] → x.jump ≡ None → x.from ≡ None → x.to ≡ None → IsSilent e → Explains sp o e
explains_silent sp x o e h j f t s = by_outcome sp x o e h (record {
  stalled = s.stalled;
  jump = s.jump ∙ sym j;
  pending = s.pending;
  from = ap (level_at sp.from_pin) s.level ∙ (level_none sp.from_pin ∙ sym f);
  to = ap (level_at sp.to_pin) s.level ∙ (level_none sp.to_pin ∙ sym t);
})

pub explained : (a : Act) (s : MachineSetup) (sp : Span) (k : Context) (v : View) (q : Queues) (r : Registers) (o : ContextOutcome)
    → IsSimple sp → is_settled a ≡ true → may_stall a s ≡ false → outcomes a s sp k ≡ o ∷ [] → Explains sp o (effect_of a s v q r)
unfolding is_settled may_stall outcomes effect_of jmp_effect in_effect out_effect mov_effect irq_effect set_effect
explained (Jmp condition.Always address) s sp k v q r o simple h w e = by_outcome sp _ o _ e (record { stalled = refl; jump = refl; pending = refl; from = level_none sp.from_pin; to = level_none sp.to_pin })
explained (Jmp condition.XZero address) s sp k v q r o simple h w e = cc
explained (Jmp condition.XDecrement address) s sp k v q r o simple h w e = cc
explained (Jmp condition.YZero address) s sp k v q r o simple h w e = cc
explained (Jmp condition.YDecrement address) s sp k v q r o simple h w e = cc
explained (Jmp condition.XNotY address) s sp k v q r o simple h w e = cc
explained (Jmp condition.Pin address) s sp k v q r o simple h w e = cc
explained (Jmp condition.OsrNotEmpty address) s sp k v q r o simple h w e = cc
explained (Wait polarity source index) s sp k v q r o simple h w e = cc
explained (In source n) s sp k v q r o simple h w e = explains_silent sp _ o _ e refl refl refl (rw w (record { stalled = refl; jump = refl; pending = refl; level = refl }))
explained (Out out_destination.Pins n) s sp k v q r o simple h w e = cc
explained (Out out_destination.X n) s sp k v q r o simple h w e = explains_silent sp _ o _ e refl refl refl (rw w (record { stalled = refl; jump = refl; pending = refl; level = refl }))
explained (Out out_destination.Y n) s sp k v q r o simple h w e = explains_silent sp _ o _ e refl refl refl (rw w (record { stalled = refl; jump = refl; pending = refl; level = refl }))
explained (Out out_destination.Null n) s sp k v q r o simple h w e = explains_silent sp _ o _ e refl refl refl (rw w (record { stalled = refl; jump = refl; pending = refl; level = refl }))
explained (Out out_destination.Pindirs n) s sp k v q r o simple h w e =
    explains_silent sp (record (nothing_done k) { from = None; to = None }) o _ (sym (ap (map (λ (l : Option Bool × Option Bool). record (nothing_done k) { from = l.0; to = l.1 })) (no_turn s.out sp simple)) ∙ e) refl refl refl
    (rw w (record { stalled = refl; jump = refl; pending = refl; level = refl }))
explained (Out out_destination.Pc n) s sp k v q r o simple h w e = cc
explained (Out out_destination.Isr n) s sp k v q r o simple h w e = explains_silent sp _ o _ e refl refl refl (rw w (record { stalled = refl; jump = refl; pending = refl; level = refl }))
explained (Out out_destination.Exec n) s sp k v q r o simple h w e = cc
explained (Push if_full true) s sp k v q r o simple h w e = cc
explained (Push if_full false) s sp k v q r o simple h w e = explains_silent sp _ o _ e refl refl refl (silent_push if_full s q r)
explained (Pull if_empty true) s sp k v q r o simple h w e = cc
explained (Pull if_empty false) s sp k v q r o simple h w e = explains_silent sp _ o _ e refl refl refl (silent_pull if_empty s q r)
explained (Mov mov_destination.Pins operation source) s sp k v q r o simple h w e = cc
explained (Mov mov_destination.X operation source) s sp k v q r o simple h w e = explains_silent sp _ o _ e refl refl refl (record { stalled = refl; jump = refl; pending = refl; level = refl })
explained (Mov mov_destination.Y operation source) s sp k v q r o simple h w e = explains_silent sp _ o _ e refl refl refl (record { stalled = refl; jump = refl; pending = refl; level = refl })
explained (Mov mov_destination.Exec operation source) s sp k v q r o simple h w e = cc
explained (Mov mov_destination.Pc operation source) s sp k v q r o simple h w e = cc
explained (Mov mov_destination.Isr operation source) s sp k v q r o simple h w e = explains_silent sp _ o _ e refl refl refl (record { stalled = refl; jump = refl; pending = refl; level = refl })
explained (Mov mov_destination.Osr operation source) s sp k v q r o simple h w e = explains_silent sp _ o _ e refl refl refl (record { stalled = refl; jump = refl; pending = refl; level = refl })
explained (Irq true waits index) s sp k v q r o simple h w e = explains_silent sp _ o _ e refl refl refl (record { stalled = refl; jump = refl; pending = refl; level = refl })
explained (Irq false true index) s sp k v q r o simple h w e = cc
explained (Irq false false index) s sp k v q r o simple h w e = explains_silent sp _ o _ e refl refl refl (record { stalled = refl; jump = refl; pending = refl; level = refl })
explained (Set set_destination.Pins value) s sp k v q r o simple h w e = by_outcome sp _ o _ e (record {
  stalled = refl;
  jump = refl;
  pending = refl;
  from = sym (ap (λ z. signal_at Level z sp.from_pin (writes_of s.set value)) simple.from);
  to = sym (ap (λ z. signal_at Level z sp.to_pin (writes_of s.set value)) simple.to);
})
explained (Set set_destination.X value) s sp k v q r o simple h w e = explains_silent sp _ o _ e refl refl refl (record { stalled = refl; jump = refl; pending = refl; level = refl })
explained (Set set_destination.Y value) s sp k v q r o simple h w e = explains_silent sp _ o _ e refl refl refl (record { stalled = refl; jump = refl; pending = refl; level = refl })
explained (Set set_destination.Pindirs value) s sp k v q r o simple h w e =
    explains_silent sp _ o _ e refl (ap (λ z. signal_at Direction z sp.from_pin (writes_of s.set value)) simple.from) (ap (λ z. signal_at Direction z sp.to_pin (writes_of s.set value)) simple.to)
    (record { stalled = refl; jump = refl; pending = refl; level = refl })
explained Nothing s sp k v q r o simple h w e = explains_silent sp _ o _ e refl refl refl (record { stalled = refl; jump = refl; pending = refl; level = refl })
