-- An instruction with one way has one outcome.
use Rattle.std.proofs.Common.{◌≡◌, ◌==◌, ◌&&◌, ℕ, Bool, true, false, if◌then◌else◌, Option, Some, None, List, [], ◌∷◌, map, flat_map, refl, ap, ◌∙◌}
use Rattle.pio_encode.specs.declared.act.Act.{Act}
use Rattle.pio_encode.specs.declared.act.Act.TheVariants.{Jmp, Wait, In, Out, Push, Pull, Mov, Irq, Set, Nothing}
use Rattle.pio_encode.specs.declared.act.Condition.TheVariants as condition
use Rattle.pio_encode.specs.declared.act.OutDestination.TheVariants as out_destination
use Rattle.pio_encode.specs.declared.act.MovDestination.TheVariants as mov_destination
use Rattle.pio_encode.specs.declared.act.SetDestination.TheVariants as set_destination
use Rattle.pin_matrix.specs.declared.machine.MachineSetup.{MachineSetup}
use Rattle.pin_matrix.specs.declared.mapping.Mapping.{Mapping}
use Rattle.pin_matrix.specs.declared.span.PinSignal.{PinSignal}
use Rattle.pin_matrix.specs.declared.span.PinSignal.TheVariants.{Level, Direction}
use Rattle.pin_matrix.specs.declared.span.Span.{Span}
use Rattle.span_step.specs.Contexts.{Context}
use Rattle.span_step.specs.Outcomes.{ContextOutcome, nothing_done, has_one_signal, is_held, either_level, unknown_levels, outcomes, is_wild}
use Rattle.span_step.specs.Steps.{address_after}
use Rattle.span_refuted.specs.OneWay.{is_settled, goes_to, IsSimple}

-- the one outcome of an instruction
pub record HasOutcome (a : Act) (s : MachineSetup) (sp : Span) (k : Context) : Type 0 where
  pub outcome : ContextOutcome
  pub only : outcomes a s sp k ≡ outcome ∷ []
  pub goes : (following : ℕ) → address_after outcome.jump following ≡ goes_to a following

-- the mapping of OUT gets directions: a span of levels sees nothing of it
pub no_turn : (m : Mapping) (sp : Span) → IsSimple sp → unknown_levels Direction m sp ≡ (None, None) ∷ []
no_turn m sp simple =
    ap (λ z. levels_by z sp.to_signal) simple.from ∙ ap (levels_by (Some Level)) simple.to ∙ either (sp.from_pin == sp.to_pin && true) where
      levels_by : Option PinSignal → Option PinSignal → List (Option Bool × Option Bool)
      levels_by f t =
          let from = either_level (is_held Direction f m sp.from_pin) in
          let to = either_level (is_held Direction t m sp.to_pin) in
          if sp.from_pin == sp.to_pin && has_one_signal f t then map (λ l. (l, l)) from else flat_map (λ x. map (λ y. (x, y)) to) from

      nothing : List (Option Bool × Option Bool)
      nothing = (None, None) ∷ []

      either : (b : Bool) → (if b then nothing else nothing) ≡ nothing
      either true = refl
      either false = refl

false_is_true : {P : Type 0} → false ≡ true → P
false_is_true e = absurd (bad e) where
  bad : false ≡ true → ⊥
  bad e = cc

pub settled_outcome : (a : Act) (s : MachineSetup) (sp : Span) (k : Context) → IsSimple sp → is_settled a ≡ true → HasOutcome a s sp k
unfolding is_settled outcomes goes_to
settled_outcome (Jmp condition.Always address) s sp k simple h = record { outcome = _; only = refl; goes = λ f. refl }
settled_outcome (Jmp condition.XZero address) s sp k simple h = false_is_true h
settled_outcome (Jmp condition.XDecrement address) s sp k simple h = false_is_true h
settled_outcome (Jmp condition.YZero address) s sp k simple h = false_is_true h
settled_outcome (Jmp condition.YDecrement address) s sp k simple h = false_is_true h
settled_outcome (Jmp condition.XNotY address) s sp k simple h = false_is_true h
settled_outcome (Jmp condition.Pin address) s sp k simple h = false_is_true h
settled_outcome (Jmp condition.OsrNotEmpty address) s sp k simple h = false_is_true h
settled_outcome (Wait polarity source index) s sp k simple h = record { outcome = _; only = refl; goes = λ f. refl }
settled_outcome (In source count) s sp k simple h = record { outcome = _; only = refl; goes = λ f. refl }
settled_outcome (Out out_destination.Pins count) s sp k simple h = false_is_true h
settled_outcome (Out out_destination.X count) s sp k simple h = record { outcome = _; only = refl; goes = λ f. refl }
settled_outcome (Out out_destination.Y count) s sp k simple h = record { outcome = _; only = refl; goes = λ f. refl }
settled_outcome (Out out_destination.Null count) s sp k simple h = record { outcome = _; only = refl; goes = λ f. refl }
settled_outcome (Out out_destination.Pindirs count) s sp k simple h = record {
  outcome = record (nothing_done k) { from = None; to = None };
  only = ap (map (λ (l : Option Bool × Option Bool). record (nothing_done k) { from = l.0; to = l.1 })) (no_turn s.out sp simple);
  goes = λ f. refl;
}
settled_outcome (Out out_destination.Pc count) s sp k simple h = false_is_true h
settled_outcome (Out out_destination.Isr count) s sp k simple h = record { outcome = _; only = refl; goes = λ f. refl }
settled_outcome (Out out_destination.Exec count) s sp k simple h = false_is_true h
settled_outcome (Push if_full block) s sp k simple h = record { outcome = _; only = refl; goes = λ f. refl }
settled_outcome (Pull if_empty block) s sp k simple h = record { outcome = _; only = refl; goes = λ f. refl }
settled_outcome (Mov mov_destination.Pins operation source) s sp k simple h = false_is_true h
settled_outcome (Mov mov_destination.X operation source) s sp k simple h = record { outcome = _; only = refl; goes = λ f. refl }
settled_outcome (Mov mov_destination.Y operation source) s sp k simple h = record { outcome = _; only = refl; goes = λ f. refl }
settled_outcome (Mov mov_destination.Exec operation source) s sp k simple h = false_is_true h
settled_outcome (Mov mov_destination.Pc operation source) s sp k simple h = false_is_true h
settled_outcome (Mov mov_destination.Isr operation source) s sp k simple h = record { outcome = _; only = refl; goes = λ f. refl }
settled_outcome (Mov mov_destination.Osr operation source) s sp k simple h = record { outcome = _; only = refl; goes = λ f. refl }
settled_outcome (Irq clear waits index) s sp k simple h = record { outcome = _; only = refl; goes = λ f. refl }
settled_outcome (Set set_destination.Pins value) s sp k simple h = record { outcome = _; only = refl; goes = λ f. refl }
settled_outcome (Set set_destination.X value) s sp k simple h = record { outcome = _; only = refl; goes = λ f. refl }
settled_outcome (Set set_destination.Y value) s sp k simple h = record { outcome = _; only = refl; goes = λ f. refl }
settled_outcome (Set set_destination.Pindirs value) s sp k simple h = record { outcome = _; only = refl; goes = λ f. refl }
settled_outcome Nothing s sp k simple h = record { outcome = _; only = refl; goes = λ f. refl }

pub settled_tame : (a : Act) → is_settled a ≡ true → is_wild a ≡ false
unfolding is_settled is_wild
settled_tame (Jmp c address) h = refl
settled_tame (Wait polarity source index) h = refl
settled_tame (In source count) h = refl
settled_tame (Out out_destination.Pins count) h = refl
settled_tame (Out out_destination.X count) h = refl
settled_tame (Out out_destination.Y count) h = refl
settled_tame (Out out_destination.Null count) h = refl
settled_tame (Out out_destination.Pindirs count) h = refl
settled_tame (Out out_destination.Pc count) h = false_is_true h
settled_tame (Out out_destination.Isr count) h = refl
settled_tame (Out out_destination.Exec count) h = false_is_true h
settled_tame (Push if_full block) h = refl
settled_tame (Pull if_empty block) h = refl
settled_tame (Mov mov_destination.Pins operation source) h = refl
settled_tame (Mov mov_destination.X operation source) h = refl
settled_tame (Mov mov_destination.Y operation source) h = refl
settled_tame (Mov mov_destination.Exec operation source) h = false_is_true h
settled_tame (Mov mov_destination.Pc operation source) h = false_is_true h
settled_tame (Mov mov_destination.Isr operation source) h = refl
settled_tame (Mov mov_destination.Osr operation source) h = refl
settled_tame (Irq clear waits index) h = refl
settled_tame (Set destination value) h = refl
settled_tame Nothing h = refl
