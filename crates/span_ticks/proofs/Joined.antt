-- A tick of an instruction is matched by a tick of one of its courses.
use Rattle.std.proofs.Common.{◌≡◌, ℕ, nat_lt, ◌+◌, ◌==◌, ◌≤◌, ◌⊎◌, Bool, true, false, not, ◌&&◌, ◌||◌, if◌then◌else◌, Option, Some, None, is_some, unwrap_or, slice_index_or, refl, sym, ap, ◌∙◌, inl, inr, subst, arith}
use Rattle.std.proofs.lemmas.Bool.{cases_lt, and_parts, and_right}
use Rattle.pio_encode.specs.declared.op.Op.{Op}
use Rattle.pin_matrix.specs.Followed as span
use Rattle.pin_matrix.specs.declared.machine.MachineSetup.{MachineSetup}
use Rattle.pin_matrix.specs.declared.setup.Setup.{Setup}
use Rattle.pin_matrix.specs.declared.span.Span.{Span}
use Rattle.sm_registers.specs.declared.intent.Kind.TheVariants.{First, Late, Delay}
use Rattle.sm_registers.specs.declared.registers.Registers.{Registers}
use Rattle.sm_registers.specs.View.{View}
use Rattle.sm_registers.specs.Queues.{Queues}
use Rattle.sm_registers.specs.Effects.{Effect, effect_of}
use Rattle.sm_registers.specs.Tick.{tick_by, tick_of}
use Rattle.span_step.specs.declared.ages.Ages.{Ages}
use Rattle.span_step.specs.declared.stepped.Next.{Next}
use Rattle.span_step.specs.Contexts.{Context, is_placed, IsInside}
use Rattle.span_step.specs.Outcomes.{ContextOutcome, may_stall}
use Rattle.span_step.specs.Courses.{watched, followed, start, prompt, delayed, delay_tick, delay_ticks, over}
use Rattle.span_step.specs.Laws.{AllPlaced}
use Rattle.pin_matrix.specs.Assumptions.{keeps}
use Rattle.span_step.specs.Narrowing.{narrowing_after, nexts_of}
use Rattle.span_step.specs.Steps.{visit_of, end_after, rules_of, side_of, bounds_of, is_bounded, is_named, is_left_out, is_excusing, context_steps}
use Rattle.span_ticks.specs.Rows.{IsInRow, IsSoundTable}
use Rattle.span_ticks.specs.UnderWay.{Watch, Flow, flow_of, is_excused_in, IsContextOf, IsAtRow, IsResting, IsBegun, IsUnderWay, op_at, rested, stalled_from}
use Rattle.span_ticks.specs.Following.{InAges, IsFollowed, IsAged, finishes, is_late, kept_after, works}
use Rattle.span_ticks.proofs.Clean.{IsClean, clean_followed, clean_watched, met_watched}
use Rattle.span_ticks.proofs.Aging.{IsTickOf, inside_ages, tick_ages, worked_ages, worked_fresh, waiting_ages, no_fresh}
use Rattle.span_ticks.proofs.Ends.{EndsWell, AllEnds, IsKnownRow, known_row}
use Rattle.span_ticks.proofs.Explained.{Picked, Explains, explained, writes_none}
use Rattle.span_ticks.proofs.Stalls.{IsStall, stalls, Found, found}
use Rattle.span_ticks.proofs.Opened.{delay_here, tick_here, flow_done, flow_stalled, tick_levels, over_levels, side_from, side_to, side_late}
use Rattle.span_ticks.proofs.Narrowing.{narrow}
use Rattle.span_ticks.proofs.Resting.{rested_none, delay_clean, delay_followed, rests_after, still_delayed}

late_is : (begun : Bool) → is_late (if begun then Late else First) ≡ begun
late_is true = refl
late_is false = refl

works_in : (begun : Bool) → works (if begun then Late else First) None ≡ true
works_in true = refl
works_in false = refl

-- the ages at a row's start, through which no ways are left out
started_ages : (left bounded : Bool) (k : Context) (a : Ages) (n : ℕ) → left ≡ false → InAges bounded n a → InAges bounded n (start left k a).ages
started_ages true bounded k a n e i = cc
started_ages false bounded k a n e i = i

-- what all ticks of a row's instruction share
record IsHere (u : Setup) (sp : Span) (rows : Context → Option Ages) (s : MachineSetup) (r : Registers) (k : Context) (a : Ages) : Type 0 where
  pending : r.pending ≡ None
  left : r.delay ≡ 0
  agrees : IsContextOf sp k (flow_of r)
  row : rows k ≡ Some a
  known : IsKnownRow u sp rows s k a

-- the machine is at the row's start, whose ages may be more
record IsWidened (k : Context) (a : Ages) (w : Watch) : Type 0 where
  from : k.from ≡ w.from
  to : k.to ≡ w.to
  inside : IsInside w.ages a

-- one of its courses' first ticks
abbrev prompt_from : Setup → Span → MachineSetup → Context → Ages → ContextOutcome → Watch
prompt_from u sp s k a o =
    let side = side_of s sp (op_at u s k.address).side in
    watched (rules_of s sp k.address) (start (is_left_out sp k.address) k a) (record { late = false; finishes = true; from = over side.from o.from; to = over side.to o.to })

-- the late tick in which the rest of an outcome comes
abbrev late_from : Setup → Span → MachineSetup → Context → Ages → ContextOutcome → Watch
late_from u sp s k a o = watched (rules_of s sp k.address) (stalled_from u sp s k a) (record { late = true; finishes = true; from = o.from; to = o.to })

-- neither has U6, which no tick adds
prompt_met : (u : Setup) (sp : Span) (s : MachineSetup) (k : Context) (a : Ages) (o : ContextOutcome) → (prompt_from u sp s k a o).causes.u6 ≡ false
prompt_met u sp s k a o = let side = side_of s sp (op_at u s k.address).side in
    met_watched (rules_of s sp k.address) (start (is_left_out sp k.address) k a) (record { late = false; finishes = true; from = over side.from o.from; to = over side.to o.to }) refl

late_met : (u : Setup) (sp : Span) (s : MachineSetup) (k : Context) (a : Ages) (o : ContextOutcome) → (late_from u sp s k a o).causes.u6 ≡ false
late_met u sp s k a o = let side = side_of s sp (op_at u s k.address).side in
    met_watched (rules_of s sp k.address) (stalled_from u sp s k a) (record { late = true; finishes = true; from = o.from; to = o.to })
    (met_watched (rules_of s sp k.address) (start (is_left_out sp k.address) k a) (record { late = false; finishes = false; from = side.from; to = side.to }) refl)

-- no cause comes with the ticks of a course that ends well
late_clean : (u : Setup) (sp : Span) (rows : Context → Option Ages) (s : MachineSetup) (k : Context) (a : Ages) (o : ContextOutcome) → may_stall (op_at u s k.address).act s ≡ true
    → AllEnds rows sp (narrowing_after sp k.address) (visit_of s sp (op_at u s k.address) k a) o → IsClean (late_from u sp s k a o).causes
unfolding visit_of delayed
late_clean u sp rows s k a o may ends = clean_followed (rules_of s sp k.address) (delay_ticks (op_at u s k.address).delay) (late_from u sp s k a o) (ends.later may).clean

prompt_clean : (u : Setup) (sp : Span) (rows : Context → Option Ages) (s : MachineSetup) (k : Context) (a : Ages) (o : ContextOutcome)
    → AllEnds rows sp (narrowing_after sp k.address) (visit_of s sp (op_at u s k.address) k a) o → IsClean (prompt_from u sp s k a o).causes
unfolding visit_of prompt
prompt_clean u sp rows s k a o ends = clean_followed (rules_of s sp k.address) (delay_ticks (op_at u s k.address).delay) (prompt_from u sp s k a o) ends.at_once.clean

-- where an instruction stalls, X and Y stay as assumed, and where it finishes they are so as it leaves them
kept_stalled : (sp : Span) (address : ℕ) (op : Op) (s : MachineSetup) (q : Queues) (r : Registers) (e : Effect) → e.stalled ≡ true → kept_after sp true address (tick_by op s q r e) ≡ true
unfolding tick_by
kept_stalled sp address op s q r e stalled =
    ap (λ z. if z then keeps sp.assume address (tick_by op s q r e).0.x (tick_by op s q r e).0.y else true) (and_right (works (if r.begun then Late else First) None) (not e.stalled) (ap not stalled))

tick_kind : (sp : Span) (address : ℕ) (op : Op) (s : MachineSetup) (q : Queues) (r : Registers) (e : Effect)
    → kept_after sp true address (tick_by op s q r e) ≡ (if finishes (works (if r.begun then Late else First) None) e.stalled then keeps sp.assume address (tick_by op s q r e).0.x (tick_by op s q r e).0.y else true)
unfolding tick_by
tick_kind sp address op s q r e = refl

kept_done : (sp : Span) (address : ℕ) (op : Op) (s : MachineSetup) (q : Queues) (r : Registers) (e : Effect) (o : ContextOutcome) → r.pending ≡ None → address ≡ r.pc → e.stalled ≡ false → Explains sp e o
    → kept_after sp true address (tick_by op s q r e) ≡ keeps sp.assume address e.registers.x e.registers.y
kept_done sp address op s q r e o pending here ends x =
    let done = flow_done op s sp q r e o address pending here ends x in
    finishing (tick_by op s q r e).0 r.begun e.stalled ends (tick_kind sp address op s q r e)
    ∙ ap (λ (f : Flow). keeps sp.assume address f.x f.y) done where
      finishing : (t : Registers) (begun stalled : Bool) → stalled ≡ false → kept_after sp true address (tick_by op s q r e) ≡ (if finishes (works (if begun then Late else First) None) stalled then keeps sp.assume address t.x t.y else true)
          → kept_after sp true address (tick_by op s q r e) ≡ keeps sp.assume address t.x t.y
      finishing t true true ends h = cc
      finishing t true false ends h = h
      finishing t false true ends h = cc
      finishing t false false ends h = h

-- it stalls in its first tick
first_stall : (u : Setup) (sp : Span) (rows : Context → Option Ages) (s : MachineSetup) (q : Queues) (r : Registers) (k : Context) (a : Ages) (w : Watch) (e : Effect)
    → IsHere u sp rows s r k a → r.begun ≡ false → IsWidened k a w → IsStall (may_stall (op_at u s k.address).act s) r e → e.stalled ≡ true
    → IsFollowed u sp rows s true k.address (is_left_out sp k.address) w (tick_by (op_at u s k.address) s q r e)
unfolding tick_by watched
first_stall u sp rows s q r k a w e here begun wide st stalled =
    let op : Op = op_at u s k.address in
    let side = side_of s sp op.side in
    let one : Found (AllEnds rows sp (narrowing_after sp k.address) (visit_of s sp op k a)) = found _ op.act s sp k here.known.tame here.known.ends in
    let clean : IsClean (stalled_from u sp s k a).causes =
    clean_watched (rules_of s sp k.address) (stalled_from u sp s k a) (record { late = true; finishes = true; from = one.outcome.from; to = one.outcome.to }) (late_clean u sp rows s k a one.outcome (st.stalls stalled) one.holds) in
    let t : IsTickOf (record { late = false; finishes = false; from = side.from; to = side.to }) (tick_by op s q r e).1 = record { at_work = works_in r.begun; ends = ap not stalled } in
    record {
      after = stalled_from u sp s k a;
      under_way = λ stays. inr (
        kept_stalled sp k.address op s q r e stalled,
        subst (λ f. IsBegun u sp rows s f (stalled_from u sp s k a)) (sym (flow_stalled op s q r e stalled (st.flow stalled))) (record {
          pending = here.pending;
          begun = refl;
          delay = here.left;
          context = k;
          ages = a;
          agrees = record { placed = here.agrees.placed; address = here.agrees.address; x = here.agrees.x; y = here.agrees.y };
          row = here.row;
          stalls = st.stalls stalled;
          watch = refl;
        }),
      );
      from = ap (unwrap_or side.from) wide.from
          ∙ tick_levels sp.from_signal sp.from_pin op s q r e side.from None w.from (side_from s sp op.side r.begun begun) (writes_none sp.from_signal sp.from_pin e (st.level stalled) (st.direction stalled));
      to = ap (unwrap_or side.to) wide.to
          ∙ tick_levels sp.to_signal sp.to_pin op s q r e side.to None w.to (side_to s sp op.side r.begun begun) (writes_none sp.to_signal sp.to_pin e (st.level stalled) (st.direction stalled));
      ages = λ free n i. worked_ages s sp k.address (tick_by op s q r e).1 (start (is_left_out sp k.address) k a) w _ t (sym wide.to) (late_is r.begun ∙ begun) refl clean n
          (started_ages (is_left_out sp k.address) (is_bounded sp) k a n free (inside_ages (is_bounded sp) n w.ages a wide.inside i));
      fresh = λ o. worked_fresh s sp k.address (tick_by op s q r e).1 (start (is_left_out sp k.address) k a) w _ t (sym wide.from) o;
    }

-- where its rest goes
end_rests : (sp : Span) (rows : Context → Option Ages) (u : Setup) (s : MachineSetup) (q : Queues) (r : Registers) (k : Context) (a : Ages) (e : Effect) (o : ContextOutcome) (w : Watch)
    → IsHere u sp rows s r k a → e.stalled ≡ false → Explains sp e o → w.causes.u6 ≡ false
    → EndsWell rows sp (narrowing_after sp k.address) (visit_of s sp (op_at u s k.address) k a) o (followed (rules_of s sp k.address) (delay_ticks (op_at u s k.address).delay) w)
    → (kept_after sp true k.address (tick_by (op_at u s k.address) s q r e) ≡ true) ⊎ ((tick_by (op_at u s k.address) s q r e).0.delay ≡ 0 → ⊥)
    → IsResting sp rows s (kept_after sp true k.address (tick_by (op_at u s k.address) s q r e)) (flow_of (tick_by (op_at u s k.address) s q r e).0) w
unfolding visit_of
end_rests sp rows u s q r k a e o w here ends x met well stays =
    let op : Op = op_at u s k.address in
    let end : Watch = followed (rules_of s sp k.address) (delay_ticks op.delay) w in
    let n : Next = end_after (visit_of s sp op k a) o end in
    let kept : Bool = kept_after sp true k.address (tick_by op s q r e) in
    let says : kept ≡ keeps sp.assume k.address e.registers.x e.registers.y = kept_done sp k.address op s q r e o here.pending here.agrees.address ends x in
    let done = flow_done op s sp q r e o k.address here.pending here.agrees.address ends x in
    subst (λ f. IsResting sp rows s kept f w) (sym done)
    (rests_after sp rows s kept k.address op.delay e.registers.x e.registers.y n w refl refl refl well.clean met
    (λ h. narrow rows sp k.address n o.x o.y e.registers.x e.registers.y (sym says ∙ h) x.x x.y well.row)
    (λ h none. still_delayed kept (tick_by op s q r e).0.delay stays h (ap (λ (f : Flow). f.delay) done ∙ none)))

-- it finishes in its first tick
first_finish : (u : Setup) (sp : Span) (rows : Context → Option Ages) (s : MachineSetup) (q : Queues) (r : Registers) (k : Context) (a : Ages) (w : Watch) (e : Effect)
    → IsHere u sp rows s r k a → r.begun ≡ false → IsWidened k a w → e.stalled ≡ false → Picked (AllEnds rows sp (narrowing_after sp k.address) (visit_of s sp (op_at u s k.address) k a)) sp e
    → IsFollowed u sp rows s true k.address (is_left_out sp k.address) w (tick_by (op_at u s k.address) s q r e)
unfolding tick_by watched visit_of prompt
first_finish u sp rows s q r k a w e here begun wide ends p =
    let op : Op = op_at u s k.address in
    let side = side_of s sp op.side in
    let o : ContextOutcome = p.outcome in
    let t : IsTickOf (record { late = false; finishes = true; from = over side.from o.from; to = over side.to o.to }) (tick_by op s q r e).1 = record { at_work = works_in r.begun; ends = ap not ends } in
    record {
      after = prompt_from u sp s k a o;
      under_way = λ stays. inl (end_rests sp rows u s q r k a e o (prompt_from u sp s k a o) here ends p.explains (prompt_met u sp s k a o) p.holds.at_once stays);
      from = over_levels side.from o.from k.from ∙ ap (λ l. unwrap_or side.from (unwrap_or o.from l)) wide.from
          ∙ tick_levels sp.from_signal sp.from_pin op s q r e side.from o.from w.from (side_from s sp op.side r.begun begun) p.explains.from;
      to = over_levels side.to o.to k.to ∙ ap (λ l. unwrap_or side.to (unwrap_or o.to l)) wide.to
          ∙ tick_levels sp.to_signal sp.to_pin op s q r e side.to o.to w.to (side_to s sp op.side r.begun begun) p.explains.to;
      ages = λ free n i. worked_ages s sp k.address (tick_by op s q r e).1 (start (is_left_out sp k.address) k a) w _ t (sym wide.to) (late_is r.begun ∙ begun) refl (prompt_clean u sp rows s k a o p.holds) n
          (started_ages (is_left_out sp k.address) (is_bounded sp) k a n free (inside_ages (is_bounded sp) n w.ages a wide.inside i));
      fresh = λ h. worked_fresh s sp k.address (tick_by op s q r e).1 (start (is_left_out sp k.address) k a) w _ t (sym wide.from) h;
    }

-- it has stalled, and does so again
late_stall : (u : Setup) (sp : Span) (rows : Context → Option Ages) (s : MachineSetup) (q : Queues) (r : Registers) (k : Context) (a : Ages) (e : Effect)
    → IsHere u sp rows s r k a → r.begun ≡ true → may_stall (op_at u s k.address).act s ≡ true → IsStall (may_stall (op_at u s k.address).act s) r e → e.stalled ≡ true
    → IsFollowed u sp rows s true k.address (is_excusing sp k.address) (stalled_from u sp s k a) (tick_by (op_at u s k.address) s q r e)
unfolding tick_by
late_stall u sp rows s q r k a e here begun may st stalled =
    let op : Op = op_at u s k.address in
    let w : Watch = stalled_from u sp s k a in
    let one : Found (AllEnds rows sp (narrowing_after sp k.address) (visit_of s sp op k a)) = found _ op.act s sp k here.known.tame here.known.ends in
    let waits : finishes (works (if r.begun then Late else First) None) e.stalled ≡ false = and_right _ _ (ap not stalled) in
    record {
      after = w;
      under_way = λ stays. inr (
        kept_stalled sp k.address op s q r e stalled,
        subst (λ f. IsBegun u sp rows s f w) (sym (flow_stalled op s q r e stalled (st.flow stalled))) (record {
          pending = here.pending;
          begun = refl;
          delay = here.left;
          context = k;
          ages = a;
          agrees = record { placed = here.agrees.placed; address = here.agrees.address; x = here.agrees.x; y = here.agrees.y };
          row = here.row;
          stalls = may;
          watch = refl;
        }),
      );
      from = tick_levels sp.from_signal sp.from_pin op s q r e None None w.from (side_late sp.from_signal sp.from_pin s op.side r.begun begun) (writes_none sp.from_signal sp.from_pin e (st.level stalled) (st.direction stalled));
      to = tick_levels sp.to_signal sp.to_pin op s q r e None None w.to (side_late sp.to_signal sp.to_pin s op.side r.begun begun) (writes_none sp.to_signal sp.to_pin e (st.level stalled) (st.direction stalled));
      ages = λ free n i. waiting_ages s sp k.address (tick_by op s q r e).1 w (record { late = true; finishes = true; from = one.outcome.from; to = one.outcome.to }) waits (late_is r.begun ∙ begun) refl free (late_clean u sp rows s k a one.outcome may one.holds) n i;
      fresh = λ h. no_fresh sp k.address (tick_by op s q r e).1 w waits h;
    }

-- it has stalled, and finishes
late_finish : (u : Setup) (sp : Span) (rows : Context → Option Ages) (s : MachineSetup) (q : Queues) (r : Registers) (k : Context) (a : Ages) (e : Effect)
    → IsHere u sp rows s r k a → r.begun ≡ true → may_stall (op_at u s k.address).act s ≡ true → e.stalled ≡ false → Picked (AllEnds rows sp (narrowing_after sp k.address) (visit_of s sp (op_at u s k.address) k a)) sp e
    → IsFollowed u sp rows s true k.address (is_excusing sp k.address) (stalled_from u sp s k a) (tick_by (op_at u s k.address) s q r e)
unfolding tick_by watched visit_of delayed
late_finish u sp rows s q r k a e here begun may ends p =
    let op : Op = op_at u s k.address in
    let w : Watch = stalled_from u sp s k a in
    let o : ContextOutcome = p.outcome in
    let t : IsTickOf (record { late = true; finishes = true; from = o.from; to = o.to }) (tick_by op s q r e).1 = record { at_work = works_in r.begun; ends = ap not ends } in
    record {
      after = late_from u sp s k a o;
      under_way = λ stays. inl (end_rests sp rows u s q r k a e o (late_from u sp s k a o) here ends p.explains (late_met u sp s k a o) (p.holds.later may) stays);
      from = tick_levels sp.from_signal sp.from_pin op s q r e None o.from w.from (side_late sp.from_signal sp.from_pin s op.side r.begun begun) p.explains.from;
      to = tick_levels sp.to_signal sp.to_pin op s q r e None o.to w.to (side_late sp.to_signal sp.to_pin s op.side r.begun begun) p.explains.to;
      ages = λ free n i. worked_ages s sp k.address (tick_by op s q r e).1 w w _ t refl (late_is r.begun ∙ begun) free (late_clean u sp rows s k a o may p.holds) n i;
      fresh = λ h. worked_fresh s sp k.address (tick_by op s q r e).1 w w _ t refl h;
    }

-- the row in which ages lie
record IsRowOf (a : Ages) (o : Option Ages) : Type 0 where
  ages : Ages
  row : o ≡ Some ages
  inside : IsInside a ages

row_of : (a : Ages) (o : Option Ages) → IsInRow a o → IsRowOf a o
row_of a None h = absurd h
row_of a (Some b) h = record { ages = b; row = refl; inside = h }

-- one outcome explains what an instruction does that finishes
picked_here : (u : Setup) (sp : Span) (rows : Context → Option Ages) (s : MachineSetup) (v : View) (q : Queues) (r : Registers) (k : Context) (a : Ages) → IsHere u sp rows s r k a
    → (effect_of (op_at u s k.address).act s v q r).stalled ≡ false → Picked (AllEnds rows sp (narrowing_after sp k.address) (visit_of s sp (op_at u s k.address) k a)) sp (effect_of (op_at u s k.address).act s v q r)
picked_here u sp rows s v q r k a here ends =
    explained (AllEnds rows sp (narrowing_after sp k.address) (visit_of s sp (op_at u s k.address) k a)) (op_at u s k.address).act s sp k v q r here.known.tame here.agrees.x here.agrees.y ends here.known.ends

-- all first ticks of an instruction, and all late ones
first_tick : (u : Setup) (sp : Span) (rows : Context → Option Ages) (s : MachineSetup) (v : View) (q : Queues) (r : Registers) (k : Context) (a : Ages) (w : Watch)
    → IsHere u sp rows s r k a → r.begun ≡ false → IsWidened k a w
    → IsFollowed u sp rows s true k.address (is_left_out sp k.address) w (tick_by (op_at u s k.address) s q r (effect_of (op_at u s k.address).act s v q r))
first_tick u sp rows s v q r k a w here begun wide = by (effect_of (op_at u s k.address).act s v q r).stalled refl where
  by : (z : Bool) → (effect_of (op_at u s k.address).act s v q r).stalled ≡ z → IsFollowed u sp rows s true k.address (is_left_out sp k.address) w (tick_by (op_at u s k.address) s q r (effect_of (op_at u s k.address).act s v q r))
  by true e = first_stall u sp rows s q r k a w _ here begun wide (stalls (op_at u s k.address).act s v q r) e
  by false e = first_finish u sp rows s q r k a w _ here begun wide e (picked_here u sp rows s v q r k a here e)

late_tick : (u : Setup) (sp : Span) (rows : Context → Option Ages) (s : MachineSetup) (v : View) (q : Queues) (r : Registers) (k : Context) (a : Ages)
    → IsHere u sp rows s r k a → r.begun ≡ true → may_stall (op_at u s k.address).act s ≡ true
    → IsFollowed u sp rows s true k.address (is_excusing sp k.address) (stalled_from u sp s k a) (tick_by (op_at u s k.address) s q r (effect_of (op_at u s k.address).act s v q r))
late_tick u sp rows s v q r k a here begun may = by (effect_of (op_at u s k.address).act s v q r).stalled refl where
  by : (z : Bool) → (effect_of (op_at u s k.address).act s v q r).stalled ≡ z → IsFollowed u sp rows s true k.address (is_excusing sp k.address) (stalled_from u sp s k a) (tick_by (op_at u s k.address) s q r (effect_of (op_at u s k.address).act s v q r))
  by true e = late_stall u sp rows s q r k a _ here begun may (stalls (op_at u s k.address).act s v q r) e
  by false e = late_finish u sp rows s q r k a _ here begun may e (picked_here u sp rows s v q r k a here e)

-- what is known of each row in range
abbrev pub AreKnown : Setup → Span → (Context → Option Ages) → MachineSetup → Type 0
AreKnown u sp rows s = (k : Context) (a : Ages) → is_placed (span.followed sp) k.address k.x k.y ≡ true → rows k ≡ Some a → IsKnownRow u sp rows s k a

pub are_known : (u : Setup) (sp : Span) (rows : Context → Option Ages) (s : MachineSetup) → slice_index_or u.machines sp.machine None ≡ Some s → IsSoundTable u sp rows
    → ((k : Context) (a : Ages) → nat_lt k.address 32 ≡ true → AllPlaced (span.followed sp) (nexts_of (context_steps u sp k a))) → AreKnown u sp rows s
are_known u sp rows s configured table within k a placed row =
    known_row u sp rows s k a configured (table.row k a placed row) (within k a (and_parts (nat_lt k.address 32) _ placed).0)

-- a machine at its instruction is in a row
resting_here : (u : Setup) (sp : Span) (rows : Context → Option Ages) (s : MachineSetup) (r : Registers) (w : Watch) → AreKnown u sp rows s → r.delay ≡ 0 → r.pending ≡ None → (h : IsAtRow sp rows s (flow_of r) w)
    → (a : Ages) × (IsHere u sp rows s r h.context a × IsWidened h.context a w)
resting_here u sp rows s r w known left pending h =
    let same : rested s sp (flow_of r) w ≡ w = rested_none s sp (flow_of r) w left in
    let row : IsRowOf w.ages (rows h.context) = row_of w.ages (rows h.context) (subst (λ (x : Watch). IsInRow x.ages (rows h.context)) same h.row) in (
      row.ages,
      (
        record { pending = pending; left = left; agrees = h.agrees; row = row.row; known = known h.context row.ages h.agrees.placed row.row },
        record { from = h.from ∙ ap (λ (x : Watch). x.from) same; to = h.to ∙ ap (λ (x : Watch). x.to) same; inside = row.inside },
      ),
    )

begun_here : (u : Setup) (sp : Span) (rows : Context → Option Ages) (s : MachineSetup) (r : Registers) (w : Watch) → AreKnown u sp rows s → (h : IsBegun u sp rows s (flow_of r) w) → IsHere u sp rows s r h.context h.ages
begun_here u sp rows s r w known h =
    record { pending = h.pending; left = h.delay; agrees = h.agrees; row = h.row; known = known h.context h.ages h.agrees.placed h.row }

-- whether a machine is excused: by where it waits, or by what it comes to
excused_begun : (sp : Span) (r : Registers) (address : ℕ) → address ≡ r.pc → r.begun ≡ true → is_excusing sp address ≡ is_excused_in sp (flow_of r)
excused_begun sp r address here begun = ap (is_excusing sp) here ∙ by r.begun begun where
  by : (b : Bool) → b ≡ true → is_excusing sp r.pc ≡ ((b && is_excusing sp r.pc) || ((r.delay == 0 && (not (is_some r.pending) && not b)) && is_left_out sp r.pc))
  by true e = none (is_excusing sp r.pc) (r.delay == 0) (not (is_some r.pending)) (is_left_out sp r.pc) where
    none : (x a b c : Bool) → x ≡ (x || ((a && (b && false)) && c))
    none true a b c = refl
    none false true true c = refl
    none false true false c = refl
    none false false b c = refl
  by false e = cc

excused_before : (sp : Span) (r : Registers) (address : ℕ) → address ≡ r.pc → r.begun ≡ false → r.pending ≡ None → r.delay ≡ 0 → is_left_out sp address ≡ is_excused_in sp (flow_of r)
excused_before sp r address here begun pending left = ap (is_left_out sp) here ∙ rw (begun, pending, left) refl

-- the first tick of an instruction, where X and Y are as assumed
tick_at_row : (u : Setup) (sp : Span) (rows : Context → Option Ages) (s : MachineSetup) (v : View) (q : Queues) (r : Registers) (w : Watch) → AreKnown u sp rows s → v.memory ≡ u.memory
    → r.delay ≡ 0 → IsResting sp rows s true (flow_of r) w → IsFollowed u sp rows s true r.pc (is_excused_in sp (flow_of r)) w (tick_of s v q r)
tick_at_row u sp rows s v q r w known memory left h =
    let row : IsAtRow sp rows s (flow_of r) w = h.comes refl in
    let at = resting_here u sp rows s r w known left h.pending row in
    let k : Context = row.context in
    let tick = tick_by (op_at u s k.address) s q r (effect_of (op_at u s k.address).act s v q r) in
    subst (λ t. IsFollowed u sp rows s true r.pc (is_excused_in sp (flow_of r)) w t) (sym (tick_here u s v q r k.address memory h.pending left row.agrees.address))
    (subst (λ z. IsFollowed u sp rows s true r.pc z w tick) (excused_before sp r k.address row.agrees.address h.begun h.pending left)
    (subst (λ p. IsFollowed u sp rows s true p (is_left_out sp k.address) w tick) row.agrees.address
    (first_tick u sp rows s v q r k at.0 w at.1.0 h.begun at.1.1)))

-- a late one
tick_begun : (u : Setup) (sp : Span) (rows : Context → Option Ages) (s : MachineSetup) (v : View) (q : Queues) (r : Registers) (w : Watch) → AreKnown u sp rows s → v.memory ≡ u.memory
    → IsBegun u sp rows s (flow_of r) w → IsFollowed u sp rows s true r.pc (is_excused_in sp (flow_of r)) w (tick_of s v q r)
tick_begun u sp rows s v q r w known memory h =
    let k : Context = h.context in
    let tick = tick_by (op_at u s k.address) s q r (effect_of (op_at u s k.address).act s v q r) in
    subst (λ t. IsFollowed u sp rows s true r.pc (is_excused_in sp (flow_of r)) w t) (sym (tick_here u s v q r k.address memory h.pending h.delay h.agrees.address))
    (subst (λ z. IsFollowed u sp rows s true r.pc z w tick) (excused_begun sp r k.address h.agrees.address h.begun)
    (subst (λ p. IsFollowed u sp rows s true p (is_excusing sp k.address) w tick) h.agrees.address
    (subst (λ (x : Watch). IsFollowed u sp rows s true k.address (is_excusing sp k.address) x tick) (sym h.watch)
    (late_tick u sp rows s v q r k h.ages (begun_here u sp rows s r w known h) h.begun h.stalls))))

-- any tick
pub tick_followed : (u : Setup) (sp : Span) (rows : Context → Option Ages) (s : MachineSetup) (v : View) (q : Queues) (r : Registers) (kept : Bool) (w : Watch) → AreKnown u sp rows s → v.memory ≡ u.memory
    → IsUnderWay u sp rows s kept (flow_of r) w → IsFollowed u sp rows s kept r.pc (is_excused_in sp (flow_of r)) w (tick_of s v q r)
tick_followed u sp rows s v q r kept w known memory (inl h) = elim (cases_lt 0 r.delay) [
  | inl more ↦ subst (λ t. IsFollowed u sp rows s kept r.pc (is_excused_in sp (flow_of r)) w t) (sym (delay_here s v q r more)) (delay_followed u sp rows s q kept r w more h (is_excused_in sp (flow_of r)))
  | inr none ↦ by kept (omega arith) h
] where
  by : (z : Bool) → r.delay ≡ 0 → IsResting sp rows s z (flow_of r) w → IsFollowed u sp rows s z r.pc (is_excused_in sp (flow_of r)) w (tick_of s v q r)
  by true left h = tick_at_row u sp rows s v q r w known memory left h
  by false left h = absurd (h.delayed refl left)
tick_followed u sp rows s v q r true w known memory (inr h) = tick_begun u sp rows s v q r w known memory h.1
tick_followed u sp rows s v q r false w known memory (inr h) = absurd (let x : false ≡ true = h.0 in cc)

-- where there is a greatest bound and no address is named, an open age may be one tick more, unless the machine is excused: at a row
room_at_row : (u : Setup) (sp : Span) (rows : Context → Option Ages) (s : MachineSetup) (r : Registers) (w : Watch) → AreKnown u sp rows s → is_bounded sp ≡ true
    → is_excused_in sp (flow_of r) ≡ false → r.delay ≡ 0 → IsResting sp rows s true (flow_of r) w → (n : ℕ) → InAges (is_bounded sp) n w.ages → n + 1 ≤ (bounds_of sp s).1
room_at_row u sp rows s r w known bounded free left h n i =
    let row : IsAtRow sp rows s (flow_of r) w = h.comes refl in
    let at = resting_here u sp rows s r w known left h.pending row in
    let k : Context = row.context in
    let op : Op = op_at u s k.address in
    let side = side_of s sp op.side in
    let one : Found (AllEnds rows sp (narrowing_after sp k.address) (visit_of s sp op k at.0)) = found _ op.act s sp k at.1.0.known.tame at.1.0.known.ends in
    let kept : is_left_out sp k.address ≡ false = excused_before sp r k.address row.agrees.address h.begun h.pending left ∙ free in
    (tick_ages s sp k.address First (start (is_left_out sp k.address) k at.0) (record { late = false; finishes = true; from = over side.from one.outcome.from; to = over side.to one.outcome.to }) refl refl
    (prompt_clean u sp rows s k at.0 one.outcome one.holds) n (started_ages (is_left_out sp k.address) (is_bounded sp) k at.0 n kept (inside_ages (is_bounded sp) n w.ages at.0 at.1.1.inside i))).most bounded

-- anywhere
pub ages_have_room : (u : Setup) (sp : Span) (rows : Context → Option Ages) (s : MachineSetup) (r : Registers) (kept : Bool) (w : Watch) → AreKnown u sp rows s → is_bounded sp ≡ true → ((address : ℕ) → is_named sp address ≡ false)
    → is_excused_in sp (flow_of r) ≡ false → IsUnderWay u sp rows s kept (flow_of r) w → (n : ℕ) → InAges (is_bounded sp) n w.ages → n + 1 ≤ (bounds_of sp s).1
ages_have_room u sp rows s r kept w known bounded unnamed free (inl h) n i = elim (cases_lt 0 r.delay) [
  | inl more ↦ (tick_ages s sp r.pc Delay w delay_tick refl refl (delay_clean sp rows s kept r w more h) n i).most bounded
  | inr none ↦ by kept (omega arith) h
] where
  by : (z : Bool) → r.delay ≡ 0 → IsResting sp rows s z (flow_of r) w → n + 1 ≤ (bounds_of sp s).1
  by true left h = room_at_row u sp rows s r w known bounded free left h n i
  by false left h = absurd (h.delayed refl left)
ages_have_room u sp rows s r kept w known bounded unnamed free (inr (t, h)) n i =
    let here = begun_here u sp rows s r w known h in
    let k : Context = h.context in
    let op : Op = op_at u s k.address in
    let one : Found (AllEnds rows sp (narrowing_after sp k.address) (visit_of s sp op k h.ages)) = found _ op.act s sp k here.known.tame here.known.ends in
    let unexcused : is_excusing sp k.address ≡ false = excused_begun sp r k.address h.agrees.address h.begun ∙ free in
    let late : IsAged s sp k.address Late _ _ n =
    tick_ages s sp k.address Late (stalled_from u sp s k h.ages) (record { late = true; finishes = true; from = one.outcome.from; to = one.outcome.to }) refl unexcused
    (late_clean u sp rows s k h.ages one.outcome h.stalls one.holds) n (subst (λ (x : Watch). InAges (is_bounded sp) n x.ages) h.watch i) in
    absurd (let x : false ≡ true = sym (unnamed k.address) ∙ late.named bounded refl in cc)
