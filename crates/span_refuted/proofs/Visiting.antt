-- The visits of a machine without choice: each is in range, at the address that the machine comes to, and has one next.
use Rattle.std.proofs.Common.{◌≡◌, ℕ, zero, suc, ◌+◌, Bool, true, false, nat_le, nat_lt, cond, Some, None, refl, subst, ◌∙◌, ap}
use Rattle.std.proofs.lemmas.Bool.{and_parts, and_from, lt-ltb}
use Rattle.pin_matrix.specs.Followed.{followed}
use Rattle.pin_matrix.specs.declared.machine.MachineSetup.{MachineSetup}
use Rattle.pin_matrix.specs.declared.setup.Setup.{Setup}
use Rattle.pin_matrix.specs.declared.span.Span.{Span}
use Rattle.span_step.specs.declared.ages.Ages.{Ages}
use Rattle.span_step.specs.declared.stepped.Next.{Next}
use Rattle.span_step.specs.Contexts.{Context, is_placed, is_small}
use Rattle.span_step.specs.Outcomes.{ContextOutcome}
use Rattle.span_step.specs.Courses.{start}
use Rattle.span_step.specs.Narrowing.{followed_to, nexts_of}
use Rattle.span_step.specs.Steps.{next_address, bounds_of, rules_of, context_steps}
use Rattle.span_step.specs.Laws.{AllPlaced}
use Rattle.span_bounds.specs.Tables.{started, start_context}
use Rattle.span_refuted.specs.OneWay.{has_one_way, instruction_at, goes_to, reached, LeavesNoChoice}
use Rattle.span_refuted.specs.Visits.{visit}
use Rattle.span_refuted.proofs.Single.{IsSingle, single, end, course, landed_at, nexts}
use Rattle.span_refuted.proofs.Joining.{AreSmall, followed_small}

-- what a law of span_step says: after a context in range each next one is in range
abbrev pub StaysPlaced : Type 0
StaysPlaced = (u : Setup) (sp : Span) (k : Context) (a : Ages) → nat_lt k.address 32 ≡ true → AllPlaced (followed sp) (nexts_of (context_steps u sp k a))

-- the one next of a step from a context at an instruction with one way
abbrev pub landed : (u : Setup) (sp : Span) (s : MachineSetup) (k : Context) → ContextOutcome → Ages → Next
landed u sp s k o a = landed_at sp (next_address s k.address) o (end s sp (instruction_at u s k.address) o k a)

known_small : (most n : ℕ) → is_small most (followed_to most (Some n)) ≡ true
known_small most n = on (nat_le n most) refl where
  on : (z : Bool) → nat_le n most ≡ z → is_small most (cond z (Some n) None) ≡ true
  on true e = e
  on false e = refl

started_placed : (s : MachineSetup) (u : Setup) (sp : Span) → is_placed (followed sp) (started (Some s) u sp).address (started (Some s) u sp).x (started (Some s) u sp).y ≡ true
started_placed s u sp = and_from _ _ (lt-ltb s.start 32 s.start_in_memory) (and_from _ _ (known_small (followed sp).x s.x) (known_small (followed sp).y s.y))

-- what is so of each visit
pub record IsVisit (u : Setup) (sp : Span) (s : MachineSetup) (i : ℕ) : Type 0 where
  pub placed : is_placed (followed sp) (visit u sp i).0.address (visit u sp i).0.x (visit u sp i).0.y ≡ true
  pub address : (visit u sp i).0.address ≡ reached u s i
  pub small : AreSmall ((bounds_of sp s).1 + 1) (visit u sp i).1
  pub single : IsSingle u sp s (visit u sp i).0

pub next_visit : (u : Setup) (sp : Span) (s : MachineSetup) (i : ℕ) → (h : IsSingle u sp s (visit u sp i).0)
    → visit u sp (suc i) ≡ ((landed u sp s (visit u sp i).0 h.outcome (visit u sp i).1).context, (landed u sp s (visit u sp i).0 h.outcome (visit u sp i).1).ages)
unfolding visit
next_visit u sp s i h = rw (nexts h (visit u sp i).1) refl

one_way_at : (u : Setup) (s : MachineSetup) (a b : ℕ) → a ≡ b → has_one_way (instruction_at u s b).act s ≡ true → has_one_way (instruction_at u s a).act s ≡ true
one_way_at u s a b e h = rw e h

small_end : (u : Setup) (sp : Span) (s : MachineSetup) (k : Context) (o : ContextOutcome) (a : Ages) → AreSmall ((bounds_of sp s).1 + 1) a → AreSmall ((bounds_of sp s).1 + 1) (landed u sp s k o a).ages
unfolding rules_of
small_end u sp s k o a h = followed_small (rules_of s sp k.address) (course s sp (instruction_at u s k.address) o) (start false k a) h

visit_after : (u : Setup) (sp : Span) (c : LeavesNoChoice u sp) (i : ℕ) → StaysPlaced → IsVisit u sp c.machine i → IsVisit u sp c.machine (suc i)
unfolding reached
visit_after u sp c i stays h = record {
  placed = rw next placed;
  address = address;
  small = rw next (small_end u sp c.machine (visit u sp i).0 h.single.outcome (visit u sp i).1 h.small);
  single = single u sp c.machine _ c.simple c.configured c.begins (one_way_at u c.machine _ _ address (c.one_way (suc i)));
} where
  next : visit u sp (suc i) ≡ ((landed u sp c.machine (visit u sp i).0 h.single.outcome (visit u sp i).1).context, (landed u sp c.machine (visit u sp i).0 h.single.outcome (visit u sp i).1).ages)
  next = next_visit u sp c.machine i h.single

  there : Next
  there = landed u sp c.machine (visit u sp i).0 h.single.outcome (visit u sp i).1

  placed : is_placed (followed sp) there.context.address there.context.x there.context.y ≡ true
  placed = (subst (AllPlaced (followed sp)) (nexts h.single (visit u sp i).1) (stays u sp (visit u sp i).0 (visit u sp i).1 (and_parts (nat_lt (visit u sp i).0.address 32) _ h.placed).0)).0

  address : (visit u sp (suc i)).0.address ≡ reached u c.machine (suc i)
  address = rw next (h.single.goes ∙ ap (λ a. goes_to (instruction_at u c.machine a).act (next_address c.machine a)) h.address)

first_visit : (u : Setup) (sp : Span) (c : LeavesNoChoice u sp) → IsVisit u sp c.machine 0
unfolding visit reached start_context
first_visit u sp c = record {
  placed = rw c.configured (started_placed c.machine u sp);
  address = address;
  small = tt;
  single = single u sp c.machine _ c.simple c.configured c.begins (one_way_at u c.machine _ _ address (c.one_way 0));
} where
  address : (visit u sp 0).0.address ≡ reached u c.machine 0
  address = rw c.configured refl

pub each_visit : StaysPlaced → (u : Setup) (sp : Span) (c : LeavesNoChoice u sp) → (i : ℕ) → IsVisit u sp c.machine i
each_visit stays u sp c zero = first_visit u sp c
each_visit stays u sp c (suc i) = visit_after u sp c i stays (each_visit stays u sp c i)
