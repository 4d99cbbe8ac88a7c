-- The least closed table. A table that lies in every closed one, and isn't closed, has a next that lies nowhere: with that next's
-- ages it still lies in every closed one. So it grows until it is closed, since ages have a bound.
use Rattle.std.proofs.Common.{◌≡◌, ◌≢◌, ℕ, zero, suc, ◌+◌, ◌-◌, ◌<◌, ◌≤◌, ◌⊎◌, min, max, nat_lt, nat_le, Bool, true, false, Option, Some, None, List, [], ◌∷◌, length, set, replicate, get_or, refl, sym, ◌∙◌, subst, inl, inr, arith}
use Rattle.std.specs.Prelude.{sum_by}
use Rattle.std.proofs.lemmas.Bool.{cases_lt, cases_eq, and_from, lt-ltb}
use Rattle.std.proofs.lemmas.List.{length-set, length-replicate, get_or-replicate}
use Rattle.std.proofs.lemmas.List.Sums.{sum_by-set}
use Rattle.pin_matrix.specs.Followed.{followed}
use Rattle.pin_matrix.specs.declared.machine.MachineSetup.{MachineSetup}
use Rattle.pin_matrix.specs.declared.setup.Setup.{Setup}
use Rattle.pin_matrix.specs.declared.span.Span.{Span}
use Rattle.span_step.specs.declared.ages.Ages.{Ages}
use Rattle.span_step.specs.declared.ages.Ages.TheVariants.{Empty, Between}
use Rattle.span_step.specs.declared.stepped.Next.{Next}
use Rattle.span_step.specs.Contexts.{is_small, is_placed}
use Rattle.span_step.specs.Laws.{AreUpTo, AllPlaced, cap_of}
use Rattle.span_step.specs.Narrowing.{followed_to}
use Rattle.span_bounds.specs.declared.entry.Entry.{Entry}
use Rattle.span_bounds.specs.declared.entry.Entry.TheVariants.{Absent, Present}
use Rattle.span_bounds.specs.declared.row.Row.{Row}
use Rattle.span_bounds.specs.Numbers.{number_of, contexts_of}
use Rattle.span_bounds.specs.Tables.{LiesAt, entry_at, rows_from, started, start_context, IsLeast}
use Rattle.span_bounds.specs.Edges.{at, nexts_at, spot, EachNext, AllLie, IsClosedAt}
use Rattle.span_bounds.specs.Reach.{rises_left, room}
use Rattle.span_bounds.specs.Sums.{join_into}
use Rattle.span_bounds.specs.Count.{EntryIn}
use Rattle.span_bounds.proofs.Placing.{contexts_some, number_below, number_of-context_at}
use Rattle.span_bounds.proofs.PlacedNexts.{placed_nexts}
use Rattle.span_bounds.proofs.Reaching.{at_same, at_other}
use Rattle.span_bounds.proofs.Joins.{joined_at, join_lies, lies_still, closed_lies}
use Rattle.span_bounds.proofs.Grids.{IsTable-rows_from}
use Rattle.span_bounds.proofs.Ends.{closed_at, each_row_at}
use Rattle.span_bounds.proofs.Filled.{capped, closed_rows}
use Rattle.pin_matrix.specs.declared.assume.Follow.{Follow}

lies_or_not : (a : Ages) (e : Entry) → LiesAt a e ⊎ (LiesAt a e → ⊥)
lies_or_not a Absent = inr (λ h. h)
lies_or_not Empty (Present b) = inl tt
lies_or_not (Between lo hi) (Present Empty) = inr (λ h. h)
lies_or_not (Between lo hi) (Present (Between low high)) = on (cases_lt lo low) (cases_lt high hi) where
  on : (lo < low) ⊎ (low ≤ lo) → (high < hi) ⊎ (hi ≤ high) → LiesAt (Between lo hi) (Present (Between low high)) ⊎ (LiesAt (Between lo hi) (Present (Between low high)) → ⊥)
  on (inl l) o = inr (λ h. let k : low ≤ lo = h.0 in omega arith)
  on (inr l) (inl m) = inr (λ h. let k : hi ≤ high = h.1 in omega arith)
  on (inr l) (inr m) = inl (l, m)

-- one of some nexts
abbrev IsOne : Next → List Next → Type 0
IsOne n [] = ⊥
IsOne n (m ∷ ms) = (n ≡ m) ⊎ IsOne n ms

of_one : (P : Next → Type 0) (n : Next) (ns : List Next) → EachNext P ns → IsOne n ns → P n
of_one P n [] h o = absurd o
of_one P n (m ∷ ms) h (inl e) = subst P (sym e) h.0
of_one P n (m ∷ ms) h (inr o) = of_one P n ms h.1 o

placed_one : (far : Follow) (n : Next) (ns : List Next) → AllPlaced far ns → IsOne n ns → is_placed far n.context.address n.context.x n.context.y ≡ true
placed_one far n [] h o = absurd o
placed_one far n (m ∷ ms) h (inl e) = subst (λ k. is_placed far k.context.address k.context.x k.context.y ≡ true) (sym e) h.0
placed_one far n (m ∷ ms) h (inr o) = placed_one far n ms h.1 o

-- a next that lies nowhere
record Astray (far : Follow) (f : ℕ → Entry) (ns : List Next) : Type 0 where
  next : Next
  is_one : IsOne next ns
  astray : LiesAt next.ages (f (spot far next)) → ⊥

all_or_one : (far : Follow) (f : ℕ → Entry) (ns : List Next) → AllLie far f ns ⊎ Astray far f ns
all_or_one far f [] = inl tt
all_or_one far f (n ∷ ns) = on (lies_or_not n.ages (f (spot far n))) (all_or_one far f ns) where
  on : LiesAt n.ages (f (spot far n)) ⊎ (LiesAt n.ages (f (spot far n)) → ⊥) → AllLie far f ns ⊎ Astray far f ns → AllLie far f (n ∷ ns) ⊎ Astray far f (n ∷ ns)
  on (inl h) (inl k) = inl (h, k)
  on (inl h) (inr a) = inr (record { next = a.next; is_one = inr a.is_one; astray = a.astray })
  on (inr h) o = inr (record { next = n; is_one = inl refl; astray = h })

-- a row with such a next
record Missing (u : Setup) (sp : Span) (x : List Entry) : Type 0 where
  number : ℕ
  ages : Ages
  below : number < (contexts_of sp)
  row : at x number ≡ Present ages
  next : Astray (followed sp) (at x) (nexts_at u sp number ages)

-- the rows below a number have none
abbrev ClosedBelow : Setup → Span → List Entry → ℕ → Type 0
ClosedBelow u sp x n = (i : ℕ) (a : Ages) → i < n → at x i ≡ Present a → AllLie (followed sp) (at x) (nexts_at u sp i a)

-- of entries: no row is none, and an entry has one row
pub no_row : {a : Ages} → Absent ≡ Present a → ⊥
no_row e = cc

pub same_ages : {a b : Ages} → Present a ≡ Present b → a ≡ b
same_ages e = cc

closed_or_missing : (u : Setup) (sp : Span) (x : List Entry) (n : ℕ) → n ≤ (contexts_of sp) → ClosedBelow u sp x n ⊎ Missing u sp x
closed_or_missing u sp x zero l = inl (λ i a m q. absurd (omega (arith, m)))
closed_or_missing u sp x (suc n) l = on (closed_or_missing u sp x n (omega (arith, l))) (at x n) refl where
  last : (e : Entry) → at x n ≡ e → ClosedBelow u sp x n → ((a : Ages) → e ≡ Present a → AllLie (followed sp) (at x) (nexts_at u sp n a)) → ClosedBelow u sp x (suc n)
  last e q c h i a m p = by (cases_eq i n) where
    by : (i ≡ n) ⊎ (i ≢ n) → AllLie (followed sp) (at x) (nexts_at u sp i a)
    by (inl s) = subst (λ j. AllLie (followed sp) (at x) (nexts_at u sp j a)) (sym s) (h a (sym q ∙ (rw s at p)))
    by (inr d) = c i a (omega arith) p

  on : ClosedBelow u sp x n ⊎ Missing u sp x → (e : Entry) → at x n ≡ e → ClosedBelow u sp x (suc n) ⊎ Missing u sp x
  on (inr m) e q = inr m
  on (inl c) Absent q = inl (last Absent q c (λ a s. absurd (no_row s)))
  on (inl c) (Present b) q = by (all_or_one (followed sp) (at x) (nexts_at u sp n b)) where
    by : AllLie (followed sp) (at x) (nexts_at u sp n b) ⊎ Astray (followed sp) (at x) (nexts_at u sp n b) → ClosedBelow u sp x (suc n) ⊎ Missing u sp x
    by (inl h) = inl (last (Present b) q c (λ a s. subst (λ k. AllLie (followed sp) (at x) (nexts_at u sp n k)) (same_ages s) h))
    by (inr s) = inr (record { number = n; ages = b; below = omega (arith, l); row = q; next = s })

-- a table that holds the start, and lies in every closed one
record IsLower (u : Setup) (sp : Span) (x : List Entry) : Type 0 where
  size : length x ≡ (contexts_of sp)
  starts : LiesAt Empty (at x (number_of (followed sp) (start_context u sp)))
  least : (f : ℕ → Entry) → IsClosedAt u sp f → (i : ℕ) → i < (contexts_of sp) → EntryIn (at x i) (f i)

IsLower-join : (u : Setup) (sp : Span) (x : List Entry) (p : ℕ) (a : Ages) → p < (contexts_of sp) → IsLower u sp x → ((f : ℕ → Entry) → IsClosedAt u sp f → LiesAt a (f p)) → IsLower u sp (joined_at x p a)
IsLower-join u sp x p a l s needed = record {
  size = length-set x p (Present (join_into a (at x p))) ∙ s.size;
  starts = lies_still x p a Empty (number_of (followed sp) (start_context u sp)) inside s.starts;
  least = λ f c j m. least f c j m (cases_eq j p);
} where
  inside : p < length x
  inside = rw s.size l

  least : (f : ℕ → Entry) → IsClosedAt u sp f → (j : ℕ) → j < (contexts_of sp) → (j ≡ p) ⊎ (j ≢ p) → EntryIn (at (joined_at x p a) j) (f j)
  least f c j m (inl e) = rw (e, at_same x p (Present (join_into a (at x p))) inside) (join_lies a (at x p) (f p) (needed f c) (s.least f c p l))
  least f c j m (inr n) = rw (at_other x p j (Present (join_into a (at x p))) n) (s.least f c j m)

-- how far an entry's ages may still spread up to a bound
abbrev spread_left : ℕ → Entry → ℕ
spread_left c Absent = 0
spread_left c (Present Empty) = 0
spread_left c (Present (Between lo hi)) = lo + (c - hi)

-- where ages join an entry in which they don't lie, it rises, or its ages spread
abbrev Falls : ℕ → (e g : Entry) → Type 0
Falls c e g = (rises_left g < rises_left e) ⊎ ((rises_left g ≡ rises_left e) × (spread_left c g < spread_left c e))

falls : (c : ℕ) (a : Ages) (e : Entry) → AreUpTo c a → (LiesAt a e → ⊥) → Falls c e (Present (join_into a e))
falls c Empty Absent u n = inl (omega arith)
falls c (Between lo hi) Absent u n = inl (omega arith)
falls c Empty (Present b) u n = absurd (n tt)
falls c (Between lo hi) (Present Empty) u n = inl (omega arith)
falls c (Between lo hi) (Present (Between low high)) u n = inr (refl, on (cases_lt lo low) (cases_lt high hi)) where
  on : (lo < low) ⊎ (low ≤ lo) → (high < hi) ⊎ (hi ≤ high) → min lo low + (c - max hi high) < low + (c - high)
  on (inl l) (inl m) = omega arith
  on (inl l) (inr m) = omega arith
  on (inr l) (inl m) = omega arith
  on (inr l) (inr m) = absurd (n (l, m))

-- the same of a whole table
abbrev spread : ℕ → List Entry → ℕ
spread c x = sum_by (spread_left c) x

record Better (u : Setup) (sp : Span) (x : List Entry) : Type 0 where
  table : List Entry
  lower : IsLower u sp table
  falls : (room table < room x) ⊎ ((room table ≡ room x) × (spread (cap_of u sp) table < spread (cap_of u sp) x))

sums_fall : (c : ℕ) (x : List Entry) (p : ℕ) (g : Entry) → p < length x → Falls c (at x p) g → (room (set x p g) < room x) ⊎ ((room (set x p g) ≡ room x) × (spread c (set x p g) < spread c x))
sums_fall c x p g l (inl h) = inl (less _ _ _ _ (sum_by-set rises_left x p g Absent l) h) where
  less : (a b o n : ℕ) → a + o ≡ b + n → n < o → a < b
  less a b o n e k = omega arith
sums_fall c x p g l (inr h) = inr (same _ _ _ _ (sum_by-set rises_left x p g Absent l) h.0, less _ _ _ _ (sum_by-set (spread_left c) x p g Absent l) h.1) where
  less : (a b o n : ℕ) → a + o ≡ b + n → n < o → a < b
  less a b o n e k = omega arith

  same : (a b o n : ℕ) → a + o ≡ b + n → n ≡ o → a ≡ b
  same a b o n e k = omega arith

better : (u : Setup) (sp : Span) (x : List Entry) → IsLower u sp x → Missing u sp x → Better u sp x
better u sp x s m = record {
  table = joined_at x (spot (followed sp) n) n.ages;
  lower = IsLower-join u sp x (spot (followed sp) n) n.ages below s needed;
  falls = sums_fall (cap_of u sp) x (spot (followed sp) n) _ (rw s.size below) (falls (cap_of u sp) n.ages (at x (spot (followed sp) n)) bounded m.next.astray);
} where
  n : Next
  n = m.next.next

  below : spot (followed sp) n < (contexts_of sp)
  below = number_below (followed sp) n.context (placed_one (followed sp) n _ (placed_nexts u sp m.number m.ages m.below) m.next.is_one)

  bounded : AreUpTo (cap_of u sp) n.ages
  bounded = of_one (λ k. AreUpTo (cap_of u sp) k.ages) n _ (capped u sp m.number m.ages) m.next.is_one

  needed : (f : ℕ → Entry) → IsClosedAt u sp f → LiesAt n.ages (f (spot (followed sp) n))
  needed f c = of_one (λ k. LiesAt k.ages (f (spot (followed sp) k))) n _ (closed_lies u sp f m.number m.ages m.below c (rw m.row at (s.least f c m.number m.below))) m.next.is_one

-- a table that lies in every closed one, and is closed
record Found (u : Setup) (sp : Span) : Type 0 where
  table : List Entry
  lower : IsLower u sp table
  closed : IsClosedAt u sp (at table)

done_or_better : (u : Setup) (sp : Span) (x : List Entry) → IsLower u sp x → Found u sp ⊎ Better u sp x
done_or_better u sp x s = on (closed_or_missing u sp x (contexts_of sp) (omega arith)) where
  on : ClosedBelow u sp x (contexts_of sp) ⊎ Missing u sp x → Found u sp ⊎ Better u sp x
  on (inl c) = inl (record { table = x; lower = s; closed = record { starts = s.starts; steps = c } })
  on (inr m) = inr (better u sp x s m)

-- while no entry rises, the ages spread at most so often
spreads : (u : Setup) (sp : Span) (r : ℕ) → ((y : List Entry) → IsLower u sp y → room y < r → Found u sp) → (s : ℕ) (x : List Entry) → IsLower u sp x → room x ≤ r → spread (cap_of u sp) x ≤ s → Found u sp
spreads u sp r rest zero x low b t = on (done_or_better u sp x low) where
  on : Found u sp ⊎ Better u sp x → Found u sp
  on (inl f) = f
  on (inr y) = elim y.falls [ inl h ↦ rest y.table y.lower (omega (arith, h, b)) | inr h ↦ absurd (omega (arith, h.1, t)) ]
spreads u sp r rest (suc s) x low b t = on (done_or_better u sp x low) (λ y l h k. spreads u sp r rest s y l h k) where
  on : Found u sp ⊎ Better u sp x → ((y : List Entry) → IsLower u sp y → room y ≤ r → spread (cap_of u sp) y ≤ s → Found u sp) → Found u sp
  on (inl f) later = f
  on (inr y) later = elim y.falls [
    | inl h ↦ rest y.table y.lower (omega (arith, h, b))
    | inr h ↦ later y.table y.lower (omega (arith, h.0, b)) (omega (arith, h.1, t))
  ]

-- entries rise at most so often
rises : (u : Setup) (sp : Span) (r : ℕ) (x : List Entry) → IsLower u sp x → room x ≤ r → Found u sp
rises u sp zero x low b = spreads u sp zero (λ y l h. absurd (omega (arith, h))) (spread (cap_of u sp) x) x low b (omega arith)
rises u sp (suc r) x low b = spreads u sp (suc r) (λ y l h. rises u sp r y l (omega (arith, h))) (spread (cap_of u sp) x) x low b (omega arith)

known_small : (b n : ℕ) → is_small b (followed_to b (Some n)) ≡ true
known_small b n = on (nat_le n b) refl where
  on : (z : Bool) → nat_le n b ≡ z → is_small b (followed_to b (Some n)) ≡ true
  on true e = rw e e
  on false e = rw e refl

start_below : (u : Setup) (sp : Span) → number_of (followed sp) (start_context u sp) < (contexts_of sp)
unfolding start_context
start_below u sp = on (get_or u.machines sp.machine None) where
  on : (m : Option MachineSetup) → number_of (followed sp) (started m u sp) < (contexts_of sp)
  on None = omega (arith, number_of-context_at (followed sp) 0, contexts_some (followed sp))
  on (Some s) =
      number_below (followed sp) (started (Some s) u sp) (and_from (nat_lt s.start 32) _ (lt-ltb s.start 32 s.start_in_memory) (and_from _ _ (known_small (followed sp).x s.x) (known_small (followed sp).y s.y)))

-- a grid without rows, with the start
abbrev start_alone : Setup → Span → List Entry → List Entry
start_alone u sp x = set x (number_of (followed sp) (start_context u sp)) (Present Empty)

IsLower-start : (u : Setup) (sp : Span) (x : List Entry) → length x ≡ (contexts_of sp) → ((i : ℕ) → i < (contexts_of sp) → at x i ≡ Absent) → IsLower u sp (start_alone u sp x)
IsLower-start u sp x size none = record {
  size = length-set x (number_of (followed sp) (start_context u sp)) (Present Empty) ∙ size;
  starts = rw (at_same x (number_of (followed sp) (start_context u sp)) (Present Empty) inside) tt;
  least = λ f c i m. least f c i m (cases_eq i (number_of (followed sp) (start_context u sp)));
} where
  inside : number_of (followed sp) (start_context u sp) < length x
  inside = rw size (start_below u sp)

  least : (f : ℕ → Entry) → IsClosedAt u sp f → (i : ℕ) → i < (contexts_of sp) → (i ≡ number_of (followed sp) (start_context u sp)) ⊎ (i ≢ number_of (followed sp) (start_context u sp)) → EntryIn (at (start_alone u sp x) i) (f i)
  least f c i m (inl e) = rw (e, at_same x (number_of (followed sp) (start_context u sp)) (Present Empty) inside) c.starts
  least f c i m (inr n) = rw (at_other x (number_of (followed sp) (start_context u sp)) i (Present Empty) n, none i m) tt

-- a closed table that lies in every closed one is the least
least_above : (u : Setup) (sp : Span) (x : List Entry) → IsLower u sp x → (rows : List Row) × IsLeast u sp rows
least_above u sp x low = on (rises u sp (room x) x low (omega arith)) where
  on : Found u sp → (rows : List Row) × IsLeast u sp rows
  on f = (
    rows_from (followed sp) 0 f.table,
    record {
      table = IsTable-rows_from (followed sp) f.table f.lower.size;
      closed = closed_rows u sp f.table f.lower.size f.closed;
      least = λ others o c. each_row_at (followed sp) (λ r. LiesAt r.ages (entry_at (followed sp) others (number_of (followed sp) r.context))) f.table f.lower.size (λ i a m q. rw (number_of-context_at (followed sp) i) (entry_in (entry_at (followed sp) others) (closed_at u sp others o c) i a m q));
    },
  ) where
    entry_in : (g : ℕ → Entry) → IsClosedAt u sp g → (i : ℕ) (a : Ages) → i < (contexts_of sp) → at f.table i ≡ Present a → LiesAt a (g i)
    entry_in g c i a m q = rw q at (f.lower.least g c i m)

-- the least closed table
pub least_rows : (u : Setup) (sp : Span) → (rows : List Row) × IsLeast u sp rows
least_rows u sp = least_above u sp (start_alone u sp (replicate (contexts_of sp) Absent)) (IsLower-start u sp (replicate (contexts_of sp) Absent) (length-replicate (contexts_of sp) Absent) (λ i m. get_or-replicate (contexts_of sp) i Absent Absent m))
