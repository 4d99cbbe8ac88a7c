-- Where X and Y are left as the span assumes, one of the contexts that can come next agrees with the machine.
use Rattle.std.proofs.Common.{◌≡◌, ℕ, zero, suc, ◌+◌, ◌-◌, ◌<◌, ◌≤◌, ◌==◌, min, max, nat_le, ◌⊎◌, inl, inr, Bool, true, false, not, ◌&&◌, ◌||◌, cond, Option, Some, None, List, [], ◌∷◌, map, refl, sym, ap, subst, arith}
use Rattle.std.proofs.lemmas.Bool.{cases_lt, and_from, and_parts, leb-true}
use Rattle.std.proofs.lemmas.Bool.Decides.{nat_tests}
use Rattle.std.specs.List.{AllByRecursion, flat_map, list_all, range_with_len}
use Rattle.pin_matrix.specs.Followed.{followed}
use Rattle.pin_matrix.specs.declared.assume.Assumption.{Assumption}
use Rattle.pin_matrix.specs.declared.assume.Follow.{Follow}
use Rattle.pin_matrix.specs.declared.assume.Range.{Range}
use Rattle.pin_matrix.specs.declared.span.Span.{Span}
use Rattle.span_step.specs.declared.ages.Ages.{Ages}
use Rattle.span_step.specs.declared.narrowing.Narrowing.{Narrowing}
use Rattle.span_step.specs.declared.stepped.Next.{Next}
use Rattle.span_step.specs.Contexts.{Context, is_placed}
use Rattle.span_step.specs.Laws.{AllPlaced}
use Rattle.pin_matrix.specs.Assumptions.{is_in, is_within, keeps}
use Rattle.span_step.specs.Narrowing.{meet, with_assumption, with_assumptions, narrowing_after, held, kept, knowing, narrowed}
use Rattle.span_ticks.specs.Rows.{HasRow}
use Rattle.span_ticks.specs.UnderWay.{Covers}
use Rattle.span_ticks.proofs.Explained.{all_front}

-- a number in two ranges is in what they have in common
within_meet : (a b : Option Range) (n : ℕ) → is_within a n ≡ true → is_within b n ≡ true → is_within (meet a b) n ≡ true
within_meet None b n h k = k
within_meet (Some r) None n h k = h
within_meet (Some r) (Some s) n h k =
    let p = and_parts (nat_le r.lo n) (nat_le n r.hi) h in
    let q = and_parts (nat_le s.lo n) (nat_le n s.hi) k in
    let low : r.lo ≤ n = leb-true r.lo n p.0 in
    let high : n ≤ r.hi = leb-true n r.hi p.1 in
    let also : s.lo ≤ n = leb-true s.lo n q.0 in
    let too : n ≤ s.hi = leb-true n s.hi q.1 in
    let below : max r.lo s.lo ≤ n = omega (arith, low, also) in
    let above : n ≤ min r.hi s.hi = omega (arith, high, too) in
    and_from (nat_le (max r.lo s.lo) n) (nat_le n (min r.hi s.hi)) (grind (arith, nat_tests, below)) (grind (arith, nat_tests, above))

-- X and Y are in these ranges
record AreWithin (found : Option Range × Option Range) (x y : ℕ) : Type 0 where
  of_x : is_within found.0 x ≡ true
  of_y : is_within found.1 y ≡ true

within_one : (address x y : ℕ) (found : Option Range × Option Range) (a : Assumption) → AreWithin found x y → (not (a.address == address) || (is_within a.x x && is_within a.y y)) ≡ true
    → AreWithin (with_assumption address found a) x y
within_one address x y found a h k = by (a.address == address) k where
  by : (z : Bool) → (not z || (is_within a.x x && is_within a.y y)) ≡ true → AreWithin (cond z (meet found.0 a.x, meet found.1 a.y) found) x y
  by true k = record {
    of_x = within_meet found.0 a.x x h.of_x (and_parts (is_within a.x x) (is_within a.y y) k).0;
    of_y = within_meet found.1 a.y y h.of_y (and_parts (is_within a.x x) (is_within a.y y) k).1;
  }
  by false k = h

-- what each assumption says, their ranges say together
within_all : (address x y : ℕ) (found : Option Range × Option Range) (items : List Assumption) → AreWithin found x y
    → list_all (λ a. not (a.address == address) || (is_within a.x x && is_within a.y y)) items ≡ true → AreWithin (with_assumptions address found items) x y
unfolding with_assumptions
within_all address x y found [] h k = h
within_all address x y found (a ∷ items) h k =
    let both = and_parts (not (a.address == address) || (is_within a.x x && is_within a.y y)) (list_all (λ a. not (a.address == address) || (is_within a.x x && is_within a.y y)) items) k in
    within_all address x y (with_assumption address found a) items (within_one address x y found a h both.0) both.1

-- one of a list
abbrev Of : Option ℕ → List (Option ℕ) → Type 0
Of k [] = ⊥
Of k (x ∷ xs) = (k ≡ x) ⊎ Of k xs

record Picked (xs : List (Option ℕ)) (n : ℕ) : Type 0 where
  known : Option ℕ
  one : Of known xs
  covers : Covers known n

one_number : (lo n i : ℕ) → lo ≤ i → i < lo + n → Of (Some i) (map Some (range_with_len lo n))
one_number lo zero i h k = absurd (omega (arith, h, k))
one_number lo (suc n) i h k = elim (cases_lt lo i) [
  | inl more ↦ inr (one_number (lo + 1) n i (omega (arith, more)) (omega (arith, k)))
  | inr less ↦ inl (let e : i ≡ lo = omega (arith, h, less) in ap Some e)
]

pick : (r : Option Range) (known : Option ℕ) (n : ℕ) → is_within r n ≡ true → Covers known n → Picked (kept r known) n
pick None known n is covers = record { known = known; one = inl refl; covers = covers }
pick (Some r) None n is covers =
    let p = and_parts (nat_le r.lo n) (nat_le n r.hi) is in
    let low : r.lo ≤ n = leb-true r.lo n p.0 in
    let high : n ≤ r.hi = leb-true n r.hi p.1 in
    record { known = Some n; one = one_number r.lo (r.hi + 1 - r.lo) n low (omega (arith, low, high)); covers = refl }
pick (Some r) (Some m) n is covers =
    let e : is_in r m ≡ true = subst (λ x. is_in r x ≡ true) covers is in
    record { known = Some m; one = subst (λ z. Of (Some m) (cond z (Some m ∷ []) [])) (sym e) (inl refl); covers = covers }

-- what is known at the end of a course still agrees
held_covers : (limit : ℕ) (r : Option Range) (known : Option ℕ) (n : ℕ) → Covers known n → Covers (held limit r known) n
held_covers limit None None n h = tt
held_covers limit None (Some k) n h = by (nat_le k limit) where
  by : (z : Bool) → Covers (cond z (Some k) None) n
  by true = h
  by false = tt
held_covers limit (Some r) known n h = h

-- what holds of each next
of_row : (P : Next → Type 0) (n : Next) (x y : Option ℕ) (ys : List (Option ℕ)) → Of y ys → AllByRecursion P (map (λ z. knowing n x z) ys) → P (knowing n x y)
of_row P n x y [] m h = absurd m
of_row P n x y (z ∷ ys) (inl e) h = subst (λ v. P (knowing n x v)) (sym e) h.0
of_row P n x y (z ∷ ys) (inr m) h = of_row P n x y ys m h.1

of_rows : (P : Next → Type 0) (n : Next) (x y : Option ℕ) (xs ys : List (Option ℕ)) → Of x xs → Of y ys → AllByRecursion P (flat_map (λ u. map (λ z. knowing n u z) ys) xs) → P (knowing n x y)
of_rows P n x y [] ys m k h = absurd m
of_rows P n x y (u ∷ xs) ys (inl e) k h = subst (λ v. P (knowing n v y)) (sym e) (of_row P n u y ys k (all_front P (map (λ z. knowing n u z) ys) _ h).0)
of_rows P n x y (u ∷ xs) ys (inr m) k h = of_rows P n x y xs ys m k (all_front P (map (λ z. knowing n u z) ys) _ h).1

-- a next has a row, and is in range
pub record IsAtRows (rows : Context → Option Ages) (f : Follow) (n : Next) : Type 0 where
  pub row : HasRow rows n
  pub placed : is_placed f n.context.address n.context.x n.context.y ≡ true

pub at_rows : (rows : Context → Option Ages) (f : Follow) (ns : List Next) → AllByRecursion (HasRow rows) ns → AllPlaced f ns → AllByRecursion (IsAtRows rows f) ns
at_rows rows f [] h k = tt
at_rows rows f (n ∷ ns) h k = (record { row = h.0; placed = k.0 }, at_rows rows f ns h.1 k.1)

-- one of what can come next, which agrees with X and Y
pub record Narrow (rows : Context → Option Ages) (f : Follow) (n : Next) (x y : ℕ) : Type 0 where
  pub known_x : Option ℕ
  pub known_y : Option ℕ
  pub covers_x : Covers known_x x
  pub covers_y : Covers known_y y
  pub at : IsAtRows rows f (knowing n known_x known_y)

narrow_by : (rows : Context → Option Ages) (f : Follow) (w : Narrowing) (n : Next) (x y : ℕ) → AreWithin (w.x, w.y) x y → Covers n.context.x x → Covers n.context.y y
    → AllByRecursion (IsAtRows rows f) (narrowed w n) → Narrow rows f n x y
unfolding narrowed
narrow_by rows f w n x y within cx cy all =
    let p = pick w.x n.context.x x within.of_x cx in
    let q = pick w.y n.context.y y within.of_y cy in
    record {
      known_x = p.known;
      known_y = q.known;
      covers_x = p.covers;
      covers_y = q.covers;
      at = of_rows (IsAtRows rows f) n p.known q.known _ _ p.one q.one all;
    }

-- the end of a course, with what an instruction leaves in X and Y that the span assumes
pub narrow : (rows : Context → Option Ages) (sp : Span) (address : ℕ) (n : Next) (known other : Option ℕ) (x y : ℕ) → keeps sp.assume address x y ≡ true → Covers known x → Covers other y
    → AllByRecursion (IsAtRows rows (followed sp))
    (narrowed (narrowing_after sp address) (knowing n (held (narrowing_after sp address).follow.x (narrowing_after sp address).x known) (held (narrowing_after sp address).follow.y (narrowing_after sp address).y other)))
    → Narrow rows (followed sp) n x y
unfolding narrowing_after
narrow rows sp address n known other x y keeps cx cy all =
    let w : Narrowing = narrowing_after sp address in
    let within : AreWithin (w.x, w.y) x y = within_all address x y (None, None) sp.assume (record { of_x = refl; of_y = refl }) keeps in
    let p = narrow_by rows (followed sp) w (knowing n (held w.follow.x w.x known) (held w.follow.y w.y other)) x y within (held_covers w.follow.x w.x known x cx) (held_covers w.follow.y w.y other y cy) all in
    record { known_x = p.known_x; known_y = p.known_y; covers_x = p.covers_x; covers_y = p.covers_y; at = p.at }
