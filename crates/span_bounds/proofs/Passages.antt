-- At most one passage of each end leads to a number, since what can come next after an end are different contexts; so at most
-- eight passages of a row do.
use Rattle.std.proofs.Common.{◌≡◌, ℕ, zero, suc, ◌+◌, ◌*◌, ◌<◌, ◌≤◌, ◌==◌, Bool, true, false, ◌&&◌, nat_lt, if◌then◌else◌, Option, Some, None, List, [], ◌∷◌, ◌++◌, length, map, take, drop, refl, sym, ap, ◌∙◌, inl, inr, arith, subst, mul-le-mul_right}
use Rattle.std.proofs.lemmas.Bool.{cases_lt}
use Rattle.std.proofs.lemmas.Bool.Decides.{nat_tests}
use Rattle.std.proofs.lemmas.List.{take-append-drop}
use Rattle.std.specs.List.{flat_map, range_with_len}
use Rattle.pin_matrix.specs.Followed.{followed}
use Rattle.pin_matrix.specs.declared.assume.Follow.{Follow}
use Rattle.pin_matrix.specs.declared.assume.Range.{Range}
use Rattle.pin_matrix.specs.declared.setup.Setup.{Setup}
use Rattle.pin_matrix.specs.declared.span.Span.{Span}
use Rattle.span_step.specs.declared.ages.Ages.{Ages}
use Rattle.span_step.specs.declared.narrowing.Narrowing.{Narrowing}
use Rattle.span_step.specs.declared.stepped.Next.{Next}
use Rattle.span_step.specs.declared.stepped.Stepped.{Stepped}
use Rattle.span_step.specs.Contexts.{is_small}
use Rattle.span_step.specs.Laws.{AllPlaced}
use Rattle.pin_matrix.specs.Assumptions.{is_in}
use Rattle.span_step.specs.Narrowing.{all_narrowed, kept, knowing, narrowed, nexts_of, numbers_in}
use Rattle.span_step.specs.Steps.{context_steps}
use Rattle.span_bounds.specs.Numbers.{contexts_of, context_at, known_number, level_number}
use Rattle.span_bounds.specs.Edges.{nexts_at, spot}
use Rattle.span_bounds.specs.Sums.{one_if, passages}
use Rattle.span_bounds.proofs.Placing.{and_three, known_below, level_below}
use Rattle.span_bounds.proofs.PlacedNexts.{placed_nexts}

pub passages-append : (d : Follow) (v : ℕ) (ns ms : List Next) → passages d v (ns ++ ms) ≡ passages d v ns + passages d v ms
unfolding passages
passages-append d v [] ms = omega arith
passages-append d v (n ∷ ns) ms = let h = passages-append d v ns ms in omega arith

no_passages : (d : Follow) (v : ℕ) → passages d v [] ≡ 0
unfolding passages
no_passages d v = refl

-- no more of the first ones
pub passages-take : (d : Follow) (v k : ℕ) (ns : List Next) → passages d v (take k ns) ≤ passages d v ns
passages-take d v k ns =
    let h = passages-append d v (take k ns) (drop k ns) in
    let e : passages d v (take k ns ++ drop k ns) ≡ passages d v ns = ap (passages d v) (take-append-drop k ns) in
    omega (arith, h, e)

-- at most one leads to v, and where one does, v is one of the numbers from a first to below an end
record OneWithin (d : Follow) (v : ℕ) (ns : List Next) (first end : ℕ) : Type 0 where
  most : passages d v ns ≤ 1
  within : 1 ≤ passages d v ns → (first ≤ v) × (v < end)

none_leads : (d : Follow) (v first end : ℕ) → OneWithin d v [] first end
unfolding passages
none_leads d v first end = record { most = omega arith; within = λ h. absurd (omega (arith, h)) }

one_leads : (d : Follow) (v : ℕ) (n : Next) → OneWithin d v (n ∷ []) (spot d n) (spot d n + 1)
unfolding passages
one_leads d v n = record { most = most (n.passes && spot d n == v); within = within n.passes (spot d n == v) refl } where
  most : (z : Bool) → one_if z + 0 ≤ 1
  most true = omega arith
  most false = omega arith

  within : (p z : Bool) → (spot d n == v) ≡ z → 1 ≤ one_if (p && z) + 0 → (spot d n ≤ v) × (v < spot d n + 1)
  within true true e h = let same : spot d n ≡ v = grind (arith, nat_tests) in (omega (arith, same), omega (arith, same))
  within true false e h = absurd (omega (arith, h))
  within false z e h = absurd (omega (arith, h))

-- in a wider stretch too
wider : (d : Follow) (v : ℕ) (ns : List Next) (first end a b : ℕ) → a ≤ first → end ≤ b → OneWithin d v ns first end → OneWithin d v ns a b
wider d v ns first end a b h k s = record { most = s.most; within = λ o. (omega (arith, h, (s.within o).0), omega (arith, k, (s.within o).1)) }

-- of two stretches, one behind the other
both_lead : (d : Follow) (v : ℕ) (ns ms : List Next) (first middle end : ℕ) → first ≤ middle → middle ≤ end → OneWithin d v ns first middle → OneWithin d v ms middle end → OneWithin d v (ns ++ ms) first end
both_lead d v ns ms first middle end a b s t = record { most = most; within = within } where
  sum : passages d v (ns ++ ms) ≡ passages d v ns + passages d v ms
  sum = passages-append d v ns ms

  most : passages d v (ns ++ ms) ≤ 1
  most = elim (cases_lt v middle) [
    | inl below ↦ (let no : passages d v ms ≤ 0 = elim (cases_lt (passages d v ms) 1) [ inl l ↦ omega (arith, l) | inr m ↦ absurd (omega (arith, below, (t.within m).0)) ] in omega (arith, sum, no, s.most))
    | inr above ↦ (let no : passages d v ns ≤ 0 = elim (cases_lt (passages d v ns) 1) [ inl l ↦ omega (arith, l) | inr m ↦ absurd (omega (arith, above, (s.within m).1)) ] in omega (arith, sum, no, t.most))
  ]

  within : 1 ≤ passages d v (ns ++ ms) → (first ≤ v) × (v < end)
  within h = elim (cases_lt (passages d v ns) 1) [
    | inl none ↦ (let m : 1 ≤ passages d v ms = omega (arith, h, sum, none) in (omega (arith, a, (t.within m).0), (t.within m).1))
    | inr some ↦ ((s.within some).0, omega (arith, b, (s.within some).1))
  ]

-- what a range or a number that is known leaves: nothing, one thing, or numbers in their order
kept_by : (P : List (Option ℕ) → Type 0) → P [] → ((o : Option ℕ) → P (o ∷ [])) → ((lo k : ℕ) → P (map Some (range_with_len lo k))) → (r : Option Range) (o : Option ℕ) → P (kept r o)
kept_by P none one each None o = one o
kept_by P none one each (Some r) None = each r.lo (numbers_in r)
kept_by P none one each (Some r) (Some n) = on (is_in r n) where
  on : (z : Bool) → P (if z then Some n ∷ [] else [])
  on true = one (Some n)
  on false = none

-- the numbers of contexts that differ in Y alone
ordered : (r y z f t : ℕ) → y ≤ z → (r + y) * 4 + 2 * f + t ≤ (r + z) * 4 + 2 * f + t
ordered r y z f t h = omega arith

ordered_by : (r y z f t : ℕ) → y < z → (r + y) * 4 + 2 * f + t + 1 ≤ (r + z) * 4 + 2 * f + t
ordered_by r y z f t h = omega arith

-- with X as it is
module _ (d : Follow) (v : ℕ) (n : Next) (x : Option ℕ) where
  in_order : (y z : ℕ) → y ≤ z → spot d (knowing n x (Some y)) ≤ spot d (knowing n x (Some z))
  in_order y z h = ordered ((n.context.address * (d.x + 2) + known_number d.x x) * (d.y + 2)) y z (level_number n.context.from) (level_number n.context.to) h

  in_order_by : (y z : ℕ) → y < z → spot d (knowing n x (Some y)) + 1 ≤ spot d (knowing n x (Some z))
  in_order_by y z h = ordered_by ((n.context.address * (d.x + 2) + known_number d.x x) * (d.y + 2)) y z (level_number n.context.from) (level_number n.context.to) h

  each_y : (lo k : ℕ) → OneWithin d v (map (λ y. knowing n x y) (map Some (range_with_len lo k))) (spot d (knowing n x (Some lo))) (spot d (knowing n x (Some (lo + k))))
  each_y lo zero = none_leads d v _ _
  each_y lo (suc k) = both_lead d v (knowing n x (Some lo) ∷ []) (map (λ y. knowing n x y) (map Some (range_with_len (lo + 1) k))) _ (spot d (knowing n x (Some (lo + 1)))) _
      (in_order lo (lo + 1) (omega arith)) (in_order (lo + 1) (lo + suc k) (omega arith))
      (wider d v (knowing n x (Some lo) ∷ []) _ _ _ _ (omega arith) (in_order_by lo (lo + 1) (omega arith)) (one_leads d v (knowing n x (Some lo))))
      (wider d v _ _ _ _ _ (omega arith) (in_order (lo + 1 + k) (lo + suc k) (omega arith)) (each_y (lo + 1) k))

  one_y : (r : Option Range) (o : Option ℕ) → passages d v (map (λ y. knowing n x y) (kept r o)) ≤ 1
  one_y r o = kept_by (λ ys. passages d v (map (λ y. knowing n x y) ys) ≤ 1) (none_leads d v 0 0).most (λ y. (one_leads d v (knowing n x y)).most) (λ lo k. (each_y lo k).most) r o

  first_of_row : (r y f t : ℕ) → r * 4 ≤ (r + y) * 4 + 2 * f + t
  first_of_row r y f t = omega arith

  end_of_row : (r h y f t : ℕ) → y < h → f < 2 → t < 2 → (r + y) * 4 + 2 * f + t < (r + h) * 4
  end_of_row r h y f t a b c = omega arith

  one_more_row : (a h : ℕ) → a * h + h ≡ (a + 1) * h
  one_more_row a h = omega arith

  -- in range, the numbers with this X are a stretch of their own
  row_stretch : (ys : List (Option ℕ)) → AllPlaced d (map (λ y. knowing n x y) ys) → 1 ≤ passages d v (map (λ y. knowing n x y) ys) →
      ((n.context.address * (d.x + 2) + known_number d.x x) * (d.y + 2) * 4 ≤ v) × (v < (n.context.address * (d.x + 2) + known_number d.x x + 1) * (d.y + 2) * 4)
  unfolding passages
  row_stretch [] p h = absurd (omega (arith, h))
  row_stretch (y ∷ ys) p h = on n.passes (spot d (knowing n x y) == v) refl h (row_stretch ys p.1) where
    small : is_small d.y y ≡ true
    small = (and_three (nat_lt n.context.address 32) (is_small d.x x) (is_small d.y y) p.0).1.1

    low : (n.context.address * (d.x + 2) + known_number d.x x) * (d.y + 2) * 4 ≤ spot d (knowing n x y)
    low = first_of_row ((n.context.address * (d.x + 2) + known_number d.x x) * (d.y + 2)) (known_number d.y y) (level_number n.context.from) (level_number n.context.to)

    high : spot d (knowing n x y) < (n.context.address * (d.x + 2) + known_number d.x x + 1) * (d.y + 2) * 4
    high = subst (λ (e : ℕ). spot d (knowing n x y) < e * 4) (one_more_row (n.context.address * (d.x + 2) + known_number d.x x) (d.y + 2))
        (end_of_row ((n.context.address * (d.x + 2) + known_number d.x x) * (d.y + 2)) (d.y + 2) (known_number d.y y) (level_number n.context.from) (level_number n.context.to) (known_below d.y y small) (level_below n.context.from) (level_below n.context.to))

    on : (p z : Bool) → (spot d (knowing n x y) == v) ≡ z → 1 ≤ one_if (p && z) + passages d v (map (λ y. knowing n x y) ys) →
        (1 ≤ passages d v (map (λ y. knowing n x y) ys) → ((n.context.address * (d.x + 2) + known_number d.x x) * (d.y + 2) * 4 ≤ v) × (v < (n.context.address * (d.x + 2) + known_number d.x x + 1) * (d.y + 2) * 4)) →
        ((n.context.address * (d.x + 2) + known_number d.x x) * (d.y + 2) * 4 ≤ v) × (v < (n.context.address * (d.x + 2) + known_number d.x x + 1) * (d.y + 2) * 4)
    on true true e h later = let same : spot d (knowing n x y) ≡ v = grind (arith, nat_tests) in (omega (arith, low, same), omega (arith, high, same))
    on true false e h later = later (omega (arith, h))
    on false z e h later = later (omega (arith, h))

  row_leads : (r : Option Range) (o : Option ℕ) → AllPlaced d (map (λ y. knowing n x y) (kept r o)) → OneWithin d v (map (λ y. knowing n x y) (kept r o)) ((n.context.address * (d.x + 2) + known_number d.x x) * (d.y + 2) * 4) ((n.context.address * (d.x + 2) + known_number d.x x + 1) * (d.y + 2) * 4)
  row_leads r o p = record { most = one_y r o; within = row_stretch (kept r o) p }

placed_left : (d : Follow) (ns ms : List Next) → AllPlaced d (ns ++ ms) → AllPlaced d ns
placed_left d [] ms p = tt
placed_left d (n ∷ ns) ms p = (p.0, placed_left d ns ms p.1)

placed_right : (d : Follow) (ns ms : List Next) → AllPlaced d (ns ++ ms) → AllPlaced d ms
placed_right d [] ms p = p
placed_right d (n ∷ ns) ms p = placed_right d ns ms p.1

-- with X as it is in each of some
module _ (d : Follow) (v : ℕ) (n : Next) (r : Option Range) (o : Option ℕ) where
  starts : (a x y h : ℕ) → x ≤ y → (a + x) * h * 4 ≤ (a + y) * h * 4
  starts a x y h l = let m : a + x ≤ a + y = omega arith in let e = mul-le-mul_right h m in omega (arith, e)

  each_x : (lo k : ℕ) → AllPlaced d (flat_map (λ x. map (λ y. knowing n x y) (kept r o)) (map Some (range_with_len lo k))) →
      OneWithin d v (flat_map (λ x. map (λ y. knowing n x y) (kept r o)) (map Some (range_with_len lo k))) ((n.context.address * (d.x + 2) + lo) * (d.y + 2) * 4) ((n.context.address * (d.x + 2) + (lo + k)) * (d.y + 2) * 4)
  each_x lo zero p = none_leads d v _ _
  each_x lo (suc k) p = both_lead d v (map (λ y. knowing n (Some lo) y) (kept r o)) (flat_map (λ x. map (λ y. knowing n x y) (kept r o)) (map Some (range_with_len (lo + 1) k))) _ ((n.context.address * (d.x + 2) + (lo + 1)) * (d.y + 2) * 4) _
      (starts (n.context.address * (d.x + 2)) lo (lo + 1) (d.y + 2) (omega arith)) (starts (n.context.address * (d.x + 2)) (lo + 1) (lo + suc k) (d.y + 2) (omega arith))
      (subst (λ (e : ℕ). OneWithin d v (map (λ y. knowing n (Some lo) y) (kept r o)) ((n.context.address * (d.x + 2) + lo) * (d.y + 2) * 4) (e * (d.y + 2) * 4)) (next_row (n.context.address * (d.x + 2)) lo) (row_leads d v n (Some lo) r o (placed_left d _ _ p)))
      (wider d v _ _ _ _ _ (omega arith) (starts (n.context.address * (d.x + 2)) (lo + 1 + k) (lo + suc k) (d.y + 2) (omega arith)) (each_x (lo + 1) k (placed_right d (map (λ y. knowing n (Some lo) y) (kept r o)) _ p))) where
        next_row : (a x : ℕ) → a + x + 1 ≡ a + (x + 1)
        next_row a x = omega arith

  one_x : (s : Option Range) (x : Option ℕ) → AllPlaced d (flat_map (λ x. map (λ y. knowing n x y) (kept r o)) (kept s x)) → passages d v (flat_map (λ x. map (λ y. knowing n x y) (kept r o)) (kept s x)) ≤ 1
  one_x s x = kept_by (λ xs. AllPlaced d (flat_map (λ x. map (λ y. knowing n x y) (kept r o)) xs) → passages d v (flat_map (λ x. map (λ y. knowing n x y) (kept r o)) xs) ≤ 1)
      (λ p. (none_leads d v 0 0).most)
      (λ y p. alone y)
      (λ lo k p. (each_x lo k p).most) s x where
        alone : (y : Option ℕ) → passages d v (map (λ z. knowing n y z) (kept r o) ++ []) ≤ 1
        alone y = omega (arith, passages-append d v (map (λ z. knowing n y z) (kept r o)) [], no_passages d v, one_y d v n y r o)

-- of one end
pub one_passage : (d : Follow) (v : ℕ) (w : Narrowing) (n : Next) → AllPlaced d (narrowed w n) → passages d v (narrowed w n) ≤ 1
unfolding narrowed
one_passage d v w n p = one_x d v n w.y n.context.y w.x n.context.x p

-- of all ends
passages_of_ends : (d : Follow) (v : ℕ) (w : Narrowing) (ends : List Next) → AllPlaced d (all_narrowed w ends) → passages d v (all_narrowed w ends) ≤ length ends
passages_of_ends d v w [] p = omega (arith, no_passages d v)
passages_of_ends d v w (n ∷ ends) p =
    let sum = passages-append d v (narrowed w n) (all_narrowed w ends) in
    let one = one_passage d v w n (placed_left d (narrowed w n) (all_narrowed w ends) p) in
    let rest = passages_of_ends d v w ends (placed_right d (narrowed w n) (all_narrowed w ends) p) in
    omega (arith, sum, one, rest)

-- of a row, as the code has it
pub few_passages : (u : Setup) (sp : Span) (i : ℕ) (a : Ages) (s : Stepped) (ends : List Next) → i < contexts_of sp → s ≡ context_steps u sp (context_at (followed sp) i) a → ends ≡ s.ends → length ends ≤ 8 → (v : ℕ) → passages (followed sp) v (nexts_at u sp i a) ≤ 8
unfolding nexts_at nexts_of
few_passages u sp i a s ends l e q few v =
    let t = context_steps u sp (context_at (followed sp) i) a in
    let all = passages_of_ends (followed sp) v t.narrowing t.ends (placed_nexts u sp i a l) in
    let same : length t.ends ≡ length ends = ap length (ap (λ (x : Stepped). x.ends) (sym e) ∙ sym q) in
    omega (arith, all, same, few)
