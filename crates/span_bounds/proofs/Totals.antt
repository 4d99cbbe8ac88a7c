-- Sums over the rows, and how many passages there are.
use Rattle.std.proofs.Common.{◌≡◌, ◌≢◌, ℕ, zero, suc, ◌+◌, ◌<◌, ◌≤◌, ◌==◌, Bool, true, false, ◌&&◌, if◌then◌else◌, List, [], ◌∷◌, map, refl, sym, ap, ◌∙◌, inl, inr, arith}
use Rattle.std.proofs.lemmas.Bool.{cases_lt, eq-eqb}
use Rattle.std.proofs.lemmas.Bool.Decides.{nat_tests}
use Rattle.pin_matrix.specs.Followed.{followed}
use Rattle.pin_matrix.specs.declared.setup.Setup.{Setup}
use Rattle.pin_matrix.specs.declared.span.Span.{Span}
use Rattle.span_step.specs.declared.ages.Ages.{Ages}
use Rattle.span_step.specs.declared.ages.Ages.TheVariants.{Empty, Between}
use Rattle.span_step.specs.declared.stepped.Next.{Next}
use Rattle.span_step.specs.Contexts.{Context, is_open}
use Rattle.span_step.specs.Laws.{aim_of, AllReach, ReachesAge}
use Rattle.span_step.proofs.Alike.{contexts_alike}
use Rattle.span_step.proofs.Aging.{AllReach-context_steps}
use Rattle.span_bounds.specs.declared.entry.Entry.{Entry}
use Rattle.span_bounds.specs.declared.entry.Entry.TheVariants.{Absent, Present}
use Rattle.span_bounds.specs.Numbers.{number_of}
use Rattle.span_bounds.specs.Edges.{at, nexts_at, spot, EachNext}
use Rattle.span_bounds.specs.Reach.{IsHeldBy, AreHeld}
use Rattle.span_bounds.specs.Sums.{total, passages, waits, waits_by, one_if, open_at}
use Rattle.span_bounds.proofs.Coming.{EachNext-map}
use Rattle.pin_matrix.specs.declared.assume.Follow.{Follow}

pub total-zero : (n : ℕ) (f : ℕ → ℕ) → ((w : ℕ) → w < n → f w ≡ 0) → total n f ≡ 0
unfolding total
total-zero zero f h = refl
total-zero (suc n) f h = let r = total-zero n f (λ w l. h w (omega arith)) in let s : f n ≡ 0 = h n (omega arith) in omega arith

pub total-same : (n : ℕ) (f g : ℕ → ℕ) → ((w : ℕ) → w < n → f w ≡ g w) → total n f ≡ total n g
unfolding total
total-same zero f g h = refl
total-same (suc n) f g h = let r = total-same n f g (λ w l. h w (omega arith)) in let s : f n ≡ g n = h n (omega arith) in omega arith

-- two sums that differ at one number, where the second has 0
pub total-change : (n : ℕ) (f g : ℕ → ℕ) (i : ℕ) → i < n → ((w : ℕ) → w < n → w ≢ i → f w ≡ g w) → g i ≡ 0 → total n f ≡ total n g + f i
unfolding total
total-change zero f g i l h z = absurd (omega arith)
total-change (suc n) f g i l h z = elim (cases_lt i n) [
  | inl below ↦ (let r = total-change n f g i below (λ w m d. h w (omega arith) d) z in let s : f n ≡ g n = h n (omega arith) (λ e. omega arith) in omega arith)
  | inr last ↦ (let e : i ≡ n = omega arith in
      let r : total n f ≡ total n g = total-same n f g (λ w m. h w (omega arith) (λ d. omega arith)) in
      let z' : g n ≡ 0 = rw e at z in rw e (omega arith))
]

-- a sum is no less than what one number adds
pub total-one : (n : ℕ) (f : ℕ → ℕ) (w : ℕ) → w < n → f w ≤ total n f
unfolding total
total-one zero f w l = absurd (omega arith)
total-one (suc n) f w l = elim (cases_lt w n) [
  | inl below ↦ (let r = total-one n f w below in omega arith)
  | inr last ↦ (let e : w ≡ n = omega arith in rw e (omega arith))
]

-- a sum that isn't 0 has a number that isn't
pub total-some : (n : ℕ) (f : ℕ → ℕ) → 1 ≤ total n f → (w : ℕ) × ((w < n) × (1 ≤ f w))
unfolding total
total-some zero f h = absurd (omega arith)
total-some (suc n) f h = elim (cases_lt 0 (f n)) [
  | inl some ↦ (n, (omega arith, omega arith))
  | inr none ↦ (let r : (w : ℕ) × ((w < n) × (1 ≤ f w)) = total-some n f (omega arith) in (r.0, (omega (arith, r.1.0), r.1.1)))
]

-- passages by contexts alone
aims : Follow → ℕ → List (Context × Bool) → ℕ
aims far v [] = 0
aims far v (k ∷ ks) = one_if (k.1 && number_of far k.0 == v) + aims far v ks

passages-aims : (far : Follow) (v : ℕ) (ns : List Next) → passages far v ns ≡ aims far v (map aim_of ns)
unfolding passages aims
passages-aims far v [] = refl
passages-aims far v (n ∷ ns) = let h = passages-aims far v ns in ap (λ t. one_if (n.passes && number_of far n.context == v) + t) h

-- how many passages there are doesn't depend on the ages
pub passages_alike : (u : Setup) (sp : Span) (v i : ℕ) (a b : Ages) → passages (followed sp) v (nexts_at u sp i a) ≡ passages (followed sp) v (nexts_at u sp i b)
unfolding nexts_at
passages_alike u sp v i a b = passages-aims (followed sp) v _ ∙ (ap (aims (followed sp) v) (contexts_alike u sp _ a b) ∙ sym (passages-aims (followed sp) v _))

pub passages-cons : (far : Follow) (v : ℕ) (n : Next) (ns : List Next) → passages far v (n ∷ ns) ≡ one_if (n.passes && spot far n == v) + passages far v ns
unfolding passages
passages-cons far v n ns = refl

-- each next to which a course passes is counted at its number
pub counted_each : (far : Follow) (ns : List Next) → EachNext (λ n. n.passes ≡ true → 1 ≤ passages far (spot far n) ns) ns
unfolding passages
counted_each far [] = tt
counted_each far (m ∷ ns) = (own, EachNext-map (λ n. n.passes ≡ true → 1 ≤ passages far (spot far n) ns) (λ n. n.passes ≡ true → 1 ≤ passages far (spot far n) (m ∷ ns)) (λ n k q. more n (k q)) ns (counted_each far ns)) where
  own : m.passes ≡ true → 1 ≤ passages far (spot far m) (m ∷ ns)
  own q = let e : one_if (m.passes && spot far m == spot far m) ≡ 1 = rw (q, eq-eqb (spot far m) _ refl) refl in let c = passages-cons far (spot far m) m ns in omega arith

  more : (n : Next) → 1 ≤ passages far (spot far n) ns → 1 ≤ passages far (spot far n) (m ∷ ns)
  more n h = let c = passages-cons far (spot far n) m ns in omega arith

reached_open : (n : ℕ) (a : Ages) → ReachesAge n a → is_open a ≡ true
reached_open n Empty h = absurd h
reached_open n (Between lo hi) h = refl

-- what an open row passes to is open
AllOpen : List Next → Type 0
AllOpen ns = EachNext (λ n. n.passes ≡ true → is_open n.ages ≡ true) ns

all_open : (n : ℕ) (ns : List Next) → AllReach n ns → AllOpen ns
unfolding AllOpen
all_open n [] h = tt
all_open n (m ∷ ms) h = (λ q. reached_open n m.ages (h.0 q), all_open n ms h.1)

open_nexts : (u : Setup) (sp : Span) (i : ℕ) (a : Ages) → is_open a ≡ true → AllOpen (nexts_at u sp i a)
unfolding nexts_at
open_nexts u sp i Empty h = absurd (shut h) where
  shut : false ≡ true → ⊥
  shut e = cc
open_nexts u sp i (Between lo hi) h = all_open _ _ (AllReach-context_steps u sp _ (Between lo hi) 0 (omega arith))

no_passages : (far : Follow) (g : List Entry) (v : ℕ) (ns : List Next) → open_at (at g v) ≡ false → AllOpen ns → AreHeld far (at g) ns → passages far v ns ≡ 0
unfolding passages AllOpen
no_passages far g v [] shut o h = refl
no_passages far g v (n ∷ ns) shut o h = rw (none (n.passes) refl, no_passages far g v ns shut o.1 h.1) refl where
  opened : (e : Entry) → is_open n.ages ≡ true → IsHeldBy n.ages e → open_at e ≡ false → ⊥
  opened Absent p k q = absurd k
  opened (Present b) p k q = let t : is_open b ≡ true = k p in cc

  at_spot : (z : Bool) → (spot far n == v) ≡ z → n.passes ≡ true → one_if z ≡ 0
  at_spot true e q = absurd (opened (at g (spot far n)) (o.0 q) h.0 (let same : spot far n ≡ v = grind (arith, nat_tests) in rw same shut))
  at_spot false e q = refl

  none : (z : Bool) → n.passes ≡ z → one_if (z && spot far n == v) ≡ 0
  none true q = at_spot (spot far n == v) refl q
  none false q = refl

-- no open row passes to a number that isn't open
pub waits_shut : (u : Setup) (sp : Span) (g : List Entry) (v w : ℕ) → ((a : Ages) → at g w ≡ Present a → AreHeld (followed sp) (at g) (nexts_at u sp w a)) → open_at (at g v) ≡ false → waits u sp (at g) v w ≡ 0
waits_shut u sp g v w steps shut = on (at g w) refl where
  by : (a : Ages) (z : Bool) → at g w ≡ Present a → is_open a ≡ z → (if z then passages (followed sp) v (nexts_at u sp w a) else 0) ≡ 0
  by a true q o = no_passages (followed sp) g v _ shut (open_nexts u sp w a o) (steps a q)
  by a false q o = refl

  on : (e : Entry) → at g w ≡ e → waits_by u sp v w e ≡ 0
  on Absent q = refl
  on (Present a) q = by a (is_open a) q refl
