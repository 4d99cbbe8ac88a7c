-- How much an entry holds, as a number that grows with each join of ages that don't lie in it.
use Rattle.std.proofs.Common.{◌≡◌, ℕ, zero, suc, ◌+◌, ◌-◌, ◌<◌, ◌≤◌, ◌⊎◌, inl, inr, arith}
use Rattle.std.proofs.lemmas.Bool.{cases_lt}
use Rattle.span_step.specs.declared.ages.Ages.{Ages}
use Rattle.span_step.specs.declared.ages.Ages.TheVariants.{Empty, Between}
use Rattle.span_step.specs.Contexts.{IsInside}
use Rattle.span_bounds.specs.declared.entry.Entry.{Entry}
use Rattle.span_bounds.specs.declared.entry.Entry.TheVariants.{Absent, Present}
use Rattle.span_bounds.specs.Tables.{LiesAt}
use Rattle.span_bounds.specs.Sums.{total, join, join_into}
use Rattle.span_refuted.proofs.Joining.{AreSmall}

inside_refl : (a : Ages) → IsInside a a
inside_refl Empty = tt
inside_refl (Between lo hi) = (omega arith, omega arith)

pub inside_trans : (a b c : Ages) → IsInside a b → IsInside b c → IsInside a c
inside_trans Empty b c h k = tt
inside_trans (Between lo hi) Empty c h k = absurd h
inside_trans (Between lo hi) (Between low high) Empty h k = absurd k
inside_trans (Between lo hi) (Between low high) (Between least most) h k = (omega arith, omega arith)

inside_left : (a b : Ages) → IsInside a (join a b)
inside_left Empty b = tt
inside_left (Between lo hi) Empty = inside_refl (Between lo hi)
inside_left (Between lo hi) (Between low high) = (omega arith, omega arith)

inside_right : (a b : Ages) → IsInside b (join a b)
inside_right Empty b = inside_refl b
inside_right (Between lo hi) Empty = tt
inside_right (Between lo hi) (Between low high) = (omega arith, omega arith)

join_inside : (a b c : Ages) → IsInside a c → IsInside b c → IsInside (join a b) c
join_inside Empty b c h k = k
join_inside (Between lo hi) Empty c h k = h
join_inside (Between lo hi) (Between low high) Empty h k = absurd h
join_inside (Between lo hi) (Between low high) (Between least most) h k = (omega arith, omega arith)

pub lies_trans : (a b : Ages) (e : Entry) → IsInside a b → LiesAt b e → LiesAt a e
lies_trans a b Absent h k = k
lies_trans a b (Present c) h k = inside_trans a b c h k

pub join_lies : (a b : Ages) (e : Entry) → LiesAt a e → LiesAt b e → LiesAt (join a b) e
join_lies a b Absent h k = h
join_lies a b (Present c) h k = join_inside a b c h k

-- ages lie where they join, and what lay there still does
pub lies_join : (a : Ages) (e : Entry) → LiesAt a (Present (join_into a e))
lies_join a Absent = inside_refl a
lies_join a (Present b) = inside_left a b

pub lies_joined : (a c : Ages) (e : Entry) → LiesAt c e → LiesAt c (Present (join_into a e))
lies_joined a c Absent h = absurd h
lies_joined a c (Present b) h = inside_trans c b (join a b) h (inside_right a b)

-- a join of ages that lay there changes nothing
pub lies_before : (a c : Ages) (e : Entry) → LiesAt a e → LiesAt c (Present (join_into a e)) → LiesAt c e
lies_before a c Absent h k = h
lies_before a c (Present b) h k = inside_trans c (join a b) b k (join_inside a b b h (inside_refl b))

-- how much an entry holds, where no age is above n
abbrev pub rank : ℕ → Entry → ℕ
rank n Absent = 0
rank n (Present Empty) = 1
rank n (Present (Between lo hi)) = 2 + (n - lo) + hi

-- no age of a row is above this
abbrev pub IsSmallEntry : ℕ → Entry → Type 0
IsSmallEntry n Absent = Unit {0}
IsSmallEntry n (Present a) = AreSmall n a

pub small_join : (n : ℕ) (a : Ages) (e : Entry) → AreSmall n a → IsSmallEntry n e → IsSmallEntry n (Present (join_into a e))
small_join n a Absent h k = h
small_join n Empty (Present b) h k = k
small_join n (Between lo hi) (Present Empty) h k = h
small_join n (Between lo hi) (Present (Between low high)) h k = (omega arith, omega arith)

pub rank_most : (n : ℕ) (e : Entry) → IsSmallEntry n e → rank n e ≤ 2 + n + n
rank_most n Absent h = omega arith
rank_most n (Present Empty) h = omega arith
rank_most n (Present (Between lo hi)) h = omega arith

pub rank_more : (n : ℕ) (a : Ages) (e : Entry) → rank n e ≤ rank n (Present (join_into a e))
rank_more n a Absent = omega arith
rank_more n Empty (Present b) = omega arith
rank_more n (Between lo hi) (Present Empty) = omega arith
rank_more n (Between lo hi) (Present (Between low high)) = omega arith

-- ages lie in an entry, or it holds more once they have joined it
pub lies_or_grows : (n : ℕ) (a : Ages) (e : Entry) → AreSmall n a → IsSmallEntry n e → LiesAt a e ⊎ (rank n e < rank n (Present (join_into a e)))
lies_or_grows n Empty Absent h k = inr (omega arith)
lies_or_grows n Empty (Present b) h k = inl tt
lies_or_grows n (Between lo hi) Absent h k = inr (omega arith)
lies_or_grows n (Between lo hi) (Present Empty) h k = inr (omega arith)
lies_or_grows n (Between lo hi) (Present (Between low high)) h k = elim (cases_lt lo low) [
  | inl less ↦ inr (omega arith)
  | inr no_less ↦ elim (cases_lt high hi) [ inl more ↦ inr (omega arith) | inr no_more ↦ inl (no_less, no_more) ]
]

pub total-more : (n : ℕ) (f g : ℕ → ℕ) → ((w : ℕ) → w < n → f w ≤ g w) → total n f ≤ total n g
unfolding total
total-more zero f g h = omega arith
total-more (suc n) f g h = let r = total-more n f g (λ w l. h w (omega arith)) in let s : f n ≤ g n = h n (omega arith) in omega arith

pub total-grows : (n : ℕ) (f g : ℕ → ℕ) (i : ℕ) → i < n → ((w : ℕ) → w < n → f w ≤ g w) → f i < g i → total n f < total n g
unfolding total
total-grows zero f g i l h k = absurd (omega arith)
total-grows (suc n) f g i l h k = elim (cases_lt i n) [
  | inl below ↦ (let r = total-grows n f g i below (λ w m. h w (omega arith)) k in let s : f n ≤ g n = h n (omega arith) in omega arith)
  | inr last ↦ (let e : i ≡ n = omega arith in let r = total-more n f g (λ w m. h w (omega arith)) in let s : f n < g n = rw e at k in omega arith)
]
