-- How often the entries of a table may still be widened, and how many rows wait.
use Rattle.std.proofs.Common.{◌≡◌, ℕ, zero, suc, ◌+◌, ◌-◌, ◌<◌, ◌≤◌, ◌⊎◌, min, max, nat_le, nat_lt, Bool, true, false, ◌&&◌, List, [], ◌∷◌, length, take, sum_by, refl, inl, inr, arith}
use Rattle.std.proofs.Math.ListN.{set}
use Rattle.std.proofs.lemmas.Bool.{cases_lt, both_ways, leb-true, and_parts}
use Rattle.std.proofs.lemmas.Bool.Decides.{nat_tests}
use Rattle.std.proofs.lemmas.List.Sums.{sum_by-set, sum_by-cons}
use Rattle.span_step.specs.declared.ages.Ages.{Ages}
use Rattle.span_step.specs.declared.ages.Ages.TheVariants.{Empty, Between}
use Rattle.span_bounds.specs.declared.entry.Entry.{Entry}
use Rattle.span_bounds.specs.declared.entry.Entry.TheVariants.{Absent, Present}
use Rattle.span_bounds.specs.Tables.{LiesAt}
use Rattle.span_bounds.specs.Edges.{at}
use Rattle.span_bounds.specs.Sums.{one_if, open_at, join_into}
use Rattle.span_bounds.proofs.Joins.{joined_at}
use Rattle.span_step.specs.Laws.{AreUpTo}
use Rattle.span_bounds.specs.Settle.{lies, is_single, one_wide, one_waiting, slack}

-- the test says that they lie
pub lies_from : (a : Ages) (e : Entry) → lies a e ≡ true → LiesAt a e
lies_from a Absent h = absurd (both_ways _ refl h)
lies_from Empty (Present b) h = tt
lies_from (Between lo hi) (Present Empty) h = absurd (both_ways _ refl h)
lies_from (Between lo hi) (Present (Between low high)) h = let p = and_parts (nat_le low lo) (nat_le hi high) h in (leb-true low lo p.0, leb-true hi high p.1)

wider_by : (c lo hi low high : ℕ) → lo ≤ c → hi ≤ c → (nat_le low lo && nat_le hi high) ≡ false → min lo low + (c - max hi high) + 1 ≤ low + (c - high)
wider_by c lo hi low high l h e = on (cases_lt lo low) (cases_lt high hi) where
  on : (lo < low) ⊎ (low ≤ lo) → (high < hi) ⊎ (hi ≤ high) → min lo low + (c - max hi high) + 1 ≤ low + (c - high)
  on (inl p) (inl q) = omega arith
  on (inl p) (inr q) = omega arith
  on (inr p) (inl q) = omega arith
  on (inr p) (inr q) = absurd (both_ways _ e both) where
    both : (nat_le low lo && nat_le hi high) ≡ true
    both = let r : nat_le low lo ≡ true = grind (arith, nat_tests) in let s : nat_le hi high ≡ true = grind (arith, nat_tests) in rw (r, s) refl

-- an entry at which ages don't lie has less slack with them
less_slack : (c : ℕ) (a : Ages) (e : Entry) → AreUpTo c a → lies a e ≡ false → slack c (Present (join_into a e)) + 1 ≤ slack c e
less_slack c Empty Absent u h = omega arith
less_slack c (Between lo hi) Absent u h = omega (arith, u.0)
less_slack c Empty (Present b) u h = absurd (both_ways _ h refl)
less_slack c (Between lo hi) (Present Empty) u h = omega (arith, u.0)
less_slack c (Between lo hi) (Present (Between low high)) u h = wider_by c lo hi low high u.0 u.1 h

-- joined ages take slack from a table
pub table_slack : (c : ℕ) (x : List Entry) (p : ℕ) (a : Ages) → p < length x → AreUpTo c a → lies a (at x p) ≡ false → sum_by (slack c) (joined_at x p a) + 1 ≤ sum_by (slack c) x
table_slack c x p a l u h = less _ _ _ _ (sum_by-set (slack c) x p (Present (join_into a (at x p))) Absent l) (less_slack c a (at x p) u h) where
  less : (s t o n : ℕ) → s + o ≡ t + n → n + 1 ≤ o → s + 1 ≤ t
  less s t o n e k = omega arith

-- joined ages leave no fewer entries with several ages
wide_kept : (a : Ages) (e : Entry) → one_wide e ≤ one_wide (Present (join_into a e))
wide_kept a Absent = omega arith
wide_kept a (Present Empty) = omega arith
wide_kept Empty (Present (Between low high)) = omega arith
wide_kept (Between lo hi) (Present (Between low high)) = on (nat_lt low high) refl where
  on : (z : Bool) → nat_lt low high ≡ z → one_if z ≤ one_if (nat_lt (min lo low) (max hi high))
  on true e = let w : nat_lt (min lo low) (max hi high) ≡ true = grind (arith, nat_tests) in rw w (omega arith)
  on false e = omega arith

-- and one more where there was one age alone
wide_more : (a : Ages) (e : Entry) → is_single e ≡ true → lies a e ≡ false → one_wide e + 1 ≤ one_wide (Present (join_into a e))
wide_more a Absent s h = absurd (both_ways _ refl s)
wide_more a (Present Empty) s h = absurd (both_ways _ refl s)
wide_more Empty (Present (Between low high)) s h = absurd (both_ways _ h refl)
wide_more (Between lo hi) (Present (Between low high)) s h =
    let same : low ≡ high = grind (arith, nat_tests) in
    let none : nat_lt low high ≡ false = grind (arith, nat_tests) in
    let some : nat_lt (min lo low) (max hi high) ≡ true = more same (cases_lt lo low) (cases_lt high hi) in
    rw (none, some) (omega arith) where
      more : low ≡ high → (lo < low) ⊎ (low ≤ lo) → (high < hi) ⊎ (hi ≤ high) → nat_lt (min lo low) (max hi high) ≡ true
      more e (inl p) q = let l : min lo low < max hi high = omega (arith, p, e) in grind (arith, nat_tests)
      more e (inr p) (inl q) = let l : min lo low < max hi high = omega (arith, q, e) in grind (arith, nat_tests)
      more e (inr p) (inr q) = absurd (both_ways _ h both) where
        both : (nat_le low lo && nat_le hi high) ≡ true
        both = let r : nat_le low lo ≡ true = grind (arith, nat_tests) in let t : nat_le hi high ≡ true = grind (arith, nat_tests) in rw (r, t) refl

pub table_wide : (x : List Entry) (p : ℕ) (a : Ages) → p < length x → sum_by one_wide x ≤ sum_by one_wide (joined_at x p a)
table_wide x p a l = more _ _ _ _ (sum_by-set one_wide x p (Present (join_into a (at x p))) Absent l) (wide_kept a (at x p)) where
  more : (s t o n : ℕ) → s + o ≡ t + n → o ≤ n → t ≤ s
  more s t o n e k = omega arith

pub table_wider : (x : List Entry) (p : ℕ) (a : Ages) → p < length x → is_single (at x p) ≡ true → lies a (at x p) ≡ false → sum_by one_wide x + 1 ≤ sum_by one_wide (joined_at x p a)
table_wider x p a l s h = more _ _ _ _ (sum_by-set one_wide x p (Present (join_into a (at x p))) Absent l) (wide_more a (at x p) s h) where
  more : (s t o n : ℕ) → s + o ≡ t + n → o + 1 ≤ n → t + 1 ≤ s
  more s t o n e k = omega arith

wide_at_most : (e : Entry) → one_wide e ≤ 1
wide_at_most Absent = omega arith
wide_at_most (Present Empty) = omega arith
wide_at_most (Present (Between lo hi)) = on (nat_lt lo hi) where
  on : (z : Bool) → one_if z ≤ 1
  on true = omega arith
  on false = omega arith

pub all_wide : (x : List Entry) → sum_by one_wide x ≤ length x
all_wide [] = omega arith
all_wide (e ∷ x) = omega (arith, all_wide x, wide_at_most e, sum_by-cons one_wide e x)

at_most_one : (e : Entry) → one_waiting e ≤ 1
at_most_one e = on (open_at e) where
  on : (z : Bool) → one_if z ≤ 1
  on true = omega arith
  on false = omega arith

-- a number that waits adds to those that do
pub more_wait : (l : List Entry) (p : ℕ) → p < length l → open_at (at l p) ≡ false → sum_by one_waiting (set l p (Present (Between 0 0))) ≡ sum_by one_waiting l + 1
more_wait l p i s = more _ _ _ (sum_by-set one_waiting l p (Present (Between 0 0)) Absent i) (rw s refl) where
  more : (a b o : ℕ) → a + o ≡ b + 1 → o ≡ 0 → a ≡ b + 1
  more a b o e z = omega arith

-- one that waited already waits
pub still_wait : (l : List Entry) (p : ℕ) → p < length l → sum_by one_waiting l ≤ sum_by one_waiting (set l p (Present (Between 0 0)))
still_wait l p i = more _ _ _ (sum_by-set one_waiting l p (Present (Between 0 0)) Absent i) (at_most_one (at l p)) where
  more : (a b o : ℕ) → a + o ≡ b + 1 → o ≤ 1 → b ≤ a
  more a b o e z = omega arith

pub fewer_wait : (l : List Entry) (p : ℕ) → p < length l → open_at (at l p) ≡ true → sum_by one_waiting l ≡ sum_by one_waiting (set l p Absent) + 1
fewer_wait l p i s = less _ _ _ (sum_by-set one_waiting l p Absent Absent i) (rw s refl) where
  less : (a b o : ℕ) → a + o ≡ b + 0 → o ≡ 1 → b ≡ a + 1
  less a b o e z = omega arith

pub all_wait : (l : List Entry) → sum_by one_waiting l ≤ length l
all_wait [] = omega arith
all_wait (e ∷ l) = omega (arith, all_wait l, at_most_one e, sum_by-cons one_waiting e l)

pub length_front : (n : ℕ) (l : List Entry) → length (take n l) ≤ n
length_front zero l = omega arith
length_front (suc n) [] = omega arith
length_front (suc n) (e ∷ l) = let h = length_front n l in omega (arith, h)
