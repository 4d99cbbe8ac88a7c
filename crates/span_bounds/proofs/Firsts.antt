-- The first bad row of a table by the causes at the numbers.
use Rattle.std.proofs.Common.{◌≡◌, ◌≢◌, ℕ, ◌+◌, ◌<◌, ◌≤◌, ◌⊎◌, max, nat_lt, true, Some, None, List, [], ◌∷◌, refl, sym, ◌∙◌, inl, inr, arith}
use Rattle.std.proofs.lemmas.Bool.Decides.{nat_tests}
use Rattle.std.proofs.lemmas.Bool.{cases_lt, eq-eqb, ne_eqb}
use Rattle.std.proofs.lemmas.Option.{none-some}
use Rattle.pin_matrix.specs.Followed.{followed}
use Rattle.pin_matrix.specs.declared.setup.Setup.{Setup}
use Rattle.pin_matrix.specs.declared.span.Span.{Span}
use Rattle.span_step.specs.declared.cause.Cause.{Cause}
use Rattle.span_step.specs.Laws.{first_cause}
use Rattle.span_step.specs.Steps.{context_steps}
use Rattle.span_step.proofs.Overdue.{IsConfigured}
use Rattle.span_bounds.specs.declared.entry.Entry.{Entry}
use Rattle.span_bounds.specs.declared.entry.Entry.TheVariants.{Absent}
use Rattle.span_bounds.specs.declared.row.Row.{Row}
use Rattle.span_bounds.specs.Numbers.{number_of, context_at}
use Rattle.span_bounds.specs.Tables.{entry_at, IsTableFrom, IsLeast, first_bad}
use Rattle.span_bounds.specs.Edges.{at, EndsAt}
use Rattle.span_bounds.specs.Take.{IsTaken}
use Rattle.span_bounds.specs.Answers.{cause_by, cause_at, IsBadAt, AreGoodBelow, IsFirstBad}
use Rattle.span_bounds.proofs.Placing.{context_at-number_of}
use Rattle.span_bounds.proofs.Ends.{LeftAreBounded, IsBadEverywhere-ends}
use Rattle.span_bounds.proofs.Filled.{same_first}
use Rattle.span_bounds.proofs.Least.{least_rows}
use Rattle.pin_matrix.specs.declared.assume.Follow.{Follow}

from_below : (n m : ℕ) → nat_lt n (m + 1) ≡ true → n ≤ m
from_below n m e = grind (arith, nat_tests)

-- no row comes before the first
pub absent_before : (far : Follow) (m i : ℕ) (rows : List Row) → IsTableFrom far m rows → i < m → entry_at far rows i ≡ Absent
absent_before far m i [] t l = refl
absent_before far m i (r ∷ rows) t l =
    let b : m ≤ number_of far r.context = from_below m (number_of far r.context) t.1.0 in
    rw (ne_eqb (number_of far r.context) i (λ e. omega arith)) (absent_before far (number_of far r.context + 1) i rows t.1.1 (omega arith))

-- the first bad row of a table is at the first number with a cause
first_at : (u : Setup) (sp : Span) (n : ℕ) (k : Cause) (m : ℕ) (rows : List Row) → IsTableFrom (followed sp) m rows → ((i : ℕ) → m ≤ i → i < n → cause_by u sp i (entry_at (followed sp) rows i) ≡ None) → cause_by u sp n (entry_at (followed sp) rows n) ≡ Some k → first_bad u sp rows ≡ Some (context_at (followed sp) n, k)
first_at u sp n k m [] t good bad = absurd (none-some k bad)
first_at u sp n k m (r ∷ rows) t good bad = on (cases_lt (number_of (followed sp) r.context) n) (cases_lt n (number_of (followed sp) r.context)) (λ g b. first_at u sp n k (number_of (followed sp) r.context + 1) rows t.1.1 g b) where
  below : m ≤ number_of (followed sp) r.context
  below = from_below m (number_of (followed sp) r.context) t.1.0

  own : cause_by u sp (number_of (followed sp) r.context) (entry_at (followed sp) (r ∷ rows) (number_of (followed sp) r.context)) ≡ first_cause (context_steps u sp r.context r.ages).causes
  own = rw (eq-eqb (number_of (followed sp) r.context) (number_of (followed sp) r.context) refl, context_at-number_of (followed sp) r.context t.0) refl

  skip : (i : ℕ) → number_of (followed sp) r.context ≢ i → entry_at (followed sp) (r ∷ rows) i ≡ entry_at (followed sp) rows i
  skip i d = rw (ne_eqb (number_of (followed sp) r.context) i d) refl

  on : (number_of (followed sp) r.context < n) ⊎ (n ≤ number_of (followed sp) r.context) → (n < number_of (followed sp) r.context) ⊎ (number_of (followed sp) r.context ≤ n) → (((i : ℕ) → number_of (followed sp) r.context + 1 ≤ i → i < n → cause_by u sp i (entry_at (followed sp) rows i) ≡ None) → cause_by u sp n (entry_at (followed sp) rows n) ≡ Some k → first_bad u sp rows ≡ Some (context_at (followed sp) n, k)) → first_bad u sp (r ∷ rows) ≡ Some (context_at (followed sp) n, k)
  on (inl before) o later =
      let none : first_cause (context_steps u sp r.context r.ages).causes ≡ None = sym own ∙ good (number_of (followed sp) r.context) below before in
      rw none (later (λ i a b. rw (skip i (λ e. omega arith)) at (good i (omega (arith, below)) b)) (rw (skip n (λ e. omega arith)) at bad))
  on (inr from) (inl above) later =
      let gone : entry_at (followed sp) rows n ≡ Absent = absent_before (followed sp) (number_of (followed sp) r.context + 1) n rows t.1.1 (omega arith) in
      let bad' : cause_by u sp n (entry_at (followed sp) rows n) ≡ Some k = rw (skip n (λ e. omega arith)) at bad in
      absurd (none-some k (rw gone at bad'))
  on (inr from) (inr to) later =
      let same : n ≡ number_of (followed sp) r.context = omega arith in
      let some : first_cause (context_steps u sp r.context r.ages).causes ≡ Some k = sym own ∙ (rw same at bad) in
      rw (some, same, context_at-number_of (followed sp) r.context t.0) refl

-- one number more without a cause
pub AreGoodBelow-more : (u : Setup) (sp : Span) (l x : List Entry) (n : ℕ) → AreGoodBelow u sp l x n → cause_at u sp l x n ≡ None → AreGoodBelow u sp l x (n + 1)
AreGoodBelow-more u sp l x n h e = record {
  good = λ i m. elim (cases_lt i n) [ inl b ↦ h.good i b | inr a ↦ (let same : i ≡ n = omega arith in rw same e) ];
}

-- the first bad row of the least closed table
pub IsFirstBad-ends : (u : Setup) (sp : Span) (l x : List Entry) (f : ℕ × Cause) → IsTaken u sp l x → LeftAreBounded sp l → IsConfigured u sp → IsBadAt u sp l x f → IsFirstBad u sp (context_at (followed sp) f.0) f.1
IsFirstBad-ends u sp l x f t bounded ready b = on (least_rows u sp) where
  on : (rows : List Row) × IsLeast u sp rows → IsFirstBad u sp (context_at (followed sp) f.0) f.1
  on w = record {
    rows = w.0;
    least = w.1;
    first = first_at u sp f.0 f.1 0 w.0 w.1.table
        (λ i o m. same_first u sp l x t ready w.0 w.1 bounded i (omega (arith, b.below)) ∙ b.first.good i m)
        (same_first u sp l x t ready w.0 w.1 bounded f.0 b.below ∙ b.cause);
    everywhere = IsBadEverywhere-ends u sp l x f.0 f.1 t bounded ready b.below b.cause;
  }

-- no row that comes after the last is bad
pub AreGoodBelow-all : (u : Setup) (sp : Span) (l x : List Entry) (end : ℕ) → EndsAt l end → EndsAt x end → AreGoodBelow u sp l x end → (n : ℕ) → AreGoodBelow u sp l x n
AreGoodBelow-all u sp l x end none_left none good n = record { good = λ i b. elim (cases_lt i end) [ inl h ↦ good.good i h | inr h ↦ rw (none_left i h, none i h) refl ] }

-- a number that is below both ends is that of a context
pub below_ends : (n a b size : ℕ) → n < max a b → a ≤ size → b ≤ size → n < size
below_ends n a b size h k l = omega arith
