-- A table as a list of rows, from what it says of each number.
use Rattle.std.proofs.Common.{◌≡◌, ℕ, zero, suc, ◌+◌, ◌*◌, ◌/◌, ◌%◌, ◌<◌, ◌≤◌, ◌==◌, Bool, true, false, cond, nat_lt, Some, None, List, [], ◌∷◌, refl, ◌∙◌, inl, inr, arith}
use Rattle.std.proofs.Math.Nat.{div-lt_iff_lt-mul}
use Rattle.std.proofs.lemmas.Bool.{and_parts, cases_lt, eq-eqb, ne_eqb, lt-ltb}
use Rattle.std.proofs.lemmas.Bool.Decides.{nat_tests}
use Rattle.pin_matrix.specs.Followed.{followed}
use Rattle.pin_matrix.specs.declared.assume.Follow.{Follow}
use Rattle.pin_matrix.specs.declared.setup.Setup.{Setup}
use Rattle.pin_matrix.specs.declared.span.Span.{Span}
use Rattle.span_step.specs.declared.ages.Ages.{Ages}
use Rattle.span_step.specs.declared.ages.Ages.TheVariants.{Empty}
use Rattle.span_step.specs.declared.stepped.Next.{Next}
use Rattle.span_step.specs.Contexts.{Context, is_placed, is_small}
use Rattle.span_step.specs.Laws.{AllPlaced, first_cause}
use Rattle.span_step.specs.Narrowing.{nexts_of}
use Rattle.span_step.specs.Steps.{context_steps}
use Rattle.span_bounds.specs.declared.entry.Entry.{Entry}
use Rattle.span_bounds.specs.declared.entry.Entry.TheVariants.{Absent, Present}
use Rattle.span_bounds.specs.declared.row.Row.{Row}
use Rattle.span_bounds.specs.Numbers.{contexts, number_of, context_at, known_at}
use Rattle.span_bounds.specs.Tables.{entry_at, LiesAt, IsTableFrom, EachRow, AllLieIn, IsProvable, start_context}
use Rattle.span_bounds.specs.Edges.{AllLie}
use Rattle.span_refuted.proofs.Joining.{clean_none}
use Rattle.span_refuted.proofs.Closing.{IsGoodRow}
use Rattle.span_refuted.proofs.Visiting.{StaysPlaced}

-- what a law of span_bounds says: the context at a number has it, and a context in range has a number below their count
pub record AreNumbers : Type 0 where
  pub below : (d : Follow) (k : Context) → is_placed d k.address k.x k.y ≡ true → number_of d k < contexts d
  pub context : (d : Follow) (k : Context) → is_placed d k.address k.x k.y ≡ true → context_at d (number_of d k) ≡ k
  pub number : (d : Follow) (n : ℕ) → number_of d (context_at d n) ≡ n

-- an entry's row before others
abbrev pub with_row : Follow → ℕ → Entry → List Row → List Row
with_row d n Absent rows = rows
with_row d n (Present a) rows = record { context = context_at d n; ages = a } ∷ rows

-- the rows of m numbers from n on
unfoldable pub rows_of : Follow → (ℕ → Entry) → (n m : ℕ) → List Row
rows_of d f n zero = []
rows_of d f n (suc m) = with_row d n (f n) (rows_of d f (n + 1) m)

small_known : (b n : ℕ) → n < b + 2 → is_small b (known_at b n) ≡ true
small_known b n l = on (n == b + 1) refl where
  on : (z : Bool) → (n == b + 1) ≡ z → is_small b (cond z None (Some n)) ≡ true
  on true e = refl
  on false e = grind (arith, nat_tests)

below_parts : (i n : ℕ) → i < 4 * n → i / 4 < n
below_parts i n l = omega arith

divided : (n w h : ℕ) → 0 < w → n < w * h → n / w < h
divided n w h p l = (div-lt_iff_lt-mul {k = w} {x = n} {y = h} p).1 (let e : h * w ≡ w * h = omega arith in omega arith)

rest_below : (n b : ℕ) → n % (b + 2) < b + 2
rest_below n b = omega arith

address_fits : (d : Follow) (i : ℕ) → i < contexts d → i / 4 / (d.y + 2) / (d.x + 2) < 32
unfolding contexts
address_fits d i l = divided (i / 4 / (d.y + 2)) (d.x + 2) 32 (omega arith) (divided (i / 4) (d.y + 2) ((d.x + 2) * 32) (omega arith) (below_parts i ((d.y + 2) * ((d.x + 2) * 32)) l))

address_below : (d : Follow) (i : ℕ) → i < contexts d → nat_lt (i / 4 / (d.y + 2) / (d.x + 2)) 32 ≡ true
address_below d i l = lt-ltb _ 32 (address_fits d i l)

pub placed_at : (d : Follow) (i : ℕ) → i < contexts d → is_placed d (context_at d i).address (context_at d i).x (context_at d i).y ≡ true
unfolding context_at
placed_at d i l = rw (address_below d i l, small_known d.x (i / 4 / (d.y + 2) % (d.x + 2)) (rest_below (i / 4 / (d.y + 2)) d.x), small_known d.y (i / 4 % (d.y + 2)) (rest_below (i / 4) d.y)) refl

less_more : (m n p : ℕ) → m ≤ n → nat_lt n (p + 1) ≡ true → nat_lt m (p + 1) ≡ true
less_more m n p l t = grind (arith, nat_tests)

less_next : (n : ℕ) → nat_lt n (n + 1) ≡ true
less_next n = grind (arith, nat_tests)

from_less : (d : Follow) (rows : List Row) (m n : ℕ) → m ≤ n → IsTableFrom d n rows → IsTableFrom d m rows
from_less d [] m n l h = tt
from_less d (r ∷ rows) m n l h = (h.0, (less_more m n _ l h.1.0, h.1.1))

with_table : AreNumbers → (d : Follow) (n : ℕ) (e : Entry) (rows : List Row) → n < contexts d → IsTableFrom d (n + 1) rows → IsTableFrom d n (with_row d n e rows)
with_table nums d n Absent rows l h = from_less d rows n (n + 1) (omega arith) h
with_table nums d n (Present a) rows l h = rw (nums.number d n) (placed_at d n l, (less_next n, h))

pub table_of : AreNumbers → (d : Follow) (f : ℕ → Entry) (n m : ℕ) → n + m ≤ contexts d → IsTableFrom d n (rows_of d f n m)
unfolding rows_of
table_of nums d f n zero l = tt
table_of nums d f n (suc m) l = with_table nums d n (f n) _ (omega arith) (table_of nums d f (n + 1) m (omega arith))

absent_with : AreNumbers → (d : Follow) (n i : ℕ) (e : Entry) (rows : List Row) → i < n → entry_at d rows i ≡ Absent → entry_at d (with_row d n e rows) i ≡ Absent
absent_with nums d n i Absent rows l h = h
absent_with nums d n i (Present a) rows l h = rw (nums.number d n, (let q : (n == i) ≡ false = grind (arith, nat_tests) in q)) h

absent_above : AreNumbers → (d : Follow) (f : ℕ → Entry) (n m i : ℕ) → i < n → entry_at d (rows_of d f n m) i ≡ Absent
unfolding rows_of
absent_above nums d f n zero i l = refl
absent_above nums d f n (suc m) i l = absent_with nums d n i (f n) _ l (absent_above nums d f (n + 1) m i (omega arith))

here : AreNumbers → (d : Follow) (f : ℕ → Entry) (n m : ℕ) (e : Entry) → entry_at d (with_row d n e (rows_of d f (n + 1) m)) n ≡ e
here nums d f n m Absent = absent_above nums d f (n + 1) m n (omega arith)
here nums d f n m (Present a) = rw (nums.number d n, eq-eqb n n refl) refl

there : AreNumbers → (d : Follow) (n i : ℕ) (e : Entry) (rows : List Row) → n < i → entry_at d (with_row d n e rows) i ≡ entry_at d rows i
there nums d n i Absent rows l = refl
there nums d n i (Present a) rows l = rw (nums.number d n, ne_eqb n i (λ e. omega (arith, e, l))) refl

pub entry_of : AreNumbers → (d : Follow) (f : ℕ → Entry) (n m i : ℕ) → n ≤ i → i < n + m → entry_at d (rows_of d f n m) i ≡ f i
unfolding rows_of
entry_of nums d f n zero i l k = absurd (omega arith)
entry_of nums d f n (suc m) i l k = elim (cases_lt n i) [
  | inl less ↦ there nums d n i (f n) _ less ∙ entry_of nums d f (n + 1) m i (omega arith) (omega arith)
  | inr same ↦ (let e : i ≡ n = omega arith in rw e (here nums d f n m (f n)))
]

each_with : (d : Follow) (P : Row → Type 0) (n : ℕ) (e : Entry) (rows : List Row) → ((a : Ages) → e ≡ Present a → P (record { context = context_at d n; ages = a })) → EachRow P rows → EachRow P (with_row d n e rows)
each_with d P n Absent rows h k = k
each_with d P n (Present a) rows h k = (h a refl, k)

pub each_of : (d : Follow) (P : Row → Type 0) (f : ℕ → Entry) (n m : ℕ) → ((i : ℕ) (a : Ages) → i < n + m → f i ≡ Present a → P (record { context = context_at d i; ages = a })) → EachRow P (rows_of d f n m)
unfolding rows_of
each_of d P f n zero h = tt
each_of d P f n (suc m) h = each_with d P n (f n) _ (λ a e. h n a (omega arith) e) (each_of d P f (n + 1) m (λ i a l e. h i a (omega arith) e))

lies_same : (a : Ages) (e f : Entry) → e ≡ f → LiesAt a f → LiesAt a e
lies_same a e f q h = rw q h

all_lie : AreNumbers → (d : Follow) (f : ℕ → Entry) (ns : List Next) → AllPlaced d ns → AllLie d f ns → AllLieIn d (rows_of d f 0 (contexts d)) ns
all_lie nums d f [] p h = tt
all_lie nums d f (n ∷ ns) p h =
    (lies_same n.ages _ _ (entry_of nums d f 0 (contexts d) (number_of d n.context) (omega arith) (let l = nums.below d n.context p.0 in omega (arith, l))) h.0, all_lie nums d f ns p.1 h.1)

-- a table that holds the start, and each of whose rows leads into it and is good, proves its span
pub provable_by : AreNumbers → StaysPlaced → (u : Setup) (sp : Span) (f : ℕ → Entry) → number_of (followed sp) (start_context u sp) < contexts (followed sp) → LiesAt Empty (f (number_of (followed sp) (start_context u sp)))
    → ((i : ℕ) (a : Ages) → f i ≡ Present a → IsGoodRow u sp f (context_at (followed sp) i) a) → IsProvable u sp
provable_by nums stays u sp f l begins rows =
    let d : Follow = followed sp in
    let all : List Row = rows_of d f 0 (contexts d) in
    record {
      rows = all;
      table = table_of nums d f 0 (contexts d) (omega arith);
      closed = record {
        starts = lies_same Empty _ _ (entry_of nums d f 0 (contexts d) _ (omega arith) (omega (arith, l))) begins;
        steps = each_of d (λ r. AllLieIn d all (nexts_of (context_steps u sp r.context r.ages))) f 0 (contexts d)
            (λ i a k e. all_lie nums d f _ (stays u sp (context_at d i) a (and_parts (nat_lt (context_at d i).address 32) _ (placed_at d i (omega (arith, k)))).0) (rows i a e).lies);
      };
      good = each_of d (λ r. first_cause (context_steps u sp r.context r.ages).causes ≡ None) f 0 (contexts d) (λ i a k e. clean_none _ (rows i a e).clean (rows i a e).met);
    }
