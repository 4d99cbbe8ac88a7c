-- The lines that are left at a clock, as the clocks go on.
use Rattle.std.proofs.Common.{◌≡◌, ℕ, suc, ◌+◌, ◌<◌, ◌≤◌, ◌==◌, Bool, true, false, cond, List, [], ◌∷◌, length, take, drop, refl, sym, ap, get_or, subst, add-one, ◌∙◌, inl, inr, arith}
use Rattle.std.specs.List.{AllByRecursion}
use Rattle.std.proofs.lemmas.Bool.{cases_lt}
use Rattle.std.proofs.lemmas.Bool.Decides.{nat_tests}
use Rattle.dreq_pacing.specs.declared.line.Line.{Line}
use Rattle.dreq_pacing.specs.Lines.{IsLine, IsSchedule, MayPrecede, lines_in, has_lines, has_line, NoneBetween, IsRest, leading}

-- a line at the head that is in the clock, or doesn't
pub lines_in-here : (c : ℕ) (l : Line) (ls : List Line) → l.clock ≡ c → lines_in c (l ∷ ls) ≡ l ∷ lines_in c ls
lines_in-here c l ls e =
    let test : (l.clock == c) ≡ true = grind (arith, nat_tests) in
    ap (λ (b : Bool). cond b (l ∷ lines_in c ls) (lines_in c ls)) test

pub lines_in-other : (c : ℕ) (l : Line) (ls : List Line) → (l.clock == c) ≡ false → lines_in c (l ∷ ls) ≡ lines_in c ls
lines_in-other c l ls test = ap (λ (b : Bool). cond b (l ∷ lines_in c ls) (lines_in c ls)) test

-- lines after one whose clock is past this bound are past it too
pub ahead-from : (n : ℕ) (l : Line) (ls : List Line) → n ≤ l.clock → AllByRecursion (MayPrecede l) ls → AllByRecursion (λ k. n ≤ k.clock) ls
ahead-from n l [] low h = tt
ahead-from n l (k ∷ ks) low h = ((let o = h.0.in_order in omega arith), ahead-from n l ks low h.1)

-- no line is in a clock before all of them
pub lines_in-none : (c n : ℕ) (ls : List Line) → c < n → AllByRecursion (λ l. n ≤ l.clock) ls → lines_in c ls ≡ []
lines_in-none c n [] lt h = refl
lines_in-none c n (l ∷ ls) lt h =
    let low = h.0 in
    lines_in-other c l ls (grind (arith, nat_tests)) ∙ lines_in-none c n ls lt h.1

-- where no line is between, all that are left are from that clock on
pub ahead-moved : (lines : List Line) (next clock : ℕ) (rest : List Line) → IsRest lines next rest → next ≤ clock → NoneBetween lines next clock → AllByRecursion (λ l. clock ≤ l.clock) rest
ahead-moved lines next clock [] r le none = tt
ahead-moved lines next clock (l ∷ ls) r le none =
    let low = r.ahead.0 in
    let from : clock ≤ l.clock =
    elim (cases_lt l.clock clock) [
      | inl lt ↦ absurd (let e : has_line l.clock lines ≡ true = ap has_lines (r.same l.clock low ∙ lines_in-here l.clock l ls refl) in
          let f = none l.clock low lt in let g : true ≡ false = sym e ∙ f in cc)
      | inr ge ↦ ge
    ] in
    (from, ahead-from clock l ls from r.schedule.1)

leading-le : (c : ℕ) (ls : List Line) → leading c ls ≤ length ls
leading-le c [] = omega arith
leading-le c (l ∷ ls) =
    let i = leading-le c ls in
    elim (l.clock == c) as (λ b. cond b (leading c ls + 1) 0 ≤ length (l ∷ ls)) [ true ↦ omega arith | false ↦ omega arith ]

-- The lines from this clock on, one clock on.
pub record IsTurn (clock : ℕ) (rest : List Line) (number : ℕ) : Type 0 where
  pub here : lines_in clock rest ≡ take number rest
  pub schedule : IsSchedule (drop number rest)
  pub later : (c : ℕ) → clock + 1 ≤ c → lines_in c rest ≡ lines_in c (drop number rest)
  pub ahead : AllByRecursion (λ l. clock + 1 ≤ l.clock) (drop number rest)
  pub fine : AllByRecursion IsLine (take number rest)

turn-past : (c : ℕ) (l : Line) (ls : List Line) → IsSchedule (l ∷ ls) → c + 1 ≤ l.clock → IsTurn c (l ∷ ls) 0
turn-past c l ls s low =
    let all = ahead-from (c + 1) l ls low s.1 in
    record {
      here = lines_in-none c (c + 1) (l ∷ ls) (omega arith) (low, all);
      schedule = s;
      later = λ d h. refl;
      ahead = (low, all);
      fine = tt;
    }

turn-more : (c n : ℕ) (l : Line) (ls : List Line) → IsLine l → l.clock ≡ c → IsTurn c ls n → IsTurn c (l ∷ ls) (suc n)
turn-more c n l ls fine e t = record {
  here = lines_in-here c l ls e ∙ ap (λ (ks : List Line). l ∷ ks) t.here;
  schedule = t.schedule;
  later = λ d h. lines_in-other d l ls (grind (arith, nat_tests)) ∙ t.later d h;
  ahead = t.ahead;
  fine = (fine, t.fine);
}

-- the lines at the head that are in the clock are all of its lines
pub turn : (c : ℕ) (ls : List Line) → IsSchedule ls → AllByRecursion (λ l. c ≤ l.clock) ls → IsTurn c ls (leading c ls)
turn c [] s h = record { here = refl; schedule = tt; later = λ d k. refl; ahead = tt; fine = tt }
turn c (l ∷ ls) s h =
    elim (cases_lt c l.clock) [
      | inl lt ↦ (let no : (l.clock == c) ≡ false = grind (arith, nat_tests) in
          let P : Bool → Type 0 = λ b. IsTurn c (l ∷ ls) (cond b (leading c ls + 1) 0) in
          subst P (sym no) (turn-past c l ls s (omega arith)))
      | inr ge ↦ (let low = h.0 in
          let same : l.clock ≡ c = omega arith in
          let yes : (l.clock == c) ≡ true = grind (arith, nat_tests) in
          let P : Bool → Type 0 = λ b. IsTurn c (l ∷ ls) (cond b (leading c ls + 1) 0) in
          let Q : ℕ → Type 0 = λ n. IsTurn c (l ∷ ls) n in
          subst P (sym yes) (subst Q (sym (add-one (leading c ls))) (turn-more c (leading c ls) l ls s.0 same (turn c ls s.2 h.1))))
    ]

-- all lines are the rest at clock 0
pub first_rest : (lines : List Line) → IsSchedule lines → IsRest lines 0 lines
first_rest lines s = record { schedule = s; same = λ c h. refl; ahead = all_from_zero lines }
  where
    all_from_zero : (ls : List Line) → AllByRecursion (λ l. 0 ≤ l.clock) ls
    all_from_zero [] = tt
    all_from_zero (l ∷ ls) = (omega arith, all_from_zero ls)

-- the rest one clock on
pub rest_on : (lines : List Line) (next clock : ℕ) (rest : List Line) (number : ℕ) → IsRest lines next rest → next ≤ clock → IsTurn clock rest number → IsRest lines (clock + 1) (drop number rest)
rest_on lines next clock rest number r le t = record {
  schedule = t.schedule;
  same = λ c h. r.same c (omega arith) ∙ t.later c h;
  ahead = t.ahead;
}

-- the first of the lines that are left is the first line from the clock on
pub has_line-here : (c : ℕ) (l : Line) (ls : List Line) → l.clock ≡ c → has_line c (l ∷ ls) ≡ true
has_line-here c l ls e = ap has_lines (lines_in-here c l ls e)

-- the first of the lines that are left is the first from the clock on
pub next_line-found : (lines : List Line) (next clock : ℕ) (rest : List Line) (l : Line) → IsRest lines next rest → next ≤ clock → NoneBetween lines next clock → 0 < length rest → l ≡ get_or rest 0 l → (clock ≤ l.clock) × (has_line l.clock lines ≡ true) × ((c : ℕ) → clock ≤ c → c < l.clock → has_line c lines ≡ false)
next_line-found lines next clock [] l r le none some is = absurd (omega arith)
next_line-found lines next clock (k ∷ ks) l r le none some is =
    let all = ahead-moved lines next clock (k ∷ ks) r le none in
    let P : Line → Type 0 = λ m. (clock ≤ m.clock) × (has_line m.clock lines ≡ true) × ((c : ℕ) → clock ≤ c → c < m.clock → has_line c lines ≡ false) in
    let low : clock ≤ k.clock = all.0 in
    subst P (sym is) (
      low,
      ap has_lines (r.same k.clock (omega arith)) ∙ has_line-here k.clock k ks refl,
      λ c from before.
          ap has_lines (r.same c (omega arith) ∙ lines_in-none c k.clock (k ∷ ks) before (omega arith, ahead-from k.clock k ks (omega arith) r.schedule.1)),
    )

-- no line is left
pub next_line-none : (lines : List Line) (next clock : ℕ) (rest : List Line) → IsRest lines next rest → next ≤ clock → length rest ≡ 0 → (c : ℕ) → clock ≤ c → has_line c lines ≡ false
next_line-none lines next clock [] r le none c from = ap has_lines (r.same c (omega arith))
next_line-none lines next clock (k ∷ ks) r le none c from = absurd (omega arith)
