-- A trace that isn't told of clocks which show the same holds what these clocks show too.
use Rattle.std.proofs.Common.{◌≡◌, ℕ, zero, suc, ◌+◌, ◌-◌, ◌<◌, ◌≤◌, Bool, true, false, ◌||◌, ◌==◌, List, refl, ap, ◌∙◌, sym, subst, ◌⊎◌, inl, inr, arith, add-one}
use Rattle.std.proofs.lemmas.Bool.{cases_lt}
use Rattle.std.proofs.lemmas.Bool.Decides.{nat_tests}
use Rattle.sample_trace.specs.Told.{IsNext, held_to, told_at}
use Rattle.idle_engine.specs.Kinds.{AreFirsts}
use Rattle.idle_engine.proofs.GrowingLists.{firsts-held, firsts-next, firsts-told}

-- a trace told of the first clocks, after which all up to now show what the last of them shows
held-since : {T : Type 0} (at : ℕ → T) (all : ℕ → List T) → AreFirsts at all → (last clock : ℕ) → last ≤ clock
    → (last ≡ 0 → clock ≡ 0) → ((k : ℕ) → last ≤ k → k < clock → at k ≡ at (last - 1))
    → held_to clock (all last) ≡ all clock
held-since at all h zero clock le first same =
    ap (held_to clock) h.none ∙ sym (ap all (first refl) ∙ h.none)
held-since at all h (suc b) clock le first same =
    let n = clock - suc b in
    let one : b + 1 ≡ suc b = add-one b in
    let whole : b + 1 + n ≡ clock = omega (arith, one) in
    let low : suc b - 1 ≡ b = omega arith in
    subst (λ (k : ℕ). held_to k (all (suc b)) ≡ all k) whole
    (subst (λ (k : ℕ). held_to (b + 1 + n) (all k) ≡ all (b + 1 + n)) one
    (firsts-held at all h b n (λ k below. same (b + 1 + k) (omega arith) (omega arith) ∙ ap at low)))

-- a trace was told of what the first clocks show, and those since show what the last of them shows
pub record IsTold {T : Type 0} (at : ℕ → T) (all : ℕ → List T) (clock : ℕ) (holds : List T → Type 0) : Type 0 where
  pub last : ℕ
  pub before : last ≤ clock
  pub first : last ≡ 0 → clock ≡ 0
  pub same : (k : ℕ) → last ≤ k → k < clock → at k ≡ at (last - 1)
  pub told : holds (all last)

-- it was told of nothing yet
pub told-none : {T : Type 0} (at : ℕ → T) (all : ℕ → List T) → AreFirsts at all → (holds : List T → Type 0)
    → holds (all 0) → IsTold at all 0 holds
told-none at all h holds told = record {
  last = 0;
  before = omega arith;
  first = λ e. refl;
  same = λ k from below. absurd (omega arith);
  told = told;
}

-- the same of the clock by another name
pub told-at : {T : Type 0} {at : ℕ → T} {all : ℕ → List T} {holds : List T → Type 0} {clock n : ℕ} → clock ≡ n
    → IsTold at all clock holds → IsTold at all n holds
told-at {T} {at} {all} {holds} e t = subst (λ (m : ℕ). IsTold at all m holds) e t

-- it may be told of this clock next, and what it was told is held up to it
pub is-next : {T : Type 0} {at : ℕ → T} {all : ℕ → List T} → AreFirsts at all → {clock : ℕ} {holds : List T → Type 0}
    → (t : IsTold at all clock holds) → IsNext (all t.last) clock
is-next {T} {at} {all} h {clock} t = firsts-next at all h t.last clock t.before t.first

pub is-held : {T : Type 0} {at : ℕ → T} {all : ℕ → List T} → AreFirsts at all → {clock : ℕ} {holds : List T → Type 0}
    → (t : IsTold at all clock holds) → held_to clock (all t.last) ≡ all clock
is-held {T} {at} {all} h {clock} t = held-since at all h t.last clock t.before t.first t.same

-- and then has the clock too
pub is-told : {T : Type 0} {at : ℕ → T} {all : ℕ → List T} → AreFirsts at all → {clock : ℕ} {holds : List T → Type 0}
    → (t : IsTold at all clock holds) → {s : T} → s ≡ at clock → told_at clock s (all t.last) ≡ all (clock + 1)
is-told {T} {at} {all} h {clock} t {s} is = firsts-told at all h t.last clock s (is-held h t) is

-- it is told of the clock, and those up to a later one show the same
told-next : {T : Type 0} (at : ℕ → T) (all : ℕ → List T) → AreFirsts at all
    → (clock later : ℕ) (s : T) (before after : List T → Type 0) → clock + 1 ≤ later
    → ((k : ℕ) → clock + 1 ≤ k → k < later → at k ≡ at clock) → s ≡ at clock → (t : IsTold at all clock before)
    → (before (all t.last) → IsNext (all t.last) clock → after (told_at clock s (all t.last)))
    → IsTold at all later after
told-next at all h clock later s before after le same is t tells = record {
  last = clock + 1;
  before = le;
  first = λ none. absurd (omega arith);
  same = λ k from below. (let e : clock + 1 - 1 ≡ clock = omega arith in same k from below ∙ ap at (sym e));
  told = subst after (is-told h t is) (tells t.told (is-next h t));
}

-- it isn't, since the clock shows what the one before shows
told-again : {T : Type 0} (at : ℕ → T) (all : ℕ → List T) (clock later : ℕ) (before after : List T → Type 0)
    → clock + 1 ≤ later → ((k : ℕ) → clock + 1 ≤ k → k < later → at k ≡ at clock) → 0 < clock
    → at clock ≡ at (clock - 1) → (t : IsTold at all clock before) → ((l : List T) → before l → after l)
    → IsTold at all later after
told-again at all clock later before after le same some is t keeps = record {
  last = t.last;
  before = let b = t.before in omega arith;
  first = λ none. (let e = t.first none in absurd (omega arith));
  same = λ k from below. elim (cases_lt k clock) [
    | inl lt ↦ t.same k from lt
    | inr ge ↦ elim (cases_lt clock k) [
      | inl more ↦ same k (omega arith) below ∙ at_clock
      | inr less ↦ (let e : k ≡ clock = omega arith in ap at e ∙ at_clock)
    ]
  ];
  told = keeps (all t.last) t.told;
} where
  at_clock : at clock ≡ at (t.last - 1)
  at_clock = elim (cases_lt t.last clock) [
    | inl lt ↦ is ∙ t.same (clock - 1) (omega arith) (omega arith)
    | inr ge ↦ (let b = t.before in let e : clock - 1 ≡ t.last - 1 = omega arith in is ∙ ap at e)
  ]

-- the trace is told of a clock, or the clock shows what the one before shows
record Again (is_new : Bool) (n : ℕ) : Type 0 where
  passed : (is_new || (n == 0)) ≡ false
  shows : is_new ≡ false
  some : 0 < n

not_zero : (n : ℕ) → (suc n == 0) ≡ false
not_zero n = grind (arith, nat_tests)

told_or_not : (is_new : Bool) (n : ℕ) → ((is_new || (n == 0)) ≡ true) ⊎ Again is_new n
told_or_not true n = inl refl
told_or_not false zero = inl refl
told_or_not false (suc n) = inr (record { passed = not_zero n; shows = refl; some = omega arith })

-- it is told of a clock where this is the first or may show something new, and those up to a later one show the same
pub told-after : {T : Type 0} (at : ℕ → T) (all : ℕ → List T) → AreFirsts at all → (clock later : ℕ) (s : T)
    (is_new : Bool) (before after : List T → Type 0) → clock + 1 ≤ later
    → ((k : ℕ) → clock + 1 ≤ k → k < later → at k ≡ at clock) → s ≡ at clock
    → (is_new ≡ false → 0 < clock → at clock ≡ at (clock - 1)) → (t : IsTold at all clock before)
    → ((is_new || (clock == 0)) ≡ true → before (all t.last) → IsNext (all t.last) clock → after (told_at clock s (all t.last)))
    → ((is_new || (clock == 0)) ≡ false → (l : List T) → before l → after l) → IsTold at all later after
told-after at all h clock later s is_new before after le same is again t tells keeps = elim (told_or_not is_new clock) [
  | inl new ↦ told-next at all h clock later s before after le same is t (tells new)
  | inr not ↦ told-again at all clock later before after le same not.some (again not.shows not.some) t (keeps not.passed)
]
