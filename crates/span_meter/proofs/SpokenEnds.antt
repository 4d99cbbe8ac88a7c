-- One clock more of a span that assumes something: whether it is before X and Y are no longer as assumed.
use Rattle.std.proofs.Common.{◌≡◌, ℕ, suc, ◌+◌, ◌^◌, ◌<◌, Bool, true, false, ◌&&◌, ◌||◌, cond, nat_lt, max, List, [], ◌∷◌, ◌++◌, Option, Some, None, length, take, refl, sym, ap, ◌∙◌, subst, arith}
use Rattle.std.proofs.lemmas.Bool.{and_parts, ltb-true, ltb-false, lt-ltb}
use Rattle.std.proofs.lemmas.List.{take-append-le, take_all}
use Rattle.pin_matrix.specs.declared.assume.Assumption.{Assumption}
use Rattle.block_core.specs.declared.conduct.Conduct.{Conduct}
use Rattle.block_core.specs.declared.conduct.MachineConduct.{MachineConduct}
use Rattle.span_meter.specs.declared.assumed.Assumed.{Assumed}
use Rattle.span_meter.specs.declared.meter.Meter.{Meter}
use Rattle.span_meter.specs.Assumed.{assumed_after, assumed_from, assumed_where, end_before, ends_before, is_over_before, marks_before, misses, not_before}
use Rattle.span_meter.specs.Events.{SpanEvents}
use Rattle.span_meter.specs.Spoken.{Mark, MeasuresMarks, after_mark}
use Rattle.span_meter.proofs.SpokenTelling.{marks_one}

-- what is known after clocks in a row
assumed-append : (e : SpanEvents) (clock : ℕ) (a : Assumed) (xs ys : List Conduct) → assumed_from e clock a (xs ++ ys) ≡ assumed_from e (clock + length xs) (assumed_from e clock a xs) ys
unfolding assumed_from
assumed-append e clock a [] ys = ap (λ k. assumed_from e k a ys) (let z : clock ≡ clock + 0 = omega arith in z)
assumed-append e clock a (c ∷ xs) ys =
    let b = assumed_after e clock c a in
    assumed-append e (suc clock) b xs ys
    ∙ ap (λ k. assumed_from e k (assumed_from e (suc clock) b xs) ys) (let z : suc clock + length xs ≡ clock + suc (length xs) = omega arith in z)

pub assumed-more : (e : SpanEvents) (a : Assumed) (told : List Conduct) (c : Conduct) → assumed_from e 0 a (told ++ c ∷ []) ≡ assumed_after e (length told) c (assumed_from e 0 a told)
unfolding assumed_from
assumed-more e a told c =
    assumed-append e 0 a told (c ∷ [])
    ∙ ap (λ k. assumed_after e k c (assumed_from e 0 a told)) (let z : 0 + length told ≡ length told = omega arith in z)

-- where X and Y are no longer as assumed, the end is told
pub record IsEnd (clock : ℕ) (a : Assumed) : Type 0 where
  pub end : ℕ
  pub missed : a.missed ≡ true
  pub rests : a.rests ≡ Some end
  pub before : end < clock

ends_at : (clock : ℕ) (o : Option ℕ) → ends_before clock o ≡ true → (r : ℕ) × (o ≡ Some r) × (r < clock)
ends_at clock None h = cc
ends_at clock (Some r) h = (r, refl, ltb-true r clock h)

pub is_end : (clock : ℕ) (a : Assumed) → is_over_before clock a ≡ true → IsEnd clock a
is_end clock a h =
    let parts = and_parts a.missed (ends_before clock a.rests) h in
    let at = ends_at clock a.rests parts.1 in
    record { end = at.0; missed = parts.0; rests = at.1; before = at.2 }

pub is_over : (clock r : ℕ) (a : Assumed) → a.missed ≡ true → a.rests ≡ Some r → r < clock → is_over_before clock a ≡ true
is_over clock r a missed rests low =
    ap (λ (b : Bool). b && ends_before clock a.rests) missed ∙ ap (ends_before clock) rests ∙ lt-ltb r clock low

-- and no clock changes that
pub over_later : (clock : ℕ) (a : Assumed) → is_over_before clock a ≡ true → is_over_before (suc clock) a ≡ true
over_later clock a h =
    let end = is_end clock a h in
    let low = end.before in
    is_over (suc clock) end.end a end.missed end.rests (omega arith)

pub over_stays : (assume : List Assumption) (clock : ℕ) (m : Option MachineConduct) (a : Assumed) → is_over_before clock a ≡ true → assumed_where assume clock m a ≡ a
over_stays assume clock None a h = refl
over_stays assume clock (Some m) a h =
    ap (λ (b : Bool). let x : Assumed = cond b a (record { missed = a.missed || misses assume m; rests = not_before clock m.rests }) in x) h

-- an end that wasn't there before this clock is this clock
last_before : (r clock : ℕ) (missed : Bool) → missed ≡ true → (missed && nat_lt r clock) ≡ false → r < suc clock → r ≡ clock
last_before r clock true m h low = let more = ltb-false r clock h in omega arith
last_before r clock false m h low = cc

max_end : (clock : ℕ) (o : Option ℕ) (r : ℕ) → not_before clock o ≡ Some r → r < suc clock → not_before clock o ≡ Some clock
max_end clock None r e low = cc
max_end clock (Some q) r e low =
    let same : max clock q ≡ r = cc in
    ap Some (let z : max clock q ≡ clock = omega arith in z)

pub new_end : (assume : List Assumption) (clock : ℕ) (m : Option MachineConduct) (a : Assumed) → is_over_before clock a ≡ false
    → is_over_before (suc clock) (assumed_where assume clock m a) ≡ true → (assumed_where assume clock m a).rests ≡ Some clock
new_end assume clock None a none h =
    let end = is_end (suc clock) a h in
    end.rests ∙ ap Some (last_before end.end clock a.missed end.missed (ap (λ (o : Option ℕ). a.missed && ends_before clock o) (sym end.rests) ∙ none) end.before)
new_end assume clock (Some m) a none h =
    let b : Assumed = record { missed = a.missed || misses assume m; rests = not_before clock m.rests } in
    let same : assumed_where assume clock (Some m) a ≡ b = ap (λ (x : Bool). let y : Assumed = cond x a b in y) none in
    let end = is_end (suc clock) b (ap (is_over_before (suc clock)) (sym same) ∙ h) in
    ap (λ (x : Assumed). x.rests) same ∙ max_end clock m.rests end.end end.rests end.before

-- one clock more of a meter, which counts it where X and Y are as assumed up to its end
abbrev Counts : (ks : List Mark) → (k : Mark) → (clock : ℕ) → (m : Meter) → (b : Assumed) → Bool → Type 0
Counts ks k clock m b over = MeasuresMarks (marks_before (cond over b.rests None) (ks ++ k ∷ [])) (cond over m (after_mark clock k m))

after_end : (ks : List Mark) (k : Mark) (clock : ℕ) (m : Meter) (a b : Assumed) → length ks ≡ clock → is_over_before clock a ≡ true → b ≡ a
    → MeasuresMarks (marks_before a.rests ks) m → Counts ks k clock m b (is_over_before (suc clock) b)
after_end ks k clock m a b long over same h =
    let end = is_end clock a over in
    let low = end.before in
    let P : Assumed → Type 0 = λ x. Counts ks k clock m x (is_over_before (suc clock) x) in
    let Q : Option ℕ → List Mark → Type 0 = λ o xs. MeasuresMarks (marks_before o xs) m in
    subst P (sym same)
    (subst (Counts ks k clock m a) (sym (over_later clock a over))
    (subst (λ (o : Option ℕ). Q o (ks ++ k ∷ [])) (sym end.rests)
    (subst (λ (xs : List Mark). MeasuresMarks xs m) (sym (take-append-le end.end ks (k ∷ []) (omega arith)))
    (subst (λ (o : Option ℕ). Q o ks) end.rests h))))

take_front : (ks : List Mark) (k : Mark) (clock : ℕ) → length ks ≡ clock → take clock (ks ++ k ∷ []) ≡ ks
take_front ks k clock long = take-append-le clock ks (k ∷ []) (omega arith) ∙ take_all clock ks (omega arith)

at_end : (ks : List Mark) (k : Mark) (clock : ℕ) (m : Meter) (b : Assumed) (over : Bool) → length ks ≡ clock → length ks < 2 ^ 64 → (over ≡ true → b.rests ≡ Some clock) → MeasuresMarks ks m → Counts ks k clock m b over
at_end ks k clock m b true long few end h =
    subst (λ (o : Option ℕ). MeasuresMarks (marks_before o (ks ++ k ∷ [])) m) (sym (end refl)) (subst (λ (xs : List Mark). MeasuresMarks xs m) (sym (take_front ks k clock long)) h)
at_end ks k clock m b false long few end h = subst (λ (n : ℕ). MeasuresMarks (ks ++ k ∷ []) (after_mark n k m)) long (marks_one ks k m few h)

pub counts_one : (assume : List Assumption) (did : Option MachineConduct) (ks : List Mark) (k : Mark) (clock : ℕ) (m : Meter) (a : Assumed) → length ks ≡ clock → length ks < 2 ^ 64
    → MeasuresMarks (marks_before (end_before clock a) ks) m
    → let b = assumed_where assume clock did a in MeasuresMarks (marks_before (end_before (suc clock) b) (ks ++ k ∷ [])) (cond (is_over_before (suc clock) b) m (after_mark clock k m))
counts_one assume did ks k clock m a long few h = on (is_over_before clock a) refl h where
  on : (over : Bool) → is_over_before clock a ≡ over → MeasuresMarks (marks_before (cond over a.rests None) ks) m
      → let b = assumed_where assume clock did a in Counts ks k clock m b (is_over_before (suc clock) b)
  on true e h = after_end ks k clock m a (assumed_where assume clock did a) long e (over_stays assume clock did a e) h
  on false e h =
      let b = assumed_where assume clock did a in
      at_end ks k clock m b (is_over_before (suc clock) b) long few (new_end assume clock did a e) h
