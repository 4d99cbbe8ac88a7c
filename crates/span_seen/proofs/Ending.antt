-- What is known of a span's assumptions after the first clocks of a run is what its marks say: whether there is an end, and where.
use Rattle.std.proofs.Common.{◌≡◌, ℕ, zero, suc, ◌<◌, ◌≤◌, ◌⊎◌, inl, inr, ◌≢◌, Bool, true, false, ◌&&◌, ◌||◌, cond, max, Option, Some, None, refl, sym, ap, subst, ◌∙◌, arith}
use Rattle.std.proofs.Math.Bool.{or-false}
use Rattle.std.proofs.lemmas.Bool.{cases_eq, or_parts, false_from_ne_true}
use Rattle.pin_matrix.specs.declared.span.Span.{Span}
use Rattle.block_core.specs.declared.conduct.MachineConduct.{MachineConduct}
use Rattle.block_core.specs.Conduct.{rests_in}
use Rattle.block_core.specs.Slots.{Slot}
use Rattle.span_check.specs.Holding.{IsAssumed}
use Rattle.span_check.specs.Marks.{Mark}
use Rattle.span_meter.specs.declared.assumed.Assumed.{Assumed}
use Rattle.span_meter.specs.Assumed.{assumed_where, end_before, ends_before, is_over_before, misses, not_before}
use Rattle.span_meter.proofs.SpokenEnds as ends
use Rattle.span_seen.specs.Ends.{IsAssumedUpTo, IsEnd}
use Rattle.span_seen.proofs.Delays.{is_at_rest, left_in, left_later, rests-left, rests-over}
use Rattle.span_seen.proofs.Missing.{Tells}

-- some clock before this one misses an assumption
pub record HasMissed (m : ℕ → Mark) (n : ℕ) : Type 0 where
  pub clock : ℕ
  pub before : clock < n
  pub misses : (m clock).misses ≡ true

-- Before clock n there is no end yet. Where an assumption was missed, the machine is in the delay after that, whose end is told.
pub record IsOpen (m : ℕ → Mark) (n : ℕ) (s : Slot) (a : Assumed) : Type 0 where
  pub assumed : IsAssumed m n
  pub missed : a.missed ≡ true → HasMissed m n × (is_at_rest s ≡ false) × (a.rests ≡ left_in s)
  pub kept : a.missed ≡ false → (f : ℕ) → f < n → (m f).misses ≡ false

-- there is one
pub record IsClosed (m : ℕ → Mark) (n : ℕ) (a : Assumed) : Type 0 where
  pub end : ℕ
  pub missed : a.missed ≡ true
  pub rests : a.rests ≡ Some end
  pub before : end < n
  pub is_end : IsEnd m end

-- one of both
abbrev pub IsKnown : (ℕ → Mark) → ℕ → Slot → Assumed → Type 0
IsKnown m n s a = IsOpen m n s a ⊎ IsClosed m n a

-- where there is no end yet none is told
told_end : (n : ℕ) (b : Bool) (s : Slot) (o : Option ℕ) → o ≡ left_in s → s.timing.clock ≡ n → (b && ends_before n o) ≡ true → ⊥
told_end zero b s o is at h = none_before b o h where
  none_before : (b : Bool) (o : Option ℕ) → (b && ends_before 0 o) ≡ true → ⊥
  none_before b o h = let end = ends.is_end 0 (record { missed = b; rests = o }) h in let low = end.before in absurd (omega arith)
told_end (suc n) b s o is at h =
    let end = ends.is_end (suc n) (record { missed = b; rests = o }) h in
    let later = left_later s n end.end at (sym is ∙ end.rests) in
    let low = end.before in
    absurd (omega arith)

pub open_told : (m : ℕ → Mark) (n : ℕ) (s : Slot) (a : Assumed) → s.timing.clock ≡ n → IsOpen m n s a → is_over_before n a ≡ false
open_told m n s a at h = false_from_ne_true (is_over_before n a) (λ over.
    let end = ends.is_end n a over in
    told_end n a.missed s a.rests (h.missed end.missed).2 at over)

-- what is known after a clock in which this was told
record IsAfter (m : ℕ → Mark) (n : ℕ) (after : Slot) (a b : Assumed) : Type 0 where
  missed : b.missed ≡ (a.missed || (m n).misses)
  rests : b.missed ≡ true → b.rests ≡ rests_in n after

-- the end of a delay is no clock before this one
no_sooner : (n : ℕ) (s : Slot) → s.timing.clock ≡ suc n → not_before n (rests_in n s) ≡ rests_in n s
no_sooner n s at = on (is_at_rest s) refl where
  max_right : (r : ℕ) → n ≤ r → max n r ≡ r
  max_right r low = omega arith

  max_of : (o : Option ℕ) → o ≡ left_in s → not_before n o ≡ o
  max_of None is = refl
  max_of (Some r) is = let low = left_later s n r at (sym is) in ap Some (max_right r (omega arith))

  on : (b : Bool) → is_at_rest s ≡ b → not_before n (rests_in n s) ≡ rests_in n s
  on true e =
      let over = rests-over n s e in
      ap (not_before n) over ∙ ap Some (max_right n (omega arith)) ∙ sym over
  on false e =
      let left = rests-left n s e in
      ap (not_before n) left ∙ max_of (left_in s) refl ∙ sym left

is_after : (sp : Span) (m : ℕ → Mark) (n : ℕ) (s after : Slot) (a : Assumed) (did : Option MachineConduct) → s.timing.clock ≡ n → after.timing.clock ≡ suc n → IsOpen m n s a → Tells sp n (m n) s after did
    → IsAfter m n after a (assumed_where sp.assume n did a)
is_after sp m n s after a None at then going told = record {
  missed = sym (or-false a.missed) ∙ ap (λ (b : Bool). a.missed || b) (sym told.0);
  rests = λ missed. let delay = going.missed missed in delay.2 ∙ sym (told.1 delay.1);
}
is_after sp m n s after a (Some c) at then going told =
    let new : Assumed = record { missed = a.missed || misses sp.assume c; rests = not_before n c.rests } in
    let same : assumed_where sp.assume n (Some c) a ≡ new = ap (λ (b : Bool). let x : Assumed = cond b a new in x) (open_told m n s a at going) in
    subst (IsAfter m n after a) (sym same)
    (record {
      missed = ap (λ (b : Bool). a.missed || b) told.0;
      rests = λ missed. ap (not_before n) told.1 ∙ no_sooner n after then;
    })

-- one clock more
more_assumed : (m : ℕ → Mark) (n : ℕ) → IsAssumed m n → (m n).rested ≡ false → IsAssumed m (suc n)
more_assumed m n assumed none f c misses low below = on (cases_eq c n) where
  on : (c ≡ n) ⊎ (c ≢ n) → (m c).rested ≡ false
  on (inl e) = ap (λ k. (m k).rested) e ∙ none
  on (inr other) = assumed f c misses low (omega arith)

none_assumed : (m : ℕ → Mark) (n : ℕ) → ((f : ℕ) → f < n → (m f).misses ≡ false) → IsAssumed m n
none_assumed m n none f c misses low below = let z : true ≡ false = sym misses ∙ none f (omega arith) in cc

more_kept : (m : ℕ → Mark) (n : ℕ) → ((f : ℕ) → f < n → (m f).misses ≡ false) → (m n).misses ≡ false → (f : ℕ) → f < suc n → (m f).misses ≡ false
more_kept m n none now f low = on (cases_eq f n) where
  on : (f ≡ n) ⊎ (f ≢ n) → (m f).misses ≡ false
  on (inl e) = ap (λ k. (m k).misses) e ∙ now
  on (inr other) = none f (omega arith)

now_missed : (m : ℕ → Mark) (n : ℕ) (before now : Bool) → (before ≡ true → HasMissed m n) → (m n).misses ≡ now → (before || now) ≡ true → HasMissed m (suc n)
now_missed m n true now was is h = let w = was refl in let low = w.before in record { clock = w.clock; before = omega arith; misses = w.misses }
now_missed m n false true was is h = record { clock = n; before = omega arith; misses = is }
now_missed m n false false was is h = cc

to_open : (m : ℕ → Mark) (n : ℕ) (after : Slot) (b : Assumed) → IsAssumed m n → (b.missed ≡ true → HasMissed m (suc n)) → (b.missed ≡ true → b.rests ≡ rests_in n after)
    → (m n).rested ≡ is_at_rest after → b.missed ≡ true → is_at_rest after ≡ false → IsOpen m (suc n) after b
to_open m n after b assumed was rests rested missed more = record {
  assumed = more_assumed m n assumed (rested ∙ more);
  missed = λ _. (was missed, more, rests missed ∙ rests-left n after more);
  kept = λ none. let z : true ≡ false = sym missed ∙ none in cc;
}

to_closed : (m : ℕ → Mark) (n : ℕ) (after : Slot) (b : Assumed) → IsAssumed m n → HasMissed m (suc n) → (b.missed ≡ true → b.rests ≡ rests_in n after)
    → (m n).rested ≡ is_at_rest after → b.missed ≡ true → is_at_rest after ≡ true → IsClosed m (suc n) b
to_closed m n after b assumed was rests rested missed over = let low = was.before in record {
  end = n;
  missed = missed;
  rests = rests missed ∙ rests-over n after over;
  before = omega arith;
  is_end = record { missed_in = was.clock; misses = was.misses; after = omega arith; rested = rested ∙ over; assumed = assumed };
}

after_open : (m : ℕ → Mark) (n : ℕ) (s after : Slot) (a b : Assumed) → IsOpen m n s a → IsAfter m n after a b → (m n).rested ≡ is_at_rest after → IsKnown m (suc n) after b
after_open m n s after a b going h rested = by_miss b.missed refl where
  was : b.missed ≡ true → HasMissed m (suc n)
  was missed = now_missed m n a.missed (m n).misses (λ before. (going.missed before).0) refl (sym h.missed ∙ missed)

  by_rest : b.missed ≡ true → (rest : Bool) → is_at_rest after ≡ rest → IsKnown m (suc n) after b
  by_rest missed true over = inr (to_closed m n after b going.assumed (was missed) h.rests rested missed over)
  by_rest missed false more = inl (to_open m n after b going.assumed was h.rests rested missed more)

  by_miss : (missed : Bool) → b.missed ≡ missed → IsKnown m (suc n) after b
  by_miss true e = by_rest e (is_at_rest after) refl
  by_miss false e =
      let parts = or_parts a.missed (m n).misses (sym h.missed ∙ e) in
      let none = more_kept m n (going.kept parts.0) parts.1 in
      inl (record {
        assumed = none_assumed m (suc n) none;
        missed = λ missed. let z : true ≡ false = sym missed ∙ e in cc;
        kept = λ _. none;
      })

closed_over : (m : ℕ → Mark) (n : ℕ) (a : Assumed) → IsClosed m n a → is_over_before n a ≡ true
closed_over m n a h = ends.is_over n h.end a h.missed h.rests h.before

still_closed : (m : ℕ → Mark) (n : ℕ) (a : Assumed) → IsClosed m n a → IsClosed m (suc n) a
still_closed m n a h = let low = h.before in record { end = h.end; missed = h.missed; rests = h.rests; before = omega arith; is_end = h.is_end }

pub known_next : (sp : Span) (m : ℕ → Mark) (n : ℕ) (s after : Slot) (a : Assumed) (did : Option MachineConduct) → s.timing.clock ≡ n → after.timing.clock ≡ suc n → Tells sp n (m n) s after did
    → (m n).rested ≡ is_at_rest after → IsKnown m n s a → IsKnown m (suc n) after (assumed_where sp.assume n did a)
known_next sp m n s after a did at then told rested (inl going) = after_open m n s after a (assumed_where sp.assume n did a) going (is_after sp m n s after a did at then going told) rested
known_next sp m n s after a did at then told rested (inr closed) =
    inr (subst (IsClosed m (suc n)) (sym (ends.over_stays sp.assume n did a (closed_over m n a closed))) (still_closed m n a closed))

-- so the end that is told is that of the marks
pub known_end : (m : ℕ → Mark) (n : ℕ) (s : Slot) (a : Assumed) → s.timing.clock ≡ n → IsKnown m n s a → IsAssumedUpTo m n (end_before n a)
known_end m n s a at (inl going) = subst (λ (b : Bool). IsAssumedUpTo m n (cond b a.rests None)) (sym (open_told m n s a at going)) going.assumed
known_end m n s a at (inr closed) =
    subst (λ (b : Bool). IsAssumedUpTo m n (cond b a.rests None)) (sym (closed_over m n a closed))
    (subst (IsAssumedUpTo m n) (sym closed.rests) (closed.before, closed.is_end))
