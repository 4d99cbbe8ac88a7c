-- A run of any kind after the clocks that were leapt over.
use Rattle.std.proofs.Common.{◌≡◌, ℕ, zero, suc, ◌+◌, ◌-◌, ◌<◌, ◌≤◌, inl, inr, Bool, true, false, refl, ap, ◌∙◌, sym, subst, arith, add-zero, add-suc, add-one}
use Rattle.std.proofs.lemmas.Bool.{cases_lt}
use Rattle.idle_engine.specs.Kinds.{RunKind, IsKind, IsUntil, IsCalm, Course, IsCourse, shown_at}

-- each state of a run that begins in clock 0 is in its clock
pub in_clocks : {H L V : Type 0} (k : RunKind H L V) → IsKind k → (l : L) (begin : H) (c : Course H V)
    → IsCourse k l begin c → (n : ℕ) → k.in_clock (c.at n) n
in_clocks {H} k laws l begin c course zero = subst (λ (h : H). k.in_clock h 0) (sym course.begins) course.fresh
in_clocks {H} k laws l begin c course (suc n) =
    subst (λ (h : H). k.in_clock h (suc n)) (sym (course.goes n))
    (subst (λ (m : ℕ). k.in_clock (k.next l (c.at n)) m) (add-one n) (laws.later l (c.at n) n (in_clocks k laws l begin c course n)))

-- a test that fails up to a clock does from a later one on, and so does one that agrees with it
pub until_later : (test other : ℕ → Bool) (end from later until : ℕ) → IsUntil test end from until
    → ((n : ℕ) → other n ≡ test n) → from ≤ later → later ≤ until → IsUntil other end later until
until_later test other end from later until u same le within =
    record { ahead = within; within = u.within; rests = λ c low below. same c ∙ u.rests c (omega arith) below; passes = λ early. same until ∙ u.passes early }

-- what is calm for some clocks is calm for fewer
fewer : {H L V : Type 0} (k : RunKind H L V) (h : H) (n : ℕ) → IsCalm k h (suc n) → IsCalm k h n
fewer k h n calm = record {
  asks = λ j le. calm.asks j (omega arith);
  shows = λ j le. calm.shows j (omega arith);
  rests = λ j below. calm.rests j (omega arith);
}

-- while a run is calm and the system doesn't act, only time goes by
passes : {H L V : Type 0} (k : RunKind H L V) → IsKind k → (l : L) (begin : H) (c : Course H V) → IsCourse k l begin c
    → ((n : ℕ) → k.in_clock (c.at n) n) → (b n : ℕ) → IsCalm k (c.at b) n
    → ((j : ℕ) → b ≤ j → j < b + n → k.acts l (c.at b) j ≡ false) → c.at (b + n) ≡ k.quiet_from (c.at b) n
passes k laws l begin c course clocks b zero calm rests = ap c.at (add-zero b) ∙ sym (laws.none (c.at b))
passes {H} k laws l begin c course clocks b (suc n) calm rests =
    let before = passes k laws l begin c course clocks b n (fewer k (c.at b) n calm) (λ j from below. rests j from (omega arith)) in
    let still : k.acts l (c.at (b + n)) (b + n) ≡ false =
    ap (λ (h : H). k.acts l h (b + n)) before ∙ calm.asks n (omega arith) l (b + n) ∙ rests (b + n) (omega arith) (omega arith) in
    ap c.at (add-suc b n) ∙ course.goes (b + n) ∙ laws.quiet l (c.at (b + n)) (b + n) (clocks (b + n)) still
    ∙ ap k.quiet_next before ∙ sym (laws.more (c.at b) n)

-- What is so in the clock after them, where clock b was worked out before: the state is the run's, the clock up to which the system
-- rests is the same, the clocks between show what clock b shows and don't stir, and it stirs.
pub record IsAfterLeap {H L V : Type 0} (k : RunKind H L V) (l : L) (c : Course H V) (b later until clocks : ℕ) (now : H) : Type 0 where
  pub run : now ≡ c.at later
  pub rests : IsUntil (k.acts l now) clocks later until
  pub same : (j : ℕ) → b + 1 ≤ j → j < later → shown_at k c j ≡ shown_at k c b
  pub still : (j : ℕ) → b + 1 ≤ j → j < later → k.stirs l (c.at j) ≡ false
  pub stirs : later < clocks → k.stirs l (c.at later) ≡ true

-- the same from the run's own state on
from_course : {H L V : Type 0} (k : RunKind H L V) → IsKind k → (l : L) (begin : H) (c : Course H V)
    → IsCourse k l begin c → ((n : ℕ) → k.in_clock (c.at n) n) → (b later until clocks : ℕ) (now : H) → b + 1 ≤ later
    → later ≤ until → IsUntil (k.acts l (c.at (b + 1))) clocks (b + 1) until
    → now ≡ k.quiet_from (c.at (b + 1)) (later - (b + 1)) → IsCalm k (c.at (b + 1)) (later - (b + 1))
    → (later < until → k.moves_on now ≡ true) → IsAfterLeap k l c b later until clocks now
from_course {H} k laws l begin c course clocks_at b later until clocks now from to u is_now calm moves = record {
  run = run;
  rests = rests;
  same = λ j low below.
      let e : suc j ≡ b + 1 + suc (j - (b + 1)) = omega arith in
      ap (λ (n : ℕ). k.shown (c.at n)) e ∙ ap k.shown (goes (suc (j - (b + 1))) (omega arith)) ∙ calm.shows (suc (j - (b + 1))) (omega arith)
      ∙ ap (λ (n : ℕ). k.shown (c.at n)) (add-one b);
  still = λ j low below.
      let e : j ≡ b + 1 + (j - (b + 1)) = omega arith in
      let at : c.at j ≡ k.quiet_from (c.at (b + 1)) (j - (b + 1)) = ap c.at e ∙ goes (j - (b + 1)) (omega arith) in
      laws.moving l (c.at j) j (clocks_at j) (ap (λ (h : H). k.acts l h j) at ∙ calm.asks (j - (b + 1)) (omega arith) l j ∙ u.rests j low (omega arith))
      ∙ ap k.moves_on at ∙ calm.rests (j - (b + 1)) (omega arith);
  stirs = λ below. elim (cases_lt later until) [
    | inl lt ↦ laws.moving l (c.at later) later (clocks_at later) (acts later ∙ rests.rests later (omega arith) lt) ∙ sym (ap k.moves_on run) ∙ moves lt
    | inr ge ↦ (let e : later ≡ until = omega arith in
        laws.acting l (c.at later) later (clocks_at later) (acts later ∙ ap (k.acts l now) e ∙ rests.passes (omega arith)))
  ];
} where
  goes : (n : ℕ) → n ≤ later - (b + 1) → c.at (b + 1 + n) ≡ k.quiet_from (c.at (b + 1)) n
  goes n le =
      passes k laws l begin c course clocks_at (b + 1) n
      (record { asks = λ j less. calm.asks j (omega arith); shows = λ j less. calm.shows j (omega arith); rests = λ j below. calm.rests j (omega arith) })
      (λ j low below. u.rests j low (omega arith))

  run : now ≡ c.at later
  run =
      let whole : b + 1 + (later - (b + 1)) ≡ later = omega arith in
      is_now ∙ sym (goes (later - (b + 1)) (omega arith)) ∙ ap c.at whole

  rests : IsUntil (k.acts l now) clocks later until
  rests =
      until_later (k.acts l (c.at (b + 1))) (k.acts l now) clocks (b + 1) later until u
      (λ n. ap (λ (h : H). k.acts l h n) is_now ∙ calm.asks (later - (b + 1)) (omega arith) l n) from to

  acts : (n : ℕ) → k.acts l (c.at later) n ≡ k.acts l now n
  acts n = sym (ap (λ (h : H). k.acts l h n) run)

pub after_leap : {H L V : Type 0} (k : RunKind H L V) → IsKind k → (l : L) (begin : H) (c : Course H V)
    → IsCourse k l begin c → ((n : ℕ) → k.in_clock (c.at n) n) → (b later until clocks : ℕ) (before now : H)
    → before ≡ c.at (b + 1) → b + 1 ≤ later → later ≤ until → IsUntil (k.acts l before) clocks (b + 1) until
    → now ≡ k.quiet_from before (later - (b + 1)) → IsCalm k before (later - (b + 1))
    → (later < until → k.moves_on now ≡ true) → IsAfterLeap k l c b later until clocks now
after_leap {H} k laws l begin c course clocks_at b later until clocks before now is from to =
    subst (λ (h : H). IsUntil (k.acts l h) clocks (b + 1) until → now ≡ k.quiet_from h (later - (b + 1)) → IsCalm k h (later - (b + 1)) → (later < until → k.moves_on now ≡ true) → IsAfterLeap k l c b later until clocks now)
    (sym is)
    (from_course k laws l begin c course clocks_at b later until clocks now from to)

-- the state after a clock that was worked out
pub course-next : {H L V : Type 0} {k : RunKind H L V} {l own : L} {begin : H} {c : Course H V} → IsCourse k l begin c
    → (n : ℕ) {before after : H} → before ≡ c.at n → own ≡ l → after ≡ k.next own before → after ≡ c.at (n + 1)
course-next {H} {L} {V} {k} {l} {own} {begin} {c} course n {before} {after} is is_own is_next =
    is_next ∙ ap (λ (x : L). k.next x before) is_own ∙ ap (k.next l) is ∙ sym (course.goes n) ∙ ap c.at (sym (add-one n))

-- what it shows is what the clock shows
pub shown-next : {H L V : Type 0} (k : RunKind H L V) (c : Course H V) (n : ℕ) (after : H) (s : V)
    → after ≡ c.at (n + 1) → s ≡ k.shown after → s ≡ shown_at k c n
shown-next k c n after s is shows = shows ∙ ap k.shown is ∙ ap (λ (m : ℕ). k.shown (c.at m)) (add-one n)

-- where it shows what it showed before, the clock shows what the one before shows
pub shows-again : {H L V : Type 0} (k : RunKind H L V) (c : Course H V) (n : ℕ) (before after : H) → before ≡ c.at n
    → after ≡ c.at (n + 1) → k.shown after ≡ k.shown before → 0 < n → shown_at k c n ≡ shown_at k c (n - 1)
shows-again k c n before after was is same some =
    let e : n ≡ suc (n - 1) = omega arith in
    sym (shown-next k c n after (k.shown after) is refl) ∙ same ∙ ap k.shown was ∙ ap (λ (m : ℕ). k.shown (c.at m)) e
