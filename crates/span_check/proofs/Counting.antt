-- Open from-edges, clock by clock.
use Rattle.std.proofs.Common.{◌≡◌, ℕ, zero, suc, ◌+◌, ◌<◌, ◌≤◌, Bool, true, false, ◌⊎◌, inl, inr, cond, refl, sym, subst, arith}
use Rattle.std.proofs.lemmas.Bool.{lt-ltb, le-ltb}
use Rattle.span_check.specs.Marks.{Mark}
use Rattle.span_check.specs.Holding.{counted, IsAssumed, IsQuiet, IsUnexcused}

-- 1 where it is so
abbrev pub one_if : Bool → ℕ
one_if b = cond b 1 0

pub before_suc : (a c : ℕ) → a < suc c → (a < c) ⊎ (a ≡ c)
before_suc a c h = grind arith

-- nothing is counted up to the from-edge
pub counted-none : (m : ℕ → Mark) (s c : ℕ) → c ≤ suc s → counted m s c ≡ 0
unfolding counted
counted-none m s zero h = refl
counted-none m s (suc c) h =
    let le : c ≤ s = omega arith in
    let none : counted m s c ≡ 0 = counted-none m s c (omega arith) in
    rw (none, le-ltb s c le) refl

-- after it each clock counts if it does
pub counted-suc : (m : ℕ → Mark) (s c : ℕ) → s < c → counted m s (suc c) ≡ counted m s c + one_if (m c).counts
unfolding counted
counted-suc m s c h = rw (lt-ltb s c h) refl

pub quiet-before : (m : ℕ → Mark) (s c : ℕ) → IsQuiet m s (suc c) → IsQuiet m s c
quiet-before m s c h d after before = h d after (omega arith)

pub free-before : (m : ℕ → Mark) (s c : ℕ) → IsUnexcused m s (suc c) → IsUnexcused m s c
free-before m s c h d after before = h d after (omega arith)

pub assumed-before : (m : ℕ → Mark) (c : ℕ) → IsAssumed m (suc c) → IsAssumed m c
assumed-before m c h f d misses from before = h f d misses from (omega (arith, before))

-- what holds of each from-edge before clock c that is open there and spoken of
abbrev pub AreOpen : (ℕ → Mark) → (ℕ → Type 0) → ℕ → Type 0
AreOpen m P c = (s : ℕ) → s < c → (m s).from ≡ true → IsQuiet m s c → IsUnexcused m s c → P s

-- what becomes of it in clock c
pub open-after : (m : ℕ → Mark) (P Q : ℕ → Type 0) (c : ℕ) → ((s : ℕ) → s < c → (m c).to ≡ false → (m c).excused ≡ false → P s → Q s) → ((m c).from ≡ true → Q c) → AreOpen m P c → AreOpen m Q (suc c)
open-after m P Q c stays fresh h s before from quiet free = elim (before_suc s c before) [
  | inl earlier ↦ stays s earlier (quiet c earlier (omega arith)) (free c earlier (omega arith)) (h s earlier from (quiet-before m s c quiet) (free-before m s c free))
  | inr now ↦ subst Q (sym now) (fresh (subst (λ (k : ℕ). (m k).from ≡ true) now from))
]
