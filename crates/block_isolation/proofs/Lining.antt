-- What the lines of a clock do to a machine, and to the pins that it reads, is what its own lines do.
use Rattle.std.proofs.Common.{◌≡◌, ◌≢◌, ◌∙◌, ℕ, zero, suc, ◌-◌, ◌^◌, ◌<◌, ◌≤◌, ◌==◌, Bool, true, false, cond, Option, Some, None, List, [], ◌∷◌, slice_set, slice_index_or, bit_and, bit_or, refl, sym, ap, subst, inl, inr, arith}
use Rattle.std.proofs.lemmas.Bool.{cases_lt, cases_Bool}
use Rattle.std.proofs.lemmas.Bool.Decides.{nat_tests}
use Rattle.std.proofs.lemmas.Nat.{or_lt, and_le_l}
use Rattle.std.proofs.lemmas.Nat.Bits.{bit_at_above}
use Rattle.std.proofs.Math.Pow.{pow-lt}
use Rattle.std.specs.List.{AllByRecursion, slice_get}
use Rattle.pin_matrix.specs.Pins.{IsWrite}
use Rattle.dreq_pacing.specs.declared.due.Due.{Due}
use Rattle.dreq_pacing.specs.declared.line.LineAct.{LineAct}
use Rattle.dreq_pacing.specs.declared.line.LineAct.TheVariants.{Pin, Tx, Rx, Feed, Drain, Enable, Disable, Restart}
use Rattle.dreq_pacing.specs.declared.line.Line.{Line}
use Rattle.dreq_pacing.specs.Due.{quiet, with_act, with_lines}
use Rattle.dreq_pacing.specs.Lines.{IsAct, IsLine, IsSchedule, lines_in}
use Rattle.dreq_pacing.specs.Runs.{level_by, later_level, last_level, is_set, level_bit}
use Rattle.dreq_pacing.specs.Transfers.{Paced, begun_by, begun}
use Rattle.block_shares.specs.Acts.{has}
use Rattle.block_isolation.specs.Isolation.{names, own_lines}
use Rattle.block_isolation.proofs.Bits.{by_test}
use Rattle.block_isolation.proofs.Premises.{LineLaws}

-- two lists have the same at a place
pub same_at : {X : Type 0} (xs ys : List X) (m : ℕ) (d : X) → slice_get xs m ≡ slice_get ys m → slice_index_or xs m d ≡ slice_index_or ys m d
same_at [] [] m d h = refl
same_at [] (y ∷ ys) zero d h = cc
same_at [] (y ∷ ys) (suc m) d h = same_at [] ys m d h
same_at (x ∷ xs) [] zero d h = cc
same_at (x ∷ xs) [] (suc m) d h = same_at xs [] m d h
same_at (x ∷ xs) (y ∷ ys) zero d h = cc
same_at (x ∷ xs) (y ∷ ys) (suc m) d h = same_at xs ys m d h

-- so they have after the same was set in both
both_set : {X : Type 0} (xs ys : List X) (m k : ℕ) (v : X) → slice_get xs m ≡ slice_get ys m → slice_get (slice_set xs k v) m ≡ slice_get (slice_set ys k v) m
both_set [] [] m k v h = refl
both_set [] (y ∷ ys) zero k v h = cc
both_set [] (y ∷ ys) (suc m) zero v h = h
both_set [] (y ∷ ys) (suc m) (suc k) v h = both_set [] ys m k v h
both_set (x ∷ xs) [] zero k v h = cc
both_set (x ∷ xs) [] (suc m) zero v h = h
both_set (x ∷ xs) [] (suc m) (suc k) v h = both_set xs [] m k v h
both_set (x ∷ xs) (y ∷ ys) zero zero v h = refl
both_set (x ∷ xs) (y ∷ ys) zero (suc k) v h = h
both_set (x ∷ xs) (y ∷ ys) (suc m) zero v h = h
both_set (x ∷ xs) (y ∷ ys) (suc m) (suc k) v h = both_set xs ys m k v h

-- another place stays
other_set : {X : Type 0} (xs : List X) (m k : ℕ) (v : X) → k ≢ m → slice_get (slice_set xs k v) m ≡ slice_get xs m
other_set [] m k v h = refl
other_set (x ∷ xs) zero zero v h = absurd (h refl)
other_set (x ∷ xs) zero (suc k) v h = refl
other_set (x ∷ xs) (suc m) zero v h = refl
other_set (x ∷ xs) (suc m) (suc k) v h = other_set xs m k v (λ e. h (ap suc e))

-- what lines do to the machine is the same
pub record SameLines (m : ℕ) (d e : Due) : Type 0 where
  pub word : slice_get d.word m ≡ slice_get e.word m
  pub read : slice_get d.read m ≡ slice_get e.read m
  pub enable : slice_get d.enable m ≡ slice_get e.enable m
  pub disable : slice_get d.disable m ≡ slice_get e.disable m
  pub restart : slice_get d.restart m ≡ slice_get e.restart m

both_act : (m : ℕ) (a : LineAct) (d e : Due) → SameLines m d e → SameLines m (with_act a d) (with_act a e)
both_act m (Pin pin level) d e h = record { word = h.word; read = h.read; enable = h.enable; disable = h.disable; restart = h.restart }
both_act m (Tx k w) d e h = record { word = both_set d.word e.word m k (Some w) h.word; read = h.read; enable = h.enable; disable = h.disable; restart = h.restart }
both_act m (Rx k) d e h = record { word = h.word; read = both_set d.read e.read m k true h.read; enable = h.enable; disable = h.disable; restart = h.restart }
both_act m (Feed k every words) d e h = h
both_act m (Drain k every) d e h = h
both_act m (Enable k) d e h = record { word = h.word; read = h.read; enable = both_set d.enable e.enable m k true h.enable; disable = h.disable; restart = h.restart }
both_act m (Disable k) d e h = record { word = h.word; read = h.read; enable = h.enable; disable = both_set d.disable e.disable m k true h.disable; restart = h.restart }
both_act m (Restart k) d e h = record { word = h.word; read = h.read; enable = h.enable; disable = h.disable; restart = both_set d.restart e.restart m k true h.restart }

unequal : (k m : ℕ) → (k == m) ≡ false → k ≢ m
unequal k m h e = let t : (k == m) ≡ true = grind (arith, nat_tests) in cc

other_act : (m reads : ℕ) (a : LineAct) (d e : Due) → names m reads a ≡ false → SameLines m d e → SameLines m (with_act a d) e
other_act m reads (Pin pin level) d e n h = record { word = h.word; read = h.read; enable = h.enable; disable = h.disable; restart = h.restart }
other_act m reads (Tx k w) d e n h = record { word = other_set d.word m k (Some w) (unequal k m n) ∙ h.word; read = h.read; enable = h.enable; disable = h.disable; restart = h.restart }
other_act m reads (Rx k) d e n h = record { word = h.word; read = other_set d.read m k true (unequal k m n) ∙ h.read; enable = h.enable; disable = h.disable; restart = h.restart }
other_act m reads (Feed k every words) d e n h = h
other_act m reads (Drain k every) d e n h = h
other_act m reads (Enable k) d e n h = record { word = h.word; read = h.read; enable = other_set d.enable m k true (unequal k m n) ∙ h.enable; disable = h.disable; restart = h.restart }
other_act m reads (Disable k) d e n h = record { word = h.word; read = h.read; enable = h.enable; disable = other_set d.disable m k true (unequal k m n) ∙ h.disable; restart = h.restart }
other_act m reads (Restart k) d e n h = record { word = h.word; read = h.read; enable = h.enable; disable = h.disable; restart = other_set d.restart m k true (unequal k m n) ∙ h.restart }

-- A fact of the lines of a clock and of the own ones among them, line by line.
by_lines : (m reads c : ℕ) (P : List Line → List Line → Type 0)
    → P [] []
    → ((l : Line) (xs ys : List Line) → names m reads l.act ≡ true → P xs ys → P (l ∷ xs) (l ∷ ys))
    → ((l : Line) (xs ys : List Line) → names m reads l.act ≡ false → P xs ys → P (l ∷ xs) ys)
    → (ls : List Line) → P (lines_in c ls) (lines_in c (own_lines m reads ls))
by_lines m reads c P none own other [] = none
by_lines m reads c P none own other (l ∷ ls) =
    let rest = by_lines m reads c P none own other ls in
    let xs = lines_in c ls in
    let ys = own_lines m reads ls in
    by_test (λ n. P (cond (l.clock == c) (l ∷ xs) xs) (lines_in c (cond n (l ∷ ys) ys))) (names m reads l.act)
    (λ named. by_test (λ b. P (cond b (l ∷ xs) xs) (cond b (l ∷ lines_in c ys) (lines_in c ys))) (l.clock == c) (λ here. own l xs (lines_in c ys) named rest) (λ not_here. rest))
    (λ unnamed. by_test (λ b. P (cond b (l ∷ xs) xs) (lines_in c ys)) (l.clock == c) (λ here. other l xs (lines_in c ys) unnamed rest) (λ not_here. rest))

-- what the lines of a clock do to the machine
lines_same : (m reads c : ℕ) (ls : List Line) (d e : Due) → SameLines m d e → SameLines m (with_lines (lines_in c ls) d) (with_lines (lines_in c (own_lines m reads ls)) e)
lines_same m reads c ls =
    by_lines m reads c (λ xs ys. (d e : Due) → SameLines m d e → SameLines m (with_lines xs d) (with_lines ys e))
    (λ d e h. h)
    (λ l xs ys n rest d e h. rest (with_act l.act d) (with_act l.act e) (both_act m l.act d e h))
    (λ l xs ys n rest d e h. rest (with_act l.act d) e (other_act m reads l.act d e n h)) ls

same_self : (m : ℕ) (d : Due) → SameLines m d d
same_self m d = record { word = refl; read = refl; enable = refl; disable = refl; restart = refl }

same_join : (m : ℕ) (c d e : Due) → SameLines m c e → SameLines m d e → SameLines m c d
same_join m c d e h k = record {
  word = h.word ∙ sym k.word;
  read = h.read ∙ sym k.read;
  enable = h.enable ∙ sym k.enable;
  disable = h.disable ∙ sym k.disable;
  restart = h.restart ∙ sym k.restart;
}

-- two schedules with the same own lines
pub both_lines : (m reads c : ℕ) (ls ks : List Line) → own_lines m reads ls ≡ own_lines m reads ks → SameLines m (with_lines (lines_in c ls) quiet) (with_lines (lines_in c ks) quiet)
both_lines m reads c ls ks same =
    let one : SameLines m (with_lines (lines_in c ls) quiet) (with_lines (lines_in c (own_lines m reads ks)) quiet) =
    subst (λ (own : List Line). SameLines m (with_lines (lines_in c ls) quiet) (with_lines (lines_in c own) quiet)) same (lines_same m reads c ls quiet quiet (same_self m quiet)) in
    same_join m (with_lines (lines_in c ls) quiet) (with_lines (lines_in c ks) quiet) (with_lines (lines_in c (own_lines m reads ks)) quiet) one (lines_same m reads c ks quiet quiet (same_self m quiet))

-- a transfer begins by own lines alone
begun_other : (m reads c : ℕ) (a : LineAct) (p : Paced) → names m reads a ≡ false → begun_by m c a p ≡ p
begun_other m reads c (Pin pin level) p n = refl
begun_other m reads c (Tx k w) p n = refl
begun_other m reads c (Rx k) p n = refl
begun_other m reads c (Feed k every words) p n = rw n refl
begun_other m reads c (Drain k every) p n = rw n refl
begun_other m reads c (Enable k) p n = refl
begun_other m reads c (Disable k) p n = refl
begun_other m reads c (Restart k) p n = refl

begun_own : (m reads c : ℕ) (ls : List Line) (p : Paced) → begun m (lines_in c ls) p ≡ begun m (lines_in c (own_lines m reads ls)) p
begun_own m reads c ls =
    by_lines m reads c (λ xs ys. (p : Paced) → begun m xs p ≡ begun m ys p)
    (λ p. refl)
    (λ l xs ys n rest p. rest (begun_by m l.clock l.act p))
    (λ l xs ys n rest p. ap (begun m xs) (begun_other m reads l.clock l.act p n) ∙ rest p) ls

pub both_begun : (m reads c : ℕ) (ls ks : List Line) (p : Paced) → own_lines m reads ls ≡ own_lines m reads ks → begun m (lines_in c ls) p ≡ begun m (lines_in c ks) p
both_begun m reads c ls ks p same =
    begun_own m reads c ls p ∙ (ap (λ (own : List Line). begun m (lines_in c own) p) same ∙ sym (begun_own m reads c ks p))

-- the level of a pin that the machine reads is set by own lines alone
later_none : (x : Option Bool) → later_level None x ≡ x
later_none None = refl
later_none (Some l) = refl

level_other : (m reads p : ℕ) (a : LineAct) → has reads p ≡ true → names m reads a ≡ false → level_by p a ≡ None
level_other m reads p (Pin pin level) own n =
    let off : (pin == p) ≡ false = elim (cases_Bool (pin == p)) [
      | inl e ↦ absurd (let same : pin ≡ p = grind (arith, nat_tests) in let up : has reads pin ≡ true = ap (λ (i : ℕ). has reads i) same ∙ own in cc)
      | inr e ↦ e
    ] in rw off refl
level_other m reads p (Tx k w) own n = refl
level_other m reads p (Rx k) own n = refl
level_other m reads p (Feed k every words) own n = refl
level_other m reads p (Drain k every) own n = refl
level_other m reads p (Enable k) own n = refl
level_other m reads p (Disable k) own n = refl
level_other m reads p (Restart k) own n = refl

level_own : (m reads p c : ℕ) (ls : List Line) → has reads p ≡ true → last_level p (lines_in c ls) ≡ last_level p (lines_in c (own_lines m reads ls))
level_own m reads p c ls own =
    by_lines m reads c (λ xs ys. last_level p xs ≡ last_level p ys)
    refl
    (λ l xs ys n rest. ap (later_level (level_by p l.act)) rest)
    (λ l xs ys n rest. ap (λ (x : Option Bool). later_level x (last_level p xs)) (level_other m reads p l.act own n) ∙ (later_none (last_level p xs) ∙ rest)) ls

pub both_levels : (m reads p c : ℕ) (ls ks : List Line) → has reads p ≡ true → own_lines m reads ls ≡ own_lines m reads ks → last_level p (lines_in c ls) ≡ last_level p (lines_in c ks)
both_levels m reads p c ls ks own same =
    level_own m reads p c ls own ∙ (ap (λ (xs : List Line). last_level p (lines_in c xs)) same ∙ sym (level_own m reads p c ks own))

-- the lines of a schedule are in their ranges
pub all_lines : (ls : List Line) → IsSchedule ls → AllByRecursion IsLine ls
all_lines [] h = tt
all_lines (l ∷ ls) h = (h.0, all_lines ls h.2)

some_lines : (c : ℕ) (ls : List Line) → AllByRecursion IsLine ls → AllByRecursion IsLine (lines_in c ls)
some_lines c [] h = tt
some_lines c (l ∷ ls) h =
    elim (l.clock == c) as (λ b. AllByRecursion IsLine (cond b (l ∷ lines_in c ls) (lines_in c ls))) [ true ↦ (h.0, some_lines c ls h.1) | false ↦ some_lines c ls h.1 ]

pub clock_lines : (c : ℕ) (ls : List Line) → IsSchedule ls → AllByRecursion IsLine (lines_in c ls)
clock_lines c ls h = some_lines c ls (all_lines ls h)

-- what lines set are writes of pins
record AreWords (d : Due) : Type 0 where
  pins : d.pins < 2 ^ 32
  values : d.values < 2 ^ 32

values_if : (b : Bool) (x y : ℕ) → x < 2 ^ 32 → y < 2 ^ 32 → cond b x y < 2 ^ 32
values_if true x y h k = h
values_if false x y h k = k

words_act : (a : LineAct) (d : Due) → IsAct a → AreWords d → AreWords (with_act a d)
words_act (Pin pin level) d inside h =
    let one : 2 ^ pin < 2 ^ 32 = pow-lt inside in
    record {
      pins = or_lt 32 d.pins (2 ^ pin) h.pins one;
      values = values_if level (bit_or d.values (2 ^ pin)) (bit_and d.values (2 ^ 32 - 1 - 2 ^ pin)) (or_lt 32 d.values (2 ^ pin) h.values one)
          (let less = and_le_l d.values (2 ^ 32 - 1 - 2 ^ pin) in let most : d.values < 2 ^ 32 = h.values in omega (arith, less, most));
    }
words_act (Tx k w) d inside h = record { pins = h.pins; values = h.values }
words_act (Rx k) d inside h = record { pins = h.pins; values = h.values }
words_act (Feed k every words) d inside h = h
words_act (Drain k every) d inside h = h
words_act (Enable k) d inside h = record { pins = h.pins; values = h.values }
words_act (Disable k) d inside h = record { pins = h.pins; values = h.values }
words_act (Restart k) d inside h = record { pins = h.pins; values = h.values }

words_lines : (ls : List Line) (d : Due) → AllByRecursion IsLine ls → AreWords d → AreWords (with_lines ls d)
words_lines [] d h k = k
words_lines (l ∷ ls) d h k = words_lines ls (with_act l.act d) h.1 (words_act l.act d h.0.act k)

level_bit-le : (x : Option Bool) → level_bit x ≤ is_set x
level_bit-le None = omega arith
level_bit-le (Some true) = omega arith
level_bit-le (Some false) = omega arith

pub lines_write : LineLaws → (ls : List Line) → AllByRecursion IsLine ls → IsWrite ((with_lines ls quiet).pins, (with_lines ls quiet).values)
lines_write laws ls h =
    let words = words_lines ls quiet h (record { pins = omega arith; values = omega arith }) in
    record {
      pins = words.pins;
      bits = words.values;
      within = λ p. elim (cases_lt p 32) [
        | inl inside ↦ rw (laws.level ls p h inside, laws.set ls p h inside) (level_bit-le (last_level p ls))
        | inr outside ↦ let none = bit_at_above (with_lines ls quiet).values 32 p words.values outside in omega (arith, none)
      ];
    }
