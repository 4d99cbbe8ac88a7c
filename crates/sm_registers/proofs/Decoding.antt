-- The words of readings, of which one is replaced, and what is known of each.
use Rattle.std.proofs.Common.{◌≡◌, None, ℕ, zero, suc, ◌+◌, ◌<◌, List, [], ◌∷◌, map, length, slice_index, slice_index_or, slice_set, refl, sym, ap, replicate, subst, ◌∙◌, arith}
use Rattle.pio_encode.specs.declared.act.Act.TheVariants.{Nothing}
use Rattle.pin_matrix.specs.declared.machine.MachineSetup.{MachineSetup}
use Rattle.sm_registers.specs.declared.decoded.Reading.{Reading}
use Rattle.sm_registers.specs.declared.plan.Plan.TheVariants.{Whole}
use Rattle.sm_registers.specs.declared.plan.Side.TheVariants as side
use Rattle.sm_registers.specs.Decoding.{AreReadings, IsReading}

pub word_set : (readings : List Reading) (address : ℕ) (r : Reading) → address < length readings → slice_index (map (λ (r : Reading). r.word) (slice_set readings address r)) address ≡ r.word
word_set [] address r lt = absurd (let e : ⊥ = omega arith in e)
word_set (q ∷ rest) zero r lt = refl
word_set (q ∷ rest) (suc address) r lt = word_set rest address r (omega arith)

-- all of them after one is replaced, and each by its place
pub readings_set : (s : MachineSetup) (from place : ℕ) (readings : List Reading) (r : Reading) → AreReadings s from readings → IsReading s (from + place) r → AreReadings s from (slice_set readings place r)
unfolding AreReadings
readings_set s from place [] r h is = tt
readings_set s from zero (q ∷ rest) r h is = (subst (λ n. IsReading s n r) (omega arith) is, h.1)
readings_set s from (suc place) (q ∷ rest) r h is = (h.0, readings_set s (from + 1) place rest r h.1 (subst (λ n. IsReading s n r) (omega arith) is))

reading_from : (s : MachineSetup) (from place : ℕ) (readings : List Reading) (none : Reading) → AreReadings s from readings → place < length readings → IsReading s (from + place) (slice_index_or readings place none)
unfolding AreReadings
reading_from s from place [] none h lt = absurd (let e : ⊥ = omega arith in e)
reading_from s from zero (q ∷ rest) none h lt = subst (λ n. IsReading s n q) (omega arith) h.0
reading_from s from (suc place) (q ∷ rest) none h lt = subst (λ n. IsReading s n (slice_index_or rest place none)) (omega arith) (reading_from s (from + 1) place rest none h.1 (omega arith))

pub reading_at : (s : MachineSetup) (place : ℕ) (readings : List Reading) (none : Reading) → AreReadings s 0 readings → place < length readings → IsReading s place (slice_index_or readings place none)
reading_at s place readings none h lt =
    let same : 0 + place ≡ place = omega arith in
    subst (λ n. IsReading s n (slice_index_or readings place none)) same (reading_from s 0 place readings none h lt)

pub reading_in : (s t : MachineSetup) (found place : ℕ) (readings : List Reading) (none : Reading) → s ≡ t → found ≡ place → AreReadings s 0 readings → found < length readings → IsReading t place (slice_index_or readings found none)
reading_in s t found place readings none same here h lt =
    subst (λ u. IsReading u place (slice_index_or readings found none)) same
    (subst (λ n. IsReading s n (slice_index_or readings found none)) here (reading_at s found readings none h lt))

-- all of them are, where each is by its place
pub all_read : (s : MachineSetup) (from : ℕ) (readings : List Reading) (none : Reading) → ((place : ℕ) → place < length readings → IsReading s (from + place) (slice_index_or readings place none)) → AreReadings s from readings
unfolding AreReadings
all_read s from [] none h = tt
all_read s from (q ∷ rest) none h = (
  subst (λ n. IsReading s n q) (omega arith) (h 0 (omega arith)),
  all_read s (from + 1) rest none (λ place lt. subst (λ n. IsReading s n (slice_index_or rest place none)) (omega arith) (h (suc place) (omega arith))),
)

-- and all words are 0, where each is
pub all_words : (readings : List Reading) (none : Reading) → ((place : ℕ) → place < length readings → (slice_index_or readings place none).word ≡ 0) → map (λ (r : Reading). r.word) readings ≡ replicate (length readings) 0
all_words [] none h = refl
all_words (q ∷ rest) none h = rw (h 0 (omega arith), all_words rest none (λ place lt. h (suc place) (omega arith))) refl

-- some reading, to be named where a list has none
abbrev pub some_reading : Reading
some_reading = record {
  word = 0;
  op = record { side = None; delay = 0; act = Nothing };
  plan = Whole;
  side = side.Nothing;
  next = 0;
}

-- what holds of each but one, and of what that one is replaced by, holds of each
set_holds :
    (P : ℕ → Reading → Type 0) (readings : List Reading) (n : ℕ) (r none : Reading) → n < length readings → P n r
    → ((k : ℕ) → (k ≡ n → ⊥) → P k (slice_index_or readings k none)) → (k : ℕ) → P k (slice_index_or (slice_set readings n r) k none)
set_holds P [] n r none lt p h k = absurd (let e : ⊥ = omega arith in e)
set_holds P (q ∷ rest) zero r none lt p h zero = p
set_holds P (q ∷ rest) zero r none lt p h (suc k) = h (suc k) (λ e. let f : ⊥ = omega arith in f)
set_holds P (q ∷ rest) (suc n) r none lt p h zero = h zero (λ e. let f : ⊥ = omega arith in f)
set_holds P (q ∷ rest) (suc n) r none lt p h (suc k) = set_holds (λ i. P (suc i)) rest n r none (omega arith) p (λ i ne. h (suc i) (λ e. ne (omega arith))) k

length_set : (readings : List Reading) (n : ℕ) (r : Reading) → length (slice_set readings n r) ≡ length readings
length_set [] n r = refl
length_set (q ∷ rest) zero r = refl
length_set (q ∷ rest) (suc n) r = ap suc (length_set rest n r)

-- 33 readings of the word 0, of which the first n are those at their places
pub record AreFilled (s : MachineSetup) (n : ℕ) (readings : List Reading) : Type 0 where
  pub long : length readings ≡ 33
  pub word : (place : ℕ) → (slice_index_or readings place some_reading).word ≡ 0
  pub reads : (place : ℕ) → place < n → IsReading s place (slice_index_or readings place some_reading)

copies : (n : ℕ) (r : Reading) → r.word ≡ 0 → (place : ℕ) → (slice_index_or (replicate n r) place some_reading).word ≡ 0
copies zero r h place = refl
copies (suc n) r h zero = h
copies (suc n) r h (suc place) = copies n r h place

length_copies : (n : ℕ) (r : Reading) → length (replicate n r) ≡ n
length_copies zero r = refl
length_copies (suc n) r = ap suc (length_copies n r)

first_filled : (s : MachineSetup) (r : Reading) (place : ℕ) → IsReading s 0 r → place < 1 → IsReading s place (slice_index_or (replicate 33 r) place some_reading)
first_filled s r zero is lt = is
first_filled s r (suc place) is lt = absurd (let e : ⊥ = omega arith in e)

pub fill_first : (s : MachineSetup) (r : Reading) → r.word ≡ 0 → IsReading s 0 r → AreFilled s 1 (replicate 33 r)
fill_first s r none is = record {
  long = length_copies 33 r;
  word = copies 33 r none;
  reads = λ place lt. first_filled s r place is lt;
}

pub fill_next : (s : MachineSetup) (n : ℕ) (readings : List Reading) (r : Reading) → n < 33 → r.word ≡ 0 → IsReading s n r → AreFilled s n readings → AreFilled s (n + 1) (slice_set readings n r)
fill_next s n readings r lt none is so =
    let inside : n < length readings = subst (λ m. n < m) (sym so.long) lt in record {
      long = length_set readings n r ∙ so.long;
      word = set_holds (λ k x. x.word ≡ 0) readings n r some_reading inside none (λ k ne. so.word k);
      reads = set_holds (λ k x. k < n + 1 → IsReading s k x) readings n r some_reading inside (λ below. is) (λ k ne below. so.reads k (omega (arith, ne, below)));
    }

pub filled : (s : MachineSetup) (readings : List Reading) → AreFilled s 33 readings → AreReadings s 0 readings × (map (λ (r : Reading). r.word) readings ≡ replicate 33 0)
filled s readings so = (
  all_read s 0 readings some_reading (λ place lt. subst (λ n. IsReading s n (slice_index_or readings place some_reading)) (omega arith) (so.reads place (subst (λ m. place < m) so.long lt))),
  all_words readings some_reading (λ place lt. so.word place) ∙ ap (λ m. replicate m 0) so.long,
)
