-- Frames as levels come one by one.
use Rattle.std.proofs.Common.{◌≡◌, ℕ, zero, suc, ◌+◌, ◌-◌, ◌<◌, ◌≤◌, Bool, true, false, cond, leb, ltb, List, [], ◌∷◌, ◌++◌, length, refl, sym, ap, ◌∙◌, arith, append_assoc, length-append, replicate}
use Rattle.std.specs.Prelude.{◌&&◌}
use Rattle.std.proofs.lemmas.List.{length-replicate, replicate-append-replicate}
use Rattle.std.proofs.lemmas.Bool.Decides.{nat_tests}
use Rattle.serial_receiver.specs.declared.frame.Frame.{Frame}
use Rattle.serial_receiver.specs.Frames.{falls, frame_at, frames_from, level_in, middle}
use Rattle.serial_receiver.specs.Hearing.{level_after}
use Rattle.serial_receiver.proofs.Levels.{level_after-append, level_after-replicate}

le_true : (a b : ℕ) → a ≤ b → leb a b ≡ true
le_true a b h = grind (arith, nat_tests)

le_false : (a b : ℕ) → b < a → leb a b ≡ false
le_false a b h = grind (arith, nat_tests)

lt_true : (a b : ℕ) → a < b → ltb a b ≡ true
lt_true a b h = grind (arith, nat_tests)

lt_false : (a b : ℕ) → b ≤ a → ltb a b ≡ false
lt_false a b h = grind (arith, nat_tests)

both_pass : (a b f : Bool) (x y z : List Frame) → a ≡ true → b ≡ true → y ≡ z → cond (a && f) x y ≡ cond (b && f) x z
both_pass true true f x y z p q e = ap (cond f x) e
both_pass true false f x y z p q e = cc
both_pass false b f x y z p q e = cc

none_passes : (a f : Bool) (x y : List Frame) → a ≡ false → cond (a && f) x y ≡ y
none_passes true f x y p = cc
none_passes false f x y p = refl

-- once its first clock has passed, a frame may begin at any clock
pub from_passed : (bit from clock : ℕ) (before : Bool) (levels : List Bool) → from ≤ clock → frames_from bit from clock before levels ≡ frames_from bit 0 clock before levels
unfolding frames_from
from_passed bit from clock before [] h = refl
from_passed bit from clock before (level ∷ rest) h =
    both_pass (leb from clock) (leb 0 clock) (falls before level) _ _ _ (le_true from clock h) (le_true 0 clock (omega arith))
    (from_passed bit from (clock + 1) level rest (omega arith))

-- before that, none begins
pub before_from : (bit from clock : ℕ) (before : Bool) (xs ys : List Bool) → clock + length xs ≤ from
    → frames_from bit from clock before (xs ++ ys) ≡ frames_from bit from (clock + length xs) (level_after before xs) ys
unfolding frames_from
before_from bit from clock before [] ys h = ap (λ c. frames_from bit from c before ys) (let e : clock ≡ clock + 0 = omega arith in e)
before_from bit from clock before (x ∷ xs) ys h =
    none_passes (leb from clock) (falls before x) _ _ (le_false from clock (omega arith))
    ∙ before_from bit from (clock + 1) x xs ys (omega arith)
    ∙ ap (λ c. frames_from bit from c (level_after x xs) ys) (let e : clock + 1 + length xs ≡ clock + suc (length xs) = omega arith in e)

passes_false : (a f : Bool) (x y : List Frame) → f ≡ false → cond (a && f) x y ≡ y
passes_false true f x y p = ap (λ b. cond b x y) p
passes_false false f x y p = refl

-- where the level doesn't fall, none begins
pub no_fall : (bit clock : ℕ) (before level : Bool) (rest : List Bool) → falls before level ≡ false → frames_from bit 0 clock before (level ∷ rest) ≡ frames_from bit 0 (clock + 1) level rest
unfolding frames_from
no_fall bit clock before level rest h = passes_false (leb 0 clock) (falls before level) _ _ h

same_level : (v : Bool) → falls v v ≡ false
same_level true = refl
same_level false = refl

pub level_stays : (bit clock : ℕ) (v : Bool) (n : ℕ) (rest : List Bool) → frames_from bit 0 clock v (replicate n v ++ rest) ≡ frames_from bit 0 (clock + n) v rest
level_stays bit clock v zero rest = ap (λ c. frames_from bit 0 c v rest) (let e : clock ≡ clock + 0 = omega arith in e)
level_stays bit clock v (suc n) rest =
    no_fall bit clock v v (replicate n v ++ rest) (same_level v) ∙ level_stays bit (clock + 1) v n rest
    ∙ ap (λ c. frames_from bit 0 c v rest) (let e : clock + 1 + n ≡ clock + suc n = omega arith in e)

two_tests : (a b : Bool) (x y z : List Frame) → a ≡ true → b ≡ true → cond (a && true) (cond b x y) z ≡ x
two_tests true true x y z p q = refl
two_tests true false x y z p q = cc
two_tests false b x y z p q = cc

first_test : (a b : Bool) (x y z : List Frame) → a ≡ true → b ≡ false → cond (a && true) (cond b x y) z ≡ y
first_test true false x y z p q = refl
first_test true true x y z p q = cc
first_test false b x y z p q = cc

-- a frame begins with a fall, and is given where its stop bit is among the levels
pub given : (bit s : ℕ) (after : List Bool) → middle bit 8 < length (false ∷ after)
    → frames_from bit 0 s true (false ∷ after) ≡ frame_at (level_in (false ∷ after)) bit s ∷ frames_from bit (s + middle bit 8 + 1) (s + 1) false after
unfolding frames_from
given bit s after h = two_tests (leb 0 s) (ltb (middle bit 8) (length (false ∷ after))) _ _ _ (le_true 0 s (omega arith)) (lt_true (middle bit 8) (length (false ∷ after)) h)

-- else none is given
pub not_given : (bit s : ℕ) (after : List Bool) → length (false ∷ after) ≤ middle bit 8 → frames_from bit 0 s true (false ∷ after) ≡ []
unfolding frames_from
not_given bit s after h = first_test (leb 0 s) (ltb (middle bit 8) (length (false ∷ after))) _ _ _ (le_true 0 s (omega arith)) (lt_false (middle bit 8) (length (false ∷ after)) h)

-- after a frame whose stop bit is in a level that stays, the next one is looked for in the levels after that
pub after_stop : (bit s : ℕ) (seen : List Bool) (m : ℕ) (v : Bool) (rest : List Bool) → suc (length seen) ≤ middle bit 8 → middle bit 8 < suc (length seen) + m
    → frames_from bit (s + middle bit 8 + 1) (s + 1) false (seen ++ (replicate m v ++ rest)) ≡ frames_from bit 0 (s + suc (length seen) + m) v rest
after_stop bit s seen m v rest begun ended =
    let stop = middle bit 8 in
    let i = stop - length seen - 1 in
    let k = m - suc i in
    let split : m ≡ suc i + k = omega arith in
    let front : List Bool = seen ++ replicate (suc i) v in
    let long : length front ≡ stop = omega (arith, length-append seen (replicate (suc i) v), length-replicate i v) in
    let same : seen ++ (replicate m v ++ rest) ≡ front ++ (replicate k v ++ rest) =
    ap (λ n. seen ++ (replicate n v ++ rest)) split
    ∙ ap (λ x. seen ++ (x ++ rest)) (sym (replicate-append-replicate (suc i) k v))
    ∙ ap (λ x. seen ++ x) (append_assoc (replicate (suc i) v) (replicate k v) rest)
    ∙ sym (append_assoc seen (replicate (suc i) v) (replicate k v ++ rest)) in
    let last : level_after false front ≡ v = level_after-append false seen (replicate (suc i) v) ∙ level_after-replicate (level_after false seen) v i in
    ap (frames_from bit (s + stop + 1) (s + 1) false) same
    ∙ before_from bit (s + stop + 1) (s + 1) false front (replicate k v ++ rest) (omega arith)
    ∙ ap (λ x. frames_from bit (s + stop + 1) (s + 1 + length front) x (replicate k v ++ rest)) last
    ∙ from_passed bit (s + stop + 1) (s + 1 + length front) v (replicate k v ++ rest) (omega arith)
    ∙ level_stays bit (s + 1 + length front) v k rest
    ∙ ap (λ c. frames_from bit 0 c v rest) (let e : s + 1 + length front + k ≡ s + suc (length seen) + m = omega arith in e)
