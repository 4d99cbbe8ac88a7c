-- Levels in a row, and the middles of bits.
use Rattle.std.proofs.Common.{◌≡◌, ℕ, zero, suc, ◌+◌, ◌-◌, ◌/◌, ◌^◌, ◌<◌, ◌≤◌, Bool, false, List, [], ◌∷◌, ◌++◌, length, refl, ap, ◌∙◌, arith, replicate, get_or}
use Rattle.std.proofs.lemmas.List.{length-replicate, get_or-replicate, get_or-append-add, get_or_append_left}
use Rattle.serial_receiver.specs.Frames.{level_in, middle}
use Rattle.serial_receiver.specs.Hearing.{Stays, level_after}

-- a later bit has a later middle
pub middle-suc : (bit i : ℕ) → middle bit (suc i) ≡ middle bit i + bit
middle-suc bit i = grind arith

pub middle-least : (bit i : ℕ) → bit / 2 + bit ≤ middle bit i
middle-least bit i = grind arith

pub middle-most : (bit i : ℕ) → i ≤ 8 → middle bit i ≤ middle bit 8
middle-most bit i h = grind arith

pub middle-small : (bit i : ℕ) → bit < 65536 → i ≤ 8 → middle bit i < 2 ^ 20
middle-small bit i b h = let m = middle-most bit i h in omega arith

-- the last level of two rows
pub level_after-append : (before : Bool) (xs ys : List Bool) → level_after before (xs ++ ys) ≡ level_after (level_after before xs) ys
level_after-append before [] ys = refl
level_after-append before (x ∷ xs) ys = level_after-append x xs ys

pub level_after-replicate : (before v : Bool) (n : ℕ) → level_after before (replicate (suc n) v) ≡ v
level_after-replicate before v zero = refl
level_after-replicate before v (suc n) = level_after-replicate v v n

-- a level that stays is the last
pub level_after-same : (v : Bool) (n : ℕ) → level_after v (replicate n v) ≡ v
level_after-same v zero = refl
level_after-same v (suc n) = level_after-same v n

-- levels that stay, seen from the fall on
pub stays : (first : Bool) (seen : List Bool) (m : ℕ) (v : Bool) (rest : List Bool) → Stays (level_in (first ∷ (seen ++ (replicate m v ++ rest)))) (suc (length seen)) (suc (length seen) + m) v
stays first seen m v rest = λ p low high.
    let k = p - suc (length seen) in
    let at : p ≡ length (first ∷ seen) + k = omega arith in
    let short : k < length (replicate m v) = omega (arith, length-replicate m v) in
    ap (λ q. get_or (first ∷ (seen ++ (replicate m v ++ rest))) q false) at
    ∙ get_or-append-add (first ∷ seen) (replicate m v ++ rest) k false
    ∙ get_or_append_left (replicate m v) rest false k short
    ∙ get_or-replicate m k v false (omega arith)
