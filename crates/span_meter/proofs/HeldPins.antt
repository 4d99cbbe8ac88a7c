-- The pins after samples that are held to a clock.
use Rattle.std.proofs.Common.{◌≡◌, ℕ, zero, suc, ◌-◌, List, [], ◌∷◌, ◌++◌, length, refl, ◌∙◌, replicate}
use Rattle.block_core.specs.declared.sample.Sample.{Sample}
use Rattle.sample_trace.specs.Told.{held_to, last_of}
use Rattle.span_meter.specs.declared.pins.ShownPins.{ShownPins}
use Rattle.span_meter.specs.Measured.{pins_of, pins_after}

-- the pins after samples in a row
pub pins-append : (before : ShownPins) (xs ys : List Sample) → pins_after before (xs ++ ys) ≡ pins_after (pins_after before xs) ys
unfolding pins_after
pins-append before [] ys = refl
pins-append before (s ∷ xs) ys = pins-append (pins_of s) xs ys

-- the last sample has the pins after all
last-pins : (s : Sample) (rest : List Sample) → pins_of (last_of s rest) ≡ pins_after (pins_of s) rest
unfolding pins_after
last-pins s [] = refl
last-pins s (t ∷ rest) = last-pins t rest

pub last-pins-of : (before : ShownPins) (s : Sample) (rest : List Sample) → pins_of (last_of s rest) ≡ pins_after before (s ∷ rest)
unfolding pins_after
last-pins-of before s rest = last-pins s rest

-- a sample that is repeated leaves its pins
repeated-pins : (n : ℕ) (pins : ShownPins) (s : Sample) → pins_of s ≡ pins → pins_after pins (replicate n s) ≡ pins
unfolding pins_after
repeated-pins zero pins s e = refl
repeated-pins (suc n) pins s e = repeated-pins n (pins_of s) s refl ∙ e

pub held-pins : (before : ShownPins) (clock : ℕ) (l : List Sample) → pins_after before (held_to clock l) ≡ pins_after before l
held-pins before clock [] = refl
held-pins before clock (s ∷ rest) =
    let n = clock - length (s ∷ rest) in
    pins-append before (s ∷ rest) (replicate n (last_of s rest))
    ∙ repeated-pins n (pins_after before (s ∷ rest)) (last_of s rest) (last-pins-of before s rest)
