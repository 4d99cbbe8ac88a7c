-- More levels only add frames.
use Rattle.std.proofs.Common.{◌≡◌, ℕ, zero, suc, ◌+◌, ◌<◌, ◌≤◌, Bool, true, false, cond, leb, ltb, Option, List, [], ◌∷◌, ◌++◌, length, refl, sym, ap, ap₂, ◌∙◌, subst, arith, length-append}
use Rattle.std.specs.Prelude.{◌&&◌}
use Rattle.std.proofs.lemmas.Bool.Decides.{nat_tests}
use Rattle.std.proofs.lemmas.List.{get_or_append_left, map-append}
use Rattle.pio_edge.specs.Edge.{TakesPrefix}
use Rattle.pio_edge.proofs.PutLaws.{takes_prefix-append_l}
use Rattle.block_core.specs.declared.sample.Sample.{Sample}
use Rattle.pin_matrix.specs.Pins.{is_high}
use Rattle.serial_receiver.specs.declared.frame.Frame.{Frame}
use Rattle.serial_receiver.specs.Frames.{bit_value, bits_read, falls, frame_at, frames, frames_from, level_in, levels_of, middle}
use Rattle.serial_receiver.specs.FrameText.{frames_text}
use Rattle.serial_receiver.proofs.Levels.{middle-most}
use Rattle.serial_receiver.proofs.Texts.{frames_text-append}

-- the levels up to a frame's stop bit are the same
abbrev SameUpTo : (a b : ℕ → Bool) → ℕ → Type 0
SameUpTo a b last = (p : ℕ) → p ≤ last → a p ≡ b p

same_bits : (a b : ℕ → Bool) (bit count : ℕ) → count ≤ 9 → SameUpTo a b (middle bit 8) → bits_read a bit count ≡ bits_read b bit count
same_bits a b bit zero few same = refl
same_bits a b bit (suc i) few same =
    ap₂ (λ x y. x + y) (same_bits a b bit i (omega arith) same)
    (ap (λ v. bit_value v i) (same (middle bit i) (middle-most bit i (omega arith))))

-- so it is the same frame
same_frame : (a b : ℕ → Bool) (bit clock : ℕ) → SameUpTo a b (middle bit 8) → frame_at a bit clock ≡ frame_at b bit clock
unfolding frame_at
same_frame a b bit clock same =
    let of : ℕ → Bool → Frame = λ byte good. record { start = clock; byte = byte; good = good } in
    ap₂ of (same_bits a b bit 8 (omega arith) same) (same (middle bit 8) (omega arith))

-- these frames, and then some more
abbrev Grows : List Frame → List Frame → Type 0
Grows short long = (later : List Frame) × (long ≡ short ++ later)

-- a frame that is given, and those after it; or none
grows_where : (begins ends still : Bool) (f g : Frame) (after further other another : List Frame) → (ends ≡ true → still ≡ true) → (ends ≡ true → g ≡ f)
    → Grows after further → Grows other another
    → Grows (cond begins (cond ends (f ∷ after) []) other) (cond begins (cond still (g ∷ further) []) another)
grows_where false ends still f g after further other another more same h k = k
grows_where true true true f g after further other another more same h k =
    (h.0, ap₂ (λ x xs. x ∷ xs) (same refl) h.1)
grows_where true true false f g after further other another more same h k = let e = more refl in cc
grows_where true false still f g after further other another more same h k = (cond still (g ∷ further) [], refl)

longer : (n a b : ℕ) → a ≤ b → ltb n a ≡ true → ltb n b ≡ true
longer n a b h e = grind (arith, nat_tests)

within : (n a : ℕ) → ltb n a ≡ true → n < a
within n a e = grind (arith, nat_tests)

frames-grow : (bit from clock : ℕ) (before : Bool) (levels more : List Bool)
    → Grows (frames_from bit from clock before levels) (frames_from bit from clock before (levels ++ more))
unfolding frames_from
frames-grow bit from clock before [] more = (frames_from bit from clock before more, refl)
frames-grow bit from clock before (level ∷ rest) more =
    let now : List Bool = level ∷ rest in
    let long : length now ≤ length (now ++ more) = omega (arith, length-append now more) in
    grows_where (leb from clock && falls before level) (ltb (middle bit 8) (length now)) (ltb (middle bit 8) (length (now ++ more)))
    (frame_at (level_in now) bit clock) (frame_at (level_in (now ++ more)) bit clock) _ _ _ _
    (longer (middle bit 8) (length now) (length (now ++ more)) long)
    (λ e. let stop = within (middle bit 8) (length now) e in
    same_frame (level_in (now ++ more)) (level_in now) bit clock (λ p low. get_or_append_left now more false p (omega arith)))
    (frames-grow bit (clock + middle bit 8 + 1) (clock + 1) level rest more)
    (frames-grow bit from (clock + 1) level rest more)

-- so a first part of their text is one of the text of more
pub first_part : (pin bit : ℕ) (level : Bool) (before now : Option (List ℕ)) (told more : List Sample)
    → TakesPrefix before (frames_text (frames bit level (levels_of pin told))) now
    → TakesPrefix before (frames_text (frames bit level (levels_of pin (told ++ more)))) now
first_part pin bit level before now told more h =
    let grown = frames-grow bit 0 0 level (levels_of pin told) (levels_of pin more) in
    let all : frames bit level (levels_of pin (told ++ more)) ≡ frames bit level (levels_of pin told) ++ grown.0 =
    ap (frames bit level) (map-append (λ (x : Sample). is_high x.level pin) told more) ∙ grown.1 in
    let text : frames_text (frames bit level (levels_of pin told)) ++ frames_text grown.0 ≡ frames_text (frames bit level (levels_of pin (told ++ more))) =
    sym (frames_text-append (frames bit level (levels_of pin told)) grown.0) ∙ ap frames_text (sym all) in
    let P : List ℕ → Type 0 = λ x. TakesPrefix before x now in
    subst P text (takes_prefix-append_l before now (frames_text (frames bit level (levels_of pin told))) (frames_text grown.0) h)
