-- The text that a sink takes as frames end.
use Rattle.std.proofs.Common.{◌≡◌, ℕ, zero, suc, ◌-◌, ◌≤◌, Bool, true, false, Option, Some, None, List, [], ◌∷◌, ◌++◌, length, refl, sym, ap, ◌∙◌, subst, arith, append-nil, append_assoc, length-append, replicate, Result, IsErr}
use Rattle.std.proofs.lemmas.List.{length-map, map-append, length-replicate}
use Rattle.block_core.specs.declared.sample.Sample.{Sample}
use Rattle.pio_edge.specs.Edge.{with_bytes, Takes, TakesPrefix}
use Rattle.pio_edge.proofs.PutLaws.{with_bytes-append, with_bytes-nil, takes_off, takes_on, takes_prefix-append_r}
use Rattle.sample_trace.specs.Told.{IsNext, held_to, last_of}
use Rattle.serial_receiver.specs.declared.frame.Frame.{Frame}
use Rattle.serial_receiver.specs.declared.line.LineSoFar.{LineSoFar}
use Rattle.serial_receiver.specs.declared.line.Heard.{Heard}
use Rattle.pin_matrix.specs.Pins.{is_high}
use Rattle.serial_receiver.specs.Frames.{frames, frames_from, levels_of}
use Rattle.serial_receiver.specs.FrameText.{frame_line, frames_text}
use Rattle.serial_receiver.specs.Hearing.{Brings, Hears, Receives, first_heard, frame_list, level_after, level_code, taken_code}

pub frames_text-append : (xs ys : List Frame) → frames_text (xs ++ ys) ≡ frames_text xs ++ frames_text ys
frames_text-append [] ys = refl
frames_text-append (x ∷ xs) ys = ap (λ t. frame_line x ++ t) (frames_text-append xs ys) ∙ sym (append_assoc (frame_line x) (frames_text xs) (frames_text ys))

-- the levels of the samples that are held to a clock
last-level : (pin : ℕ) (before : Bool) (s : Sample) (rest : List Sample) → level_after before (levels_of pin (s ∷ rest)) ≡ is_high (last_of s rest).level pin
last-level pin before s [] = refl
last-level pin before s (t ∷ rest) = last-level pin (is_high s.level pin) t rest

levels-replicate : (pin n : ℕ) (s : Sample) → levels_of pin (replicate n s) ≡ replicate n (is_high s.level pin)
levels-replicate pin zero s = refl
levels-replicate pin (suc n) s = ap (λ x. is_high s.level pin ∷ x) (levels-replicate pin n s)

pub levels-held : (pin clock : ℕ) (before : Bool) (told : List Sample) → IsNext told clock
    → levels_of pin (held_to clock told) ≡ levels_of pin told ++ replicate (clock - length (levels_of pin told)) (level_after before (levels_of pin told))
levels-held pin clock before [] next = ap (λ n. replicate n before) (let e : 0 ≡ clock - 0 = omega (arith, next.first refl) in e)
levels-held pin clock before (s ∷ rest) next =
    let n = clock - length (s ∷ rest) in
    map-append (λ (x : Sample). is_high x.level pin) (s ∷ rest) (replicate n (last_of s rest))
    ∙ ap (λ x. levels_of pin (s ∷ rest) ++ x) (levels-replicate pin n (last_of s rest)
    ∙ ap (λ v. replicate n v) (sym (last-level pin before s rest))
    ∙ ap (λ k. replicate (clock - k) (level_after before (levels_of pin (s ∷ rest)))) (sym (length-map (s ∷ rest) (λ (x : Sample). is_high x.level pin))))

length-held : (pin clock : ℕ) (before : Bool) (told : List Sample) → IsNext told clock
    → length (levels_of pin told ++ replicate (clock - length (levels_of pin told)) (level_after before (levels_of pin told))) ≡ clock
length-held pin clock before told next =
    let levels = levels_of pin told in
    let more = replicate (clock - length levels) (level_after before levels) in
    let same : length levels ≡ length told = length-map told (λ (x : Sample). is_high x.level pin) in
    let after : length told ≤ clock = next.after in
    omega (arith, length-append levels more, length-replicate (clock - length levels) (level_after before levels))

-- more frames are shown
receives_more : (pin bit : ℕ) (level : Bool) (taken : Option (List ℕ)) (told more : List Sample) (now next : Option (List ℕ)) (p b : ℕ) (line after : LineSoFar) (fs : List Frame)
    → Receives pin bit level taken told now p b line → frames bit level (levels_of pin more) ≡ frames bit level (levels_of pin told) ++ fs
    → next ≡ with_bytes now (frames_text fs) → Hears bit level (levels_of pin more) after → Receives pin bit level taken more next p b after
receives_more pin bit level taken told more now next p b line after fs h e t hears = record {
  own_pin = h.own_pin;
  own_bit = h.own_bit;
  text = t ∙ ap (λ x. with_bytes x (frames_text fs)) h.text ∙ with_bytes-append taken (frames_text (frames bit level (levels_of pin told))) (frames_text fs)
      ∙ ap (with_bytes taken) (sym (frames_text-append (frames bit level (levels_of pin told)) fs) ∙ ap frames_text (sym e));
  heard = hears;
}

-- a first part of them is
breaks_more : (pin bit : ℕ) (level : Bool) (taken : Option (List ℕ)) (told more : List Sample) (now next : Option (List ℕ)) (p b : ℕ) (line : LineSoFar) (fs : List Frame)
    → Receives pin bit level taken told now p b line → frames bit level (levels_of pin more) ≡ frames bit level (levels_of pin told) ++ fs
    → TakesPrefix now (frames_text fs) next → TakesPrefix taken (frames_text (frames bit level (levels_of pin more))) next
breaks_more pin bit level taken told more now next p b line fs h e t =
    let whole : frames_text (frames bit level (levels_of pin told)) ++ frames_text fs ≡ frames_text (frames bit level (levels_of pin more)) =
    sym (frames_text-append (frames bit level (levels_of pin told)) fs) ∙ ap frames_text (sym e) in
    let P : List ℕ → Type 0 = λ w. TakesPrefix taken w next in
    subst P whole (takes_prefix-append_r taken now next (frames_text (frames bit level (levels_of pin told))) (frames_text fs) h.text t)

-- What the calls on a line say: where its level holds up to a clock, and after a clock.
abbrev pub HoldsLine : (bit clock : ℕ) → LineSoFar → Heard → Type 0
HoldsLine bit clock line heard = (before : Bool) (levels : List Bool) → Hears bit before levels line → length levels ≤ clock
    → Brings bit before levels (replicate (clock - length levels) line.last) heard

abbrev pub StepsLine : (bit clock : ℕ) (level : Bool) → LineSoFar → Heard → Type 0
StepsLine bit clock level line heard = (before : Bool) (levels : List Bool) → Hears bit before levels line → length levels ≡ clock
    → Brings bit before levels (level ∷ []) heard

-- the line held to a clock
held_brings : (pin bit clock : ℕ) (level : Bool) (told : List Sample) (line : LineSoFar) (one : Heard) → IsNext told clock → Hears bit level (levels_of pin told) line → HoldsLine bit clock line one
    → Hears bit level (levels_of pin (held_to clock told)) one.line × (frames bit level (levels_of pin (held_to clock told)) ≡ frames bit level (levels_of pin told) ++ frame_list one.frame)
held_brings pin bit clock level told line one next h holds =
    let levels = levels_of pin told in
    let same : length levels ≡ length told = length-map told (λ (x : Sample). is_high x.level pin) in
    let after : length told ≤ clock = next.after in
    let brings = holds level levels h (omega arith) in
    let all : levels ++ replicate (clock - length levels) line.last ≡ levels_of pin (held_to clock told) =
    ap (λ v. levels ++ replicate (clock - length levels) v) h.last ∙ sym (levels-held pin clock level told next) in
    let P : List Bool → Type 0 = λ xs. Hears bit level xs one.line × (frames bit level xs ≡ frames bit level levels ++ frame_list one.frame) in
    subst P all (brings.state, brings.ended)

levels-push : (pin : ℕ) (told : List Sample) (s : Sample) → levels_of pin (told ++ s ∷ []) ≡ levels_of pin told ++ is_high s.level pin ∷ []
levels-push pin told s = map-append (λ (x : Sample). is_high x.level pin) told (s ∷ [])

length-levels-held : (pin clock : ℕ) (before : Bool) (told : List Sample) → IsNext told clock → length (levels_of pin (held_to clock told)) ≡ clock
length-levels-held pin clock before told next = ap length (levels-held pin clock before told next) ∙ length-held pin clock before told next

-- the line after a sample
told_brings : (pin bit clock : ℕ) (level : Bool) (told : List Sample) (s : Sample) (line : LineSoFar) (one two : Heard) → IsNext told clock → Hears bit level (levels_of pin told) line
    → HoldsLine bit clock line one → StepsLine bit clock (is_high s.level pin) one.line two
    → Hears bit level (levels_of pin (held_to clock told ++ s ∷ [])) two.line
    × (frames bit level (levels_of pin (held_to clock told ++ s ∷ [])) ≡ frames bit level (levels_of pin told) ++ (frame_list one.frame ++ frame_list two.frame))
told_brings pin bit clock level told s line one two next h holds steps =
    let held = levels_of pin (held_to clock told) in
    let first = held_brings pin bit clock level told line one next h holds in
    let brings = steps level held first.0 (length-levels-held pin clock level told next) in
    let all : held ++ is_high s.level pin ∷ [] ≡ levels_of pin (held_to clock told ++ s ∷ []) = sym (levels-push pin (held_to clock told) s) in
    let fs : List Frame = frames bit level (levels_of pin told) in
    let P : List Bool → Type 0 = λ xs. Hears bit level xs two.line × (frames bit level xs ≡ fs ++ (frame_list one.frame ++ frame_list two.frame)) in
    subst P all (brings.state, brings.ended ∙ ap (λ x. x ++ frame_list two.frame) first.1 ∙ append_assoc fs (frame_list one.frame) (frame_list two.frame))

-- a sample is shown
pub sample_receives : (pin bit clock : ℕ) (level : Bool) (taken : Option (List ℕ)) (told : List Sample) (s : Sample) (now next : Option (List ℕ)) (p b : ℕ) (line : LineSoFar) (one two : Heard)
    → IsNext told clock → Receives pin bit level taken told now p b line → HoldsLine b clock line one → StepsLine b clock (is_high s.level p) one.line two
    → next ≡ with_bytes now (frames_text (frame_list one.frame ++ frame_list two.frame)) → Receives pin bit level taken (held_to clock told ++ s ∷ []) next p b two.line
sample_receives pin bit clock level taken told s now next p b line one two at h holds steps t =
    let H : ℕ → Type 0 = λ k. HoldsLine k clock line one in
    let S : ℕ → Type 0 = λ k. StepsLine k clock (is_high s.level p) one.line two in
    let T : ℕ → Type 0 = λ k. StepsLine bit clock (is_high s.level k) one.line two in
    let both = told_brings pin bit clock level told s line one two at h.heard (subst H h.own_bit holds) (subst T h.own_pin (subst S h.own_bit steps)) in
    receives_more pin bit level taken told (held_to clock told ++ s ∷ []) now next p b line two.line (frame_list one.frame ++ frame_list two.frame) h both.1 t both.0

pub sample_breaks : (pin bit clock : ℕ) (level : Bool) (taken : Option (List ℕ)) (told : List Sample) (s : Sample) (now next : Option (List ℕ)) (p b : ℕ) (line : LineSoFar) (one two : Heard)
    → IsNext told clock → Receives pin bit level taken told now p b line → HoldsLine b clock line one → StepsLine b clock (is_high s.level p) one.line two
    → TakesPrefix now (frames_text (frame_list one.frame ++ frame_list two.frame)) next → TakesPrefix taken (frames_text (frames bit level (levels_of pin (held_to clock told ++ s ∷ [])))) next
sample_breaks pin bit clock level taken told s now next p b line one two at h holds steps t =
    let H : ℕ → Type 0 = λ k. HoldsLine k clock line one in
    let S : ℕ → Type 0 = λ k. StepsLine k clock (is_high s.level p) one.line two in
    let T : ℕ → Type 0 = λ k. StepsLine bit clock (is_high s.level k) one.line two in
    let both = told_brings pin bit clock level told s line one two at h.heard (subst H h.own_bit holds) (subst T h.own_pin (subst S h.own_bit steps)) in
    breaks_more pin bit level taken told (held_to clock told ++ s ∷ []) now next p b line (frame_list one.frame ++ frame_list two.frame) h both.1 t

-- the end is shown
pub end_receives : (pin bit clock : ℕ) (level : Bool) (taken : Option (List ℕ)) (told : List Sample) (now next : Option (List ℕ)) (p b : ℕ) (line : LineSoFar) (one : Heard)
    → IsNext told clock → Receives pin bit level taken told now p b line → HoldsLine b clock line one
    → next ≡ with_bytes now (frames_text (frame_list one.frame ++ [])) → Receives pin bit level taken (held_to clock told) next p b one.line
end_receives pin bit clock level taken told now next p b line one at h holds t =
    let H : ℕ → Type 0 = λ k. HoldsLine k clock line one in
    let both = held_brings pin bit clock level told line one at h.heard (subst H h.own_bit holds) in
    receives_more pin bit level taken told (held_to clock told) now next p b line one.line (frame_list one.frame ++ []) h
    (both.1 ∙ ap (λ x. frames bit level (levels_of pin told) ++ x) (sym (append-nil (frame_list one.frame)))) t both.0

pub end_breaks : (pin bit clock : ℕ) (level : Bool) (taken : Option (List ℕ)) (told : List Sample) (now next : Option (List ℕ)) (p b : ℕ) (line : LineSoFar) (one : Heard)
    → IsNext told clock → Receives pin bit level taken told now p b line → HoldsLine b clock line one
    → TakesPrefix now (frames_text (frame_list one.frame ++ [])) next → TakesPrefix taken (frames_text (frames bit level (levels_of pin (held_to clock told)))) next
end_breaks pin bit clock level taken told now next p b line one at h holds t =
    let H : ℕ → Type 0 = λ k. HoldsLine k clock line one in
    let both = held_brings pin bit clock level told line one at h.heard (subst H h.own_bit holds) in
    breaks_more pin bit level taken told (held_to clock told) now next p b line (frame_list one.frame ++ []) h
    (both.1 ∙ ap (λ x. frames bit level (levels_of pin told) ++ x) (sym (append-nil (frame_list one.frame)))) t

-- a pin, a bit and a level are known from what is told for them
same_level : (a b : Bool) → level_code a ≡ level_code b → a ≡ b
same_level true true h = refl
same_level false false h = refl
same_level true false h = absurd (omega arith)
same_level false true h = absurd (omega arith)

head : List ℕ → ℕ
head [] = 0
head (x ∷ xs) = x

apart : (a b : ℕ) → a ≡ b → a ≡ 0 → b ≡ 1 → ⊥
apart a b e f g = omega arith

same_taken : (a b : Option (List ℕ)) → taken_code a ≡ taken_code b → a ≡ b
unfolding head
same_taken None None h = refl
same_taken (Some a) (Some b) h = cc
same_taken None (Some b) h = absurd (apart (head (taken_code None)) (head (taken_code (Some b))) (ap head h) refl refl)
same_taken (Some a) None h = absurd (apart (head (taken_code None)) (head (taken_code (Some a))) (ap head (sym h)) refl refl)

-- a receiver before its first clock
pub begin_receives : (pin bit : ℕ) (level : Bool) (taken : Option (List ℕ)) (p b : ℕ) (first : Bool) (now : Option (List ℕ)) (line : LineSoFar)
    → first_heard p b first now ≡ first_heard pin bit level taken → Hears b first [] line → Receives pin bit level taken [] now p b line
unfolding frames_from
begin_receives pin bit level taken p b first now line h hears =
    let one : p ≡ pin = cc in
    let two : b ≡ bit = cc in
    let three : first ≡ level = same_level first level cc in
    let four : now ≡ taken = same_taken now taken cc in
    let A : ℕ → Type 0 = λ k. Hears k first [] line in
    let B : Bool → Type 0 = λ v. Hears bit v [] line in
    record {
      own_pin = one;
      own_bit = two;
      text = four ∙ sym (with_bytes-nil taken);
      heard = subst B three (subst A two hears);
    }

-- two puts of frames, one after the other
pub takes_two : {T E : Type 0} (o m n : Option (List ℕ)) (xs ys : List Frame) (r : Result T E) → m ≡ with_bytes o (frames_text xs) → Takes m (frames_text ys) n r → Takes o (frames_text (xs ++ ys)) n r
takes_two o m n xs ys r e h =
    let P : List ℕ → Type 0 = λ text. Takes o text n r in
    subst P (sym (frames_text-append xs ys)) (takes_on o m n (frames_text xs) (frames_text ys) r e h)

-- the first of them fails
pub takes_first : {T E : Type 0} (o m : Option (List ℕ)) (xs ys : List Frame) (r : Result T E) → IsErr r → TakesPrefix o (frames_text xs) m → Takes o (frames_text (xs ++ ys)) m r
takes_first o m xs ys r f h =
    let P : List ℕ → Type 0 = λ text. Takes o text m r in
    subst P (sym (frames_text-append xs ys)) (takes_off o m (frames_text xs) (frames_text ys) r f h)
