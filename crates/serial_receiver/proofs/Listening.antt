-- A line as more levels come.
use Rattle.std.proofs.Common.{◌≡◌, ℕ, suc, ◌+◌, ◌-◌, ◌^◌, ◌<◌, ◌≤◌, Bool, true, false, Option, Some, None, List, [], ◌∷◌, ◌++◌, length, refl, sym, ap, ◌∙◌, subst, arith, append-nil, append_assoc, length-append, min, replicate}
use Rattle.std.proofs.lemmas.List.{length-replicate}
use Rattle.serial_receiver.specs.declared.frame.Frame.{Frame}
use Rattle.serial_receiver.specs.declared.begun.Begun.{Begun}
use Rattle.serial_receiver.specs.declared.line.LineSoFar.{LineSoFar}
use Rattle.serial_receiver.specs.declared.line.FrameProgress.{FrameProgress}
use Rattle.serial_receiver.specs.declared.line.FrameProgress.TheVariants.{Reads, Ends}
use Rattle.serial_receiver.specs.declared.line.Heard.{Heard}
use Rattle.serial_receiver.specs.Frames.{bits_read, falls, frame_at, frames, frames_from, level_in, middle}
use Rattle.serial_receiver.specs.Hearing.{Brings, Hears, HasNoOpenFrame, IsOpen, IsPhase, HasReadBits, Opens, Proceeds, Stays, heard_of, level_after}
use Rattle.serial_receiver.proofs.Levels.{level_after-append, level_after-same, middle-least, middle-most, middle-small, stays}
use Rattle.serial_receiver.proofs.Framing.{after_stop, given, level_stays, no_fall, not_given}

-- a line of which nothing was heard
pub hears_none : (bit : ℕ) (before : Bool) → Hears bit before [] (record { last = before; frame = None })
unfolding frames_from
hears_none bit before = record { last = refl; phase = λ rest. refl }

-- more levels of an idle line, among which it doesn't fall
idle_more : (bit : ℕ) (before : Bool) (levels more : List Bool) → ((rest : List Bool) → frames_from bit 0 (length levels) (level_after before levels) (more ++ rest)
    ≡ frames_from bit 0 (length (levels ++ more)) (level_after before (levels ++ more)) rest)
    → HasNoOpenFrame bit before levels → (frames bit before (levels ++ more) ≡ frames bit before levels) × HasNoOpenFrame bit before (levels ++ more)
unfolding frames_from
idle_more bit before levels more go h =
    let none : frames bit before (levels ++ more) ≡ frames bit before levels =
    h more ∙ ap (λ x. frames bit before levels ++ frames_from bit 0 (length levels) (level_after before levels) x) (sym (append-nil more))
    ∙ ap (λ x. frames bit before levels ++ x) (go []) ∙ append-nil (frames bit before levels) in (
      none,
      λ rest.
          ap (frames bit before) (append_assoc levels more rest) ∙ h (more ++ rest)
          ∙ ap (λ x. frames bit before levels ++ x) (go rest)
          ∙ ap (λ x. x ++ frames_from bit 0 (length (levels ++ more)) (level_after before (levels ++ more)) rest) (sym none),
    )

-- a level that stays keeps a line idle
pub idle_held : (bit : ℕ) (before : Bool) (levels : List Bool) (n : ℕ) (v : Bool) → v ≡ level_after before levels → HasNoOpenFrame bit before levels
    → (frames bit before (levels ++ replicate n v) ≡ frames bit before levels) × HasNoOpenFrame bit before (levels ++ replicate n v)
idle_held bit before levels n v same h =
    idle_more bit before levels (replicate n v) (λ rest.
    ap (λ x. frames_from bit 0 (length levels) x (replicate n v ++ rest)) (sym same)
    ∙ level_stays bit (length levels) v n rest
    ∙ ap (λ c. frames_from bit 0 c v rest) (let e : length levels + n ≡ length (levels ++ replicate n v) = omega (arith, length-append levels (replicate n v), length-replicate n v) in e)
    ∙ ap (λ x. frames_from bit 0 (length (levels ++ replicate n v)) x rest)
    (sym (level_after-append before levels (replicate n v) ∙ ap (λ x. level_after x (replicate n v)) (sym same) ∙ level_after-same v n))) h

-- so does one that doesn't fall
idle_one : (bit : ℕ) (before : Bool) (levels : List Bool) (v : Bool) → falls (level_after before levels) v ≡ false → HasNoOpenFrame bit before levels
    → (frames bit before (levels ++ v ∷ []) ≡ frames bit before levels) × HasNoOpenFrame bit before (levels ++ v ∷ [])
idle_one bit before levels v none h =
    idle_more bit before levels (v ∷ []) (λ rest.
    no_fall bit (length levels) (level_after before levels) v rest none
    ∙ ap (λ c. frames_from bit 0 c v rest) (let e : length levels + 1 ≡ length (levels ++ v ∷ []) = omega (arith, length-append levels (v ∷ [])) in e)
    ∙ ap (λ x. frames_from bit 0 (length (levels ++ v ∷ [])) x rest) (sym (level_after-append before levels (v ∷ [])))) h

-- one that falls opens a frame
opens_one : (bit : ℕ) (before : Bool) (levels : List Bool) (o : Begun) → 2 ≤ bit → level_after before levels ≡ true → o.start ≡ length levels → o.known ≡ 0 → o.byte ≡ 0
    → HasNoOpenFrame bit before levels → (frames bit before (levels ++ false ∷ []) ≡ frames bit before levels) × IsOpen bit before (levels ++ false ∷ []) o
opens_one bit before levels o two high at known byte h =
    let go : (rest : List Bool) → frames bit before (levels ++ false ∷ rest) ≡ frames bit before levels ++ frames_from bit 0 o.start true (false ∷ rest) = λ rest.
    h (false ∷ rest)
    ∙ ap (λ x. frames bit before levels ++ frames_from bit 0 (length levels) x (false ∷ rest)) high
    ∙ ap (λ c. frames bit before levels ++ frames_from bit 0 c true (false ∷ rest)) (sym at) in
    let least = middle-least bit 8 in
    let none : frames bit before (levels ++ false ∷ []) ≡ frames bit before levels =
    go [] ∙ ap (λ x. frames bit before levels ++ x) (not_given bit o.start [] (omega arith)) ∙ append-nil (frames bit before levels) in (
      none,
      record {
        seen = [];
        place = omega (arith, length-append levels (false ∷ []));
        going = λ rest. ap (frames bit before) (append_assoc levels (false ∷ []) rest) ∙ go rest ∙ ap (λ x. x ++ frames_from bit 0 o.start true (false ∷ rest)) (sym none);
        reading = λ rest. record {
          byte = byte ∙ ap (bits_read (level_in (false ∷ rest)) bit) (sym known);
          next = let l = middle-least bit o.known in omega arith;
        };
      },
    )

-- the levels from the fall on, with more that stay
ahead : (seen : List Bool) (n : ℕ) (v : Bool) (rest : List Bool) → (seen ++ replicate n v) ++ rest ≡ seen ++ (replicate n v ++ rest)
ahead seen n v rest = append_assoc seen (replicate n v) rest

-- a frame that goes on
open_more : (bit : ℕ) (before : Bool) (levels : List Bool) (o p : Begun) (n : ℕ) (v : Bool) → (h : IsOpen bit before levels o)
    → ((rest : List Bool) → (p.start ≡ o.start) × HasReadBits bit (level_in (false ∷ (h.seen ++ (replicate n v ++ rest)))) (suc (length h.seen) + n) p)
    → (frames bit before (levels ++ replicate n v) ≡ frames bit before levels) × IsOpen bit before (levels ++ replicate n v) p
open_more bit before levels o p n v h reads =
    let more : List Bool = replicate n v in
    let seen : List Bool = h.seen ++ more in
    let start : p.start ≡ o.start = (reads []).0 in
    let long : suc (length seen) ≡ suc (length h.seen) + n = omega (arith, length-append h.seen more, length-replicate n v) in
    let next = (reads []).1.next in
    let most = middle-most bit p.known p.eight_bits in
    let go : (rest : List Bool) → frames bit before (levels ++ (more ++ rest)) ≡ frames bit before levels ++ frames_from bit 0 p.start true (false ∷ (seen ++ rest)) = λ rest.
    h.going (more ++ rest)
    ∙ ap (λ c. frames bit before levels ++ frames_from bit 0 c true (false ∷ (h.seen ++ (more ++ rest)))) (sym start)
    ∙ ap (λ x. frames bit before levels ++ frames_from bit 0 p.start true (false ∷ x)) (sym (ahead h.seen n v rest)) in
    let none : frames bit before (levels ++ more) ≡ frames bit before levels =
    ap (λ x. frames bit before (levels ++ x)) (sym (append-nil more)) ∙ go [] ∙ ap (λ x. frames bit before levels ++ frames_from bit 0 p.start true (false ∷ x)) (append-nil seen)
    ∙ ap (λ x. frames bit before levels ++ x) (not_given bit p.start seen (omega arith)) ∙ append-nil (frames bit before levels) in (
      none,
      record {
        seen = seen;
        place = let e = h.place in omega (arith, length-append levels more, length-replicate n v);
        going = λ rest. ap (frames bit before) (append_assoc levels more rest) ∙ go rest ∙ ap (λ x. x ++ frames_from bit 0 p.start true (false ∷ (seen ++ rest))) (sym none);
        reading = λ rest.
            let r = reads rest in
            subst (λ (xs : List Bool). HasReadBits bit (level_in (false ∷ xs)) (suc (length seen)) p) (sym (ahead h.seen n v rest))
            (subst (λ k. HasReadBits bit (level_in (false ∷ (h.seen ++ (replicate n v ++ rest)))) k p) (sym long) r.1);
      },
    )

-- a frame that ends
open_ends : (bit : ℕ) (before : Bool) (levels : List Bool) (o : Begun) (f : Frame) (n : ℕ) (v : Bool) → (h : IsOpen bit before levels o) → v ≡ level_after before (levels ++ replicate n v)
    → ((rest : List Bool) → (f ≡ frame_at (level_in (false ∷ (h.seen ++ (replicate n v ++ rest)))) bit o.start) × (middle bit 8 < suc (length h.seen) + n))
    → (frames bit before (levels ++ replicate n v) ≡ frames bit before levels ++ f ∷ []) × HasNoOpenFrame bit before (levels ++ replicate n v)
unfolding frames_from
open_ends bit before levels o f n v h last ends =
    let more : List Bool = replicate n v in
    let reached = (ends []).1 in
    let r = (h.reading []).next in
    let begun : suc (length h.seen) ≤ middle bit 8 = let m = middle-most bit o.known o.eight_bits in omega arith in
    let place : o.start + suc (length h.seen) + n ≡ length (levels ++ more) = let e = h.place in omega (arith, length-append levels more, length-replicate n v) in
    let go : (rest : List Bool) → frames bit before (levels ++ (more ++ rest)) ≡ frames bit before levels ++ f ∷ frames_from bit 0 (length (levels ++ more)) (level_after before (levels ++ more)) rest = λ rest.
    h.going (more ++ rest)
    ∙ ap (λ x. frames bit before levels ++ x) (given bit o.start (h.seen ++ (more ++ rest)) (omega (arith, length-append h.seen (more ++ rest), length-append more rest, length-replicate n v)))
    ∙ ap (λ x. frames bit before levels ++ x ∷ frames_from bit (o.start + middle bit 8 + 1) (o.start + 1) false (h.seen ++ (more ++ rest))) (sym (ends rest).0)
    ∙ ap (λ x. frames bit before levels ++ f ∷ x) (after_stop bit o.start h.seen n v rest begun reached
    ∙ ap (λ c. frames_from bit 0 c v rest) place ∙ ap (λ x. frames_from bit 0 (length (levels ++ more)) x rest) last) in
    let one : frames bit before (levels ++ more) ≡ frames bit before levels ++ f ∷ [] = ap (λ x. frames bit before (levels ++ x)) (sym (append-nil more)) ∙ go [] in (
      one,
      λ rest.
          ap (frames bit before) (append_assoc levels more rest) ∙ go rest
          ∙ sym (append_assoc (frames bit before levels) (f ∷ []) (frames_from bit 0 (length (levels ++ more)) (level_after before (levels ++ more)) rest))
          ∙ ap (λ x. x ++ frames_from bit 0 (length (levels ++ more)) (level_after before (levels ++ more)) rest) (sym one),
    )

-- An open frame, where a level stays so many clocks: by how it proceeds.
pub open_brings : (bit : ℕ) (before : Bool) (levels : List Bool) (o : Begun) (n : ℕ) (v : Bool) (progress : FrameProgress) → (h : IsOpen bit before levels o)
    → v ≡ level_after before (levels ++ replicate n v)
    → ((at : ℕ → Bool) (old : ℕ) → HasReadBits bit at old o → old ≤ suc (length h.seen) + n → Stays at old (suc (length h.seen) + n) v → Proceeds bit at o.start (suc (length h.seen) + n) progress)
    → Brings bit before levels (replicate n v) (heard_of progress v)
open_brings bit before levels o n v progress h last proceeds = on progress (λ rest. proceeds (level_in (false ∷ (h.seen ++ (replicate n v ++ rest)))) (suc (length h.seen)) (h.reading (replicate n v ++ rest)) (omega arith) (stays false h.seen n v rest)) where
  on : (p : FrameProgress) → ((rest : List Bool) → Proceeds bit (level_in (false ∷ (h.seen ++ (replicate n v ++ rest)))) o.start (suc (length h.seen) + n) p) → Brings bit before levels (replicate n v) (heard_of p v)
  on (Reads p) go =
      let both = open_more bit before levels o p n v h go in
      record { state = record { last = last; phase = both.1 }; ended = both.0 ∙ sym (append-nil (frames bit before levels)) }
  on (Ends f) go =
      let both = open_ends bit before levels o f n v h last go in
      record { state = record { last = last; phase = both.1 }; ended = both.0 }

-- an idle line, where its level stays
pub idle_brings : (bit : ℕ) (before : Bool) (levels : List Bool) (n : ℕ) (line : LineSoFar) → line.frame ≡ None → Hears bit before levels line
    → Brings bit before levels (replicate n line.last) (record { line = line; frame = None })
idle_brings bit before levels n line none h =
    let both = idle_held bit before levels n line.last h.last (subst (IsPhase bit before levels) none h.phase) in
    record {
      state = record {
        last = sym (level_after-append before levels (replicate n line.last) ∙ ap (λ x. level_after x (replicate n line.last)) (sym h.last) ∙ level_after-same line.last n);
        phase = subst (IsPhase bit before (levels ++ replicate n line.last)) (sym none) both.1;
      };
      ended = both.0 ∙ sym (append-nil (frames bit before levels));
    }

fall_is : (before level : Bool) → falls before level ≡ true → (before ≡ true) × (level ≡ false)
fall_is true false h = (refl, refl)
fall_is true true h = cc
fall_is false level h = cc

-- an idle line, and the next level
pub idle_next : (bit : ℕ) (before : Bool) (levels : List Bool) (v : Bool) (line : LineSoFar) (begun : Option Begun) → 2 ≤ bit → line.frame ≡ None → Hears bit before levels line
    → Opens (length levels) line.last v begun → Brings bit before levels (v ∷ []) (record { line = record { last = v; frame = begun }; frame = None })
idle_next bit before levels v line begun two none h opens = on begun opens where
  idle : HasNoOpenFrame bit before levels
  idle = subst (IsPhase bit before levels) none h.phase

  last : v ≡ level_after before (levels ++ v ∷ [])
  last = sym (level_after-append before levels (v ∷ []))

  on : (o : Option Begun) → Opens (length levels) line.last v o → Brings bit before levels (v ∷ []) (record { line = record { last = v; frame = o }; frame = None })
  on None stays =
      let both = idle_one bit before levels v (ap (λ x. falls x v) (sym h.last) ∙ stays) idle in
      record { state = record { last = last; phase = both.1 }; ended = both.0 ∙ sym (append-nil (frames bit before levels)) }
  on (Some o) begins =
      let fall = fall_is line.last v begins.0 in
      let both = opens_one bit before levels o two (sym h.last ∙ fall.0) begins.1 begins.2 begins.3 idle in
      let P : Bool → Type 0 = λ x. Brings bit before levels (x ∷ []) (record { line = record { last = x; frame = Some o }; frame = None }) in
      subst P (sym fall.1) (record {
        state = record { last = sym (level_after-append before levels (false ∷ [])); phase = both.1 };
        ended = both.0 ∙ sym (append-nil (frames bit before levels));
      })

-- a line with an open frame, where its level stays up to a clock
pub held_open : (bit clock reached : ℕ) (line : LineSoFar) (b : Begun) (progress : FrameProgress) (heard : Heard) → line.frame ≡ Some b → reached ≡ clock - b.start
    → ((at : ℕ → Bool) (old : ℕ) → HasReadBits bit at old b → old ≤ reached → Stays at old reached line.last → Proceeds bit at b.start reached progress)
    → heard ≡ heard_of progress line.last → (before : Bool) (levels : List Bool) → Hears bit before levels line → length levels ≤ clock
    → Brings bit before levels (replicate (clock - length levels) line.last) heard
held_open bit clock reached line b progress heard some far proceeds is before levels h low =
    let phase : IsOpen bit before levels b = subst (IsPhase bit before levels) some h.phase in
    let n = clock - length levels in
    let place = phase.place in
    let same : reached ≡ suc (length phase.seen) + n = omega arith in
    let P : ℕ → Type 0 = λ r. (at : ℕ → Bool) (old : ℕ) → HasReadBits bit at old b → old ≤ r → Stays at old r line.last → Proceeds bit at b.start r progress in
    let last : line.last ≡ level_after before (levels ++ replicate n line.last) =
    sym (level_after-append before levels (replicate n line.last) ∙ ap (λ x. level_after x (replicate n line.last)) (sym h.last) ∙ level_after-same line.last n) in
    subst (λ (x : Heard). Brings bit before levels (replicate n line.last) x) (sym is) (open_brings bit before levels b n line.last progress phase last (subst P same proceeds))

below : (a b c : ℕ) → a ≡ b → b ≤ c → c < 2 ^ 20 → a < 2 ^ 20
below a b c e f g = omega arith

not_cut : (far cut : ℕ) → far < 2 ^ 20 → cut ≡ min (far + 1) (2 ^ 64 - 1) → cut ≡ far + 1
not_cut far cut h e = omega arith

-- the same, where the next level comes
pub next_open : (bit clock reached : ℕ) (level : Bool) (line : LineSoFar) (b : Begun) (progress : FrameProgress) (heard : Heard) → bit < 65536 → line.frame ≡ Some b → reached ≡ min (clock - b.start + 1) (2 ^ 64 - 1)
    → ((at : ℕ → Bool) (old : ℕ) → HasReadBits bit at old b → old ≤ reached → Stays at old reached level → Proceeds bit at b.start reached progress)
    → heard ≡ heard_of progress level → (before : Bool) (levels : List Bool) → Hears bit before levels line → length levels ≡ clock → Brings bit before levels (level ∷ []) heard
next_open bit clock reached level line b progress heard small some far proceeds is before levels h at =
    let phase : IsOpen bit before levels b = subst (IsPhase bit before levels) some h.phase in
    let place = phase.place in
    let next : suc (length phase.seen) ≤ middle bit b.known = (phase.reading []).next in
    let most : middle bit b.known < 2 ^ 20 = middle-small bit b.known small b.eight_bits in
    let gone : clock - b.start ≡ suc (length phase.seen) = omega arith in
    let near : clock - b.start < 2 ^ 20 = below _ _ _ gone next most in
    let same : reached ≡ suc (length phase.seen) + 1 = not_cut (clock - b.start) reached near far ∙ ap (λ k. k + 1) gone in
    let P : ℕ → Type 0 = λ r. (at : ℕ → Bool) (old : ℕ) → HasReadBits bit at old b → old ≤ r → Stays at old r level → Proceeds bit at b.start r progress in
    let last : level ≡ level_after before (levels ++ replicate 1 level) = sym (level_after-append before levels (replicate 1 level)) in
    subst (λ (x : Heard). Brings bit before levels (level ∷ []) x) (sym is) (open_brings bit before levels b 1 level progress phase last (subst P same proceeds))
