-- The bits of a frame, one by one.
use Rattle.std.proofs.Common.{◌≡◌, ℕ, suc, ◌+◌, ◌<◌, ◌≤◌, Bool, refl, sym, ap, ◌∙◌, subst, arith}
use Rattle.serial_receiver.specs.declared.frame.Frame.{Frame}
use Rattle.serial_receiver.specs.declared.begun.Begun.{Begun}
use Rattle.serial_receiver.specs.declared.line.FrameProgress.TheVariants.{Reads, Ends}
use Rattle.serial_receiver.specs.Frames.{bit_value, bits_read, frame_at, middle}
use Rattle.serial_receiver.specs.Hearing.{HasReadBits, Proceeds, Stays}
use Rattle.serial_receiver.proofs.Levels.{middle-suc}

-- What the loop keeps of a frame that began with this one: the bits that are known are read, and the next one is not yet known.
pub record Known (bit reached : ℕ) (level : Bool) (first now : Begun) : Type 0 where
  pub start : now.start ≡ first.start
  pub bits : (at : ℕ → Bool) (old : ℕ) → HasReadBits bit at old first → Stays at old reached level → now.byte ≡ bits_read at bit now.known
  pub later : (at : ℕ → Bool) (old : ℕ) → HasReadBits bit at old first → old ≤ middle bit now.known

pub known_first : (bit reached : ℕ) (level : Bool) (b : Begun) → Known bit reached level b b
known_first bit reached level b = record { start = refl; bits = λ at old r s. r.byte; later = λ at old r. r.next }

-- one bit more
pub known_more : (bit reached : ℕ) (level : Bool) (first now next : Begun) → middle bit now.known < reached → next.start ≡ now.start → next.known ≡ now.known + 1 → next.byte ≡ now.byte + bit_value level now.known
    → Known bit reached level first now → Known bit reached level first next
known_more bit reached level first now next low start known byte h =
    let k = now.known in
    let step : next.known ≡ suc k = known ∙ (let e : k + 1 ≡ suc k = omega arith in e) in
    record {
      start = start ∙ h.start;
      bits = λ at old r s.
          byte ∙ ap (λ x. x + bit_value level k) (h.bits at old r s)
          ∙ ap (λ v. bits_read at bit k + bit_value v k) (sym (s (middle bit k) (h.later at old r) low))
          ∙ ap (bits_read at bit) (sym step);
      later = λ at old r. later old (middle bit k) (middle bit (suc k)) bit (middle bit next.known) (h.later at old r) (middle-suc bit k) (ap (middle bit) step);
    } where
      later : (old a b bit c : ℕ) → old ≤ a → b ≡ a + bit → c ≡ b → old ≤ c
      later old a b bit c h e f = omega arith

-- the frame goes on
pub goes_on : (bit reached m : ℕ) (level : Bool) (first now : Begun) → m ≡ middle bit now.known → reached ≤ m → Known bit reached level first now
    → (at : ℕ → Bool) (old : ℕ) → HasReadBits bit at old first → old ≤ reached → Stays at old reached level → Proceeds bit at first.start reached (Reads now)
goes_on bit reached m level first now e h known = λ at old r low s. (known.start, record { byte = known.bits at old r s; next = subst (λ k. reached ≤ k) e h })

-- the frame ends
pub ends_so : (bit reached m : ℕ) (level : Bool) (first now : Begun) → m ≡ middle bit now.known → m < reached → now.known ≡ 8 → Known bit reached level first now
    → (at : ℕ → Bool) (old : ℕ) → HasReadBits bit at old first → old ≤ reached → Stays at old reached level
    → Proceeds bit at first.start reached (Ends (record { start = now.start; byte = now.byte; good = level }))
unfolding frame_at
ends_so bit reached m level first now e h eight known = λ at old r low s.
    let mk : ℕ → ℕ → Bool → Frame = λ a b c. record { start = a; byte = b; good = c } in
    let within : middle bit now.known < reached = subst (λ k. k < reached) e h in
    let good : level ≡ at (middle bit now.known) = sym (s (middle bit now.known) (known.later at old r) within) in (
      ap (λ x. mk x now.byte level) known.start ∙ ap (λ x. mk first.start x level) (known.bits at old r s ∙ ap (bits_read at bit) eight)
          ∙ ap (λ x. mk first.start (bits_read at bit 8) x) (good ∙ ap (λ k. at (middle bit k)) eight),
      subst (λ k. middle bit k < reached) eight within,
    )
