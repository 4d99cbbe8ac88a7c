-- The transmitter sends what one feed gives it, each frame at its clock.
use Rattle.std.proofs.Common.{◌≡◌, ℕ, ◌+◌, ◌-◌, ◌*◌, ◌%◌, ◌<◌, ◌≤◌, inl, inr, Bool, true, false, cond, ltb, List, [], ◌∷◌, map, slice_get, refl, ap, ◌∙◌, arith, length, subst, suc}
use Rattle.std.proofs.Math.Nat.{mul-add, mul-le-mul_left}
use Rattle.std.proofs.lemmas.Bool.{lt-ltb, cases_lt}
use Rattle.pin_matrix.specs.declared.machine.MachineSetup.{MachineSetup}
use Rattle.pin_matrix.specs.declared.setup.Setup.{Setup}
use Rattle.serial_receiver.specs.declared.frame.Frame.{Frame}
use Rattle.program_runs.specs.Clocks.{tx_in, taken_in, regs_in, level_in}
use Rattle.program_runs.specs.Feeding.{fed, IsSupplied}
use Rattle.program_runs.specs.Runs.{ticks_in, GoesByTicks}
use Rattle.pio_uart.specs.Sending.{frames_in}
use Rattle.pio_uart.specs.Feeding.{frames_fed, SendsInTime, SendsAll}
use Rattle.pio_uart.specs.Transmitter.{IsTransmitter}
use Rattle.pio_uart.proofs.Scaling.{at_clock, lt_both}
use Rattle.pio_uart.proofs.Whole.{frame_of}
use Rattle.pio_uart.proofs.Sent.{AreTold, step, front, frames_are, ready_at_first, high_at_first}
use Rattle.pio_uart.proofs.InTime.{frames_after, from_the_start}

-- a frame is whole among the clocks where it is among the ticks
same_test : (int n ticks k : ℕ) → n ≤ int * ticks → int * ticks < n + int → ltb 79 (ticks - 6 - 80 * k) ≡ ltb (int * (85 + 80 * k)) n
same_test int n ticks k most least = lt_both 79 (ticks - 6 - 80 * k) (int * (85 + 80 * k)) n
    (λ h. let m = mul-le-mul_left {m = 85 + 80 * k + 1} {n = ticks} int (omega (arith, h)) in let e = mul-add int (85 + 80 * k) 1 in omega (arith, m, e, least))
    (λ h. elim (cases_lt (85 + 80 * k) ticks) [ inl many ↦ omega (arith, many) | inr few ↦ absurd (let m = mul-le-mul_left int few in omega (arith, m, h, most)) ])

same_choice : (int : ℕ) (a b : Bool) (f g : Frame) (xs ys : List Frame) → a ≡ b → at_clock int f ≡ g → map (at_clock int) xs ≡ ys → map (at_clock int) (cond a (f ∷ xs) []) ≡ cond b (g ∷ ys) []
same_choice int true b f g xs ys e p q = ap (λ x. x ∷ map (at_clock int) xs) p ∙ ap (λ zs. g ∷ zs) q ∙ ap (λ z. cond z (g ∷ ys) []) e
same_choice int false b f g xs ys e p q = ap (λ z. cond z (g ∷ ys) []) e

in_clocks : (int n ticks k : ℕ) (words : List ℕ) → n ≤ int * ticks → int * ticks < n + int → map (at_clock int) (frames_after (1 + 80 * k) (ticks - 6 - 80 * k) words) ≡ frames_fed int n k words
in_clocks int n ticks k [] most least = refl
in_clocks int n ticks k (word ∷ words) most least =
    same_choice int (ltb 79 (ticks - 6 - 80 * k)) (ltb (int * (85 + 80 * k)) n) (frame_of (1 + 80 * k + 8) word) _ _ _
    (same_test int n ticks k most least)
    (ap (λ t. let f : Frame = record { start = int * t; byte = word % 256; good = true } in f) (let e : 1 + 80 * k + 8 ≡ 9 + 80 * k = omega arith in e))
    (ap (λ t. map (at_clock int) (frames_after t (ticks - 6 - 80 * k - 80) words)) (let e : 1 + 80 * k + 80 ≡ 1 + 80 * (k + 1) = omega arith in e)
    ∙ ap (λ m. map (at_clock int) (frames_after (1 + 80 * (k + 1)) m words)) (let e : ticks - 6 - 80 * k - 80 ≡ ticks - 6 - 80 * (k + 1) = omega arith in e)
    ∙ in_clocks int n ticks (k + 1) words most least)

pub sends_in_time : AreTold → (int : ℕ) → 1 ≤ int → (u : Setup) → (t : IsTransmitter int u) → (words : List ℕ) → GoesByTicks u (fed words) 0 t.machine 0 int
    → IsSupplied words (λ k. taken_in u (fed words) t.machine (int * k)) (λ k. tx_in u (fed words) t.machine (int * k)) → (n : ℕ) → frames_in u (fed words) (8 * int) n ≡ frames_fed int n 0 words
sends_in_time told int some u t words run supply n =
    let lines = fed words in
    let s : MachineSetup = t.machine in
    let ticks = ticks_in int n in
    frames_are told int some u t lines run n
    ∙ ap (map (at_clock int)) (from_the_start int s t.is_set_up (λ k. regs_in u lines s (int * k)) (λ k. level_in u lines 0 (int * k)) (λ k. taken_in u lines s (int * k)) (step told int some u t lines run)
    supply.left supply.goes (λ k l. front told int some u t lines run k ∙ supply.front k l)
    words ticks (ready_at_first told int some u t lines run) (high_at_first told int some u t lines run) (front told int some u t lines run 0 ∙ ap (λ ws. slice_get ws 0) run.first_tx) supply.first)
    ∙ ap (λ m. map (at_clock int) (frames_after 1 m words)) (let e : ticks - 6 ≡ ticks - 6 - 80 * 0 = omega arith in e)
    ∙ in_clocks int n ticks 0 words (omega (arith, some)) (omega (arith, some))

-- with clocks enough, all frames are whole
all_whole : (int n k : ℕ) (words : List ℕ) → int * (80 * (k + length words) + 5) < n → map (λ f. f.byte) (frames_fed int n k words) ≡ map (λ w. w % 256) words
all_whole int n k [] enough = refl
all_whole int n k (word ∷ words) enough =
    ap (λ b. map (λ f. f.byte) (cond {A = List Frame} b (record { start = int * (9 + 80 * k); byte = word % 256; good = true } ∷ frames_fed int n (k + 1) words) []))
    (lt-ltb (int * (85 + 80 * k)) n (let m = mul-le-mul_left {m = 85 + 80 * k} {n = 80 * (k + suc (length words)) + 5} int (omega arith) in omega (arith, m, enough)))
    ∙ ap (λ bs. word % 256 ∷ bs) (all_whole int n (k + 1) words (subst (λ j. int * (80 * j + 5) < n) (let e : k + suc (length words) ≡ k + 1 + length words = omega arith in e) enough))

pub sends_all : (int : ℕ) (u : Setup) → SendsInTime int u → SendsAll int u
sends_all int u h words n enough = ap (map (λ f. f.byte)) (h words n) ∙ all_whole int n 0 words (subst (λ j. int * (80 * j + 5) < n) (let e : length words ≡ 0 + length words = omega arith in e) enough)
