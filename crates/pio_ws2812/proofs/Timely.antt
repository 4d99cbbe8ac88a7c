-- The transmitter sends what one feed gives it, each bit at its clock, and in the end a light reads all of them.
use Rattle.std.proofs.Common.{◌≡◌, ℕ, suc, ◌+◌, ◌-◌, ◌*◌, ◌^◌, ◌<◌, ◌≤◌, nat_lt, min, Bool, true, false, cond, List, [], ◌∷◌, length, slice_get, refl, ap, subst, ◌∙◌, arith}
use Rattle.std.proofs.Math.Nat.{mul-le-mul_left}
use Rattle.std.proofs.lemmas.Bool.{lt-ltb}
use Rattle.std.specs.List.{AllByRecursion}
use Rattle.pin_matrix.specs.declared.setup.Setup.{Setup}
use Rattle.block_core.specs.Block.{first_run}
use Rattle.program_runs.specs.Accepted.{accepted}
use Rattle.program_runs.specs.Clocks.{regs_in, tx_in, level_in, taken_in}
use Rattle.program_runs.specs.Feeding.{fed, IsSupplied}
use Rattle.program_runs.specs.Levels.{up_in}
use Rattle.program_runs.specs.Runs.{GoesByTicks}
use Rattle.pio_ws2812.specs.Pulses.{Pulse, bits_read}
use Rattle.pio_ws2812.specs.Sending.{bits_of, high_of, pulses_in}
use Rattle.pio_ws2812.specs.Feeding.{low_fed, pulses_fed, SendsInTime, SendsAll}
use Rattle.pio_ws2812.specs.Transmitter.{IsTransmitter}
use Rattle.pio_ws2812.proofs.InTime.{from_the_start}
use Rattle.pio_ws2812.proofs.Instructions.{AreMapped}
use Rattle.pio_ws2812.proofs.Numbers.{not_zero, mul_add}
use Rattle.pio_ws2812.proofs.Places.{length-bits_of}
use Rattle.pio_ws2812.proofs.Running.{AreTold, step, front, step_words, held, ready, pulses_are}
use Rattle.pio_ws2812.proofs.Sent.{told_by}

pub sends_in_time : AreTold → AreMapped → (int : ℕ) → 1 ≤ int → (pin : ℕ) (u : Setup) → (t : IsTransmitter int pin u) → (ws : List ℕ) → GoesByTicks u (fed ws) 0 t.machine pin int
    → ((n : ℕ) → AllByRecursion (λ w. w < 2 ^ 32) (accepted (first_run u) (fed ws) 0 n))
    → IsSupplied ws (λ k. taken_in u (fed ws) t.machine (int * k)) (λ k. tx_in u (fed ws) t.machine (int * k)) → (n : ℕ) → pulses_in u (fed ws) pin n ≡ pulses_fed int n 0 (bits_of ws)
sends_in_time told mapped int some pin u t ws run words supply n =
    let lines = fed ws in
    pulses_are told mapped int some pin u t lines run words n
    ∙ from_the_start int some pin t.machine t.is_set_up t.is_pin mapped (λ k. regs_in u lines t.machine (int * k)) (λ k. level_in u lines pin (int * k)) (λ k. taken_in u lines t.machine (int * k))
    (step told mapped int some pin u t lines run words) (step_words told mapped int some pin u t lines run words) (up_in u lines pin) (held told mapped int some pin u t lines run words)
    supply.left supply.goes (λ k l. front told mapped int some pin u t lines run words k ∙ supply.front k l)
    n ws (ready told mapped int some pin u t lines run words) (front told mapped int some pin u t lines run words 0 ∙ ap (λ xs. slice_get xs 0) run.first_tx) supply.first

some_low : (int clocks : ℕ) (bit : Bool) (bits : List Bool) → 1 ≤ int → 1 ≤ clocks → 1 ≤ low_fed int clocks bit bits
some_low int clocks bit [] some l = l
some_low int clocks true (next ∷ bits) some l = omega (arith, some, l)
some_low int clocks false (next ∷ bits) some l = omega (arith, some, l)

high_most : (int : ℕ) (bit : Bool) → high_of int bit ≤ 7 * int
high_most int true = omega arith
high_most int false = omega arith

all_read : (int clocks bound j : ℕ) (bits : List Bool) → 1 ≤ int → 2 * int ≤ bound → bound < 7 * int → int * (10 * (j + length bits) + 2) < clocks → bits_read bound (pulses_fed int clocks j bits) ≡ bits
all_read int clocks bound j [] some l m enough = refl
all_read int clocks bound j (bit ∷ bits) some l m enough =
    let start = int * (5 + 10 * j) in
    let last : start + 7 * int < clocks = let a = mul-le-mul_left {m = 5 + 10 * j + 7} {n = 10 * (j + suc (length bits)) + 2} int (omega arith) in let b = mul_add int (5 + 10 * j) 7 in omega (arith, a, b, enough) in
    let most = high_most int bit in
    let low = low_fed int (clocks - (start + high_of int bit)) bit bits in
    ap (λ v. bits_read bound (cond {A = List Pulse} v (record { start = start; high = min (high_of int bit) (clocks - start); low = low } ∷ pulses_fed int clocks (j + 1) bits) [])) (lt-ltb start clocks (omega (arith, last)))
    ∙ ap (λ v. cond v [] (nat_lt bound (min (high_of int bit) (clocks - start)) ∷ bits_read bound (pulses_fed int clocks (j + 1) bits))) (not_zero low (some_low int (clocks - (start + high_of int bit)) bit bits some (omega (arith, last, most))))
    ∙ ap (λ k. nat_lt bound k ∷ bits_read bound (pulses_fed int clocks (j + 1) bits)) (let e : min (high_of int bit) (clocks - start) ≡ high_of int bit = omega (arith, last, most) in e)
    ∙ ap (λ v. v ∷ bits_read bound (pulses_fed int clocks (j + 1) bits)) (told_by int bound bit l m)
    ∙ ap (λ bs. bit ∷ bs) (all_read int clocks bound (j + 1) bits some l m (subst (λ k. int * (10 * k + 2) < clocks) (let e : j + suc (length bits) ≡ j + 1 + length bits = omega arith in e) enough))

pub sends_all : (int pin : ℕ) (u : Setup) → 1 ≤ int → SendsInTime int pin u → SendsAll int pin u
sends_all int pin u some h ws words n enough bound l m =
    ap (bits_read bound) (h ws words n)
    ∙ all_read int n bound 0 (bits_of ws) some l m (subst (λ k. int * k < n) (let e = length-bits_of ws in let f : 240 * length ws + 2 ≡ 10 * (0 + length (bits_of ws)) + 2 = omega (arith, e) in f) enough)
