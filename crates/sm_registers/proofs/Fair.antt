-- That a tick takes a word only where TX has one, and gives one only where RX has room.
use Rattle.std.proofs.Common.{◌≡◌, ℕ, ◌-◌, ◌<◌, nat_lt, Bool, true, false, cond, ◌&&◌, ◌||◌, is_some, IsSome, IsTrue, List, [], ◌∷◌, length, slice_get, refl, sym, subst, arith}
use Rattle.std.proofs.lemmas.Bool.Decides.{nat_tests}
use Rattle.pio_encode.specs.Word.{act_of, reading_of}
use Rattle.fifo_pair.specs.Fifos.{Fifos, is_full}
use Rattle.pin_matrix.specs.declared.machine.MachineSetup.{MachineSetup}
use Rattle.sm_registers.specs.declared.registers.Registers.{Registers}
use Rattle.sm_registers.specs.View.{View}
use Rattle.sm_registers.specs.Queues.{Queues}
use Rattle.sm_registers.specs.Laws.{IsFair}
use Rattle.sm_registers.specs.Effects.{Effect, is_due, effect_of}
use Rattle.sm_registers.specs.declared.intent.Intent.{Intent}
use Rattle.sm_registers.specs.State.{queues_of}
use Rattle.sm_registers.proofs.Effects.{does}
use Rattle.sm_registers.specs.Tick.{current_word, after_effect, refills, tick_delay, tick_by, tick_word, tick_of}

second_of : (a b : Bool) → (a && b) ≡ true → b ≡ true
second_of true b h = h
second_of false b h = cc

-- a refill needs a word
refill_has_word : (s : MachineSetup) (q : Queues) (r : Registers) → refills s q r ≡ true → is_some q.front ≡ true
refill_has_word s q r h = second_of (is_due s r) _ h

either : (a b c : Bool) → (a ≡ true → c ≡ true) → (b ≡ true → c ≡ true) → (a || b) ≡ true → c ≡ true
either true b c h k e = h refl
either false b c h k e = k e

-- a tick is fair
pub fair_tick : (s : MachineSetup) (v : View) (q : Queues) (r : Registers) → IsFair q (tick_of s v q r).1
unfolding tick_of tick_delay tick_word tick_by reading_of
fair_tick s v q r =
    let word : ℕ = current_word v r in
    let e : Effect = effect_of (act_of word) s v q r in
    let does = does (act_of word) s v q r in
    elim (nat_lt 0 r.delay) as (λ b. IsFair q (cond b (tick_delay s q r) (tick_word (reading_of word s.side_rule) s v q r)).1) [
      | true ↦ record { take = refill_has_word s q (record r { delay = r.delay - 1 }); word = λ w. cc }
      | false ↦ record { take = either _ _ _ does.front (refill_has_word s q (after_effect (reading_of word s.side_rule).delay s r e)); word = does.room }
    ]

-- TX has a word where it has a front
pub some_front : (words : List ℕ) → is_some (slice_get words 0) ≡ true → 0 < length words
some_front [] h = cc
some_front (w ∷ words) h = omega arith

-- RX has room where it isn't full
pub has_room : (room : ℕ) (words : List ℕ) → is_full room words ≡ false → length words < room
has_room room words h = grind (arith, nat_tests)

-- the same of a machine's FIFOs
pub fair_takes :
    (s : MachineSetup) (v : View) (r : Registers) (f : Fifos) (x : Registers × Intent) → x ≡ tick_of s v (queues_of f) r
    → IsTrue x.1.take → is_some (slice_get f.tx 0) ≡ true
fair_takes s v r f x h t =
    let fair : IsFair (queues_of f) x.1 = subst (λ y. IsFair (queues_of f) y.1) (sym h) (fair_tick s v (queues_of f) r) in
    fair.take t

pub fair_gives :
    (s : MachineSetup) (v : View) (r : Registers) (f : Fifos) (x : Registers × Intent) → x ≡ tick_of s v (queues_of f) r
    → IsSome x.1.word → is_full f.rx_room f.rx ≡ false
fair_gives s v r f x h t =
    let fair : IsFair (queues_of f) x.1 = subst (λ y. IsFair (queues_of f) y.1) (sym h) (fair_tick s v (queues_of f) r) in
    fair.word t
