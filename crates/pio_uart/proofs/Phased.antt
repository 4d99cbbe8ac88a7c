-- A tick moves the transmitter to its next phase, or it stalls at the PULL.
use Rattle.std.proofs.Common.{◌≡◌, ℕ, zero, suc, ◌+◌, ◌-◌, ◌*◌, ◌%◌, ◌≤◌, inl, inr, Option, Some, None, refl, sym, ap, ◌∙◌, arith}
use Rattle.pin_matrix.specs.declared.machine.MachineSetup.{MachineSetup}
use Rattle.sm_registers.specs.declared.registers.Registers.{Registers}
use Rattle.sm_registers.specs.View.{View}
use Rattle.sm_registers.specs.Queues.{Queues}
use Rattle.sm_registers.specs.State.{first_registers}
use Rattle.sm_registers.specs.Tick.{tick_of}
use Rattle.pio_uart.specs.Transmitter.{uart_memory, IsUartMachine}
use Rattle.program_runs.specs.Steps.{IsAtInstruction}
use Rattle.pio_uart.specs.Phases.{IsPulling, IsOnCourse, pulls, ends, starts, sends, counts, phase_of, MovesOn}
use Rattle.pio_uart.proofs.Instructions.{delay_tick, set_tick, out_tick, loop_tick, last_tick, pull_tick, stall_tick}

phase-0 : (r : Registers) (d : ℕ) → r.pc ≡ 0 → r.delay ≡ d → phase_of r ≡ (80 - d) % 80
phase-0 r d e f = rw (e, f) refl

phase-1 : (r : Registers) (d : ℕ) → r.pc ≡ 1 → r.delay ≡ d → phase_of r ≡ 8 - d
phase-1 r d e f = rw (e, f) refl

phase-2 : (r : Registers) (d x : ℕ) → r.pc ≡ 2 → r.delay ≡ d → r.x ≡ x → phase_of r ≡ 16 + 8 * (7 - x) - d
phase-2 r d x e f g = rw (e, f, g) refl

phase-3 : (r : Registers) (x : ℕ) → r.pc ≡ 3 → r.x ≡ x → phase_of r ≡ 17 + 8 * (7 - x)
phase-3 r x e g = rw (e, g) refl

next_phase : (a b m n : ℕ) → a ≡ m → b ≡ n → m ≡ (n + 1) % 80 → a ≡ (b + 1) % 80
next_phase a b m n e f g = e ∙ g ∙ ap (λ k. (k + 1) % 80) (sym f)

module _ (int : ℕ) (s : MachineSetup) (h : IsUartMachine int s) (v : View) (memory : v.memory ≡ uart_memory) (q : Queues) where
  pulling : (r : Registers) → IsPulling r → MovesOn q.front r (tick_of s v q r).0
  pulling r a = by q.front refl where
    by : (o : Option ℕ) → q.front ≡ o → MovesOn q.front r (tick_of s v q r).0
    by (Some word) e =
        let d = pull_tick int s h v memory q r word a e in record {
          on_course = starts 7 (omega arith) d.at;
          phase = inl (next_phase (phase_of (tick_of s v q r).0) (phase_of r) 1 0 (phase-1 (tick_of s v q r).0 7 d.at.pc d.at.delay) (phase-0 r 0 a.pc a.delay) refl);
        }
    by None e =
        let d = stall_tick int s h v memory q r a e in record {
          on_course = pulls d.at;
          phase = inr (e, phase-0 r 0 a.pc a.delay, phase-0 (tick_of s v q r).0 0 d.at.pc d.at.delay);
        }

  last_or_next : (r : Registers) → r.x ≤ 7 → IsAtInstruction 3 0 r → (x : ℕ) → r.x ≡ x → MovesOn q.front r (tick_of s v q r).0
  last_or_next r few a zero e =
      let d = last_tick int s h v memory q r a e in record {
        on_course = ends 6 (omega arith) d.at;
        phase = inl (next_phase (phase_of (tick_of s v q r).0) (phase_of r) 74 73 (phase-0 (tick_of s v q r).0 6 d.at.pc d.at.delay) (phase-3 r 0 a.pc e) refl);
      }
  last_or_next r few a (suc x) e =
      let d = loop_tick int s h v memory q r x a e (omega (arith, few, e)) in record {
        on_course = sends 6 (omega arith) (let f = d.x_is in omega (arith, few, e, f)) d.at;
        phase = inl (next_phase (phase_of (tick_of s v q r).0) (phase_of r) (16 + 8 * (7 - x) - 6) (17 + 8 * (7 - suc x)) (phase-2 (tick_of s v q r).0 6 x d.at.pc d.at.delay d.x_is) (phase-3 r (suc x) a.pc e) (omega (arith, few, e)));
      }

  pub moves_on : (r : Registers) → IsOnCourse r → MovesOn q.front r (tick_of s v q r).0
  moves_on r (pulls a) = pulling r a
  moves_on r (ends zero few a) = pulling r (record { pc = a.pc; delay = a.delay; pending = a.pending })
  moves_on r (ends (suc left) few a) =
      let d = delay_tick int s h v memory q r 0 left a in record {
        on_course = ends left (omega (arith, few)) d.at;
        phase = inl (next_phase (phase_of (tick_of s v q r).0) (phase_of r) ((80 - left) % 80) ((80 - suc left) % 80) (phase-0 (tick_of s v q r).0 left d.at.pc d.at.delay) (phase-0 r (suc left) a.pc a.delay) (omega (arith, few)));
      }
  moves_on r (starts zero few a) =
      let d = set_tick int s h v memory q r a in record {
        on_course = sends 7 (omega arith) (let f = d.x_is in omega (arith, f)) d.at;
        phase = inl (next_phase (phase_of (tick_of s v q r).0) (phase_of r) 9 8 (phase-2 (tick_of s v q r).0 7 7 d.at.pc d.at.delay d.x_is) (phase-1 r 0 a.pc a.delay) refl);
      }
  moves_on r (starts (suc left) few a) =
      let d = delay_tick int s h v memory q r 1 left a in record {
        on_course = starts left (omega (arith, few)) d.at;
        phase = inl (next_phase (phase_of (tick_of s v q r).0) (phase_of r) (8 - left) (8 - suc left) (phase-1 (tick_of s v q r).0 left d.at.pc d.at.delay) (phase-1 r (suc left) a.pc a.delay) (omega (arith, few)));
      }
  moves_on r (sends zero few bits a) =
      let d = out_tick int s h v memory q r a in record {
        on_course = counts (let f = d.x_is in omega (arith, bits, f)) d.at;
        phase = inl (next_phase (phase_of (tick_of s v q r).0) (phase_of r) (17 + 8 * (7 - r.x)) (16 + 8 * (7 - r.x) - 0) (phase-3 (tick_of s v q r).0 r.x d.at.pc d.x_is) (phase-2 r 0 r.x a.pc a.delay refl) (omega (arith, bits)));
      }
  moves_on r (sends (suc left) few bits a) =
      let d = delay_tick int s h v memory q r 2 left a in record {
        on_course = sends left (omega (arith, few)) (let f = d.x_is in omega (arith, bits, f)) d.at;
        phase = inl (next_phase (phase_of (tick_of s v q r).0) (phase_of r) (16 + 8 * (7 - r.x) - left) (16 + 8 * (7 - r.x) - suc left) (phase-2 (tick_of s v q r).0 left r.x d.at.pc d.at.delay d.x_is) (phase-2 r (suc left) r.x a.pc a.delay refl) (omega (arith, few, bits)));
      }
  moves_on r (counts bits a) = last_or_next r bits a r.x refl

-- it begins at phase 0
pub begins_there : (int : ℕ) (s : MachineSetup) → IsUartMachine int s → IsOnCourse (first_registers s)
begins_there int s h = pulls (record { pc = h.start; delay = refl; pending = h.pending })

pub begins_at_0 : (int : ℕ) (s : MachineSetup) → IsUartMachine int s → phase_of (first_registers s) ≡ 0
begins_at_0 int s h = phase-0 (first_registers s) 0 h.start refl
