-- What is written of the run of a transmitter that is fed some bytes.
use Rattle.std.proofs.Common.{◌≡◌, ℕ, ◌*◌, ◌≤◌, List, Result, ap, subst, ◌∙◌}
use Rattle.pin_matrix.specs.declared.setup.Setup.{Setup}
use Rattle.dreq_pacing.specs.declared.line.Line.{Line}
use Rattle.block_core.specs.Block.{first_run}
use Rattle.fault_lines.specs.declared.fault.Fault.{Fault}
use Rattle.fault_lines.specs.Output.{Output}
use Rattle.commands.specs.Tasks.{received_text, sent_text}
use Rattle.commands.specs.Written.{Writes}
use Rattle.pio_uart.specs.Feeding.{fed}
use Rattle.pio_uart.specs.Transmitter.{IsTransmitter}

-- the law of the text
abbrev pub SendsText : Type 0
SendsText = (divider clocks : ℕ) (u : Setup) (bytes : List ℕ) → 1 ≤ divider → IsTransmitter divider u
    → received_text (first_run u) 0 (8 * divider) (fed bytes) clocks ≡ sent_text divider bytes clocks

-- what was received was sent
pub sent : SendsText → (divider clocks : ℕ) (u : Setup) (lines : List Line) (bytes : List ℕ) (before after : Output) (r : Result (Unit {0}) Fault)
    → 1 ≤ divider → IsTransmitter divider u → lines ≡ fed bytes → Writes before after (received_text (first_run u) 0 (8 * divider) lines clocks) r
    → Writes before after (sent_text divider bytes clocks) r
sent law divider clocks u lines bytes before after r some is same h =
    let text : received_text (first_run u) 0 (8 * divider) lines clocks ≡ sent_text divider bytes clocks =
    ap (λ (ls : List Line). received_text (first_run u) 0 (8 * divider) ls clocks) same ∙ law divider clocks u bytes some is in
    subst (λ (t : List ℕ). Writes before after t r) text h
