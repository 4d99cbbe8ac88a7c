-- The UART transmitter: its four words, and a setup that runs them.
--   uart_words, uart_memory   the words, and the memory that has them from address 0 on
--   IsUartRule                the side-set rule of the program
--   IsUartMachine             a machine that runs it
--   IsTransmitter             a setup with this machine alone
use Rattle.std.specs.Prelude.{◌≡◌, ℕ, true, false, Some, None, List, [], ◌∷◌, ◌++◌, replicate}
use Rattle.pio_encode.specs.declared.rule.SideRule.{SideRule}
use Rattle.pin_matrix.specs.declared.machine.MachineSetup.{MachineSetup}
use Rattle.pin_matrix.specs.declared.setup.Setup.{Setup}
use Rattle.pin_matrix.specs.Setups.{IsRow}

-- `pull side 1 [7]`, `set x, 7 side 0 [7]`, `bitloop: out pins, 1`, `jmp x-- bitloop [6]`, under `.side_set 1 opt`:
-- eight data bits, no parity, one stop bit, eight ticks a bit (RP2040 Datasheet, section 3.6.3)
abbrev pub uart_words : List ℕ
uart_words = 0x9fa0 ∷ 0xf727 ∷ 0x6001 ∷ 0x0642 ∷ []

-- the words from address 0 on
abbrev pub uart_memory : List ℕ
uart_memory = uart_words ++ replicate 28 0

-- `.side_set 1 opt`
pub record IsUartRule (rule : SideRule) : Type 0 where
  pub bits : rule.bits ≡ 1
  pub opt : rule.opt ≡ true
  pub pindirs : rule.pindirs ≡ false

-- Machine 0 with a tick every so many clocks, which begins at address 0 and wraps from address 3 to it, with OUT and
-- side-set on pin 0. All else is as it is by default: no word is pending.
pub record IsUartMachine (int : ℕ) (s : MachineSetup) : Type 0 where
  pub id : s.id ≡ 0
  pub start : s.start ≡ 0
  pub x : s.x ≡ 0
  pub y : s.y ≡ 0
  pub isr : s.isr ≡ 0
  pub osr : s.osr ≡ 0
  pub isr_count : s.isr_count ≡ 0
  pub osr_count : s.osr_count ≡ 32
  pub pending : s.pending ≡ None
  pub divider : s.int ≡ int
  pub frac : s.frac ≡ 0
  pub rule : IsUartRule s.side_rule
  pub wrap_bottom : s.wrap_bottom ≡ 0
  pub wrap_top : s.wrap_top ≡ 3
  pub in_base : s.in_base ≡ 0
  pub jmp_pin : s.jmp_pin ≡ 0
  pub out : IsRow s.out 0 1
  pub set : IsRow s.set 0 5
  pub side : IsRow s.side 0 1
  pub in_right : s.in_right ≡ true
  pub out_right : s.out_right ≡ true
  pub autopush : s.autopush ≡ false
  pub autopull : s.autopull ≡ false
  pub push_threshold : s.push_threshold ≡ 32
  pub pull_threshold : s.pull_threshold ≡ 32
  pub join_tx : s.join_tx ≡ false
  pub join_rx : s.join_rx ≡ false
  pub status_rx : s.status_rx ≡ false
  pub status_n : s.status_n ≡ 0

-- This machine alone over these words. Pin 0 is an output and high, as an idle line is.
pub record IsTransmitter (int : ℕ) (u : Setup) : Type 0 where
  pub memory : u.memory ≡ uart_memory
  pub machine : MachineSetup
  pub machines : u.machines ≡ Some machine ∷ None ∷ None ∷ None ∷ []
  pub is_set_up : IsUartMachine int machine
  pub high : u.high ≡ 0
  pub level : u.level ≡ 1
  pub out : u.out ≡ 1
  pub bypass : u.bypass ≡ 0
  pub spans : u.spans ≡ []
