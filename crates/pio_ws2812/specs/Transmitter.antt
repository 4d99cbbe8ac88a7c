-- The WS2812 transmitter: its four words, and a setup that runs them.
--   ws2812_words, ws2812_memory   the words, and the memory that has them from address 0 on
--   IsLightRule      the side-set rule of the program
--   IsLightMachine   a machine that runs it
--   IsTransmitter    a setup with this machine alone
use Rattle.std.specs.Prelude.{◌≡◌, ℕ, ◌^◌, ◌<◌, true, false, Some, None, List, [], ◌∷◌, ◌++◌, replicate}
use Rattle.pio_encode.specs.declared.rule.SideRule.{SideRule}
use Rattle.pin_matrix.specs.declared.machine.MachineSetup.{MachineSetup}
use Rattle.pin_matrix.specs.declared.setup.Setup.{Setup}
use Rattle.pin_matrix.specs.Setups.{IsRow}

-- `bitloop: out x, 1 side 0 [2]`, `jmp !x do_zero side 1 [1]`, `do_one: jmp bitloop side 1 [4]`, `do_zero: nop side 0 [4]`, under
-- `.side_set 1`: the `ws2812` program with T1, T2, T3 = 2, 5, 3 (RP2040 Datasheet, section 3.6.2)
abbrev pub ws2812_words : List ℕ
ws2812_words = 0x6221 ∷ 0x1123 ∷ 0x1400 ∷ 0xa442 ∷ []

-- the words from address 0 on
abbrev pub ws2812_memory : List ℕ
ws2812_memory = ws2812_words ++ replicate 28 0

-- `.side_set 1`
pub record IsLightRule (rule : SideRule) : Type 0 where
  pub bits : rule.bits ≡ 1
  pub opt : rule.opt ≡ false
  pub pindirs : rule.pindirs ≡ false

-- What the program needs of its machine: number 0, a tick every so many clocks, the program from address 0 to 3, side-set on the pin,
-- and a new word after 24 bits, which are shifted out to the left; at the start an empty OSR, whatever is in it, and no word pending.
pub record IsLightMachine (int pin : ℕ) (s : MachineSetup) : Type 0 where
  pub id : s.id ≡ 0
  pub start : s.start ≡ 0
  pub osr : s.osr < 2 ^ 32
  pub osr_count : s.osr_count ≡ 32
  pub pending : s.pending ≡ None
  pub divider : s.int ≡ int
  pub frac : s.frac ≡ 0
  pub rule : IsLightRule s.side_rule
  pub wrap_bottom : s.wrap_bottom ≡ 0
  pub wrap_top : s.wrap_top ≡ 3
  pub side : IsRow s.side pin 1
  pub out_right : s.out_right ≡ false
  pub autopull : s.autopull ≡ true
  pub pull_threshold : s.pull_threshold ≡ 24
  pub join_tx : s.join_tx ≡ false
  pub join_rx : s.join_rx ≡ false

-- This machine alone over these words. The pin is an output and low, as before a first bit.
pub record IsTransmitter (int pin : ℕ) (u : Setup) : Type 0 where
  pub memory : u.memory ≡ ws2812_memory
  pub machine : MachineSetup
  pub machines : u.machines ≡ Some machine ∷ None ∷ None ∷ None ∷ []
  pub is_set_up : IsLightMachine int pin machine
  pub is_pin : pin < 32
  pub level : u.level ≡ 0
  pub out : u.out ≡ 2 ^ pin
