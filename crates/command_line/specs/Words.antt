-- What the words of a call ask for: the order, when it is given, and when the words are refused.
use Rattle.std.specs.Prelude.{◌≡◌, ◌≢◌, ◌⊎◌, ◌+◌, ◌≤◌, ◌&&◌, ◌==◌, ◌^◌, ℕ, Bool, true, false, Option, Some, List, [], min, max, codes, length, nat_lt, unwrap_or, option_map, if◌then◌else◌, ⊤}
use Rattle.std.specs.List.{list_all}
use Rattle.std.specs.Option.{option_map_or}
use Rattle.std.specs.Char.{digit_value}
use Rattle.std.specs.Str.{bytes_eq}
use Rattle.std.specs.Str.Parse.{digits_value, without_leading_plus}
use Rattle.clap.specs.Walk.{Row, Text, first_of, one_of}
use Rattle.clap.specs.Simple.{subcommand_of}
use Rattle.clap.specs.Takes.{takes}
use Rattle.clap.specs.Faults.{fault_of}
use Rattle.command_line.specs.Tool.{bit_limit, clock_limit, divider_limit, least_bit, least_divider, pin_limit, seed_limit, side_limit, tool}
use Rattle.command_line.specs.declared.order.Order.{Order}
use Rattle.command_line.specs.declared.order.Order.TheVariants.{Asm, Run, Check, Table, Recheck, Shares, Gen, Dis, Measure, Receive, Uart, Pair, Inspect}
use Rattle.command_line.specs.declared.order.WordsFault.{WordsFault}
use Rattle.command_line.specs.declared.order.WordsFault.TheVariants.{Usage, Memory}

-- a subcommand with its arguments: file; source, configuration and stimulus if there are some, and clocks; source, and
-- configuration if there is one; the same with a span's name, and then with a table; seed and clocks; file, side-set bits and whether
-- their value is optional; the arguments of `run`, alone or with a pin and the clocks of a bit; a file of bytes, a
-- divider and clocks; source, two configurations, stimulus if there is one, and clocks; and the arguments of `run` again
pub data Asked : Type 0 where
  asm : Text → Asked
  run : Text → Option Text → Option Text → ℕ → Asked
  check : Text → Option Text → Asked
  table : Text → Option Text → Text → Asked
  recheck : Text → Option Text → Text → Text → Asked
  shares : Text → Option Text → Asked
  gen : ℕ → ℕ → Asked
  dis : Text → ℕ → Bool → Asked
  measure : Text → Option Text → Option Text → ℕ → Asked
  receive : Text → Option Text → Option Text → ℕ → ℕ → ℕ → Asked
  uart : Text → ℕ → ℕ → Asked
  pair : Text → Text → Text → Option Text → ℕ → Asked
  inspect : Text → Option Text → Option Text → ℕ → Asked

-- what an order asks for
abbrev pub asked_by : Order → Asked
asked_by (Asm file) = asm file.now
asked_by (Run files clocks) = run files.source.now (option_map (λ t. t.now) files.config) (option_map (λ t. t.now) files.stimulus) clocks
asked_by (Check source config) = check source.now (option_map (λ t. t.now) config)
asked_by (Table source config span) = table source.now (option_map (λ t. t.now) config) span.now
asked_by (Recheck source config span file) = recheck source.now (option_map (λ t. t.now) config) span.now file.now
asked_by (Shares source config) = shares source.now (option_map (λ t. t.now) config)
asked_by (Gen seed clocks) = gen seed clocks
asked_by (Dis file side opt) = dis file.now side opt
asked_by (Measure files clocks) =
    measure files.source.now (option_map (λ t. t.now) files.config) (option_map (λ t. t.now) files.stimulus) clocks
asked_by (Receive files clocks line) =
    receive files.source.now (option_map (λ t. t.now) files.config) (option_map (λ t. t.now) files.stimulus) clocks line.pin line.bit
asked_by (Uart send divider clocks) = uart send.now divider clocks
asked_by (Pair files clocks) =
    pair files.source.now files.config.now files.second.now (option_map (λ t. t.now) files.stimulus) clocks
asked_by (Inspect files clocks) =
    inspect files.source.now (option_map (λ t. t.now) files.config) (option_map (λ t. t.now) files.stimulus) clocks

-- ---- what clap's matches of a subcommand ask for

-- the number of decimal digits below 2^64, where a plus may come first, and 0 of any other text
abbrev pub number_in : Text → ℕ
number_in text =
    let digits = without_leading_plus text in
    if nat_lt 0 (length digits) && list_all (λ d. nat_lt (digit_value d) 10) digits
    && nat_lt (digits_value 10 digits) (2 ^ 64) then digits_value 10 digits else 0

-- the text of an argument, and the empty one where it isn't there
abbrev pub text_at : Text → List Row → Text
text_at id rows = unwrap_or (first_of id rows) []

-- the number of an argument, at most `most`
abbrev pub number_at : ℕ → Text → List Row → ℕ
number_at most id rows = min (option_map_or number_in (one_of id rows) 0) most

-- the flag is given
abbrev pub flag_at : Text → List Row → Bool
flag_at id rows = bytes_eq (text_at id rows) (codes "true")

-- the arguments of `asm`
abbrev pub asm_asked : List Row → Asked
asm_asked rows = asm (text_at (codes "file") rows)

-- the arguments of `run`
abbrev pub run_asked : List Row → Asked
run_asked rows =
    run (text_at (codes "source") rows) (first_of (codes "config") rows) (first_of (codes "stimulus") rows)
    (number_at clock_limit (codes "clocks") rows)

-- the arguments of `check`
abbrev pub check_asked : List Row → Asked
check_asked rows = check (text_at (codes "source") rows) (first_of (codes "config") rows)

-- the arguments of `table`
abbrev pub table_asked : List Row → Asked
table_asked rows = table (text_at (codes "source") rows) (first_of (codes "config") rows) (text_at (codes "span") rows)

-- the arguments of `recheck`
abbrev pub recheck_asked : List Row → Asked
recheck_asked rows =
    recheck (text_at (codes "source") rows) (first_of (codes "config") rows) (text_at (codes "span") rows)
    (text_at (codes "table") rows)

-- the arguments of `shares`
abbrev pub shares_asked : List Row → Asked
shares_asked rows = shares (text_at (codes "source") rows) (first_of (codes "config") rows)

-- the arguments of `gen`
abbrev pub gen_asked : List Row → Asked
gen_asked rows = gen (number_at seed_limit (codes "seed") rows) (number_at clock_limit (codes "clocks") rows)

-- the arguments of `dis`
abbrev pub dis_asked : List Row → Asked
dis_asked rows = dis (text_at (codes "file") rows) (number_at side_limit (codes "side") rows) (flag_at (codes "opt") rows)

-- the arguments of `measure`
abbrev pub measure_asked : List Row → Asked
measure_asked rows =
    measure (text_at (codes "source") rows) (first_of (codes "config") rows) (first_of (codes "stimulus") rows)
    (number_at clock_limit (codes "clocks") rows)

-- the arguments of `receive`; a bit takes two clocks at least
abbrev pub receive_asked : List Row → Asked
receive_asked rows =
    receive (text_at (codes "source") rows) (first_of (codes "config") rows) (first_of (codes "stimulus") rows)
    (number_at clock_limit (codes "clocks") rows) (number_at pin_limit (codes "pin") rows)
    (max (number_at bit_limit (codes "bit") rows) least_bit)

-- the arguments of `uart`; a tick takes a clock at least
abbrev pub uart_asked : List Row → Asked
uart_asked rows =
    uart (text_at (codes "send") rows) (max (number_at divider_limit (codes "divider") rows) least_divider)
    (number_at clock_limit (codes "clocks") rows)

-- the arguments of `pair`
abbrev pub pair_asked : List Row → Asked
pair_asked rows =
    pair (text_at (codes "source") rows) (text_at (codes "config") rows) (text_at (codes "second") rows)
    (first_of (codes "stimulus") rows) (number_at clock_limit (codes "clocks") rows)

-- the arguments of `inspect`
abbrev pub inspect_asked : List Row → Asked
inspect_asked rows =
    inspect (text_at (codes "source") rows) (first_of (codes "config") rows) (first_of (codes "stimulus") rows)
    (number_at clock_limit (codes "clocks") rows)

-- the arguments of the subcommand of this name
abbrev pub subcommand_asked : Text → List Row → Asked
subcommand_asked name rows =
    if bytes_eq name (codes "asm") then asm_asked rows else if bytes_eq name (codes "run") then run_asked rows
    else if bytes_eq name (codes "check") then check_asked rows else if bytes_eq name (codes "table") then table_asked rows
    else if bytes_eq name (codes "recheck") then recheck_asked rows
    else if bytes_eq name (codes "shares") then shares_asked rows else if bytes_eq name (codes "gen") then gen_asked rows
    else if bytes_eq name (codes "measure") then measure_asked rows
    else if bytes_eq name (codes "receive") then receive_asked rows
    else if bytes_eq name (codes "uart") then uart_asked rows
    else if bytes_eq name (codes "pair") then pair_asked rows
    else if bytes_eq name (codes "inspect") then inspect_asked rows else dis_asked rows

-- what the matches that clap's definition gives for `tool` and the words ask for
unfoldable pub asked_of : List Text → Option Asked
asked_of words = option_map (λ met. subcommand_asked met.0 met.1) (subcommand_of tool words)

-- the seed and the clocks are in range, and so are the pin, the clocks of a bit, the divider, and the side-set bits with
-- the one of `--opt`
abbrev pub IsWithinRange : Asked → Type 0
IsWithinRange (run source config stimulus clocks) = clocks ≤ clock_limit
IsWithinRange (gen seed clocks) = (seed ≤ seed_limit) × (clocks ≤ clock_limit)
IsWithinRange (measure source config stimulus clocks) = clocks ≤ clock_limit
IsWithinRange (receive source config stimulus clocks pin bit) =
    (clocks ≤ clock_limit) × (pin ≤ pin_limit) × (least_bit ≤ bit) × (bit ≤ bit_limit)
IsWithinRange (uart send divider clocks) = (least_divider ≤ divider) × (divider ≤ divider_limit) × (clocks ≤ clock_limit)
IsWithinRange (pair source config second stimulus clocks) = clocks ≤ clock_limit
IsWithinRange (inspect source config stimulus clocks) = clocks ≤ clock_limit
IsWithinRange (dis file side opt) = side + (if opt then 1 else 0) ≤ side_limit
IsWithinRange _ = ⊤

-- ---- when there are matches, and when not

-- `--opt` takes one of the five side-set bits, so not beside `--side 5` (RP2040 Datasheet, section 3.5.1)
abbrev pub has_no_room : Asked → Bool
has_no_room (dis file side opt) = side == side_limit && opt
has_no_room _ = false

-- clap gives matches of `tool` for the words, and they ask for this
pub record Asks (words : List Text) (a : Asked) : Type 0 where
  pub taken : fault_of tool words ≡ []
  pub asked : asked_of words ≡ Some a

-- clap gives no matches of `tool` for the words, or they ask for `dis` with `--opt` beside `--side 5`
abbrev pub WordsAreRefused : List Text → Type 0
WordsAreRefused words = (fault_of tool words ≢ []) ⊎ ((a : Asked) × Asks words a × (has_no_room a ≡ true))

-- `tool` takes the words, and they don't ask for `dis` with `--opt` beside `--side 5`
pub record WordsAreTaken (words : List Text) : Type 0 where
  pub takes : takes tool words ≡ true
  pub room : (a : Asked) → asked_of words ≡ Some a → has_no_room a ≡ false

-- each fault has its cause; memory is free
abbrev pub IsFaultOfWords : List Text → WordsFault → Type 0
IsFaultOfWords words Usage = WordsAreRefused words
IsFaultOfWords words Memory = ⊤

-- how many clocks a command works out at most
abbrev pub clocks_asked : Asked → ℕ
clocks_asked (run source config stimulus clocks) = clocks
clocks_asked (gen seed clocks) = clocks
clocks_asked (measure source config stimulus clocks) = clocks
clocks_asked (receive source config stimulus clocks pin bit) = clocks
clocks_asked (uart send divider clocks) = clocks
clocks_asked (pair source config second stimulus clocks) = clocks
clocks_asked (inspect source config stimulus clocks) = clocks
clocks_asked _ = 0

-- how many clocks words ask for at most
abbrev pub most_clocks : List Text → ℕ
most_clocks words = option_map_or clocks_asked (asked_of words) 0
