-- What the command `piotool` takes, in clap's own words: arguments, subcommands, and the command over them.
use Rattle.std.specs.Prelude.{ℕ, ◌^◌, ◌-◌, true, Some, List, [], ◌∷◌, codes}
use Rattle.std.specs.List.{fold}
use Rattle.clap.specs.Walk.{Rule, Text}
use Rattle.clap.specs.Simple.{App, new_app, new_rule, with_rule, with_subcommand}
use Rattle.clap.specs.declared.builder.action.ArgAction.TheVariants.{Set, SetTrue}
use Rattle.clap.specs.declared.builder.value_parser.ValueParser.TheVariants.{Unsigned}

-- the most clocks of a run
abbrev pub clock_limit : ℕ
clock_limit = 10 ^ 12

-- the most of a seed (choice of this profile)
abbrev pub seed_limit : ℕ
seed_limit = 2 ^ 64 - 1

-- the most side-set bits (RP2040 Datasheet, section 3.5.1)
abbrev pub side_limit : ℕ
side_limit = 5

-- the number of the last pin (RP2040 Datasheet, section 3.1)
abbrev pub pin_limit : ℕ
pin_limit = 31

-- the fewest and the most clocks of a bit of a serial line (choice of this profile)
abbrev pub least_bit : ℕ
least_bit = 2

-- the most clocks of a bit of a serial line
abbrev pub bit_limit : ℕ
bit_limit = 65535

-- the least and the most whole part of the divider of the transmitter that sends a file (choice of this profile): eight ticks are
-- a bit, which takes `bit_limit` clocks at most
abbrev pub least_divider : ℕ
least_divider = 1

-- the most whole part of that divider
abbrev pub divider_limit : ℕ
divider_limit = 8191

-- `--name X`, where X is any text (choice of this profile)
abbrev pub option_rule : Text → Rule
option_rule name = record (new_rule name) { long = Some name; action = Some Set }

-- the option is in each call
abbrev pub required : Rule → Rule
required rule = record rule { required = true }

-- the value is a whole number from 0 to `most`
abbrev pub up_to : ℕ → Rule → Rule
up_to most rule = record rule { parser = Some (Unsigned 0 most) }

-- `--source S`: the source's name
unfoldable pub source_rule : Rule
source_rule = required (option_rule (codes "source"))

-- `--config C`: the name of a configuration, which need not be given
unfoldable pub config_rule : Rule
config_rule = option_rule (codes "config")

-- `--config A`: the name of a configuration, which is in each call
unfoldable pub needed_config_rule : Rule
needed_config_rule = required (option_rule (codes "config"))

-- `--second B`: the name of the second block's configuration
unfoldable pub second_rule : Rule
second_rule = required (option_rule (codes "second"))

-- `--span NAME`: the name of a span
unfoldable pub span_rule : Rule
span_rule = required (option_rule (codes "span"))

-- `--table F`: the name of a file with a table
unfoldable pub table_rule : Rule
table_rule = required (option_rule (codes "table"))

-- `--stimulus T`: the name of a stimulus, which need not be given
unfoldable pub stimulus_rule : Rule
stimulus_rule = option_rule (codes "stimulus")

-- `--clocks N`: a number of clocks
unfoldable pub clocks_rule : Rule
clocks_rule = up_to clock_limit (required (option_rule (codes "clocks")))

-- `--seed K`: a number of 64 bits
unfoldable pub seed_rule : Rule
seed_rule = up_to seed_limit (required (option_rule (codes "seed")))

-- `--pin P`: the number of a pin
unfoldable pub pin_rule : Rule
pin_rule = up_to pin_limit (required (option_rule (codes "pin")))

-- `--bit B`: how many clocks a bit takes
unfoldable pub bit_rule : Rule
bit_rule = record (required (option_rule (codes "bit"))) { parser = Some (Unsigned least_bit bit_limit) }

-- `--send F`: the name of a file of bytes
unfoldable pub send_rule : Rule
send_rule = required (option_rule (codes "send"))

-- `--divider I`: how many clocks a tick takes
unfoldable pub divider_rule : Rule
divider_rule = record (required (option_rule (codes "divider"))) { parser = Some (Unsigned least_divider divider_limit) }

-- `FILE`, a name alone
unfoldable pub file_rule : Rule
file_rule = required (record (new_rule (codes "file")) { action = Some Set })

-- `--side n`: a number of side-set bits, and 0 where it isn't given
unfoldable pub side_rule : Rule
side_rule = record (up_to side_limit (option_rule (codes "side"))) { defaults = codes "0" ∷ [] }

-- `--opt`, a flag: the side-set value is optional
unfoldable pub opt_rule : Rule
opt_rule = record (new_rule (codes "opt")) { long = Some (codes "opt"); action = Some SetTrue }

-- a command that takes one argument more
unfoldable pub taking : App → Rule → App
taking command rule = with_rule command rule

-- a command that has one subcommand more
unfoldable pub offering : App → App → App
offering command sub = with_subcommand command sub.top

-- the subcommand of a name with its arguments
abbrev pub subcommand : Text → List Rule → App
subcommand name rules = fold taking (new_app name) rules

-- `asm FILE`
unfoldable pub asm_app : App
asm_app = subcommand (codes "asm") (file_rule ∷ [])

-- `run --source S [--config C] [--stimulus T] --clocks N`
unfoldable pub run_app : App
run_app = subcommand (codes "run") (source_rule ∷ config_rule ∷ stimulus_rule ∷ clocks_rule ∷ [])

-- `dis FILE [--side n] [--opt]`
unfoldable pub dis_app : App
dis_app = subcommand (codes "dis") (file_rule ∷ side_rule ∷ opt_rule ∷ [])

-- `check --source S [--config C]`
unfoldable pub check_app : App
check_app = subcommand (codes "check") (source_rule ∷ config_rule ∷ [])

-- `gen --seed K --clocks N`
unfoldable pub gen_app : App
gen_app = subcommand (codes "gen") (seed_rule ∷ clocks_rule ∷ [])

-- `table --source S [--config C] --span NAME`
unfoldable pub table_app : App
table_app = subcommand (codes "table") (source_rule ∷ config_rule ∷ span_rule ∷ [])

-- `recheck --source S [--config C] --span NAME --table F`
unfoldable pub recheck_app : App
recheck_app = subcommand (codes "recheck") (source_rule ∷ config_rule ∷ span_rule ∷ table_rule ∷ [])

-- `shares --source S [--config C]`
unfoldable pub shares_app : App
shares_app = subcommand (codes "shares") (source_rule ∷ config_rule ∷ [])

-- `measure --source S [--config C] [--stimulus T] --clocks N`
unfoldable pub measure_app : App
measure_app = subcommand (codes "measure") (source_rule ∷ config_rule ∷ stimulus_rule ∷ clocks_rule ∷ [])

-- `receive --source S [--config C] [--stimulus T] --clocks N --pin P --bit B`
unfoldable pub receive_app : App
receive_app = subcommand (codes "receive") (source_rule ∷ config_rule ∷ stimulus_rule ∷ clocks_rule ∷ pin_rule ∷ bit_rule ∷ [])

-- `uart --send F --divider I --clocks N`
unfoldable pub uart_app : App
uart_app = subcommand (codes "uart") (send_rule ∷ divider_rule ∷ clocks_rule ∷ [])

-- `pair --source S --config A --second B [--stimulus T] --clocks N`
unfoldable pub pair_app : App
pair_app = subcommand (codes "pair") (source_rule ∷ needed_config_rule ∷ second_rule ∷ stimulus_rule ∷ clocks_rule ∷ [])

-- `inspect --source S [--config C] [--stimulus T] --clocks N`
unfoldable pub inspect_app : App
inspect_app = subcommand (codes "inspect") (source_rule ∷ config_rule ∷ stimulus_rule ∷ clocks_rule ∷ [])

-- `piotool` with no arguments of its own, which wants a subcommand
unfoldable pub bare_app : App
bare_app = record (new_app (codes "piotool")) {
  top = record (new_app (codes "piotool")).top { subcommand_required = true };
}

-- `piotool` with its subcommands; who unfolds it unfolds all that it is made of
unfoldable pub tool : App
unfolding taking offering bare_app asm_app run_app dis_app check_app gen_app table_app recheck_app shares_app measure_app receive_app uart_app pair_app inspect_app file_rule source_rule needed_config_rule config_rule second_rule stimulus_rule clocks_rule seed_rule span_rule table_rule pin_rule bit_rule send_rule divider_rule side_rule opt_rule
tool = fold offering bare_app (asm_app ∷ run_app ∷ dis_app ∷ check_app ∷ gen_app ∷ table_app ∷ recheck_app ∷ shares_app
    ∷ measure_app ∷ receive_app ∷ uart_app ∷ pair_app ∷ inspect_app ∷ [])
