-- What the steps that make the command promise. Memory may be wanted at each of them, and then nothing is made.
use Rattle.std.specs.Prelude.{◌≡◌, ℕ, Bool, true, false, Result, IfOk, Some, [], ◌∷◌}
use Rattle.clap.specs.Walk.{Rule, Text, rule_of}
use Rattle.clap.specs.Simple.{App, app_of}
use Rattle.clap.specs.declared.builder.value_parser.ValueParser.TheVariants.{Unsigned}
use Rattle.clap.specs.declared.builder.arg.Arg.{Arg}
use Rattle.clap.specs.declared.builder.command.Command.{Command}
use Rattle.clap.specs.declared.builder.command.Command.TheViews.{out-Command}
use Rattle.command_line.specs.Tool.{clocks_rule, config_rule, needed_config_rule, option_rule, second_rule, source_rule}
use Rattle.command_line.specs.Tool.{offering, span_rule, stimulus_rule, subcommand, taking}

-- the argument is this one, for its command alone
pub record IsRule (r : Rule) (argument : Arg) : Type 0 where
  pub rule : rule_of argument ≡ r
  pub local : argument.global ≡ false

-- the command is this one, and none of its arguments is one of its subcommands'
pub record IsApp (a : App) (command : Command) : Type 0 where
  pub app : app_of command ≡ a
  pub local : (out-Command command).has_globals ≡ false

-- `--name X`, any text, which is in each call where it is needed
abbrev pub text_rule : Text → Bool → Rule
text_rule name needed = record (option_rule name) { required = needed }

-- `--name N`, a whole number between the ends, which is in each call
abbrev pub number_rule : Text → ℕ → ℕ → Rule
number_rule name least most = record (text_rule name true) { parser = Some (Unsigned least most) }

-- the subcommand of a name that takes a source, and a configuration where one is given
abbrev pub sourced_app : Text → App
sourced_app name = subcommand name (source_rule ∷ config_rule ∷ [])

-- the subcommand of a name that takes a source and the configurations of two blocks
abbrev pub paired_app : Text → App
paired_app name = subcommand name (source_rule ∷ needed_config_rule ∷ second_rule ∷ [])

-- the subcommand of a name that takes the name of a span beside source and configuration
abbrev pub spanned_app : Text → App
spanned_app name = subcommand name (source_rule ∷ config_rule ∷ span_rule ∷ [])

-- the subcommand of a name that takes a stimulus, where one is given, and a number of clocks beside them
abbrev pub traced_app : Text → App
traced_app name = subcommand name (source_rule ∷ config_rule ∷ stimulus_rule ∷ clocks_rule ∷ [])

-- a command that takes a stimulus, where one is given, and a number of clocks more
abbrev pub timed : App → App
timed a = taking (taking a stimulus_rule) clocks_rule

-- the command, where it was made, has one argument of this rule more
abbrev pub Gains : {E : Type 0} → Result Command E → Rule → Result Command E → Type 0
Gains old r new = (a : App) → IfOk old (IsApp a) → IfOk new (IsApp (taking a r))

-- the command, where it was made, has one argument more
abbrev pub TakesArgument : {E : Type 0} → Result Command E → Arg → Result Command E → Type 0
TakesArgument old argument new = (a : App) (r : Rule) → IfOk old (IsApp a) → IsRule r argument → IfOk new (IsApp (taking a r))

-- the command, where both were made, has one subcommand more
abbrev pub Offers : {E : Type 0} → Result Command E → Result Command E → Result Command E → Type 0
Offers old sub new = (a s : App) → IfOk old (IsApp a) → IfOk sub (IsApp s) → IfOk new (IsApp (offering a s))
