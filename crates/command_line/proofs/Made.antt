-- The command is made of its arguments and subcommands.
use Rattle.std.proofs.Common.{◌≡◌, ◌∙◌, ◌||◌, ap, subst, Result, Ok, Err, IfOk}
use Rattle.clap.specs.Walk.{Rule, rule_of}
use Rattle.clap.specs.Simple.{App, app_of, with_rule, with_subcommand}
use Rattle.clap.specs.Built.{AddsArg, AddsSubcommand}
use Rattle.clap.specs.declared.builder.arg.Arg.{Arg}
use Rattle.clap.specs.declared.builder.command.Command.{Command}
use Rattle.clap.specs.declared.builder.command.Command.TheViews.{out-Command}
use Rattle.command_line.specs.Tool.{offering, taking}
use Rattle.command_line.specs.Making.{IsApp, IsRule, Offers, TakesArgument}

one_argument : (a : App) (r : Rule) (c : Command) (argument : Arg) (new : Command) → IsApp a c → IsRule r argument
    → AddsArg c argument new → IsApp (taking a r) new
unfolding taking
one_argument a r c argument new old is adds = record {
  app = adds.shape is.local ∙ ap (λ u. with_rule u (rule_of argument)) old.app ∙ ap (with_rule a) is.rule;
  local = adds.globals ∙ ap (λ g. g || argument.global) old.local ∙ is.local;
}

one_subcommand : (a s : App) (c sub new : Command) → IsApp a c → IsApp s sub → AddsSubcommand c sub new
    → IsApp (offering a s) new
unfolding offering
one_subcommand a s c sub new old is adds = record {
  app = adds.shape is.local ∙ ap (λ u. with_subcommand u (app_of sub).top) old.app ∙ ap (λ u. with_subcommand a u.top) is.app;
  local = adds.globals ∙ ap (λ g. g || (out-Command sub).has_globals) old.local ∙ is.local;
}

made_of : {E : Type 0} (P : Command → Type 0) (made : Result Command E) (c : Command) → made ≡ Ok c → IfOk made P → P c
made_of P made c same h = subst (λ r. IfOk r P) same h

-- where the command was made, it takes one argument more
pub takes_one : {E : Type 0} (old : Result Command E) (argument : Arg) (new : Result Command E) (c : Command) → old ≡ Ok c
    → IfOk new (AddsArg c argument) → TakesArgument old argument new
takes_one old argument (Ok z) c same adds a r made is = one_argument a r c argument z (made_of (IsApp a) old c same made) is adds
takes_one old argument (Err e) c same adds a r made is = tt

-- where both were made, it has one subcommand more
pub offers_one : {E : Type 0} (old sub new : Result Command E) (c s : Command) → old ≡ Ok c → sub ≡ Ok s
    → IfOk new (AddsSubcommand c s) → Offers old sub new
offers_one old sub (Ok z) c s same sub_same adds a b made sub_made =
    one_subcommand a b c s z (made_of (IsApp a) old c same made) (made_of (IsApp b) sub s sub_same sub_made) adds
offers_one old sub (Err e) c s same sub_same adds a b made sub_made = tt
