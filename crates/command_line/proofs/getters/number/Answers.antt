use Rattle.std.proofs.Common.{◌∙◌, refl}
use Rattle.std.specs.Str.Parse.{ExplainsUnsignedError, HasUnsignedDigitsIfOk, ParsesUnsigned}
use Rattle.clap.specs.Matches.{found_of}
use Rattle.clap.proofs.WalkLemmas.{one_text-rows}
use Rattle.command_line.proofs.Values.{number_or_zero}
use Rattle.command_line.proofs.getters.number.Goals as goal

pub returns : goal.returns
returns c =
    let rows = one_text-rows (found_of c.args.matches.now) c.args.id.now in
    let read = number_or_zero _ (λ t r. ParsesUnsigned 64 10 t r × ExplainsUnsignedError 10 t r × HasUnsignedDigitsIfOk t r)
    (λ t r gives. gives.0) _ c.get_one.result (λ e. c.get_one.ensures.none (rows ∙ e))
    (λ t e. c.get_one.ensures.value t (rows ∙ e)) in
    rw (c.min.ensures, c.unwrap_or.ensures, read) refl
