use Rattle.std.proofs.Common.{ap, sym, subst, ◌∙◌}
use Rattle.dreq_pacing.specs.Lines.{IsSchedule}
use Rattle.drawn_load.specs.Draws.{letters_of, state_at}
use Rattle.drawn_load.specs.SettingUp.{IsLoad}
use Rattle.drawn_load.proofs.OneSetup.{one_setup}
use Rattle.drawn_load.proofs.Schedules.{are_stimulus}
use Rattle.drawn_load.proofs.load.draw_load.Goals as goal

pub of-requires : goal.of-requires
of-requires c =
    let seed = c.args.seed in
    let from = c.new-draws.ensures in
    let letters = c.draw_letters-letters.ensures.letters ∙ ap letters_of from in
    let state = c.draw_letters-letters.ensures.state ∙ ap (λ s. state_at s 7) from in
    subst IsSchedule (sym (c.in_ok-lines.ensures seed letters state)) (are_stimulus seed)

pub returns-clause-setup : goal.returns-clause-setup
returns-clause-setup c =
    let seed = c.args.seed in
    let letters = c.draw_letters-letters.ensures.letters ∙ ap letters_of c.new-draws.ensures in
    one_setup seed c.setup_from.result c.setups_that_say_the_same_are_one.ensures c.what_a_setup_says_is_in_range.ensures c.a_block_in_range_is_not_clipped.ensures (subst (λ l. IsLoad l c.setup_from.result) letters c.setup_from.ensures)
