use Rattle.std.proofs.Common.{◌≡◌, ◌∙◌, [], ap, map, refl, string_bytes}
use Rattle.clap.specs.Faults.{fault_of}
use Rattle.clap.specs.Kinds.{HasKind}
use Rattle.clap.specs.Simple.{subcommand_of, subcommand_rows_of}
use Rattle.clap.proofs.CallerLemmas.{subcommand_required}
use Rattle.command_line.proofs.Causes.{cause_of_error, kinds_at_tool, matches_at_tool, not_usage, wants_subcommand}
use Rattle.command_line.proofs.matching.matched.Goals as goal

pub returns-in-Ok-try_get_matches_from-clause-passed :
    goal.returns-in-Ok-try_get_matches_from-clause-passed
returns-in-Ok-try_get_matches_from-clause-passed c =
    kinds_at_tool (λ a. fault_of a (map string_bytes c.args.words.now) ≡ []) _ c.in-Ok.ensures.app
    c.in-Ok-try_get_matches_from.ensures.kinds

pub returns-in-Ok-try_get_matches_from-clause-rows :
    goal.returns-in-Ok-try_get_matches_from-clause-rows
returns-in-Ok-try_get_matches_from-clause-rows c =
    matches_at_tool (λ a. subcommand_rows_of c.in-Ok-try_get_matches_from.matches ≡ subcommand_of a (map string_bytes c.args.words.now))
    _ c.in-Ok.ensures.app (λ e. (c.in-Ok-try_get_matches_from.ensures.matches e).1)

pub returns-in-Ok-try_get_matches_from-clause-subcommand :
    goal.returns-in-Ok-try_get_matches_from-clause-subcommand
returns-in-Ok-try_get_matches_from-clause-subcommand c =
    subcommand_required c.in-Ok.command _ c.in-Ok-try_get_matches_from.ensures.parsed c.in-Ok.ensures.local
    (ap (λ a. a.top.subcommand_required) c.in-Ok.ensures.app ∙ wants_subcommand)

pub returns-in-Err-clause-cause : goal.returns-in-Err-clause-cause
returns-in-Err-clause-cause c =
    cause_of_error _ _ c.in-Err.error c.fault_by.ensures
    (kinds_at_tool (λ a. HasKind (fault_of a (map string_bytes c.args.words.now)) c.in-Err.error) _ c.in-Ok.ensures.app
    c.in-Err.ensures.kinds)

pub returns-in-Err-clause-taken : goal.returns-in-Err-clause-taken
returns-in-Err-clause-taken c =
    not_usage _ _ _ c.in-Err.error _ refl c.in-Ok.ensures.app c.fault_by.ensures c.in-Err.ensures.passes
