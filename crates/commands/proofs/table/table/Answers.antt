use Rattle.std.proofs.Common.{option_map, arith}
use Rattle.std.proofs.lemmas.Result.{err_from_is_err_and}
use Rattle.pin_matrix.specs.declared.setup.Setup.{Setup}
use Rattle.pin_matrix.specs.declared.span.Span.{Span}
use Rattle.stages.proofs.Parts.{made}
use Rattle.stages.proofs.Spanned.{span_fails, span_found, no_span}
use Rattle.commands.specs.Tasks.{tabled}
use Rattle.commands.proofs.PromiseKept.{unread, did}
use Rattle.commands.proofs.TaskDone.{named_at}
use Rattle.commands.proofs.table.table.Goals as goal

pub returns-in_err-setup : goal.returns-in_err-setup
returns-in_err-setup g c =
    let p = err_from_is_err_and c.from_residual.result c.from_residual.ensures.1 in
    rw (p.1, p.2) (unread _ g.F.Shelf g.O.Sink _ _ _ _ _ _ (made g.F.Shelf _ (λ asked. tabled asked.0 asked.1) _ _ _ _ (span_fails g.F.Shelf c.args.source.now (option_map (λ t. t.now) c.args.config) c.args.name.now _ (λ (asked : Setup × Span). asked) _ _ _ c.in_err-setup.ensures.plan)))

pub tell_table-requires-clause-named : goal.tell_table-requires-clause-named
tell_table-requires-clause-named g c =
    named_at _ _ _ _ c.in-Some.ensures.first

pub returns-in-Some : goal.returns-in-Some
returns-in-Some g c =
    did _ g.F.Shelf g.O.Sink _ _ _ _ _ _ _ _ _ (made g.F.Shelf _ (λ asked. tabled asked.0 asked.1) _ _ _ _ (span_found g.F.Shelf c.args.source.now (option_map (λ t. t.now) c.args.config) c.args.name.now _ _ _ _ _ _ c.in_ok-setup.ensures.plan c.in-Some.ensures.first)) tt
    (c.tell_table.ensures)
    (omega arith)

pub returns : goal.returns
returns g c =
    unread _ g.F.Shelf g.O.Sink _ _ _ _ _ _ (made g.F.Shelf _ (λ asked. tabled asked.0 asked.1) _ _ _ _
    (no_span g.F.Shelf c.args.source.now (option_map (λ t. t.now) c.args.config) c.args.name.now _ _ (λ (asked : Setup × Span). asked) _ _ c.in_ok-setup.ensures.plan c.in-None.ensures.first))
