use Rattle.std.proofs.Common.{List, option_map, arith}
use Rattle.std.proofs.lemmas.Result.{err_from_is_err_and}
use Rattle.pin_matrix.specs.declared.setup.Setup.{Setup}
use Rattle.pin_matrix.specs.declared.span.Span.{Span}
use Rattle.span_bounds.specs.declared.row.Row.{Row}
use Rattle.stages.proofs.Parts.{made}
use Rattle.stages.proofs.Spanned.{span_fails, span_found, no_span, recheck_fails, table_fails, table_read}
use Rattle.commands.specs.Tasks.{rechecked}
use Rattle.commands.proofs.PromiseKept.{unread, did}
use Rattle.commands.proofs.TaskDone.{named_at}
use Rattle.commands.proofs.recheck.recheck.Goals as goal

pub returns-in_err-setup : goal.returns-in_err-setup
returns-in_err-setup g c =
    let p = err_from_is_err_and c.from_residual.result c.from_residual.ensures.1 in
    rw (p.1, p.2) (unread _ g.F.Shelf g.O.Sink _ _ _ _ _ _ (made g.F.Shelf _ (λ read. rechecked read.0.0 read.0.1 read.1) _ _ _ _ (recheck_fails g.F.Shelf c.args.source.now (option_map (λ t. t.now) c.args.config) c.args.name.now c.args.table.now (λ (asked : Setup × Span). asked) (λ (read : (Setup × Span) × List Row). read) _ _ _
    (span_fails g.F.Shelf c.args.source.now (option_map (λ t. t.now) c.args.config) c.args.name.now _ (λ (asked : Setup × Span). asked) _ _ _ c.in_err-setup.ensures.plan))))

pub returns-in_err-rows-in-Some : goal.returns-in_err-rows-in-Some
returns-in_err-rows-in-Some g c =
    let p = err_from_is_err_and c.from_residual-in_err-rows-in-Some.result c.from_residual-in_err-rows-in-Some.ensures.1 in
    rw (p.1, p.2) (unread _ g.F.Shelf g.O.Sink _ _ _ _ _ _ (made g.F.Shelf _ (λ read. rechecked read.0.0 read.0.1 read.1) _ _ _ _ (table_fails g.F.Shelf c.args.source.now (option_map (λ t. t.now) c.args.config) c.args.name.now c.args.table.now _ _ (λ (read : (Setup × Span) × List Row). read) _ _ _ _
    (span_found g.F.Shelf c.args.source.now (option_map (λ t. t.now) c.args.config) c.args.name.now _ _ _ _ _ _ c.in_ok-setup.ensures.plan c.in-Some.ensures.first) (rw c.follow.ensures at c.in_err-rows-in-Some.ensures.plan))))

pub tell_recheck-requires-clause-named : goal.tell_recheck-requires-clause-named
tell_recheck-requires-clause-named g c =
    named_at _ _ _ _ c.in-Some.ensures.first

pub returns-in-Some : goal.returns-in-Some
returns-in-Some g c =
    did _ g.F.Shelf g.O.Sink _ _ _ _ _ _ _ _ _ (made g.F.Shelf _ (λ read. rechecked read.0.0 read.0.1 read.1) _ _ _ _ (table_read g.F.Shelf c.args.source.now (option_map (λ t. t.now) c.args.config) c.args.name.now c.args.table.now _ _ _ _ _ _
    (span_found g.F.Shelf c.args.source.now (option_map (λ t. t.now) c.args.config) c.args.name.now _ _ _ _ _ _ c.in_ok-setup.ensures.plan c.in-Some.ensures.first) (rw c.follow.ensures at c.in_ok-rows-in-Some.ensures.plan))) tt
    (c.tell_recheck.ensures)
    (omega arith)

pub returns : goal.returns
returns g c =
    unread _ g.F.Shelf g.O.Sink _ _ _ _ _ _ (made g.F.Shelf _ (λ read. rechecked read.0.0 read.0.1 read.1) _ _ _ _
    (recheck_fails g.F.Shelf c.args.source.now (option_map (λ t. t.now) c.args.config) c.args.name.now c.args.table.now (λ (asked : Setup × Span). asked) (λ (read : (Setup × Span) × List Row). read) _ _ _ (no_span g.F.Shelf c.args.source.now (option_map (λ t. t.now) c.args.config) c.args.name.now _ _ (λ (asked : Setup × Span). asked) _ _ c.in_ok-setup.ensures.plan c.in-None.ensures.first)))
