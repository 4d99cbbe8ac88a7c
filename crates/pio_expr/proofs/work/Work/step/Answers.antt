use Rattle.std.proofs.Common.{◌≡◌, ◌∙◌, ap, rules, List, ℕ, ℤ, Result, Ok, nat_eq, to_z, of_z, w32}
use Rattle.std.proofs.lemmas.Result.{err_from_is_err_and}
use Rattle.std.specs.List.{list_any}
use Rattle.pio_expr.specs.declared.fault.ValueKind.{ValueKind}
use Rattle.pio_expr.specs.Values.{worked_out}
use Rattle.pio_expr.specs.Frames.{looked_up, Agrees, RestsAt}
use Rattle.pio_expr.proofs.Stepping.{shown, fault_step, wait_step}
use Rattle.pio_expr.proofs.Ending.{end_steps}
use Rattle.pio_expr.proofs.work.Work.step.Goals as goal

pub returns-in_err-place : goal.returns-in_err-place
returns-in_err-place c own items st =
    let p = err_from_is_err_and c.from_residual.result c.from_residual.ensures.1 in
    rw (p.1, p.2) (fault_step c.args.symbols.now c.args.kept.now.entries own items c.args.self.now c.in_err-place.field-0.0 st (λ named agrees. c.in_err-place.ensures.shows named agrees), st.is_kept)

pub returns-in_ok-wait-in-Waits : goal.returns-in_ok-wait-in-Waits
returns-in_ok-wait-in-Waits c own items st =
    let scope = c.args.symbols.now in
    let kept = c.args.kept.now.entries in
    let old = c.args.self.now in
    let top = c.run.new.self in
    let run : (named : List ℕ → Result ℤ ValueKind) → Agrees (looked_up scope kept (λ q. list_any (nat_eq q) old.begun.keys) old.top.local) named → worked_out named old.top.rest.now old.top.numbers.items ≡ worked_out named top.rest.now top.numbers.items = rw c.in-Waits.is at c.in_ok-place.ensures.shows in
    let rests : RestsAt (looked_up scope kept (λ q. list_any (nat_eq q) old.begun.keys) old.top.local) top.rest.now c.in-Waits.place c.in-Waits.items.now = rw c.in-Waits.is at c.in_ok-place.ensures.rests in
    wait_step scope kept own items old c.wait.new.self top c.in-Waits.place c.in-Waits.items.now st c.in_ok-place.ensures.place c.in_ok-place.ensures.local
    (shown scope kept own items old st (λ named. worked_out named top.rest.now top.numbers.items) run) rests c.in_ok-wait-in-Waits.ensures.ok

pub returns-in-Done : goal.returns-in-Done
returns-in-Done c own items st =
    let scope = c.args.symbols.now in
    let kept = c.args.kept.now.entries in
    let old = c.args.self.now in
    let top = c.run.new.self in
    let run : (named : List ℕ → Result ℤ ValueKind) → Agrees (looked_up scope kept (λ q. list_any (nat_eq q) old.begun.keys) old.top.local) named → worked_out named old.top.rest.now old.top.numbers.items ≡ Ok c.in-Done.value = rw c.in-Done.is at c.in_ok-place.ensures.shows in
    let value : ℤ = to_z w32 (of_z w32 c.in-Done.value) in
    let same : c.in-Done.value ≡ value = search rules in
    end_steps scope kept c.finish.new.kept.entries own items old c.finish.new.self top value c.finish.result st
    (shown scope kept own items old st (λ _. Ok value) (λ named agrees. run named agrees ∙ ap Ok same)) c.in_ok-place.ensures.place c.finish.ensures.frames c.finish.ensures.begun c.finish.ensures.kept c.finish.ensures.memory
