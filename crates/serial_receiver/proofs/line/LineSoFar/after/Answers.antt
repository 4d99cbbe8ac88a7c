use Rattle.std.proofs.Common.{ℕ, ◌+◌, ◌-◌, ◌^◌, min, ap, sym, ◌∙◌, subst, arith}
use Rattle.serial_receiver.specs.Hearing.{Opens}
use Rattle.serial_receiver.proofs.Listening.{idle_next, next_open}
use Rattle.serial_receiver.proofs.line.LineSoFar.after.Goals as goal

pub returns-in-None : goal.returns-in-None
returns-in-None c = λ before levels h at.
    let P : ℕ → Type 0 = λ k. Opens k c.args.self.last c.args.level c.opened.result in
    idle_next c.args.bit before levels c.args.level c.args.self c.opened.result c.requires c.in-None.is h (subst P (sym at) c.opened.ensures)

pub returns-in-Some : goal.returns-in-Some
returns-in-Some c =
    next_open c.args.bit c.args.clock c.saturating_add.result c.args.level c.args.self c.in-Some.begun c.proceed.result c.heard_of.result (omega arith) c.in-Some.is
    (c.saturating_add.ensures ∙ ap (λ k. min (k + 1) (2 ^ 64 - 1)) c.saturating_sub.ensures) c.proceed.ensures c.heard_of.ensures
