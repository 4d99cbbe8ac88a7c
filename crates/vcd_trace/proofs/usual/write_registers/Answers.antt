use Rattle.std.proofs.Common.{◌+◌, ◌++◌, List, ℕ, ap, ◌∙◌, drop}
use Rattle.vcd_trace.specs.Groups.{vector_changes}
use Rattle.vcd_trace.specs.InsideGroups.{counts_of}
use Rattle.vcd_trace.proofs.UsualLaws.{flag_change, registers-eight, word_change}
use Rattle.vcd_trace.proofs.usual.write_registers.Goals as goal

pub returns-clause-text : goal.returns-clause-text
returns-clause-text c =
    let id = c.args.first in
    let a = c.args.before.now in
    let b = c.args.now.now in
    c.write_changed.ensures.text
    ∙ ap (λ (l : List ℕ). word_change id a.x b.x ++ l) (c.write_changed-y.ensures.text
    ∙ ap (λ (l : List ℕ). word_change (id + 1) a.y b.y ++ l) (c.write_changed-isr.ensures.text
    ∙ ap (λ (l : List ℕ). word_change (id + 2) a.isr b.isr ++ l) (c.write_changed-osr.ensures.text
    ∙ ap (λ (l : List ℕ). word_change (id + 3) a.osr b.osr ++ l) (c.write_counts-counts.ensures.text
    ∙ ap (λ (l : List ℕ). vector_changes (id + 4) (counts_of a) (counts_of b) ++ l) (c.write_flag-waits.ensures.text
    ∙ ap (λ (l : List ℕ). flag_change (id + 6) a.waits b.waits ++ l) c.write_flag-enabled.ensures.text)))))
    ∙ registers-eight id a b (drop c.args.end c.args.room.now)
