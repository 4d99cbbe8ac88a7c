use Rattle.std.proofs.Common.{◌∙◌, ap, sym, subst, map}
use Rattle.std.proofs.lemmas.List.{drop_all}
use Rattle.answers.specs.Answers as answers
use Rattle.pio_assemble.specs.Answers.{told, located}
use Rattle.pio_assemble.specs.Program.{assembled_of}
use Rattle.pio_assemble.specs.Source.{with_programs, programs_from, program_scope, after_program}
use Rattle.pio_assemble.proofs.Programs.{begins_left, after_begins, adds_left, after_adds, fault_left}
use Rattle.pio_assemble.proofs.assembly.Assembly.read.Goals as goal
use Rattle.pio_assemble.proofs.assembly.Assembly.read.Goals.{in-Some+in_ok-begin_program-in-Some, in-None+in_default}

pub returns-in-Err : goal.returns-in-Err
returns-in-Err c =
    let l = c.line-item.result in
    let it = c.loop-line.self in
    let first = map assembled_of it.programs.items in
    let fault = fault_left c.args.lines.now c.loop-line.line-index l c.loop-line-test.true c.line-item.is first it.scope it.draft c.in-Err.fault (sym c.in-None.ensures.name) c.in-Err.ensures.value in
    rw c.at_line.ensures (subst (answers.Refuses (told (located l.number c.in-Err.fault))) c.loop-line.invariant.programs fault)

pub loop-line-preserved : goal.loop-line-preserved
loop-line-preserved c =
    let lines = c.args.lines.now in
    let i = c.loop-line.line-index in
    let l = c.line-item.result in
    let it = c.loop-line.self in
    let first = map assembled_of it.programs.items in
    elim c.match-program_on.branch [
      | in-Some+in_ok-begin_program-in-Some w ↦
          let begins = sym w.in-Some.ensures.name in
          let after = w.in_ok-begin_program-in-Some.ensures in
          let following = c.loop-line.invariant.symbols ∙ after_begins lines i l c.loop-line-test.true c.line-item.is w.in-Some.name.now begins in
          let programs = begins_left lines i l c.loop-line-test.true c.line-item.is first it.scope it.draft w.in-Some.name.now begins ∙ c.loop-line.invariant.programs in
          let scoped = ap (λ s. s.scope) w.self-is ∙ after.scope ∙ ap (program_scope it.scope) following in
          record {
            programs = rw (ap (λ s. map assembled_of s.programs.items) w.self-is ∙ after.programs, scoped, ap (λ s. s.draft) w.self-is ∙ after.draft) programs;
            symbols = ap (λ s. s.symbols.now) w.self-is ∙ after.symbols ∙ ap after_program following;
          }
      | in-None+in_default w ↦
          let goes_on = sym w.in-None.ensures.name in
          let after = w.in_default.ensures in
          let adds = adds_left lines i l c.loop-line-test.true c.line-item.is it.scope it.draft w.draft_line.new.self.draft goes_on after.value in
          record {
            programs = rw (ap (λ s. map assembled_of s.programs.items) w.self-is ∙ ap (λ v. map assembled_of v.items) after.programs, ap (λ s. s.scope) w.self-is ∙ after.scope, ap (λ s. s.draft) w.self-is) (ap (with_programs first) adds ∙ c.loop-line.invariant.programs);
            symbols = ap (λ s. s.symbols.now) w.self-is ∙ ap (λ q. q.now) after.symbols ∙ c.loop-line.invariant.symbols ∙ sym (after_adds lines i l c.loop-line-test.true c.line-item.is goes_on);
          }
    ]

pub returns : goal.returns
unfolding programs_from
returns c =
    let it = c.loop-line.self in
    let first = map assembled_of it.programs.items in
    sym c.loop-line.invariant.programs ∙ ap (λ ls. with_programs first (programs_from ls it.scope it.draft)) (drop_all c.loop-line.line-index c.args.lines.now c.loop-line-test.false)
