use Rattle.std.proofs.Common.{◌+◌, ◌*◌, ◌++◌, List, ℕ, sym, ap, ◌∙◌, drop, append_assoc}
use Rattle.vcd_trace.specs.Groups.{vector_changes}
use Rattle.vcd_trace.specs.InsideGroups.{place_of, register_changes}
use Rattle.vcd_trace.proofs.InsideLaws.{machine-kinds}
use Rattle.vcd_trace.proofs.usual.write_machine.Goals as goal

pub returns-clause-text : goal.returns-clause-text
returns-clause-text c =
    let id = 193 + 10 * c.args.place in
    let a = c.args.before.now in
    let b = c.args.now.now in
    let rest = drop c.args.end c.args.room.now in
    c.write_place.ensures.text
    ∙ ap (λ (l : List ℕ). vector_changes id (place_of a) (place_of b) ++ l) c.write_others-others.ensures.text
    ∙ sym (append_assoc (vector_changes id (place_of a) (place_of b)) (register_changes (id + 2) a b) rest)
    ∙ ap (λ (l : List ℕ). l ++ rest) (sym (machine-kinds id a b))
