use Rattle.std.proofs.Common.{List, ℕ, take, sym, ap, ◌∙◌, arith}
use Rattle.std.proofs.lemmas.List.{take_rest}
use Rattle.dreq_pacing.specs.Fields.{rest_of, with_part}
use Rattle.dreq_pacing.proofs.Parts.{nothing_left, part_ended, part_last, part_none}
use Rattle.dreq_pacing.proofs.fields.first_part.Goals as goal

pub returns-then-parts_fields-clause-parts : goal.returns-then-parts_fields-clause-parts
returns-then-parts_fields-clause-parts c =
    let text = c.args.text.now in
    let i = c.loop-at.at in
    part_ended text i (omega arith) (sym c.parts_fields.ensures ∙ c.if-parts_fields.true) c.loop-at.invariant
    ∙ ap (λ (rest : List ℕ). with_part (take i text) (rest_of rest)) (sym (take_rest text i))

pub returns-then-parts_fields-clause-none : goal.returns-then-parts_fields-clause-none
returns-then-parts_fields-clause-none c =
    part_none c.args.text.now c.loop-at.at (omega arith) (sym c.parts_fields.ensures ∙ c.if-parts_fields.true) c.requires

pub returns-clause-parts : goal.returns-clause-parts
returns-clause-parts c = part_last c.args.text.now c.loop-at.at (omega arith) c.loop-at.invariant

pub returns-clause-none : goal.returns-clause-none
returns-clause-none c = nothing_left c.args.text.now
