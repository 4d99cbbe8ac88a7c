use Rattle.std.proofs.Common.{◌≡◌, ◌∙◌, ◌-◌, ◌++◌, ◌∷◌, [], Some, None, slice_get, ap, sym, refl, length, arith}
use Rattle.std.proofs.lemmas.List.{append-nil}
use Rattle.std.proofs.lemmas.Option.{slice_get_past, slice_get_read}
use Rattle.pio_assemble.proofs.Reading.{line_read, none_left}
use Rattle.pio_assemble.proofs.lines.read_lines.Goals as goal

pub loop-first-preserved : goal.loop-first-preserved
loop-first-preserved c =
    let more : c.push.new.self.items ≡ c.loop-first.lines.items ++ c.in_ok-line.field-0 ∷ [] = c.in_ok-push.ensures.items in
    let left = c.in-Some.ensures.lookup.3.0 in
    let here : slice_get c.args.tokens.now c.loop-first.at ≡ Some c.in-Some.first.now = slice_get_read c.args.tokens.now (length c.args.tokens.now) c.loop-first.at c.in-Some.first.now refl left c.in-Some.ensures.lookup.1 in
    record {
      lines = rw (more, c.in_ok-line.ensures.line, c.line_end-at.ensures.value) (line_read c.loop-first.lines.items c.args.source.now c.args.tokens.now c.loop-first.at c.in-Some.first.now _ here left c.loop-first.invariant.count c.loop-first.invariant.lines);
      count = omega arith;
      within = c.line_end-at.ensures.within;
    }

pub returns-clause-lines : goal.returns-clause-lines
returns-clause-lines c =
    let end : slice_get c.args.tokens.now c.loop-first.at ≡ None = slice_get_past c.args.tokens.now c.loop-first.at c.in_default.ensures.lookup.3 in
    let rest = none_left (length c.args.tokens.now - length c.loop-first.lines.items) c.args.source.now c.args.tokens.now c.loop-first.at end in
    sym (append-nil c.loop-first.lines.items) ∙ ap (λ t. c.loop-first.lines.items ++ t) (sym rest) ∙ c.loop-first.invariant.lines
