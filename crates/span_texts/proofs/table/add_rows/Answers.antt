use Rattle.std.proofs.Common.{◌≡◌, ◌+◌, ◌≤◌, rules, true, false, Ok, List, ℕ, Option, Bor, length, sym, ap, subst, ◌∙◌, arith}
use Rattle.std.specs.Prelude.{option_copied}
use Rattle.std.specs.Str.{bytes_eq}
use Rattle.byte_lines.specs.Lines.{lines_of, left_size}
use Rattle.span_bounds.specs.Numbers.{number_of}
use Rattle.span_bounds.specs.Tables.{FollowedRows}
use Rattle.span_texts.specs.TableLines.{row_at}
use Rattle.span_texts.specs.Reading.{end_line, rows_from}
use Rattle.span_texts.proofs.Goings.{refuses, opened, end_line_in, ends_ok, bad_line_in, kept, left_on, AllBelow, AllBelow-push, AllBelow-up}
use Rattle.span_texts.proofs.OneText.{row_least}
use Rattle.span_texts.proofs.table.add_rows.Goals as goal

pub returns-then-eq-clause-rows : goal.returns-then-eq-clause-rows
returns-then-eq-clause-rows c =
    let l = c.loop-rest in
    let d = c.follow-follow.result in
    let is : bytes_eq c.first_line.result.0.now end_line ≡ true = search rules in
    let whole = opened d l.table.rows l.number l.least l.rest c.first_line.result.1 c.in-Some.text c.in-Some-after.next c.first_line.result.0.now (rows_from d 2 0 (lines_of c.args.text.now)) c.in-Some.is c.first_line.ensures.line c.in-Some-after.is l.invariant.whole in
    rw (← l.invariant.old) (ends_ok l.table.rows _ _ (end_line_in d l.table.rows l.number l.least c.first_line.result.0.now c.in-Some-after.next.now _ is whole) c.in_ok-ended.ensures)

pub returns-in-Err-clause-rows : goal.returns-in-Err-clause-rows
returns-in-Err-clause-rows c =
    let l = c.loop-rest in
    let d = c.follow-follow.result in
    let other : bytes_eq c.first_line.result.0.now end_line ≡ false = search rules in
    let whole = opened d l.table.rows l.number l.least l.rest c.first_line.result.1 c.in-Some.text c.in-Some-after.next c.first_line.result.0.now (rows_from d 2 0 (lines_of c.args.text.now)) c.in-Some.is c.first_line.ensures.line c.in-Some-after.is l.invariant.whole in
    rw (← l.invariant.old) (refuses _ _ _ c.wrong_at.ensures (bad_line_in d l.table.rows l.number l.least c.first_line.result.0.now c.in-Some-after.next.now c.in-Err.kind _ other (sym c.in-Err.ensures.value) whole))

pub push-requires-clause-last : goal.push-requires-clause-last
push-requires-clause-last c =
    let d = c.follow-follow.result in
    rw c.loop-rest.invariant.same
    (AllBelow-up d c.loop-rest.least (number_of d c.in-Ok.row.context) c.loop-rest.table.rows c.loop-rest.invariant.below
    (row_least d c.loop-rest.least c.first_line.result.0.now c.in-Ok.row (sym c.in-Ok.ensures.value)))

pub loop-rest-preserved : goal.loop-rest-preserved
loop-rest-preserved c =
    let l = c.loop-rest in
    let d = c.follow-follow.result in
    let row : row_at d l.least c.first_line.result.0.now ≡ Ok c.in-Ok.row = sym c.in-Ok.ensures.value in
    let other : bytes_eq c.first_line.result.0.now end_line ≡ false = search rules in
    let least : l.least ≤ number_of d c.in-Ok.row.context = row_least d l.least c.first_line.result.0.now c.in-Ok.row row in
    let number : c.number_of-least.result ≡ number_of d c.in-Ok.row.context = c.number_of-least.ensures.value in
    let below : AllBelow d (c.number_of-least.result + 1) c.push.new.self.rows =
    subst (AllBelow d (c.number_of-least.result + 1)) (sym (ap (λ (t : FollowedRows). t.rows) c.push.ensures))
    (AllBelow-push d l.least (c.number_of-least.result + 1) l.table.rows c.in-Ok.row l.invariant.below (omega (arith, least, number)) (omega (arith, number))) in
    let left : left_size (option_copied l.rest) ≡ length c.in-Some.text.now + 1 = ap (λ (r : Option (Bor (List ℕ))). left_size (option_copied r)) c.in-Some.is in
    let fewer : left_size (option_copied c.first_line.result.1) ≤ length c.in-Some.text.now =
    left_on c.first_line.result.1 c.in-Some-after.next (length c.in-Some.text.now) c.in-Some-after.is c.first_line.ensures.shorter in
    let counted : l.number + left_size (option_copied l.rest) ≤ length c.args.text.now + 3 = l.invariant.counted in
    record {
      whole = kept d l.table.rows c.push.new.self.rows l.number l.least c.number_of-least.result l.rest c.first_line.result.1 c.in-Some.text c.in-Some-after.next c.first_line.result.0.now c.in-Ok.row _ c.in-Some.is c.first_line.ensures.line c.in-Some-after.is other row number (ap (λ (t : FollowedRows). t.rows) c.push.ensures) l.invariant.whole;
      below = below;
      same = ap (λ (t : FollowedRows). t.follow) c.push.ensures ∙ l.invariant.same;
      old = l.invariant.old;
      counted = omega (arith, left, fewer, counted);
    }
