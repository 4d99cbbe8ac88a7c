use Rattle.std.proofs.Common.{◌≡◌, ◌+◌, ℕ, List, Ok, Err, length, sym, ap, ◌∙◌, arith}
use Rattle.byte_lines.specs.Lines.{lines_of}
use Rattle.dreq_pacing.specs.Fields.{Rest, before_newline, lines_after}
use Rattle.dreq_pacing.specs.Reading.{after_line, read_of}
use Rattle.dreq_pacing.specs.declared.stimulus.Reader.{Reader}
use Rattle.dreq_pacing.proofs.Readings.{going_on, bad_line, good_line, lines_few, one_less, opened}
use Rattle.dreq_pacing.proofs.stimulus.read_lines.Goals as goal

pub loop-rest-init : goal.loop-rest-init
unfolding read_of
loop-rest-init c = record {
  whole = ap (λ (r : Reader). going_on 1 r (lines_of c.args.text.now)) c.new-reader.ensures;
  same = ap (λ (r : Reader). r.draft.machines) c.new-reader.ensures;
  counted = omega (arith, lines_few c.args.text.now);
}

pub loop-rest-preserved : goal.loop-rest-preserved
loop-rest-preserved c =
    let text = c.in-Some.text in
    let number = c.loop-rest.number in
    let reader = c.loop-rest.reader in
    let on = c.read.new.self in
    let all = read_of c.args.machines c.args.text.now in
    let left = c.after_line-rest.ensures ∙ (c.in_ok-read.ensures.left ∙ ap (λ (r : Rest). r.left) c.of_text-fields.ensures) in
    let said : after_line reader c.of_text-fields.result.fields ≡ Ok on = rw (c.in-None.is) at c.in_ok-read.ensures.said in
    let good = sym (ap (λ (r : Rest). after_line reader r.fields) c.of_text-fields.ensures) ∙ said in
    let count = one_less c.loop-rest.rest text c.in-Some.is in
    let lines = ap (λ (lines : List (List ℕ)). length lines) left in
    record {
      whole = ap (going_on (number + 1) on) left
          ∙ good_line number reader on (before_newline text.now) (lines_after text.now) all good (opened number reader c.loop-rest.rest text all c.in-Some.is c.loop-rest.invariant.whole);
      same = c.in_ok-read.ensures.machines ∙ c.loop-rest.invariant.same;
      counted = (let old = c.loop-rest.invariant.counted in omega arith);
    }

pub loop-rest-smaller : goal.loop-rest-smaller
loop-rest-smaller c =
    let text = c.in-Some.text in
    let left = c.after_line-rest.ensures ∙ (c.in_ok-read.ensures.left ∙ ap (λ (r : Rest). r.left) c.of_text-fields.ensures) in
    let count = one_less c.loop-rest.rest text c.in-Some.is in
    let lines = ap (λ (lines : List (List ℕ)). length lines) left in
    omega arith

pub returns-in-Some-2-clause-value : goal.returns-in-Some-2-clause-value
returns-in-Some-2-clause-value c =
    let text = c.in-Some.text in
    let number = c.loop-rest.number in
    let reader = c.loop-rest.reader in
    let kind = c.in-Some-2.kind in
    let all = read_of c.args.machines c.args.text.now in
    let said : after_line reader c.of_text-fields.result.fields ≡ Err kind = rw (c.in-Some-2.is) at c.in_ok-read.ensures.said in
    let bad = sym (ap (λ (r : Rest). after_line reader r.fields) c.of_text-fields.ensures) ∙ said in
    bad_line number reader (before_newline text.now) (lines_after text.now) all kind bad (opened number reader c.loop-rest.rest text all c.in-Some.is c.loop-rest.invariant.whole)
