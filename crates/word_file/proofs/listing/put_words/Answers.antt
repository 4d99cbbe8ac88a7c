use Rattle.std.proofs.Common.{◌<◌, ◌≡◌, get_or, length, refl, ◌∙◌, arith}
use Rattle.pio_edge.proofs.PutLaws.{takes_failed, going_on}
use Rattle.word_file.specs.Listing.{word_line}
use Rattle.word_file.proofs.Lines.{lines-turn}
use Rattle.word_file.proofs.listing.put_words.Goals as goal

pub returns-in_err-put-clause-bytes : goal.returns-in_err-put-clause-bytes
returns-in_err-put-clause-bytes g c =
    let words = c.args.words.now in
    let place = c.loop-place.place in
    let rule = c.args.rule.now in
    let lt : place < length words = omega arith in
    let line : c.as_bytes.result.now ≡ word_line rule place (get_or words place 0) = c.as_bytes.ensures.value ∙ c.as_str.ensures.value ∙ c.word_line.ensures in
    let p = rw line at c.in_err-put.ensures.bytes in
    takes_failed _ _ _ _ _ _ _ c.from_residual.result c.loop-place.invariant.going (lines-turn rule words place (get_or words place 0) lt refl) c.from_residual.ensures.0 p

pub loop-place-preserved : goal.loop-place-preserved
loop-place-preserved g c =
    let words = c.args.words.now in
    let place = c.loop-place.place in
    let rule = c.args.rule.now in
    let lt : place < length words = omega arith in
    let line : c.as_bytes.result.now ≡ word_line rule place (get_or words place 0) = c.as_bytes.ensures.value ∙ c.as_str.ensures.value ∙ c.word_line.ensures in
    let p = rw line at c.in_ok-put.ensures.bytes in
    record {
      going = going_on _ _ _ _ _ _ _ c.loop-place.invariant.going (lines-turn rule words place (get_or words place 0) lt refl) p;
      count = c.in_ok-put.ensures.cause.ok ∙ c.loop-place.invariant.count;
    }
