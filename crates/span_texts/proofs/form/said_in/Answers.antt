use Rattle.span_texts.specs.TableLines.{fields_of}
use Rattle.span_texts.proofs.Forms.{whole_line, five_fields, said_same}
use Rattle.span_texts.proofs.form.said_in.Goals as goal

pub returns : goal.returns
returns c =
    whole_line (fields_of c.args.line.now) c.next-5.new.self c.in_ok-address.address.now c.in_ok-x.x.now c.in_ok-y.y.now c.in_ok-from.from.now c.in_ok-to.to.now c.said_by.result
    (five_fields _ _ _ _ _ _ _ _ _ _ _ _ c.of_line-fields.ensures c.in_ok-address.ensures c.in_ok-x.ensures c.in_ok-y.ensures c.in_ok-from.ensures c.in_ok-to.ensures)
    (said_same _ _ _ _ _ _ _ _ _ _ _ _ _ c.said_by.ensures c.number_in-address.ensures c.known_in-x.ensures c.known_in-y.ensures c.number_in-from.ensures c.number_in-to.ensures c.ages_in-ages.ensures)
