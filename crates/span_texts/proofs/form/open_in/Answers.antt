use Rattle.span_texts.proofs.Forms.{two_fields}
use Rattle.span_texts.proofs.form.open_in.Goals as goal

pub returns-in-None : goal.returns-in-None
returns-in-None c = two_fields c.args.lo.now c.args.hi.now c.args.fields _ _ _ c.in-None.ensures c.between.ensures c.number_in-least.ensures c.number_in-greatest.ensures
