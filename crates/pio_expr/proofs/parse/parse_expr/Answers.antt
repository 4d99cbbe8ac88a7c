use Rattle.std.proofs.Common.{arith, rules}
use Rattle.pio_expr.proofs.Answered.{all_left}
use Rattle.pio_expr.proofs.parse.parse_expr.Goals as goal

pub loop-reading-init : goal.loop-reading-init
loop-reading-init c = record {
  within = c.requires.from;
  onward = omega arith;
  begun = λ e. cc;
  sound = rw (c.new-reading.ensures.waiting) tt;
  same = rw (c.new-reading.ensures.waiting, c.new-reading.ensures.items) (all_left c.args.source.now c.args.tokens.now c.args.from);
}

-- as the search finds it: a refused body is told at once
pub returns-in-None-clause-value : goal.returns-in-None-clause-value
returns-in-None-clause-value c = search rules
