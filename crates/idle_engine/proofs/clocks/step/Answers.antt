use Rattle.std.proofs.Common.{◌+◌, arith}
use Rattle.idle_engine.proofs.clocks.step.Goals as goal

pub next_due-requires-then-news-clause-may_ask : goal.next_due-requires-then-news-clause-may_ask
next_due-requires-then-news-clause-may_ask g c =
    c.is_of_its_kind.ensures.waits c.args.ports.now _ c.args.clock (c.args.clock + 1) c.requires.may_ask (omega arith) (λ n from below. c.requires.until.rests n from (omega arith))

pub returns-then-news-clause-may_ask : goal.returns-then-news-clause-may_ask
returns-then-news-clause-may_ask g c =
    c.is_of_its_kind.ensures.waits c.args.ports.now _ c.args.clock (c.args.clock + 1) c.requires.may_ask (omega arith) (λ n from below. c.requires.until.rests n from (omega arith))

pub returns-else-news-clause-may_ask : goal.returns-else-news-clause-may_ask
returns-else-news-clause-may_ask g c =
    c.is_of_its_kind.ensures.waits c.args.ports.now _ c.args.clock (c.args.clock + 1) c.requires.may_ask (omega arith) (λ n from below. c.requires.until.rests n from (omega arith))
