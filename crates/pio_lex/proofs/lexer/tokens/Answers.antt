use Rattle.pio_lex.proofs.Answers.{gives, refuses, each_spelled}
use Rattle.pio_lex.proofs.Function.{answers}
use Rattle.pio_lex.proofs.lexer.tokens.Goals as goal

pub returns-clause-only : goal.returns-clause-only
returns-clause-only c t is = gives (λ v. v.items) c.read.result c.args.source.now t c.read.ensures.ok c.read.ensures.fault is

pub returns-clause-fault_only : goal.returns-clause-fault_only
returns-clause-fault_only c line kind is = refuses (λ v. v.items) c.read.result c.args.source.now line kind c.read.ensures.ok c.read.ensures.fault is

pub returns-clause-each : goal.returns-clause-each
returns-clause-each c = each_spelled (λ v. v.items) c.read.result c.args.source.now c.read.ensures.ok

pub returns-clause-value : goal.returns-clause-value
returns-clause-value c = answers (λ v. v.items) c.read.result c.args.source.now c.read.ensures.ok c.read.ensures.fault
