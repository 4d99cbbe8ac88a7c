use Rattle.std.proofs.Common.{◌≡◌, ◌+◌, ◌++◌, ◌∙◌, ap, arith, sym, rules}
use Rattle.vcd_trace.specs.VcdText.{declaration, named}
use Rattle.vcd_trace.specs.InsideGroups.{machine_variable}
use Rattle.vcd_trace.proofs.InsideLaws.{named_text, named_text-all, named_text-none, named_text-turn}
use Rattle.vcd_trace.proofs.TextLaws.{going_done}
use Rattle.pio_edge.proofs.PutLaws.{going_begins, going_on, takes_failed}
use Rattle.vcd_trace.proofs.inside_header.put_machine_variables.Goals as goal

pub loop-number-init : goal.loop-number-init
loop-number-init g c = record {
  going = rw (named_text-all c.args.first) (going_begins _ _);
  counts = search rules;
}

pub returns-in_err-put_named-clause-bytes : goal.returns-in_err-put_named-clause-bytes
returns-in_err-put_named-clause-bytes g c =
    let l = c.loop-number in
    let first = c.args.first in
    let n = l.number in
    let turn = named_text-turn first n c.loop-number-test.true
    ∙ ap (λ t. declaration (first + n) (named t (machine_variable n).width) ++ named_text first (n + 1)) (sym c.variable_of-width.ensures.name)
    ∙ ap (λ w. declaration (first + n) (named c.variable_of-width.result.0.now w) ++ named_text first (n + 1)) (sym c.variable_of-width.ensures.width) in
    takes_failed _ _ _ _ _ _ _ c.from_residual.result l.invariant.going turn c.from_residual.ensures.0 c.in_err-put_named.ensures.bytes

pub loop-number-preserved : goal.loop-number-preserved
loop-number-preserved g c =
    let l = c.loop-number in
    let first = c.args.first in
    let n = l.number in
    let turn = named_text-turn first n c.loop-number-test.true
    ∙ ap (λ t. declaration (first + n) (named t (machine_variable n).width) ++ named_text first (n + 1)) (sym c.variable_of-width.ensures.name)
    ∙ ap (λ w. declaration (first + n) (named c.variable_of-width.result.0.now w) ++ named_text first (n + 1)) (sym c.variable_of-width.ensures.width) in
    record {
      going = going_on _ _ _ _ _ _ _ l.invariant.going turn c.in_ok-put_named.ensures.bytes;
      counts = c.in_ok-put_named.ensures.cause.ok ∙ l.invariant.counts;
    }

pub returns-clause-bytes : goal.returns-clause-bytes
returns-clause-bytes g c =
    let l = c.loop-number in
    let last : l.number ≡ 10 = omega arith in
    going_done _ _ _ _ l.invariant.going (ap (named_text c.args.first) last ∙ named_text-none c.args.first)
