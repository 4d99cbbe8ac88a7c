use Rattle.std.proofs.Common.{◌<◌, length, ◌∙◌, arith}
use Rattle.vcd_trace.proofs.InsideLaws.{machines_lines-turn}
use Rattle.pio_edge.proofs.PutLaws.{takes_failed, going_on}
use Rattle.vcd_trace.proofs.inside_dump.put_machines.Goals as goal

pub returns-in_err-put_where-clause-bytes : goal.returns-in_err-put_where-clause-bytes
returns-in_err-put_where-clause-bytes g c =
    let i = c.loop-place.place in
    let all = c.args.machines.now in
    let within : i < length all = omega arith in
    takes_failed _ _ _ _ _ _ _ c.from_residual.result c.loop-place.invariant.going (machines_lines-turn all i _ within) c.from_residual.ensures.0 c.in_err-put_where.ensures.bytes

pub loop-place-preserved : goal.loop-place-preserved
loop-place-preserved g c =
    let i = c.loop-place.place in
    let all = c.args.machines.now in
    let within : i < length all = omega arith in
    record {
      going = going_on _ _ _ _ _ _ _ c.loop-place.invariant.going (machines_lines-turn all i _ within) c.in_ok-put_where.ensures.bytes;
      counts = c.in_ok-put_where.ensures.cause.ok ∙ c.loop-place.invariant.counts;
    }
