use Rattle.std.proofs.Common.{◌++◌, refl}
use Rattle.std.specs.Prelude.{codes}
use Rattle.vcd_trace.specs.VcdText.{values_over}
use Rattle.vcd_trace.specs.Groups.{bit_lines}
use Rattle.vcd_trace.specs.InsideText.{machines_lines}
use Rattle.vcd_trace.proofs.InsideLaws.{inside_dump-parts}
use Rattle.pio_edge.proofs.PutLaws.{going_begins, going_on, takes_failed, takes_last}
use Rattle.vcd_trace.proofs.inside_dump.put_inside_dump.Goals as goal

pub returns-in_err-put-clause-bytes : goal.returns-in_err-put-clause-bytes
returns-in_err-put-clause-bytes g c =
    takes_failed _ _ _ _ _ _ _ c.from_residual.result (going_begins _ _) (inside_dump-parts c.args.inside.now) c.from_residual.ensures.0 c.in_err-put.ensures.bytes

pub returns-in_err-put_values-clause-bytes : goal.returns-in_err-put_values-clause-bytes
returns-in_err-put_values-clause-bytes g c =
    let g1 = going_on _ _ _ _ _ _ _ (going_begins _ _) (inside_dump-parts c.args.inside.now) c.in_ok-put.ensures.bytes in
    takes_failed _ _ _ _ _ _ _ c.from_residual-in_err-put_values.result g1 refl c.from_residual-in_err-put_values.ensures.0 c.in_err-put_values.ensures.bytes

pub returns-in_err-put_bits-clause-bytes : goal.returns-in_err-put_bits-clause-bytes
returns-in_err-put_bits-clause-bytes g c =
    let s = c.args.inside.now in
    let ends = codes "$end\n" in
    let machines = machines_lines 0 s.machines in
    let g1 = going_on _ _ _ _ _ _ _ (going_begins _ _) (inside_dump-parts s) c.in_ok-put.ensures.bytes in
    let g2 = going_on _ _ _ _ _ (values_over 0 s.sample) (bit_lines 161 32 s.pads ++ (machines ++ ends)) g1 refl c.in_ok-put_values.ensures.bytes in
    takes_failed _ _ _ _ _ (bit_lines 161 32 s.pads) (machines ++ ends) c.from_residual-in_err-put_bits.result g2 refl c.from_residual-in_err-put_bits.ensures.0 c.in_err-put_bits.ensures.bytes

pub returns-in_err-put_machines-clause-bytes : goal.returns-in_err-put_machines-clause-bytes
returns-in_err-put_machines-clause-bytes g c =
    let s = c.args.inside.now in
    let ends = codes "$end\n" in
    let machines = machines_lines 0 s.machines in
    let g1 = going_on _ _ _ _ _ _ _ (going_begins _ _) (inside_dump-parts s) c.in_ok-put.ensures.bytes in
    let g2 = going_on _ _ _ _ _ (values_over 0 s.sample) (bit_lines 161 32 s.pads ++ (machines ++ ends)) g1 refl c.in_ok-put_values.ensures.bytes in
    let g3 = going_on _ _ _ _ _ (bit_lines 161 32 s.pads) (machines ++ ends) g2 refl c.in_ok-put_bits.ensures.bytes in
    takes_failed _ _ _ _ _ machines ends c.from_residual-in_err-put_machines.result g3 refl c.from_residual-in_err-put_machines.ensures.0 c.in_err-put_machines.ensures.bytes

pub returns-clause-bytes : goal.returns-clause-bytes
returns-clause-bytes g c =
    let s = c.args.inside.now in
    let ends = codes "$end\n" in
    let machines = machines_lines 0 s.machines in
    let g1 = going_on _ _ _ _ _ _ _ (going_begins _ _) (inside_dump-parts s) c.in_ok-put.ensures.bytes in
    let g2 = going_on _ _ _ _ _ (values_over 0 s.sample) (bit_lines 161 32 s.pads ++ (machines ++ ends)) g1 refl c.in_ok-put_values.ensures.bytes in
    let g3 = going_on _ _ _ _ _ (bit_lines 161 32 s.pads) (machines ++ ends) g2 refl c.in_ok-put_bits.ensures.bytes in
    let g4 = going_on _ _ _ _ _ machines ends g3 refl c.in_ok-put_machines.ensures.bytes in
    takes_last _ _ _ _ _ c.put-2.result g4 c.put-2.ensures.bytes
