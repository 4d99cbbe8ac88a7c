use Rattle.pio_edge.proofs.PutLaws.{takes_on, takes_off}
use Rattle.vcd_trace.specs.InsideText.{inside_header_text}
use Rattle.vcd_trace.specs.VcdText.{clock_line}
use Rattle.vcd_trace.proofs.inside_vcd.put_opening.Goals as goal

pub returns-clause-bytes : goal.returns-clause-bytes
returns-clause-bytes g c =
    takes_on _ _ _ (inside_header_text c.args.configured.now) (clock_line 0) c.put_clock.result c.in_ok-put_inside_header.ensures.bytes c.put_clock.ensures.bytes

pub returns-in_err-put_inside_header-clause-bytes : goal.returns-in_err-put_inside_header-clause-bytes
returns-in_err-put_inside_header-clause-bytes g c =
    takes_off _ _ (inside_header_text c.args.configured.now) (clock_line 0) c.from_residual.result c.from_residual.ensures.0 c.in_err-put_inside_header.ensures.bytes
