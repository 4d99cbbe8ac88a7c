use Rattle.pio_edge.proofs.PutLaws.{takes_on, takes_off}
use Rattle.vcd_trace.proofs.vcd.put_opening.Goals as goal
use Rattle.vcd_trace.specs.VcdText.{header_text, clock_line}

pub returns-clause-bytes : goal.returns-clause-bytes
returns-clause-bytes g c = takes_on _ _ _ header_text (clock_line 0) c.put_clock.result c.in_ok-put_header.ensures.bytes c.put_clock.ensures.bytes

pub returns-in_err-put_header-clause-bytes : goal.returns-in_err-put_header-clause-bytes
returns-in_err-put_header-clause-bytes g c = takes_off _ _ header_text (clock_line 0) c.from_residual.result c.from_residual.ensures.0 c.in_err-put_header.ensures.bytes
