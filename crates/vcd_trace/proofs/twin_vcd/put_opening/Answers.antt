use Rattle.pio_edge.proofs.PutLaws.{takes_on, takes_off}
use Rattle.vcd_trace.proofs.twin_vcd.put_opening.Goals as goal
use Rattle.vcd_trace.specs.TwinText.{twin_header_text}
use Rattle.vcd_trace.specs.VcdText.{clock_line}

pub returns-clause-bytes : goal.returns-clause-bytes
returns-clause-bytes g c = takes_on _ _ _ twin_header_text (clock_line 0) c.put_clock.result c.in_ok-put_twin_header.ensures.bytes c.put_clock.ensures.bytes

pub returns-in_err-put_twin_header-clause-bytes : goal.returns-in_err-put_twin_header-clause-bytes
returns-in_err-put_twin_header-clause-bytes g c = takes_off _ _ twin_header_text (clock_line 0) c.from_residual.result c.from_residual.ensures.0 c.in_err-put_twin_header.ensures.bytes
