use Rattle.commands.proofs.Sent.{sent}
use Rattle.commands.proofs.uart.send_bytes.Goals as goal

pub returns-clause-ends : goal.returns-clause-ends
returns-clause-ends g c =
    sent c.a_transmitter_sends_this_text.ensures c.args.divider c.args.clocks c.uart_setup-setup.result _ c.args.bytes.now _ _ _
    c.requires.some c.uart_setup-setup.ensures.setup c.in_ok-schedule.ensures c.write_received.ensures.ends
