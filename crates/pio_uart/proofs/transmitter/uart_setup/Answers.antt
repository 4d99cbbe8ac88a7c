use Rattle.pio_uart.proofs.OneSetup.{one_transmitter}
use Rattle.pio_uart.proofs.transmitter.uart_setup.Goals as goal

pub returns-clause-setup : goal.returns-clause-setup
returns-clause-setup c = c.block_of.ensures c.args.int c.machine.ensures

pub returns-clause-same : goal.returns-clause-same
returns-clause-same c =
    one_transmitter c.setups_that_say_the_same_are_one.ensures c.what_a_setup_says_is_in_range.ensures c.a_block_in_range_is_not_clipped.ensures
    c.args.int c.block_of.result (c.block_of.ensures c.args.int c.machine.ensures)

pub returns-clause-sends : goal.returns-clause-sends
returns-clause-sends c = c.a_transmitter_sends_what_it_is_fed.ensures c.args.int c.block_of.result c.requires.some (c.block_of.ensures c.args.int c.machine.ensures)

pub returns-clause-in_time : goal.returns-clause-in_time
returns-clause-in_time c = c.a_transmitter_sends_in_time.ensures.frames c.args.int c.block_of.result c.requires.some (c.block_of.ensures c.args.int c.machine.ensures)

pub returns-clause-whole : goal.returns-clause-whole
returns-clause-whole c = c.a_transmitter_sends_in_time.ensures.whole c.args.int c.block_of.result c.requires.some (c.block_of.ensures c.args.int c.machine.ensures)
