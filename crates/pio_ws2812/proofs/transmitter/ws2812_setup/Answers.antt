use Rattle.pio_ws2812.proofs.transmitter.ws2812_setup.Goals as goal

pub returns-clause-setup : goal.returns-clause-setup
returns-clause-setup c = c.block_of.ensures c.args.int c.machine.ensures

pub returns-clause-sends : goal.returns-clause-sends
returns-clause-sends c = c.lights_get_what_they_are_fed.ensures c.args.int c.args.pin c.block_of.result c.requires.some (c.block_of.ensures c.args.int c.machine.ensures)

pub returns-clause-in_time : goal.returns-clause-in_time
returns-clause-in_time c = c.lights_get_a_feed_in_one_frame.ensures.pulses c.args.int c.args.pin c.block_of.result c.requires.some (c.block_of.ensures c.args.int c.machine.ensures)

pub returns-clause-whole : goal.returns-clause-whole
returns-clause-whole c = c.lights_get_a_feed_in_one_frame.ensures.whole c.args.int c.args.pin c.block_of.result c.requires.some (c.block_of.ensures c.args.int c.machine.ensures)
