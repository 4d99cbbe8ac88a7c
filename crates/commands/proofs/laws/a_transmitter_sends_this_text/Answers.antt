use Rattle.std.proofs.Common.{ap}
use Rattle.commands.specs.Tasks.{received_text, sent_text}
use Rattle.serial_receiver.specs.FrameText.{frames_text}
use Rattle.commands.proofs.laws.a_transmitter_sends_this_text.Goals as goal

pub returns : goal.returns
unfolding received_text sent_text
returns c = λ divider clocks u bytes some t. ap frames_text (c.a_transmitter_sends_in_time.ensures.frames divider u some t bytes clocks)
