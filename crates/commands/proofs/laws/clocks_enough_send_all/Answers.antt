use Rattle.std.proofs.Common.{ap}
use Rattle.commands.specs.Tasks.{sent_text}
use Rattle.serial_receiver.specs.FrameText.{frames_text}
use Rattle.commands.proofs.AllFramesSent.{all_of}
use Rattle.commands.proofs.laws.clocks_enough_send_all.Goals as goal

pub returns : goal.returns
unfolding sent_text
returns c = λ divider clocks bytes enough. ap frames_text (all_of divider clocks bytes enough)
