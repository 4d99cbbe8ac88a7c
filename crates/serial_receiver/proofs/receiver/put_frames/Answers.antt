use Rattle.serial_receiver.specs.Hearing.{frame_list}
use Rattle.serial_receiver.proofs.Texts.{takes_first, takes_two}
use Rattle.serial_receiver.proofs.receiver.put_frames.Goals as goal

pub returns-in_err-put_any-clause-bytes : goal.returns-in_err-put_any-clause-bytes
returns-in_err-put_any-clause-bytes g c = takes_first _ _ (frame_list c.args.one) (frame_list c.args.two) c.from_residual.result c.from_residual.ensures.0 c.in_err-put_any.ensures.bytes

pub returns-clause-bytes : goal.returns-clause-bytes
returns-clause-bytes g c = takes_two _ _ _ (frame_list c.args.one) (frame_list c.args.two) c.put_any-2.result c.in_ok-put_any.ensures.bytes c.put_any-2.ensures.bytes
