use Rattle.dreq_pacing.proofs.FeedOrder.{in_order}
use Rattle.dreq_pacing.proofs.laws.a_feed_keeps_its_words_in_order.Goals as goal

pub returns : goal.returns
returns c = in_order
