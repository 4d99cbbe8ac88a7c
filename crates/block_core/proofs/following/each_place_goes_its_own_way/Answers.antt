use Rattle.block_core.proofs.OwnPlace.{place-start, place-after}
use Rattle.block_core.proofs.following.each_place_goes_its_own_way.Goals as goal

pub returns : goal.returns
returns c = record { start = place-start; after = place-after }
