use Rattle.std.proofs.Common.{rules}
use Rattle.idle_engine.proofs.one.BlockRunsSampleHostPorts.begins_or_changes.Goals as goal

-- as the search finds it; a wrong body is refused at once
pub returns : goal.returns
returns g c = search rules steps 300000
