use Rattle.idle_engine.proofs.inside.BlockRunsInsideHostPorts.is_of_its_kind.Goals as goal

pub returns-clause-kind : goal.returns-clause-kind
returns-clause-kind g c =
    let k = c.is_of_its_kind.ensures.kind in
    record { later = k.later; quiet = k.quiet; acting = k.acting; moving = k.moving; none = k.none; more = k.more }
