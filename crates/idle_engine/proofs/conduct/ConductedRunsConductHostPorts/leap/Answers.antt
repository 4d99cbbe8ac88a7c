use Rattle.std.proofs.Common.{sym, ◌∙◌}
use Rattle.idle_engine.specs.OneConduct.{Conducting}
use Rattle.idle_engine.proofs.ConductKind.{conduct-calm, conduct-from, moves_from}
use Rattle.idle_engine.proofs.conduct.ConductedRunsConductHostPorts.leap.Goals as goal

pub leap-requires-clause-calm : goal.leap-requires-clause-calm
leap-requires-clause-calm g c =
    let h : Conducting = record { hosted = record { run = c.args.self.now.worked.run; transfers = c.args._ports.now.transfers }; last = c.args.self.now.last } in
    λ k lt. sym (moves_from h k) ∙ c.requires.rests k lt

pub returns-clause-calm : goal.returns-clause-calm
returns-clause-calm g c =
    let h : Conducting = record { hosted = record { run = c.args.self.now.worked.run; transfers = c.args._ports.now.transfers }; last = c.args.self.now.last } in
    conduct-calm h c.args.clocks c.a_leap_shows_nothing_new.ensures.requests c.leap.ensures.rests (λ k lt. sym (moves_from h k) ∙ c.requires.rests k lt) c.leap.ensures.none

pub returns-clause-run : goal.returns-clause-run
returns-clause-run g c =
    let h : Conducting = record { hosted = record { run = c.args.self.now.worked.run; transfers = c.args._ports.now.transfers }; last = c.args.self.now.last } in
    rw (c.leap.ensures.run, c.leap.ensures.last) (conduct-from h c.args.clocks c.leap.ensures.none)
