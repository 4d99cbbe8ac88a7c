use Rattle.std.proofs.Common.{◌||◌}
use Rattle.block_core.specs.Leaps.{stirs_after}
use Rattle.block_core.proofs.LeaptPlaces.{first_stirs}
use Rattle.block_core.proofs.running.Running.next_stir.Goals as goal

pub returns : goal.returns
returns g c = λ test h.
    let b = c.self.inside in
    let v = c.new-view.result in
    let one = c.next_stir-first.ensures test h in
    let two = c.next_stir-second.ensures (λ n. test n || stirs_after v b.first n) one in
    let three = c.next_stir-third.ensures (λ n. (test n || stirs_after v b.first n) || stirs_after v b.second n) two in
    let four = c.next_stir.ensures (λ n. ((test n || stirs_after v b.first n) || stirs_after v b.second n) || stirs_after v b.third n) three in
    first_stirs _ _ _ _ _ _ _ _ _ _ _ c.args.pad test c.next_stir.result _ v c.self.view_is c.new-view.ensures four
