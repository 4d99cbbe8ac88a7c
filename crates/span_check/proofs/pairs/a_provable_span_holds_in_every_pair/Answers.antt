use Rattle.std.proofs.Common.{ℕ, ap}
use Rattle.block_core.specs.HostedTwin.{hosted_twin_at}
use Rattle.block_core.specs.Twin.{TwinRun, first_twin, twin_at}
use Rattle.span_check.specs.Pairs.{first_does, second_does, pair_sees}
use Rattle.span_check.proofs.Paired.{follows_too, first_begins, second_begins}
use Rattle.span_check.proofs.pairs.a_provable_span_holds_in_every_pair.Goals as goal

pub returns-clause-first : goal.returns-clause-first
returns-clause-first c own s t sp some provable unshared first second n =
    let host = first_does own s t first second in
    let other = second_does own s t first second in
    let seen = pair_sees s.bypass own s t first second in
    let states = λ (c : ℕ). (hosted_twin_at (first_twin own s t) first second c).first.run.state in
    let same = λ (k : ℕ). ap (λ (x : TwinRun). x.first.state) (c.two_stimuli_are_a_system.ensures (first_twin own s t) first second k) in
    (c.a_provable_span_holds_in_every_run.ensures s sp some provable unshared).over_any_pads seen host states (first_begins own s t first second)
    (follows_too s.memory seen host states (λ k. (twin_at own s t host other k).first.state) same
    (c.two_blocks_see_the_same_pads.ensures.first own s t host other)) n

pub returns-clause-second : goal.returns-clause-second
returns-clause-second c own s t sp some provable unshared first second n =
    let host = first_does own s t first second in
    let other = second_does own s t first second in
    let seen = pair_sees t.bypass own s t first second in
    let states = λ (c : ℕ). (hosted_twin_at (first_twin own s t) first second c).second.run.state in
    let same = λ (k : ℕ). ap (λ (x : TwinRun). x.second.state) (c.two_stimuli_are_a_system.ensures (first_twin own s t) first second k) in
    (c.a_provable_span_holds_in_every_run.ensures t sp some provable unshared).over_any_pads seen other states (second_begins own s t first second)
    (follows_too t.memory seen other states (λ k. (twin_at own s t host other k).second.state) same
    (c.two_blocks_see_the_same_pads.ensures.second own s t host other)) n
