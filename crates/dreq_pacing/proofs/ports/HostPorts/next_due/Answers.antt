-- The earliest of the first line and the machines' first moves.
use Rattle.dreq_pacing.specs.Lines.{has_line}
use Rattle.dreq_pacing.specs.Ports.{IsFirst, acts_in, moves}
use Rattle.dreq_pacing.proofs.Firsts.{first_of_two}
use Rattle.dreq_pacing.proofs.ports.HostPorts.next_due.Goals as goal

pub returns : goal.returns
unfolding acts_in
returns c =
    let p = c.self.inside in
    let clock = c.args.clock in
    let requests = c.args.requests.now in
    let line : IsFirst (λ k. has_line k p.lines.now) clock c.next_line.result = rw (← c.self.view_is) at c.next_line.ensures in
    rw (c.earlier-4.ensures, c.earlier-3.ensures, c.earlier-2.ensures, c.earlier.ensures, ← c.self.view_is)
    (first_of_two (λ k. has_line k p.lines.now) _ clock _ _ line
    (first_of_two (λ k. moves 0 k requests p.first) _ clock _ _ c.next_move.ensures
    (first_of_two (λ k. moves 1 k requests p.second) _ clock _ _ c.next_move-2.ensures
    (first_of_two (λ k. moves 2 k requests p.third) (λ k. moves 3 k requests p.fourth) clock _ _ c.next_move-3.ensures c.next_move-4.ensures))))
