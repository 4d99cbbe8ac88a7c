use Rattle.std.proofs.Common.{rules, ◌≡◌, ◌<◌, ◌++◌, ◌∷◌, [], length, set, ap, ◌∙◌}
use Rattle.span_bounds.proofs.Prefix.{written_pushed, length_pushed, written-set}
use Rattle.span_bounds.proofs.tally.Tally.put.Goals as goal

pub loop-self-preserved : goal.loop-self-preserved
loop-self-preserved c =
    let items : c.push.new.self.items ≡ c.loop-self.self-inside.counts.items ++ 0 ∷ [] = search rules in
    let room : length c.loop-self.self-inside.counts.items < c.loop-self.self-inside.size = search rules in
    record {
      size = c.loop-self.invariant.size;
      same = written_pushed _ _ _ _ items room ∙ c.loop-self.invariant.same;
      few = length_pushed _ _ _ _ items room;
      room = search rules;
    }

pub returns : goal.returns
returns c =
    let near : c.args.number < length c.loop-self.self-inside.counts.items = search rules in
    written-set _ _ c.loop-self.self-inside.counts.items c.args.number c.args.count near ∙ ap (λ g. set g c.args.number c.args.count) c.loop-self.invariant.same
