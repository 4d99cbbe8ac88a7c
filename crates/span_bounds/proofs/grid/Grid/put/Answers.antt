use Rattle.std.proofs.Common.{rules, ◌≡◌, ◌<◌, ◌++◌, ◌∷◌, [], length, set, ap, ◌∙◌}
use Rattle.span_bounds.specs.declared.entry.Entry.TheVariants.{Absent}
use Rattle.span_bounds.proofs.Prefix.{written_pushed, length_pushed, written-set}
use Rattle.span_bounds.proofs.grid.Grid.put.Goals as goal

pub loop-self-preserved : goal.loop-self-preserved
loop-self-preserved c =
    let items : c.push.new.self.items ≡ c.loop-self.self-inside.entries.items ++ Absent ∷ [] = search rules in
    let room : length c.loop-self.self-inside.entries.items < c.loop-self.self-inside.size = search rules in
    record {
      size = c.loop-self.invariant.size;
      same = written_pushed _ _ _ _ items room ∙ c.loop-self.invariant.same;
      few = length_pushed _ _ _ _ items room;
      room = search rules;
    }

pub returns : goal.returns
returns c =
    let near : c.args.number < length c.loop-self.self-inside.entries.items = search rules in
    written-set _ _ c.loop-self.self-inside.entries.items c.args.number c.args.entry near ∙ ap (λ g. set g c.args.number c.args.entry) c.loop-self.invariant.same
