use Rattle.std.proofs.Common.{rules, arith, ◌≡◌, ◌<◌, ◌++◌, ◌∷◌, [], length, set, ap, ◌∙◌}
use Rattle.span_bounds.specs.declared.marks.ContextMark.TheVariants.{Absent}
use Rattle.span_bounds.specs.Marks.{marked}
use Rattle.span_bounds.proofs.Marked.{marked_pushed, marked-set, length-marked}
use Rattle.span_bounds.proofs.Prefix.{length_pushed}
use Rattle.span_bounds.proofs.marks.Marks.put.Goals as goal

pub loop-self-preserved : goal.loop-self-preserved
loop-self-preserved c =
    let items : c.push.new.self.items ≡ c.loop-self.self-inside.marks.items ++ Absent ∷ [] = search rules in
    let i = c.loop-self.invariant in
    let all = length-marked c.loop-self.self-inside.size c.loop-self.self-inside.marks.items i.few in
    let same = ap length i.same in
    let room : length c.loop-self.self-inside.marks.items < c.loop-self.self-inside.size = omega (arith, all, same, c.requires) in
    record {
      size = c.loop-self.invariant.size;
      same = marked_pushed _ _ _ items room ∙ c.loop-self.invariant.same;
      few = length_pushed _ _ _ _ items room;
      room = search rules;
    }

pub returns : goal.returns
returns c =
    let near : c.args.number < length c.loop-self.self-inside.marks.items = search rules in
    marked-set _ c.loop-self.self-inside.marks.items c.args.number c.args.mark near ∙ ap (λ g. set g c.args.number (marked c.args.mark)) c.loop-self.invariant.same
