use Rattle.std.proofs.Common.{◌<◌, length}
use Rattle.span_bounds.proofs.Pushed.{pushed_table}
use Rattle.span_bounds.proofs.table.Table.push.Goals as goal

pub returns : goal.returns
returns c =
    let near : c.number_of-number.result < length c.self.inside.grid = rw c.self.invariant c.number_of-number.ensures.below in
    pushed_table c.self.inside.follow c.self.inside.grid c.put.new.self c.args.self.now c.args.row c.number_of-number.result
    c.number_of-number.ensures.value c.requires.placed near c.put.ensures c.self.view_is c.requires.last
