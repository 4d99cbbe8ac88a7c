use Rattle.command_line.specs.Tool.{tool}
use Rattle.command_line.proofs.command.tool.Goals as goal

pub returns : goal.returns
unfolding tool
returns c =
    let run = c.add-command-2.ensures _ _ (c.add-command.ensures _ _ c.bare.ensures c.asm.ensures) c.run.ensures in
    let check = c.add-command-4.ensures _ _ (c.add-command-3.ensures _ _ run c.dis.ensures) c.check.ensures in
    let table = c.add-command-6.ensures _ _ (c.add-command-5.ensures _ _ check c.generate.ensures) c.table.ensures in
    let shares = c.add-command-8.ensures _ _ (c.add-command-7.ensures _ _ table c.recheck.ensures) c.shares.ensures in
    let receive = c.add-command-10.ensures _ _ (c.add-command-9.ensures _ _ shares c.measure.ensures) c.receive.ensures in
    let pair = c.add-command-12.ensures _ _ (c.add-command-11.ensures _ _ receive c.uart.ensures) c.pair.ensures in
    c.add.ensures _ _ pair c.inspect.ensures
