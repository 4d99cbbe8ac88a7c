-- What the tick wants is what its effect, side-set and autopull say.
use Rattle.std.proofs.Common.{rules, ◌∙◌}
use Rattle.sm_registers.specs.State.{queues_of}
use Rattle.sm_registers.specs.Tick as spec
use Rattle.sm_registers.proofs.WholeTicks.{wanted}
use Rattle.sm_registers.proofs.tick.tick_word.Goals as goal

pub returns-clause-intent : goal.returns-clause-intent
unfolding spec.tick_word
returns-clause-intent g c =
    let s = c.args.setup.now in let r = c.args.registers.now in let q = queues_of c.args.fifos.now in
    let goes_on = c.next_pc-next.ensures s c.requires.next in
    let concluded = c.conclude-begins.ensures.after s r c.effect_of-end.new.intent goes_on in
    let wanted_is = wanted c.args.reading.now.op s q r c.effect_of-end.new.registers c.conclude-begins.new.registers c.effect_of-end.new.intent c.effect_of-end.result _ c.args.reading.now.side c.refill-refilled.result
    c.effect_of-end.ensures c.requires.reading.1.side concluded c.refill-refilled.ensures.taken in
    c.of-2.ensures ∙ search (rules, wanted_is, c.in_tick.ensures, c.of.ensures)
