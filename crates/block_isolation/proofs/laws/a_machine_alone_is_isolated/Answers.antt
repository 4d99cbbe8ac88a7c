use Rattle.std.proofs.Common.{[]}
use Rattle.pin_matrix.specs.Pads.{after_pads}
use Rattle.block_isolation.proofs.Isolated.{isolated, same_touches}
use Rattle.block_isolation.proofs.Premises.{TickLaws, PinLaws, LineLaws}
use Rattle.block_isolation.proofs.laws.a_machine_alone_is_isolated.Goals as goal

pub returns-clause-touches : goal.returns-clause-touches
returns-clause-touches c = same_touches

pub returns-clause-run : goal.returns-clause-run
unfolding after_pads
returns-clause-run c =
    let ticks : TickLaws = record {
      placed = c.ranges_are_kept.ensures.placed;
      writes = c.writes_are_of_pins.ensures;
      levels = c.a_tick_writes_its_own_pins.ensures.level;
      directions = c.a_tick_writes_its_own_pins.ensures.direction;
      sees = c.a_tick_sees_what_it_reads.ensures.instruction;
    } in
    let pins : PinLaws = record {
      mapped = c.each_mapped_pin.ensures.pins;
      counted = c.each_pin_from.ensures;
      last = c.the_last_write_counts.ensures.pin;
      free = c.the_last_write_counts.ensures.none;
      none = c.no_write_changes_nothing.ensures.write;
      pad = c.each_pad.ensures;
      merged_word = c.words_stay_words.ensures.merged;
      pads_word = c.words_stay_words.ensures.pads;
      seen_word = c.words_stay_words.ensures.seen;
      seen = λ bypass pad pad_2 p below inside. c.what_a_machine_sees.ensures.seen pad_2 bypass pad p [] below inside;
    } in
    let lines : LineLaws = record { set = c.the_last_pin_line_counts.ensures.set; level = c.the_last_pin_line_counts.ensures.level } in
    isolated ticks pins lines
