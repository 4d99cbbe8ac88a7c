use Rattle.std.proofs.Common.{◌≡◌, ◌∙◌, ap, sym, length, take, arith}
use Rattle.std.proofs.lemmas.List.{take_all}
use Rattle.pio_edge.specs.Edge.{with_bytes}
use Rattle.commands.proofs.handing.finish.Goals as goal

-- where handing on fails, all of the text was taken
pub returns-in-Err : goal.returns-in-Err
returns-in-Err g c before text taken faults =
    let all : take (length text) text ≡ text = take_all (length text) text (omega arith) in
    record {
      part = record {
        count = length text;
        within = omega arith;
        taken = c.in-Err.ensures.bytes ∙ taken ∙ ap (with_bytes before.taken) (sym all);
      };
      rose = rw faults at c.in-Err.ensures.cause.failed;
    }
