use Rattle.std.proofs.Common.{ℕ, ap, slice_index, ◌∙◌}
use Rattle.pio_encode.specs.Word.{act_of}
use Rattle.block_shares.proofs.reach.act_at.Goals as goal

pub returns-clause-value : goal.returns-clause-value
returns-clause-value c =
    c.act_of.ensures.value
    ∙ ap (λ (i : ℕ). act_of (slice_index c.args.memory.now i)) c.from.ensures
