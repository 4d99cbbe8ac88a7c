use Rattle.std.proofs.Common.{rules, get_or, unwrap_or}
use Rattle.std.proofs.lemmas.List.FromFn.{fill_by_all}
use Rattle.block_config.specs.Memory.{word_at}
use Rattle.block_config.proofs.memory.loaded.Goals as goal

pub returns : goal.returns
returns c =
    fill_by_all (λ address. unwrap_or (word_at c.args.first c.args.words.now address) (get_or c.args.memory.now address 0)) c.loop-address.after 32 0 c.loop-address.invariant.0 (search rules)
