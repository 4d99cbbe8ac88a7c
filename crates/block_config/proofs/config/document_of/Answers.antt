use Rattle.std.proofs.Common.{sym, ◌∙◌}
use Rattle.std.proofs.lemmas.Bool.{false≢true}
use Rattle.toml.specs.View.{table_view}
use Rattle.block_config.proofs.Parsed.{parsed_table, not_parsed}
use Rattle.block_config.proofs.config.document_of.Goals as goal

pub returns-in-Ok : goal.returns-in-Ok
returns-in-Ok c = parsed_table c.args.bytes.now (table_view c.in-Ok.table) c.in-Ok.ensures.ok.0 c.in-Ok.ensures.ok.1

pub returns-in-Err-2 : goal.returns-in-Err-2
returns-in-Err-2 c =
    not_parsed c.fault_at.result c.args.bytes.now (c.in-Err.ensures.refused (λ m. absurd (false≢true (sym c.if-is_memory.false ∙ c.is_memory.ensures.1 m)))) c.fault_at.ensures
