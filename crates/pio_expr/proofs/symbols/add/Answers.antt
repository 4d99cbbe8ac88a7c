use Rattle.std.proofs.Common.{◌≡◌, ◌∙◌, ◌∷◌, [], ◌++◌, None, ap, string_bytes}
use Rattle.std.proofs.lemmas.List.{map-append}
use Rattle.std.specs.Map.{lookup}
use Rattle.std.specs.Str.{bytes_eq}
use Rattle.std.specs.String.{string_eq}
use Rattle.indexmap.proofs.CallerLemmas.{insert_entry-new}
use Rattle.pio_expr.specs.Views.{named_in}
use Rattle.pio_expr.proofs.Lookups.{none_kept}
use Rattle.pio_expr.proofs.symbols.add.Goals as goal

pub returns-clause-ok : goal.returns-clause-ok
returns-clause-ok c =
    let key = c.in_ok-from_str.field-0 in
    let text : string_bytes key ≡ c.args.name.now = c.in_ok-from_str.ensures.ok ∙ c.as_str.ensures in
    let es = c.args.symbols.now.entries in
    let new : lookup (λ k. bytes_eq (string_bytes key) (string_bytes k)) es ≡ None = rw text (none_kept c.args.name.now 0 es c.requires) in
    let more = insert_entry-new string_eq c.args.symbols.now key c.args.symbol new in
    ap named_in (c.in_ok-insert.ensures.entries ∙ more) ∙ map-append _ es _ ∙ ap (λ t. named_in es ++ (t, c.args.symbol) ∷ []) text
