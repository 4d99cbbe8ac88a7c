use Rattle.std.proofs.Common.{◌≡◌, ◌∙◌, ap, sym, subst, true, false, get_or, option_map, string_bytes}
use Rattle.std.proofs.lemmas.List.Quantifiers.{position-Some}
use Rattle.std.specs.Map.{keys_of}
use Rattle.std.specs.Str.{bytes_eq}
use Rattle.pio_expr.specs.Views.{symbol_seen}
use Rattle.pio_expr.proofs.Lookups.{none_found, first_found, own_key}
use Rattle.pio_expr.proofs.symbols.found_in.Goals as goal

pub returns-in_err-index : goal.returns-in_err-index
returns-in_err-index c =
    ap (option_map symbol_seen) c.from_residual.ensures ∙ sym (none_found c.args.name.now c.args.first c.args.symbols.now.entries (rw c.as_str.ensures at (sym c.in_err-index.ensures.value)))

pub returns : goal.returns
returns c =
    let es = c.args.symbols.now.entries in
    let key = c.in_ok-index.field-0-1.now in
    let there = position-Some (λ k. bytes_eq c.as_str.result.now (string_bytes k)) (keys_of es) c.in_ok-index.index key (sym c.in_ok-index.ensures.index) in
    sym (first_found c.args.name.now c.args.first es c.in_ok-index.index key c.in_ok-index.symbol.now c.in_ok-index.ensures.entry
    (subst (λ t. bytes_eq t (string_bytes key) ≡ true) c.as_str.ensures (rw (own_key es c.in_ok-index.index key c.in_ok-index.symbol.now c.in_ok-index.ensures.entry) at there.1))
    (λ j l. subst (λ t. bytes_eq t (string_bytes (get_or (keys_of es) j key)) ≡ false) c.as_str.ensures (there.2 j l)))
