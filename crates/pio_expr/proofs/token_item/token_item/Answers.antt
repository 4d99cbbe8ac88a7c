use Rattle.std.proofs.Common.{◌≡◌, ◌∙◌, ◌+◌, ◌-◌, ℕ, ap, sym, take, drop, arith}
use Rattle.pio_lex.specs.declared.token.TokenKind.TheVariants as kind
use Rattle.pio_expr.specs.declared.expr.Item.TheVariants as item
use Rattle.pio_expr.proofs.Names.{name_is_text, name_of_value}
use Rattle.pio_expr.proofs.token_item.token_item.Goals as goal

pub returns-in_ok-from_utf8_lossy-in_default : goal.returns-in_ok-from_utf8_lossy-in_default
returns-in_ok-from_utf8_lossy-in_default c =
    let t = c.args.token.now in
    let name : t.kind ≡ kind.Name = name_of_value t.kind c.requires.value c.in_default.not-Number in
    let h = name_is_text c.args.source.now t c.requires.token name in
    let back : (first size : ℕ) → (first + size) - first ≡ size = λ first size. omega arith in
    let g = rw (back t.first t.length) at c.in_ok-from_utf8_lossy-in_default.ensures.ok in
    record {
      ok = rw name (ap (λ xs. item.Name xs) (c.new.ensures ∙ g h ∙ ap (λ n. take n (drop t.first c.args.source.now)) (sym (back t.first t.length))));
      memory = tt;
    }
