use Rattle.std.proofs.Common.{◌≡◌, ◌-◌, ℕ, List, length, take, drop, Ok, arith, rules, sym, ap, ◌∙◌, subst}
use Rattle.std.specs.List.{count_by}
use Rattle.std.proofs.lemmas.List.{take_rest}
use Rattle.pio_lex.specs.Bytes.{is_newline}
use Rattle.pio_lex.specs.Pieces.{piece_at, size, IsPieceLength}
use Rattle.pio_lex.specs.Tokens.{last_kind}
use Rattle.pio_lex.proofs.Progress.{reading_more}
use Rattle.pio_lex.proofs.lexer.read.Goals as goal

pub loop-at-preserved : goal.loop-at-preserved
loop-at-preserved c =
    let source = c.args.source.now in
    let at = c.loop-at.at in
    let line = c.loop-at.line in
    let tokens = c.loop-at.tokens.items in
    let p = c.in-Ok.piece in
    let text : List ℕ = take (length source - at) (drop at source) in
    let same : text ≡ drop at source = take_rest source at in
    let last : c.last_kind.result ≡ last_kind tokens = search rules in
    let there : piece_at (last_kind tokens) (drop at source) ≡ Ok p =
    ap (λ (xs : List ℕ). piece_at (last_kind tokens) xs) (sym same) ∙ ap (λ k. piece_at k text) (sym last) ∙ sym c.in-Ok.ensures.value in
    let fits : IsPieceLength (size p) (drop at source) = subst (λ (xs : List ℕ). IsPieceLength (size p) xs) same c.in-Ok.ensures.within in
    let counted : c.newlines-line.result ≡ count_by is_newline (take (size p) (drop at source)) =
    c.newlines-line.ensures.value ∙ ap (λ (n : ℕ). count_by is_newline (take n text)) c.size.ensures ∙ ap (λ (xs : List ℕ). count_by is_newline (take (size p) xs)) same in
    let more = reading_more source tokens at line p c.add.new.tokens.items c.loop-at.invariant (omega arith) there fits c.in_ok-add.ensures.ok in
    rw (c.size-at.ensures, counted) more
