use Rattle.std.proofs.Common.{◌≡◌, ◌∙◌, ℕ, List, [], cond, sym, ap, subst}
use Rattle.std.proofs.lemmas.Bool.{cond-false, cond-true}
use Rattle.pio_edge.specs.Edge.{Takes, with_bytes}
use Rattle.pio_edge.proofs.PutLaws.{with_bytes-nil}
use Rattle.block_shares.specs.Shares.{shares_of}
use Rattle.block_shares.specs.Report.{share_line, feels}
use Rattle.block_shares.proofs.report.put_share.Goals as goal

pub returns-then-feels-clause-bytes : goal.returns-then-feels-clause-bytes
returns-then-feels-clause-bytes g c =
    let s = c.args.setup.now in
    let m = c.args.m in
    let k = c.args.k in
    let P : List ℕ → Type 0 = λ text. Takes (g.S.Sink.taken c.args.sink.now) text (g.S.Sink.taken c.put_line.new.sink) c.put_line.result in
    let e : share_line m k c.shares.result ≡ cond (feels s m k) (share_line m k (shares_of s m k)) [] =
    ap (share_line m k) c.shares.ensures ∙ sym (cond-true (feels s m k) (share_line m k (shares_of s m k)) [] (sym c.feels.ensures ∙ c.if-feels.true)) in
    subst P e c.put_line.ensures.bytes

pub returns-else-feels-clause-bytes : goal.returns-else-feels-clause-bytes
returns-else-feels-clause-bytes g c =
    let s = c.args.setup.now in
    let m = c.args.m in
    let k = c.args.k in
    sym (with_bytes-nil (g.S.Sink.taken c.args.sink.now))
    ∙ ap (with_bytes (g.S.Sink.taken c.args.sink.now)) (sym (cond-false (feels s m k) (share_line m k (shares_of s m k)) [] (sym c.feels.ensures ∙ c.if-feels.false)))
