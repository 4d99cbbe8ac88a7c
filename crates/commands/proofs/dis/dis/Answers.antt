use Rattle.std.proofs.Common.{arith}
use Rattle.std.proofs.lemmas.Result.{err_from_is_err_and}
use Rattle.stages.proofs.Parts.{made}
use Rattle.word_file.specs.Listing.{word_lines, rule_for}
use Rattle.commands.specs.Tasks.{listing}
use Rattle.commands.specs.Outside.{output_by}
use Rattle.commands.proofs.PromiseKept.{unread, did}
use Rattle.commands.proofs.TaskDone.{listed}
use Rattle.commands.proofs.dis.dis.Goals as goal

pub returns-in_err-words : goal.returns-in_err-words
returns-in_err-words g c =
    let p = err_from_is_err_and c.from_residual.result c.from_residual.ensures.1 in
    rw (p.1, p.2) (unread _ g.F.Shelf g.O.Sink _ _ _ _ _ _ (made g.F.Shelf _ (λ words. listing (word_lines (rule_for c.args.side c.args.opt) words)) _ _ _ _ c.in_err-words.ensures))

pub returns : goal.returns
returns g c =
    did _ g.F.Shelf g.O.Sink _ _ _ _ _ _ _ _ _ (made g.F.Shelf _ (λ words. listing (word_lines (rule_for c.args.side c.args.opt) words)) _ _ _ _ c.in_ok-words.ensures) tt
    (listed _ _ _ _ (c.hand_on.ensures (output_by g.O.Sink c.args.out.now) _ (rw (c.deref.ensures.0, c.make_rule.ensures) at c.put_words-put.ensures.bytes) c.put_words-put.ensures.cause))
    (omega arith)
