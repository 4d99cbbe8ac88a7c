use Rattle.std.proofs.Common.{arith}
use Rattle.std.proofs.lemmas.Result.{err_from_is_err_and}
use Rattle.stages.proofs.Parts.{made}
use Rattle.program_listing.specs.Listing.{listing_text}
use Rattle.commands.specs.Tasks.{listing}
use Rattle.commands.specs.Outside.{output_by}
use Rattle.commands.proofs.PromiseKept.{unread, did}
use Rattle.commands.proofs.TaskDone.{listed}
use Rattle.commands.proofs.asm.asm.Goals as goal

pub returns-in_err-programs : goal.returns-in_err-programs
returns-in_err-programs g c =
    let p = err_from_is_err_and c.from_residual.result c.from_residual.ensures.1 in
    rw (p.1, p.2) (unread _ g.F.Shelf g.O.Sink _ _ _ _ _ _ (made g.F.Shelf _ (λ programs. listing (listing_text programs)) _ _ _ _ c.in_err-programs.ensures))

pub returns : goal.returns
returns g c =
    did _ g.F.Shelf g.O.Sink _ _ _ _ _ _ _ _ _ (made g.F.Shelf _ (λ programs. listing (listing_text programs)) _ _ _ _ c.in_ok-programs.ensures) tt
    (listed _ _ _ _ (c.hand_on.ensures (output_by g.O.Sink c.args.out.now) _ (rw c.deref.ensures.value at c.put_listing-put.ensures.bytes) c.put_listing-put.ensures.cause))
    (omega arith)
