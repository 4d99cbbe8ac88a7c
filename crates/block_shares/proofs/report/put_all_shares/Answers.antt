use Rattle.block_shares.specs.Report.{share_text}
use Rattle.block_shares.proofs.Puts.{first_fails, second_fails, third_fails, fourth_ends}
use Rattle.block_shares.proofs.report.put_all_shares.Goals as goal

pub returns-in_err-put_share-clause-bytes : goal.returns-in_err-put_share-clause-bytes
returns-in_err-put_share-clause-bytes g c =
    let s = c.args.setup.now in let m = c.args.m in
    first_fails _ _ (share_text s m 0) (share_text s m 1) (share_text s m 2) (share_text s m 3) c.from_residual.result c.from_residual.ensures.0 c.in_err-put_share.ensures.bytes

pub returns-in_err-put_share-2-clause-bytes : goal.returns-in_err-put_share-2-clause-bytes
returns-in_err-put_share-2-clause-bytes g c =
    let s = c.args.setup.now in let m = c.args.m in
    second_fails _ _ _ (share_text s m 0) (share_text s m 1) (share_text s m 2) (share_text s m 3) c.from_residual-in_err-put_share-2.result c.in_ok-put_share.ensures.bytes c.from_residual-in_err-put_share-2.ensures.0 c.in_err-put_share-2.ensures.bytes

pub returns-in_err-put_share-3-clause-bytes : goal.returns-in_err-put_share-3-clause-bytes
returns-in_err-put_share-3-clause-bytes g c =
    let s = c.args.setup.now in let m = c.args.m in
    third_fails _ _ _ _ (share_text s m 0) (share_text s m 1) (share_text s m 2) (share_text s m 3) c.from_residual-in_err-put_share-3.result c.in_ok-put_share.ensures.bytes c.in_ok-put_share-2.ensures.bytes c.from_residual-in_err-put_share-3.ensures.0 c.in_err-put_share-3.ensures.bytes

pub returns-clause-bytes : goal.returns-clause-bytes
returns-clause-bytes g c =
    let s = c.args.setup.now in let m = c.args.m in
    fourth_ends _ _ _ _ _ (share_text s m 0) (share_text s m 1) (share_text s m 2) (share_text s m 3) c.put_share-4.result c.in_ok-put_share.ensures.bytes c.in_ok-put_share-2.ensures.bytes c.in_ok-put_share-3.ensures.bytes c.put_share-4.ensures.bytes
