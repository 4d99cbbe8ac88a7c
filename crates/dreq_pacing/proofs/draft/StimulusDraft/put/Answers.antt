use Rattle.std.proofs.Common.{◌≡◌, ◌≤◌, false, arith}
use Rattle.dreq_pacing.specs.Lines.{IsLineOf, is_crowded}
use Rattle.dreq_pacing.proofs.Drafts.{draft_on, wider}
use Rattle.dreq_pacing.proofs.draft.StimulusDraft.put.Goals as goal

pub transfer_of-transfer-requires : goal.transfer_of-transfer-requires
transfer_of-transfer-requires c =
    let p = c.self.inside in
    let fine : IsLineOf p.machines c.args.line = rw (← c.self.view_is) at c.requires.line in
    wider c.args.line.act p.machines 8 fine.act c.self.invariant.most

pub access_of-access-requires : goal.access_of-access-requires
access_of-access-requires c =
    let p = c.self.inside in
    let fine : IsLineOf p.machines c.args.line = rw (← c.self.view_is) at c.requires.line in
    wider c.args.line.act p.machines 8 fine.act c.self.invariant.most

pub invariant_of-self-2 : goal.invariant_of-self-2
invariant_of-self-2 c =
    let p = c.self.inside in
    let le : p.clock ≤ c.args.line.clock = rw (← c.self.view_is) at c.requires.in_order in
    let apart : is_crowded p.lines.items c.args.line ≡ false = rw (← c.self.view_is) at c.requires.apart in
    let fine : IsLineOf p.machines c.args.line = rw (← c.self.view_is) at c.requires.line in
    rw (c.in_ok-push.ensures.items, c.mark.ensures, c.mark-2.ensures, c.keep_if.ensures, c.transfer_of-transfer.ensures.place, c.access_of-access.ensures.place)
    (draft_on p.machines p.lines.items p.clock p.transfers p.accesses c.args.line c.self.invariant fine le apart (omega arith) (omega arith))
