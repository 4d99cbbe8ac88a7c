use Rattle.dreq_pacing.specs.Lines.{IsActOf, transfer_of}
use Rattle.dreq_pacing.proofs.Drafts.{transfer_taken, transfer_below, wider}
use Rattle.dreq_pacing.proofs.draft.StimulusDraft.has_transfer.Goals as goal

pub returns : goal.returns
returns c =
    let p = c.self.inside in
    let act : IsActOf p.machines c.args.act.now = rw (← c.self.view_is) at c.requires in
    let wide = wider c.args.act.now p.machines 8 act c.self.invariant.most in
    rw (c.has_place.ensures, c.transfer_of.ensures.place, ← c.self.view_is) (transfer_taken (transfer_of c.args.act.now) _ _ _ _ _ c.self.invariant (transfer_below c.args.act.now wide))
