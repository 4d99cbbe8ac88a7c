use Rattle.std.proofs.Common.{◌≡◌, ℕ, ◌+◌, ◌≤◌, ◌||◌, ◌==◌, Bool, true, false, List, [], ◌∷◌, length, refl, sym, ap, ◌∙◌, arith}
use Rattle.std.proofs.lemmas.Bool.Decides.{nat_tests}
use Rattle.dreq_pacing.specs.declared.line.Line.{Line}
use Rattle.dreq_pacing.specs.declared.due.Requests.{Requests}
use Rattle.dreq_pacing.specs.Transfers.{Transfers}
use Rattle.dreq_pacing.specs.Lines.{lines_in, has_lines}
use Rattle.dreq_pacing.specs.Ports.{Ports, acts_in, moves_in}
use Rattle.dreq_pacing.proofs.ports.HostPorts.at.Goals as goal

none_of : (lines : List Line) → true ≡ (length lines == 0) → has_lines lines ≡ false
none_of [] e = refl
none_of (l ∷ lines) e = absurd (let h : 1 + length lines ≤ 0 = grind (arith, nat_tests) in let k : ⊥ = omega (arith, h) in k)

-- without a line and without a move nothing acts in the clock
quiet_in : (lines here : List Line) (clock : ℕ) (requests : Requests) (t s : Transfers) → here ≡ lines_in clock lines → true ≡ (length here == 0) → s ≡ t → false ≡ moves_in clock requests s → acts_in lines clock requests t ≡ false
unfolding acts_in
quiet_in lines here clock requests t s same empty left still =
    ap (λ (b : Bool). b || moves_in clock requests t) (ap has_lines (sym same) ∙ none_of here empty) ∙ ap (moves_in clock requests) (sym left) ∙ sym still

pub returns-then-not-moves-clause-due : goal.returns-then-not-moves-clause-due
returns-then-not-moves-clause-due c =
    let p = c.args.self.now in
    let still = quiet_in p.lines c.take_lines-here.result.now c.args.clock c.args.requests.now p.transfers c.take_lines-here.new.self.transfers
    c.take_lines-here.ensures.lines c.if-is_empty.ensures (ap (λ (q : Ports). q.transfers) c.take_lines-here.ensures.after) c.if-not-moves.ensures in
    c.quiet.ensures ∙ sym (c.a_clock_without_acts_does_nothing.ensures.due p.lines c.args.clock c.args.requests.now p.transfers still)

pub returns-then-not-moves-clause-after : goal.returns-then-not-moves-clause-after
returns-then-not-moves-clause-after c =
    let p = c.args.self.now in
    let still = quiet_in p.lines c.take_lines-here.result.now c.args.clock c.args.requests.now p.transfers c.take_lines-here.new.self.transfers
    c.take_lines-here.ensures.lines c.if-is_empty.ensures (ap (λ (q : Ports). q.transfers) c.take_lines-here.ensures.after) c.if-not-moves.ensures in
    c.take_lines-here.ensures.after
    ∙ ap (λ (t : Transfers). record { lines = p.lines; next = c.args.clock + 1; transfers = t }) (sym (c.a_clock_without_acts_does_nothing.ensures.transfers p.lines c.args.clock c.args.requests.now p.transfers still))
