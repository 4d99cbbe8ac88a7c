-- What breaks a span in clocks are lines of the clock, and those alone that disable the span's machine or restart its divider.
use Rattle.std.proofs.Common.{◌≡◌, ◌≢◌, ◌∙◌, ℕ, zero, suc, ◌<◌, ◌==◌, ◌||◌, ◌⊎◌, inl, inr, Bool, true, false, List, [], ◌∷◌, length, set, get_or, refl, sym, subst, ap, arith}
use Rattle.std.proofs.lemmas.Bool.{cases_eq, eq-eqb, ne_eqb}
use Rattle.std.proofs.lemmas.List.{get_or-set_same, get_or-set_other, length-set}
use Rattle.std.specs.List.{list_any}
use Rattle.pin_matrix.specs.declared.setup.Setup.{Setup}
use Rattle.pin_matrix.specs.declared.span.Span.{Span}
use Rattle.dreq_pacing.specs.declared.due.Due.{Due}
use Rattle.dreq_pacing.specs.declared.line.Line.{Line}
use Rattle.dreq_pacing.specs.declared.line.LineAct.{LineAct}
use Rattle.dreq_pacing.specs.declared.line.LineAct.TheVariants.{Pin, Tx, Rx, Feed, Drain, Enable, Disable, Restart}
use Rattle.dreq_pacing.specs.Due.{quiet, with_act, with_lines}
use Rattle.dreq_pacing.specs.Lines.{lines_in}
use Rattle.dreq_pacing.specs.Ports.{due_in}
use Rattle.block_core.specs.Block.{first_run}
use Rattle.block_core.specs.Hosted.{hosted_at}
use Rattle.span_check.specs.Marks.{is_broken, mark_of}
use Rattle.span_check.specs.Runs.{marks_in, is_breaking, has_breaking}

-- what is done to machines is kept for four
record IsOfFour (d : Due) : Type 0 where
  disable : length d.disable ≡ 4
  restart : length d.restart ≡ 4

flag_set : (xs : List Bool) (k m : ℕ) → m < length xs → get_or (set xs k true) m false ≡ ((k == m) || get_or xs m false)
flag_set xs k m l = on (cases_eq k m) where
  on : (k ≡ m) ⊎ (k ≢ m) → get_or (set xs k true) m false ≡ ((k == m) || get_or xs m false)
  on (inl e) = rw (eq-eqb k m e) (subst (λ j. get_or (set xs j true) m false ≡ true) (sym e) (get_or-set_same xs m true false l))
  on (inr n) = rw (ne_eqb k m n) (get_or-set_other xs k m true false (λ e. n (sym e)))

or_inside : (a b c : Bool) → ((a || b) || c) ≡ (a || (b || c))
or_inside true b c = refl
or_inside false b c = refl

or_between : (a b c : Bool) → (a || (b || c)) ≡ (b || (a || c))
or_between true true c = refl
or_between true false c = refl
or_between false b c = refl

four_on : (a : LineAct) (d : Due) → IsOfFour d → IsOfFour (with_act a d)
four_on (Pin pin level) d h = record { disable = h.disable; restart = h.restart }
four_on (Tx machine word) d h = record { disable = h.disable; restart = h.restart }
four_on (Rx machine) d h = record { disable = h.disable; restart = h.restart }
four_on (Feed machine every words) d h = h
four_on (Drain machine every) d h = h
four_on (Enable machine) d h = record { disable = h.disable; restart = h.restart }
four_on (Disable machine) d h = record { disable = length-set d.disable machine true ∙ h.disable; restart = h.restart }
four_on (Restart machine) d h = record { disable = h.disable; restart = length-set d.restart machine true ∙ h.restart }

one_line : (id : ℕ) (a : LineAct) (d : Due) → id < 4 → IsOfFour d → is_broken (with_act a d) id ≡ (is_breaking id a || is_broken d id)
one_line id (Pin pin level) d l h = refl
one_line id (Tx machine word) d l h = refl
one_line id (Rx machine) d l h = refl
one_line id (Feed machine every words) d l h = refl
one_line id (Drain machine every) d l h = refl
one_line id (Enable machine) d l h = refl
one_line id (Disable machine) d l h =
    ap (λ b. b || get_or d.restart id false) (flag_set d.disable machine id (rw h.disable l)) ∙ or_inside (machine == id) (get_or d.disable id false) (get_or d.restart id false)
one_line id (Restart machine) d l h =
    ap (λ b. get_or d.disable id false || b) (flag_set d.restart machine id (rw h.restart l)) ∙ or_between (get_or d.disable id false) (machine == id) (get_or d.restart id false)

all_lines : (id : ℕ) (ls : List Line) (d : Due) → id < 4 → IsOfFour d
    → is_broken (with_lines ls d) id ≡ (list_any (λ l. is_breaking id l.act) ls || is_broken d id)
all_lines id [] d low h = refl
all_lines id (l ∷ ls) d low h =
    let more : Bool = list_any (λ k. is_breaking id k.act) ls in
    all_lines id ls (with_act l.act d) low (four_on l.act d h)
    ∙ ap (λ b. more || b) (one_line id l.act d low h)
    ∙ or_between more (is_breaking id l.act) (is_broken d id)
    ∙ sym (or_inside (is_breaking id l.act) more (is_broken d id))

none_quiet : (id : ℕ) (b : Bool) → id < 4 → (b || is_broken quiet id) ≡ b
none_quiet id true l = refl
none_quiet zero false l = refl
none_quiet (suc zero) false l = refl
none_quiet (suc (suc zero)) false l = refl
none_quiet (suc (suc (suc zero))) false l = refl
none_quiet (suc (suc (suc (suc id)))) false l = absurd (omega (arith, l))

in_clock : (id : ℕ) (lines : List Line) (clock : ℕ) → id < 4 → is_broken (with_lines (lines_in clock lines) quiet) id ≡ has_breaking id lines clock
in_clock id lines clock low =
    all_lines id (lines_in clock lines) quiet low (record { disable = refl; restart = refl }) ∙ none_quiet id (has_breaking id lines clock) low

pub breaks_by_lines : (u : Setup) (sp : Span) (lines : List Line) (clock : ℕ) → (hosted_at (first_run u) lines clock).run.clock ≡ clock
    → (marks_in sp u lines clock).breaks ≡ has_breaking sp.machine lines clock
unfolding mark_of due_in
breaks_by_lines u sp lines clock e =
    ap (λ c. is_broken (with_lines (lines_in c lines) quiet) sp.machine) e ∙ in_clock sp.machine lines clock sp.machine_in_block
