-- No two setups are transmitters with one divider.
use Rattle.std.proofs.Common.{◌≡◌, ℕ, ◌+◌, ◌≤◌, true, false, Some, None, option_map, [], ◌∷◌, map, length, ap, sym, subst, ◌∙◌, if◌then◌else◌}
use Rattle.std.proofs.Math.Bridge.{le_prop}
use Rattle.std.proofs.Math.Bool.{Bool-set}
use Rattle.pio_encode.specs.declared.rule.SideRule.{SideRule}
use Rattle.pin_matrix.specs.declared.machine.MachineSetup.{MachineSetup}
use Rattle.pin_matrix.specs.declared.setup.Setup.{Setup}
use Rattle.setup_keys.specs.Block.{BlockKeys, keys_of_machine, keys_of_span, keys_of_block}
use Rattle.setup_keys.specs.Clipped.{clipped_block}
use Rattle.setup_keys.specs.InRange.{IsBlock}
use Rattle.setup_keys.specs.Rule.{RuleKeys, keys_of_rule}
use Rattle.setup_keys.proofs.Making.{a_setup_says}
use Rattle.pio_uart.specs.Transmitter.{IsUartRule, IsUartMachine, IsTransmitter}
use Rattle.pio_uart.specs.OneSetup.{uart_rule, machine_keys, block_keys, transmitter_of}

-- two rules that say the same are one
abbrev Fits : RuleKeys → Type 0
Fits k = k.bits + (if k.opt then 1 else 0) ≤ 5

abbrev rule_with : (k : RuleKeys) → Fits k → SideRule
rule_with k f = record { bits = k.bits; opt = k.opt; pindirs = k.pindirs; fits = f }

fits_prop : (k : RuleKeys) → IsProp (Fits k)
fits_prop k = hlevel (le_prop, Bool-set)

same_rule : (a b : SideRule) → keys_of_rule a ≡ keys_of_rule b → a ≡ b
same_rule a b e =
    let P : RuleKeys → Type 0 = λ k. (f : Fits k) → a ≡ rule_with k f in
    subst P e (λ f. ap (rule_with (keys_of_rule a)) (fits_prop (keys_of_rule a) a.fits f)) b.fits

one_rule : (rule : SideRule) → IsUartRule rule → rule ≡ uart_rule
one_rule rule h =
    let a = h.bits in
    let b = h.opt in
    let c = h.pindirs in
    let says : keys_of_rule rule ≡ record { bits = 1; opt = true; pindirs = false } = cc in
    same_rule rule uart_rule says

same_machine : (int : ℕ) (m : MachineSetup) → IsUartMachine int m → keys_of_machine m ≡ machine_keys int
same_machine int m h =
    let rule = one_rule m.side_rule h.rule in
    cc (h.id, h.start, h.x, h.y, h.isr, h.osr, h.isr_count, h.osr_count, h.pending, h.divider, h.frac, rule, h.wrap_bottom, h.wrap_top, h.in_base, h.jmp_pin, h.out.0, h.out.1, h.set.0, h.set.1, h.side.0, h.side.1, h.in_right, h.out_right, h.autopush, h.autopull, h.push_threshold, h.pull_threshold, h.join_tx, h.join_rx, h.status_rx, h.status_n)

same_block : (int : ℕ) (u : Setup) → IsTransmitter int u → keys_of_block u ≡ block_keys int
same_block int u h =
    let machines : map (option_map keys_of_machine) u.machines ≡ Some (machine_keys int) ∷ None ∷ None ∷ None ∷ [] =
    ap (map (option_map keys_of_machine)) h.machines ∙ ap (λ k. Some k ∷ None ∷ None ∷ None ∷ []) (same_machine int h.machine h.is_set_up) in
    let spans = ap (map keys_of_span) h.spans in
    cc (h.memory, machines, h.high, h.level, h.out, h.bypass, spans)

-- the laws of what setups say
abbrev pub OneEach : Type 0
OneEach = (s t : Setup) → keys_of_block s ≡ keys_of_block t → s ≡ t

abbrev pub InRange : Type 0
InRange = (s : Setup) → length s.machines ≡ 4 → IsBlock (keys_of_block s)

abbrev pub NotClipped : Type 0
NotClipped = (k : BlockKeys) → IsBlock k → clipped_block k ≡ k

pub one_transmitter : OneEach → InRange → NotClipped → (int : ℕ) (u : Setup) → IsTransmitter int u → u ≡ transmitter_of int
one_transmitter one in_range not_clipped int u h =
    let says : keys_of_block u ≡ block_keys int = same_block int u h in
    let whole : clipped_block (keys_of_block u) ≡ keys_of_block u = not_clipped (keys_of_block u) (in_range u (ap length h.machines)) in
    one u (transmitter_of int) (sym whole ∙ ap clipped_block says ∙ sym (a_setup_says (block_keys int)).1)
