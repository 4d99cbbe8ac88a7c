-- A setup that is made field by field is that of its seed.
use Rattle.std.proofs.Common.{◌≡◌, ℕ, suc, Option, Some, None, option_map, List, [], ◌∷◌, map, length, ap, ap₂, sym, ◌∙◌, refl}
use Rattle.pin_matrix.specs.declared.machine.MachineSetup.{MachineSetup}
use Rattle.pin_matrix.specs.declared.setup.Setup.{Setup}
use Rattle.setup_keys.specs.Block.{BlockKeys, keys_of_machine, keys_of_span, keys_of_block}
use Rattle.setup_keys.specs.Clipped.{clipped_block}
use Rattle.setup_keys.specs.InRange.{IsBlock}
use Rattle.setup_keys.proofs.Making.{a_setup_says}
use Rattle.drawn_load.specs.Draws.{Letters, letters_of}
use Rattle.drawn_load.specs.Machines.{MachineRow}
use Rattle.drawn_load.specs.Setups.{machine_keys, load_keys, setup_of}
use Rattle.drawn_load.specs.SettingUp.{SetsUp, EachSetsUp, IsLoad, rows_of}

row_keys : (r : MachineRow) (m : MachineSetup) → SetsUp r m → keys_of_machine m ≡ machine_keys r
row_keys r m h =
    cc (h.id, h.start, h.x, h.y, h.isr, h.osr, h.isr_count, h.osr_count, h.pending, h.int, h.frac, h.side_rule, h.wrap_bottom, h.wrap_top, h.in_base, h.jmp_pin, h.out.0, h.out.1, h.set.0, h.set.1, h.side.0, h.side.1, h.in_right, h.out_right, h.autopush, h.autopull, h.push_threshold, h.pull_threshold, h.join_tx, h.join_rx, h.status_rx, h.status_n)

-- the setups that follow some rows say what the rows do
rows_keys : (rows : List MachineRow) (ms : List (Option MachineSetup)) → EachSetsUp rows ms
    → map (option_map keys_of_machine) ms ≡ map (λ r. Some (machine_keys r)) rows
rows_keys [] [] h = refl
rows_keys [] (m ∷ ms) h = absurd h
rows_keys (r ∷ rows) [] h = absurd h
rows_keys (r ∷ rows) (None ∷ ms) h = absurd h
rows_keys (r ∷ rows) (Some m ∷ ms) h = ap₂ (λ a as'. Some a ∷ as') (row_keys r m h.0) (rows_keys rows ms h.1)

-- as many as there are rows
rows_many : (rows : List MachineRow) (ms : List (Option MachineSetup)) → EachSetsUp rows ms → length ms ≡ length rows
rows_many [] [] h = refl
rows_many [] (m ∷ ms) h = absurd h
rows_many (r ∷ rows) [] h = absurd h
rows_many (r ∷ rows) (None ∷ ms) h = absurd h
rows_many (r ∷ rows) (Some m ∷ ms) h = ap suc (rows_many rows ms h.1)

block_keys : (l : Letters) (s : Setup) → IsLoad l s → keys_of_block s ≡ load_keys l
block_keys l s h =
    let machines = rows_keys (rows_of l) s.machines h.machines in
    let spans = ap (map keys_of_span) h.spans in
    cc (h.memory, machines, h.high, h.level, h.out, h.bypass, spans)

-- the laws of what setups say
abbrev pub OneEach : Type 0
OneEach = (s t : Setup) → keys_of_block s ≡ keys_of_block t → s ≡ t

abbrev pub InRange : Type 0
InRange = (s : Setup) → length s.machines ≡ 4 → IsBlock (keys_of_block s)

abbrev pub NotClipped : Type 0
NotClipped = (k : BlockKeys) → IsBlock k → clipped_block k ≡ k

pub one_setup : (seed : ℕ) (s : Setup) → OneEach → InRange → NotClipped → IsLoad (letters_of seed) s → s ≡ setup_of seed
one_setup seed s one in_range not_clipped h =
    let k = load_keys (letters_of seed) in
    let says : keys_of_block s ≡ k = block_keys (letters_of seed) s h in
    let whole : clipped_block (keys_of_block s) ≡ keys_of_block s = not_clipped (keys_of_block s) (in_range s (rows_many (rows_of (letters_of seed)) s.machines h.machines)) in
    one s (setup_of seed) (sym whole ∙ ap clipped_block says ∙ sym (a_setup_says k).1)
