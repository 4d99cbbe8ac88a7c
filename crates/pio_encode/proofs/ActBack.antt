-- What an act is read as from the bits of its word.
use Rattle.std.proofs.Common.{◌≡◌, ℕ, ◌+◌, ◌*◌, ◌%◌, ◌^◌, ◌<◌, ◌≤◌, Bool, refl, ap, ◌∙◌, arith}
use Rattle.std.proofs.lemmas.Bool.Decides.{nat_tests}
use Rattle.pio_encode.specs.declared.act.Act.{Act}
use Rattle.pio_encode.specs.declared.act.Act.TheVariants.{Jmp, Wait, In, Out, Push, Pull, Mov, Irq, Set, Nothing}
use Rattle.pio_encode.specs.declared.act.Condition.{Condition}
use Rattle.pio_encode.specs.declared.act.WaitSource.{WaitSource}
use Rattle.pio_encode.specs.declared.act.WaitSource.TheVariants as wait_source
use Rattle.pio_encode.specs.declared.act.InSource.{InSource}
use Rattle.pio_encode.specs.declared.act.InSource.TheVariants as in_source
use Rattle.pio_encode.specs.declared.act.OutDestination.{OutDestination}
use Rattle.pio_encode.specs.declared.act.MovDestination.{MovDestination}
use Rattle.pio_encode.specs.declared.act.MovOperation.{MovOperation}
use Rattle.pio_encode.specs.declared.act.MovSource.{MovSource}
use Rattle.pio_encode.specs.declared.act.SetDestination.{SetDestination}
use Rattle.pio_encode.specs.declared.act.SetDestination.TheVariants as set_destination
use Rattle.pio_encode.specs.Word.{bit, bits, act_of, wait_at, in_at, push_or_pull_at, mov_at, irq_at, set_at, count_at, condition_number, condition_at, wait_source_number, in_source_number, out_destination_number, out_destination_at, mov_destination_number, mov_operation_number, mov_source_number, set_destination_number, kind_of, operands_of}
use Rattle.pio_encode.specs.Ranges.{IsInRange, IsInstruction}
use Rattle.pio_encode.proofs.OperandNumbers.{bit_below, bit_back, condition_below, wait_source_below, in_source_below, out_destination_below, mov_destination_below, mov_operation_below, mov_source_below, set_destination_below, condition_back, out_destination_back, mov_destination_back, mov_operation_back, mov_source_back}

-- a count's field
count_back : (n : ℕ) → 1 ≤ n → n ≤ 32 → count_at (n % 32) ≡ n
count_back n low high = grind (arith, nat_tests)

wait_back :
    (w : ℕ) (polarity : Bool) (source : WaitSource) (index : ℕ) → bits w 5 2 ≡ wait_source_number source →
    bits w 7 1 ≡ bit polarity → bits w 0 5 ≡ index → wait_at w ≡ Wait polarity source index
unfolding wait_at
wait_back w polarity wait_source.Gpio index s p i = rw (s, p, i, bit_back polarity) refl
wait_back w polarity wait_source.Pin index s p i = rw (s, p, i, bit_back polarity) refl
wait_back w polarity wait_source.Irq index s p i = rw (s, p, i, bit_back polarity) refl

in_back :
    (w : ℕ) (source : InSource) (count : ℕ) → bits w 5 3 ≡ in_source_number source → bits w 0 5 ≡ count % 32 →
    1 ≤ count → count ≤ 32 → in_at w ≡ In source count
unfolding in_at
in_back w in_source.Pins count s n low high = rw (s, n) (ap (λ k. In in_source.Pins k) (count_back count low high))
in_back w in_source.X count s n low high = rw (s, n) (ap (λ k. In in_source.X k) (count_back count low high))
in_back w in_source.Y count s n low high = rw (s, n) (ap (λ k. In in_source.Y k) (count_back count low high))
in_back w in_source.Null count s n low high = rw (s, n) (ap (λ k. In in_source.Null k) (count_back count low high))
in_back w in_source.Isr count s n low high = rw (s, n) (ap (λ k. In in_source.Isr k) (count_back count low high))
in_back w in_source.Osr count s n low high = rw (s, n) (ap (λ k. In in_source.Osr k) (count_back count low high))

set_back :
    (w : ℕ) (destination : SetDestination) (value : ℕ) → bits w 5 3 ≡ set_destination_number destination →
    bits w 0 5 ≡ value → set_at w ≡ Set destination value
unfolding set_at
set_back w set_destination.Pins value d v = rw (d, v) refl
set_back w set_destination.X value d v = rw (d, v) refl
set_back w set_destination.Y value d v = rw (d, v) refl
set_back w set_destination.Pindirs value d v = rw (d, v) refl

push_back :
    (w : ℕ) (if_full block : Bool) → bits w 0 5 ≡ 0 → bits w 7 1 ≡ 0 → bits w 6 1 ≡ bit if_full → bits w 5 1 ≡ bit block →
    push_or_pull_at w ≡ Push if_full block
unfolding push_or_pull_at
push_back w if_full block z k f b = rw (z, k, f, b, bit_back if_full, bit_back block) refl

pull_back :
    (w : ℕ) (if_empty block : Bool) → bits w 0 5 ≡ 0 → bits w 7 1 ≡ 1 → bits w 6 1 ≡ bit if_empty → bits w 5 1 ≡ bit block →
    push_or_pull_at w ≡ Pull if_empty block
unfolding push_or_pull_at
pull_back w if_empty block z k f b = rw (z, k, f, b, bit_back if_empty, bit_back block) refl

mov_back :
    (w : ℕ) (destination : MovDestination) (operation : MovOperation) (source : MovSource) →
    bits w 5 3 ≡ mov_destination_number destination → bits w 3 2 ≡ mov_operation_number operation →
    bits w 0 3 ≡ mov_source_number source → mov_at w ≡ Mov destination operation source
unfolding mov_at
mov_back w destination operation source d o s =
    rw (d, o, s, mov_destination_back destination, mov_operation_back operation, mov_source_back source) refl

irq_back :
    (w : ℕ) (clear wait : Bool) (index : ℕ) → bits w 7 1 ≡ 0 → bits w 6 1 ≡ bit clear → bits w 5 1 ≡ bit wait →
    bits w 0 5 ≡ index → irq_at w ≡ Irq clear wait index
unfolding irq_at
irq_back w clear wait index z c t i = rw (z, c, t, i, bit_back clear, bit_back wait) refl

-- the kind alone says how the rest is read
jmp_kind : (w : ℕ) → bits w 13 3 ≡ 0 → act_of w ≡ Jmp (condition_at (bits w 5 3)) (bits w 0 5)
unfolding act_of
jmp_kind w k = rw k refl

wait_kind : (w : ℕ) → bits w 13 3 ≡ 1 → act_of w ≡ wait_at w
unfolding act_of
wait_kind w k = rw k refl

in_kind : (w : ℕ) → bits w 13 3 ≡ 2 → act_of w ≡ in_at w
unfolding act_of
in_kind w k = rw k refl

out_kind : (w : ℕ) → bits w 13 3 ≡ 3 → act_of w ≡ Out (out_destination_at (bits w 5 3)) (count_at (bits w 0 5))
unfolding act_of
out_kind w k = rw k refl

push_or_pull_kind : (w : ℕ) → bits w 13 3 ≡ 4 → act_of w ≡ push_or_pull_at w
unfolding act_of
push_or_pull_kind w k = rw k refl

mov_kind : (w : ℕ) → bits w 13 3 ≡ 5 → act_of w ≡ mov_at w
unfolding act_of
mov_kind w k = rw k refl

irq_kind : (w : ℕ) → bits w 13 3 ≡ 6 → act_of w ≡ irq_at w
unfolding act_of
irq_kind w k = rw k refl

set_kind : (w : ℕ) → bits w 13 3 ≡ 7 → act_of w ≡ set_at w
unfolding act_of
set_kind w k = rw k refl

jmp_back :
    (w : ℕ) (condition : Condition) (address : ℕ) → bits w 13 3 ≡ 0 → bits w 5 3 ≡ condition_number condition →
    bits w 0 5 ≡ address → act_of w ≡ Jmp condition address
jmp_back w condition address k c a = jmp_kind w k ∙ rw (c, a, condition_back condition) refl

out_back :
    (w : ℕ) (destination : OutDestination) (count : ℕ) → bits w 13 3 ≡ 3 →
    bits w 5 3 ≡ out_destination_number destination → bits w 0 5 ≡ count % 32 → 1 ≤ count → count ≤ 32 →
    act_of w ≡ Out destination count
out_back w destination count k d n low high =
    out_kind w k ∙ rw (d, n, out_destination_back destination) (ap (λ c. Out destination c) (count_back count low high))

-- each act is read back, whatever is in bits 12 to 8
pub act_back :
    (act : Act) (shared : ℕ) → IsInstruction act → IsInRange act → shared < 32 →
    act_of (kind_of act * 2 ^ 13 + shared * 2 ^ 8 + operands_of act) ≡ act
unfolding kind_of operands_of
act_back (Jmp condition address) shared h r s =
    let n = condition_below condition in
    jmp_back _ condition address (omega arith) (omega arith) (omega arith)
act_back (Wait polarity source index) shared h r s =
    let p = bit_below polarity in
    let n = wait_source_below source in
    wait_kind _ (omega arith) ∙ wait_back _ polarity source index (omega arith) (omega arith) (omega arith)
act_back (In source count) shared h r s =
    let n = in_source_below source in
    in_kind _ (omega arith) ∙ in_back _ source count (omega arith) (omega arith) r.0 r.1
act_back (Out destination count) shared h r s =
    let n = out_destination_below destination in
    out_back _ destination count (omega arith) (omega arith) (omega arith) r.0 r.1
act_back (Push if_full block) shared h r s =
    let f = bit_below if_full in
    let b = bit_below block in
    push_or_pull_kind _ (omega arith) ∙ push_back _ if_full block (omega arith) (omega arith) (omega arith) (omega arith)
act_back (Pull if_empty block) shared h r s =
    let e = bit_below if_empty in
    let b = bit_below block in
    push_or_pull_kind _ (omega arith) ∙ pull_back _ if_empty block (omega arith) (omega arith) (omega arith) (omega arith)
act_back (Mov destination operation source) shared h r s =
    let d = mov_destination_below destination in
    let o = mov_operation_below operation in
    let n = mov_source_below source in
    mov_kind _ (omega arith) ∙ mov_back _ destination operation source (omega arith) (omega arith) (omega arith)
act_back (Irq clear wait index) shared h r s =
    let c = bit_below clear in
    let t = bit_below wait in
    irq_kind _ (omega arith) ∙ irq_back _ clear wait index (omega arith) (omega arith) (omega arith) (omega arith)
act_back (Set destination value) shared h r s =
    let n = set_destination_below destination in
    set_kind _ (omega arith) ∙ set_back _ destination value (omega arith) (omega arith)
act_back Nothing shared h r s = absurd h
