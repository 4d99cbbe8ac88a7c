-- No number of a configuration is clipped on its way into the setup.
use Rattle.std.proofs.Common.{◌≡◌, ℕ, ◌+◌, ◌<◌, ◌≤◌, cond, Bool, true, false, Some, None, unwrap_or, Result, Ok, Err, List, [], ◌∷◌, map, length, refl, ap, subst, ◌∙◌, arith}
use Rattle.std.specs.List.{AllByRecursion}
use Rattle.pio_assemble.specs.declared.program.Program.{Program}
use Rattle.pio_assemble.specs.Program.{Assembled, assembled_of}
use Rattle.answers.specs.Answers.{made}
use Rattle.block_config.specs.Answer.{ConfigRefusal}
use Rattle.setup_keys.specs.Block.{BlockKeys, keys_of_block}
use Rattle.block_config.specs.declared.pins.BlockNumber.{BlockNumber}
use Rattle.block_config.specs.declared.pins.BlockNumber.TheVariants.{First, Second}
use Rattle.block_config.specs.Config.{Sections, no_machines, block_with, said_of, config_block, config_setup_of, second_setup_of}
use Rattle.block_config.specs.Default.{machine_keys, quiet_block, default_block, default_setup_of}
use Rattle.block_config.specs.Exact.{SaysExactly, OwnsExactly}
use Rattle.block_config.specs.Loads.{memory_of}
use Rattle.block_config.specs.Memory.{no_words, fits_at, loaded}
use Rattle.block_config.specs.Owning.{OwningKeys, owning_setup_of}
use Rattle.block_config.specs.Programs.{Loaded}
use Rattle.block_config.specs.SetupOf.{setup_of}
use Rattle.setup_keys.specs.InRange.{IsMachine, IsSpan}
use Rattle.setup_keys.proofs.Making.{a_setup_says}
use Rattle.setup_keys.proofs.Exact.{not_clipped}
use Rattle.block_config.proofs.LoadsFit.{IsProgram, IsLoad, are_programs, loads_fit, words_fit}
use Rattle.block_config.proofs.MachinesInRange.{AreFour, machines_in_range}
use Rattle.block_config.proofs.Ranges.{ok_same}
use Rattle.block_config.proofs.Said.{Over, said_parts}
use Rattle.block_config.proofs.SpansInRange.{spans_in_range}

block_exact : (k : BlockKeys) → AreFour k.machines → AllByRecursion IsSpan k.spans → keys_of_block (setup_of k) ≡ k
unfolding setup_of
block_exact k m s = (a_setup_says k).1 ∙ not_clipped k (record { four = m.four; placed = m.kept; spans = s })

over_exact : (block : BlockNumber) (s : Sections) (loads : List Loaded) (k : OwningKeys) → AllByRecursion IsLoad loads → Over block s loads k → keys_of_block (setup_of k.block) ≡ k.block
over_exact block s loads k fit o =
    let four = machines_in_range s.machines 0 no_machines o.machines loads fit (record { four = refl; kept = tt }) o.machines_found in
    subst (λ (x : OwningKeys). keys_of_block (setup_of x.block) ≡ x.block) o.whole (block_exact (block_with (memory_of no_words loads) o.machines o.pins o.spans) four (spans_in_range o.machines loads s.spans o.spans o.spans_found))

said_exact : (block : BlockNumber) (bytes : List ℕ) (programs : List Assembled) (k : OwningKeys) → AllByRecursion IsProgram programs → said_of block bytes programs ≡ Ok k → keys_of_block (setup_of k.block) ≡ k.block
said_exact block bytes programs k fit e =
    let parts = said_parts block bytes programs k e in
    over_exact block parts.sections parts.loads k (loads_fit programs parts.sections.loads parts.loads fit parts.loads_found) parts.over

first_read_back : (said : Result OwningKeys ConfigRefusal) → ((k : OwningKeys) → said ≡ Ok k → keys_of_block (setup_of k.block) ≡ k.block) → SaysExactly (made setup_of (made (λ k. k.block) said)) (made (λ k. k.block) said)
first_read_back (Ok k) exact = ap Ok (exact k refl)
first_read_back (Err e) exact = refl

second_read_back : (said : Result OwningKeys ConfigRefusal) → ((k : OwningKeys) → said ≡ Ok k → keys_of_block (setup_of k.block) ≡ k.block) → OwnsExactly (made owning_setup_of said) said
second_read_back (Ok k) exact = ap (λ (b : BlockKeys). Ok (record { block = b; own = k.own })) (exact k refl)
second_read_back (Err e) exact = refl

pub configuration_exact : (bytes : List ℕ) (programs : List Program) → SaysExactly (config_setup_of bytes (map assembled_of programs)) (config_block bytes (map assembled_of programs))
configuration_exact bytes programs = first_read_back (said_of First bytes (map assembled_of programs)) (λ k e. said_exact First bytes (map assembled_of programs) k (are_programs programs) e)

pub second_exact : (bytes : List ℕ) (programs : List Program) → OwnsExactly (second_setup_of bytes (map assembled_of programs)) (said_of Second bytes (map assembled_of programs))
second_exact bytes programs = second_read_back (said_of Second bytes (map assembled_of programs)) (λ k e. said_exact Second bytes (map assembled_of programs) k (are_programs programs) e)

-- the machine of the default setup
default_machine : (p : Assembled) (address : ℕ) → IsProgram p → address + length p.words ≤ 32 → IsMachine (machine_keys 0 address p)
default_machine p address is within =
    let some : 1 ≤ length p.words = is.some in
    let bottom : p.wrap_bottom < length p.words = is.bottom in
    let top : p.wrap_top < length p.words = is.top in
    record {
      id_in_block = omega arith;
      start_in_memory = omega arith;
      isr_has_bits = omega arith;
      osr_has_bits = omega arith;
      divides = refl;
      wrap_bottom_in_memory = omega arith;
      wrap_top_in_memory = omega arith;
      in_base_is_a_pin = omega arith;
      jmp_pin_is_a_pin = omega arith;
      pushes_some = omega arith;
      pushes_a_word = omega arith;
      pulls_some = omega arith;
      pulls_a_word = omega arith;
      joins_one_way = refl;
      status_in_field = omega arith;
      out_base_is_a_pin = omega arith;
      out_count_fits = omega arith;
      set_base_is_a_pin = omega arith;
      set_count_fits = omega arith;
      sets_five_at_most = omega arith;
      side_base_is_a_pin = omega arith;
      side_count_fits = omega (arith, p.side.fits);
    }

default_fits : (p : Assembled) (address : ℕ) (k : BlockKeys) (fits : Bool) (r : ConfigRefusal) → fits_at address p.words ≡ fits → IsProgram p
    → cond fits (Ok (quiet_block (loaded no_words address p.words) (Some (machine_keys 0 address p) ∷ None ∷ None ∷ None ∷ []))) (Err r) ≡ Ok k → keys_of_block (setup_of k) ≡ k
default_fits p address k true r fit is e =
    let b = quiet_block (loaded no_words address p.words) (Some (machine_keys 0 address p) ∷ None ∷ None ∷ None ∷ []) in
    subst (λ (x : BlockKeys). keys_of_block (setup_of x) ≡ x) (ok_same b k e)
    (block_exact b (record { four = refl; kept = (refl, default_machine p address is (words_fit address p.words fit), tt) }) tt)
default_fits p address k false r fit is e = cc

default_exact : (programs : List Program) (k : BlockKeys) → default_block (map assembled_of programs) ≡ Ok k → keys_of_block (setup_of k) ≡ k
default_exact [] k e = cc
default_exact (p ∷ ps) k e =
    let a = assembled_of p in
    default_fits a (unwrap_or a.origin 0) k (fits_at (unwrap_or a.origin 0) a.words) _ refl (are_programs (p ∷ ps)).0 e

read_back : (said : Result BlockKeys ConfigRefusal) → ((k : BlockKeys) → said ≡ Ok k → keys_of_block (setup_of k) ≡ k) → SaysExactly (made setup_of said) said
read_back (Ok k) exact = ap Ok (exact k refl)
read_back (Err e) exact = refl

pub default_setup_exact : (programs : List Program) → SaysExactly (default_setup_of (map assembled_of programs)) (default_block (map assembled_of programs))
default_setup_exact programs = read_back (default_block (map assembled_of programs)) (λ k e. default_exact programs k e)
