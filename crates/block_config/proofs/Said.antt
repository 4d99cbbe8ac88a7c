-- What a configuration says is made of: its loads, machines, pins and spans.
use Rattle.std.proofs.Common.{◌≡◌, ℕ, Option, Result, Ok, Err, List, refl}
use Rattle.pio_assemble.specs.Program.{Assembled}
use Rattle.setup_keys.specs.Block.{MachineKeys, SpanKeys}
use Rattle.block_config.specs.declared.pins.BlockNumber.{BlockNumber}
use Rattle.block_config.specs.Answer.{ConfigRefusal}
use Rattle.block_config.specs.Config.{Sections, document_of, parsed, sections_at, no_machines, owning_with, block_over, block_of_sections, block_of_table, said_of}
use Rattle.block_config.specs.Loads.{all_loads, memory_of}
use Rattle.block_config.specs.Machines.{machines_from}
use Rattle.block_config.specs.Memory.{no_words}
use Rattle.block_config.specs.Owning.{OwningKeys}
use Rattle.block_config.specs.Pins.{PinTable, pins_in}
use Rattle.block_config.specs.Programs.{Loaded}
use Rattle.block_config.specs.Spans.{all_spans}
use Rattle.block_config.specs.Tables.{and_then}
use Rattle.block_config.proofs.Ranges.{goes_on, ok_same}

-- the parts of a block over its loads
pub record Over (block : BlockNumber) (s : Sections) (loads : List Loaded) (k : OwningKeys) : Type 0 where
  pub machines : List (Option MachineKeys)
  pub pins : PinTable
  pub spans : List SpanKeys
  pub machines_found : machines_from 0 no_machines loads s.machines ≡ Ok machines
  pub pins_found : pins_in block s.pins ≡ Ok pins
  pub spans_found : all_spans machines loads s.spans ≡ Ok spans
  pub whole : owning_with (memory_of no_words loads) machines pins spans ≡ k

over_spans : (block : BlockNumber) (s : Sections) (loads : List Loaded) (k : OwningKeys) (machines : List (Option MachineKeys)) (pins : PinTable) (spans : Result (List SpanKeys) ConfigRefusal)
    → machines_from 0 no_machines loads s.machines ≡ Ok machines → pins_in block s.pins ≡ Ok pins → all_spans machines loads s.spans ≡ spans
    → and_then spans (λ spans. Ok (owning_with (memory_of no_words loads) machines pins spans)) ≡ Ok k → Over block s loads k
over_spans block s loads k machines pins (Ok spans) m p is e =
    record { machines = machines; pins = pins; spans = spans; machines_found = m; pins_found = p; spans_found = is; whole = ok_same (owning_with (memory_of no_words loads) machines pins spans) k e }
over_spans block s loads k machines pins (Err r) m p is e = cc

over_pins : (block : BlockNumber) (s : Sections) (loads : List Loaded) (k : OwningKeys) (machines : List (Option MachineKeys)) (pins : Result PinTable ConfigRefusal)
    → machines_from 0 no_machines loads s.machines ≡ Ok machines → pins_in block s.pins ≡ pins
    → and_then pins (λ pins. and_then (all_spans machines loads s.spans) (λ spans. Ok (owning_with (memory_of no_words loads) machines pins spans))) ≡ Ok k → Over block s loads k
over_pins block s loads k machines (Ok pins) m is e = over_spans block s loads k machines pins (all_spans machines loads s.spans) m is refl e
over_pins block s loads k machines (Err r) m is e = cc

over_machines : (block : BlockNumber) (s : Sections) (loads : List Loaded) (k : OwningKeys) (machines : Result (List (Option MachineKeys)) ConfigRefusal) → machines_from 0 no_machines loads s.machines ≡ machines
    → and_then machines (λ machines. and_then (pins_in block s.pins) (λ pins. and_then (all_spans machines loads s.spans) (λ spans. Ok (owning_with (memory_of no_words loads) machines pins spans)))) ≡ Ok k
    → Over block s loads k
over_machines block s loads k (Ok machines) is e = over_pins block s loads k machines (pins_in block s.pins) is refl e
over_machines block s loads k (Err r) is e = cc

-- the parts of a configuration
pub record Said (block : BlockNumber) (programs : List Assembled) (k : OwningKeys) : Type 0 where
  pub sections : Sections
  pub loads : List Loaded
  pub loads_found : all_loads programs sections.loads ≡ Ok loads
  pub over : Over block sections loads k

pub said_parts : (block : BlockNumber) (bytes : List ℕ) (programs : List Assembled) (k : OwningKeys) → said_of block bytes programs ≡ Ok k → Said block programs k
said_parts block bytes programs k e =
    let table = goes_on (parsed (document_of bytes)) (block_of_table block programs) k e in
    let sections = goes_on (sections_at table.value) (block_of_sections block programs) k table.rest in
    let loads = goes_on (all_loads programs sections.value.loads) (block_over block sections.value) k sections.rest in
    record { sections = sections.value; loads = loads.value; loads_found = loads.found; over = over_machines block sections.value loads.value k (machines_from 0 no_machines loads.value sections.value.machines) refl loads.rest }
