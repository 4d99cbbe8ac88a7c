use Rattle.fault_lines.proofs.told.put_shelf_fault.Goals as goal

pub returns-clause-bytes : goal.returns-clause-bytes
returns-clause-bytes g c =
    simp (c.as_bytes.ensures.value, c.as_bytes-2.ensures.value, c.word_of.ensures, c.as_bytes-3.ensures.value) at c.put_all.ensures.bytes
