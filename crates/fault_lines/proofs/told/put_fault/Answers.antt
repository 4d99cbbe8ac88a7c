use Rattle.std.proofs.Common.{rules}
use Rattle.fault_lines.specs.Told.{fault_line}
use Rattle.fault_lines.proofs.told.put_fault.Goals as goal

pub returns-in-Second-clause-bytes : goal.returns-in-Second-clause-bytes
unfolding fault_line
returns-in-Second-clause-bytes g c = rw c.in-Second.is (rw c.as_bytes-in-Second.ensures at c.put_config_fault-in-Second.ensures.bytes)

pub returns-in-Out-clause-bytes : goal.returns-in-Out-clause-bytes
unfolding fault_line
returns-in-Out-clause-bytes g c = rw c.in-Out.is c.put_text-in-Out.ensures.bytes

pub returns-in-Memory-clause-bytes : goal.returns-in-Memory-clause-bytes
unfolding fault_line
returns-in-Memory-clause-bytes g c = rw c.in-Memory.is c.put_text-in-Memory.ensures.bytes

pub returns-in-SecondUnproved-clause-bytes : goal.returns-in-SecondUnproved-clause-bytes
unfolding fault_line
returns-in-SecondUnproved-clause-bytes g c = rw c.in-SecondUnproved.is c.put_refusal-in-SecondUnproved.ensures.bytes

-- as the search finds it; a wrong body is refused at once
pub returns-in-Unproved-clause-bytes : goal.returns-in-Unproved-clause-bytes
unfolding fault_line
returns-in-Unproved-clause-bytes g c = search rules
