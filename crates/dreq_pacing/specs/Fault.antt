-- The codes of a stimulus's faults.
use Rattle.std.specs.Prelude.{ℕ, List, codes}
use Rattle.dreq_pacing.specs.declared.fault.StimKind.{StimKind}
use Rattle.dreq_pacing.specs.declared.fault.StimKind.TheVariants.{BadLine, Range, Backwards, Crowded, Many}

-- the code of a kind (choice of this profile)
abbrev pub code_of : StimKind → List ℕ
code_of BadLine = codes "T1"
code_of Range = codes "T2"
code_of Backwards = codes "T3"
code_of Crowded = codes "T4"
code_of Many = codes "T5"
