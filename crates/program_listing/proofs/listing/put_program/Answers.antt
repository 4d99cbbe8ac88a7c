use Rattle.pio_assemble.specs.Program.{assembled_of}
use Rattle.program_listing.proofs.Programs.{fails_first, fails_second, ends_third}
use Rattle.program_listing.proofs.listing.put_program.Goals as goal

pub returns-in_err-put_program_line-clause-bytes : goal.returns-in_err-put_program_line-clause-bytes
returns-in_err-put_program_line-clause-bytes g c =
    fails_first _ _ (assembled_of c.args.program.now) c.from_residual.result c.from_residual.ensures.0 c.in_err-put_program_line.ensures.bytes

pub returns-in_err-put_publics-clause-bytes : goal.returns-in_err-put_publics-clause-bytes
returns-in_err-put_publics-clause-bytes g c =
    fails_second _ _ _ (assembled_of c.args.program.now) _ c.from_residual-in_err-put_publics.result c.as_slice.ensures c.in_ok-put_program_line.ensures.bytes c.from_residual-in_err-put_publics.ensures.0 c.in_err-put_publics.ensures.bytes

pub returns-clause-bytes : goal.returns-clause-bytes
returns-clause-bytes g c =
    ends_third _ _ _ _ (assembled_of c.args.program.now) _ _ c.put_words.result c.as_slice.ensures c.as_slice-2.ensures.value c.in_ok-put_program_line.ensures.bytes c.in_ok-put_publics.ensures.bytes c.put_words.ensures.bytes
