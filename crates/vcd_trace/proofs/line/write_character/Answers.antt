use Rattle.std.proofs.Common.{◌-◌, ◌∷◌, drop, slice_set, arith, refl}
use Rattle.std.proofs.Math.ListN.{length-set}
use Rattle.vcd_trace.proofs.Digits.{put_at}
use Rattle.vcd_trace.proofs.line.write_character.Goals as goal

pub returns : goal.returns
returns c =
    let end = c.args.end in
    let old = c.args.line.now in
    let one = slice_set old (end - 1) 10 in
    let two = slice_set one (end - 2) c.args.id in
    let size_one = length-set old (end - 1) 10 in
    let size_two = length-set one (end - 2) c.args.id in
    put_at two (end - 3) (end - 2) c.args.first (c.args.id ∷ 10 ∷ drop end old) (omega arith) (omega (arith, size_one, size_two))
    (put_at one (end - 2) (end - 1) c.args.id (10 ∷ drop end old) (omega arith) (omega (arith, size_one))
    (put_at old (end - 1) end 10 (drop end old) (omega arith) (omega arith) refl))
