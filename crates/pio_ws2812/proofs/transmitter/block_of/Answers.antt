use Rattle.std.proofs.Common.{◌^◌, ◌<◌, refl, arith}
use Rattle.std.proofs.Math.Pow.{pow-lt}
use Rattle.pio_ws2812.proofs.transmitter.block_of.Goals as goal

pub returns : goal.returns
returns c = λ int h. record {
  memory = refl;
  machine = c.args.machine;
  machines = refl;
  is_set_up = h;
  is_pin = c.requires.is_pin;
  level = refl;
  out = let l : 2 ^ c.args.pin < 2 ^ 32 = pow-lt {i = c.args.pin} {j = 32} c.requires.is_pin in omega (arith, l);
}
