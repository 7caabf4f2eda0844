-- The root of 1.5 that the code has as a constant is the root. Assumes nothing.
use Rattle.std.proofs.Common.{◌≡◌, refl}
use lib.Ieee.{binary64, of_bits, size}
use Rattle.square_root.specs.Root.{root_of, floor_root, nearest_root}
use Rattle.converter.specs.Constants.{three_halves}

pub root_is : root_of three_halves ≡ of_bits binary64 0x3ff3_988e_1409_212e
unfolding root_of floor_root nearest_root of_bits size
root_is = refl
