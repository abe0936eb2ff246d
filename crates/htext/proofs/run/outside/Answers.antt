use Rattle.htext.proofs.Names.{◌/◌, bit_and, arith, and_le_r, zip2_splat, zip2_of_maps, shares_no_bit}
use Rattle.htext.proofs.Lanes.{down, hit_of, hit_top, low_half, high_half, looked_up, masked}
use Rattle.htext.proofs.run.outside.Goals as goal

pub swizzle-low : goal.swizzle-low
swizzle-low c = low_half c.args.bytes c.fits-bytes

pub swizzle-high : goal.swizzle-high
swizzle-high c = high_half c.args.bytes c.fits-bytes

pub returns : goal.returns
returns c = let v = c.args.bytes in let set = c.args.«set» in let long = c.fits-bytes.0 in
    let low = looked_up set.low (λ x. bit_and x 15) v c.fits-bytes (zip2_splat bit_and v 16 15 long) (λ x h. omega (arith, and_le_r x 15)) in
    let high = looked_up set.high (λ x. x / 16) v c.fits-bytes (zip2_splat down v 16 4 long) (λ x h. omega arith) in
    masked _ (shares_no_bit set) v _ (omega arith) c.fits-bytes.1 (hit_of _ 0 16 v long (zip2_of_maps bit_and _ _ v low high)) (λ x _. hit_top _ 0)
