-- Counts that are read off the top set bit, worked out by hand. Assumes nothing.
use Rattle.std.specs.Prelude.{◌≡◌, refl, ◌-◌, ◌^◌}
use Rattle.std.specs.Int.Count.{count_leading_zeros}
use Rattle.numbers.specs.Counts.{top_count}

-- zero has one digit, whatever its bits
zero_two : top_count 1 0 ≡ 1
zero_two = refl

zero_sixteen : top_count 4 0 ≡ 1
zero_sixteen = refl

-- the magnitude of the least integer has 64 digits in base 2, 22 in base 8, 16 in base 16
least_two : top_count 1 (2 ^ 63) ≡ 64
unfolding count_leading_zeros
least_two = refl

least_eight : top_count 3 (2 ^ 63) ≡ 22
unfolding count_leading_zeros
least_eight = refl

least_sixteen : top_count 4 (2 ^ 63) ≡ 16
unfolding count_leading_zeros
least_sixteen = refl

-- a digit more at a power of the base
below_power : top_count 3 (8 ^ 20 - 1) ≡ 20
unfolding count_leading_zeros
below_power = refl

at_power : top_count 3 (8 ^ 20) ≡ 21
unfolding count_leading_zeros
at_power = refl

sixteens_below : top_count 4 (16 ^ 2 - 1) ≡ 2
unfolding count_leading_zeros
sixteens_below = refl

sixteens_at : top_count 4 (16 ^ 2) ≡ 3
unfolding count_leading_zeros
sixteens_at = refl

-- the greatest magnitude of 64 bits
most : top_count 1 (2 ^ 64 - 1) ≡ 64
unfolding count_leading_zeros
most = refl
