-- Numbers modulo p = 2^64 - 2^32 + 1. No rule needs that p is a prime.
use Rattle.std.specs.Prelude.{ℕ, zero, suc, ◌+◌, ◌*◌, ◌^◌, ℤ, pos, negsuc}

-- p
abbrev pub modulus : ℕ
modulus = 18446744069414584321

-- -1 modulo p
abbrev pub minus_one : ℕ
minus_one = 18446744069414584320

-- the inverse of 2 modulo p
abbrev pub half : ℕ
half = 9223372034707292161

-- the base whose powers stand for the parameters
abbrev pub parameter_base : ℕ
parameter_base = 7

-- its inverse modulo p
abbrev pub inverse_parameter_base : ℕ
inverse_parameter_base = 2635249152773512046

-- a 32nd root of unity modulo p, 2^6, which stands for e^(iπ/16): its 16th power 2^96 is -1 modulo p
abbrev pub root_of_unity : ℕ
root_of_unity = 64

-- its inverse modulo p, which is 2^186
abbrev pub inverse_root_of_unity : ℕ
inverse_root_of_unity = 18158513693329981441

-- the whole number as a natural one, where n stands for -1
abbrev pub residue : ℕ → ℤ → ℕ
residue n (pos k) = k
residue n (negsuc k) = n * (k + 1)

-- g to a whole power, where h is the inverse of g
abbrev pub raise : ℕ → ℕ → ℤ → ℕ
raise g h (pos k) = g ^ k
raise g h (negsuc k) = h ^ (k + 1)

-- the numbers f k for k below n, added up
unfoldable pub sum_below : (ℕ → ℕ) → ℕ → ℕ
sum_below f zero = 0
sum_below f (suc n) = sum_below f n + f n
