-- The words of the generator Pcg64 that is made from a number.
use Rattle.std.specs.Prelude.{ℕ, zero, suc}
use Rattle.rand_core.specs.Pcg32Seed.{pcg32_seed}
use Rattle.rand_pcg.specs.Lcg.{Lcg}
use Rattle.rand_pcg.specs.Pcg.{pcg64, pcg64_of_seed}

-- the generator after its first k words
unfoldable pub generator_after : ℕ → ℕ → Lcg
generator_after seed zero = pcg64_of_seed (pcg32_seed 32 seed)
generator_after seed (suc k) = (pcg64 (generator_after seed k)).1

-- the word with number k, counted from 0
unfoldable pub word : ℕ → ℕ → ℕ
word seed k = (pcg64 (generator_after seed k)).0
