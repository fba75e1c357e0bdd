use Rattle.std.proofs.Common.{◌≡◌, ℕ, ◌+◌, ◌%◌, ◌<◌, ◌≤◌, length}
use Rattle.std.specs.Prelude.{slice_index}
use Rattle.qz_finger.specs.Modulo.{modulus}
use Rattle.qz_random.specs.RandomWords.{generator_after, word}
use Rattle.qz_finger.proofs.words.weights.Given as goal

abbrev pub invariant-loop-i : goal.invariant-loop-i
invariant-loop-i l = record {
  size : length l.weights ≡ 64;
  filled : (seed k : ℕ) → l.initial.rng ≡ generator_after seed k → (m : ℕ) → m < l.i → slice_index l.weights m ≡ word seed (k + m) % modulus;
  zeros : (m : ℕ) → l.i ≤ m → slice_index l.weights m ≡ 0;
  after : (seed k : ℕ) → l.initial.rng ≡ generator_after seed k → l.rng ≡ generator_after seed (k + l.i);
}
