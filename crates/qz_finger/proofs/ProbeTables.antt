-- The tables that a probe is made of are those of its seed.
use Rattle.std.proofs.Common.{◌≡◌, ℕ, ◌+◌, ◌%◌, ◌^◌, List, [], ◌∷◌, sym, ap, ◌∙◌, add-zero}
use Rattle.std.specs.Prelude.{slice_index}
use Rattle.qz_finger.specs.declared.tables.Tables.{Tables}
use Rattle.qz_finger.specs.Modulo.{parameter_base, inverse_parameter_base, root_of_unity, inverse_root_of_unity}
use Rattle.qz_finger.specs.Weights.{entries_on, power_of}
use Rattle.qz_random.specs.RandomWords.{word}
use Rattle.qz_finger.specs.Fingerprint.{bases_of, inverted}
use Rattle.qz_finger.specs.Tables.{weights_after, powers_of, three_of, tables_of, value_tables, inverse_tables}

-- the powers of 7 that the parameters stand for
abbrev powers_at : ℕ → ℕ → List ℕ
powers_at seed k = word seed k % 65536 ∷ word seed (k + 1) % 65536 ∷ word seed (k + 2) % 65536 ∷ []

-- a number to these powers
raised_are : (seed q k g : ℕ) (exponents xs : List ℕ) → k ≡ entries_on q + entries_on q → exponents ≡ powers_at seed k → xs ≡ three_of (g ^ slice_index exponents 0) (g ^ slice_index exponents 1) (g ^ slice_index exponents 2) →
    xs ≡ three_of (g ^ power_of seed q 0) (g ^ power_of seed q 1) (g ^ power_of seed q 2)
raised_are seed q k g exponents xs place are raised =
    raised ∙
    (λ d. three_of (g ^ slice_index (are d) 0) (g ^ slice_index (are d) 1) (g ^ slice_index (are d) 2)) ∙
    (λ d. three_of (g ^ (word seed (first d) % 65536)) (g ^ (word seed (place d + 1) % 65536)) (g ^ (word seed (place d + 2) % 65536)))
  where
    first : k ≡ entries_on q + entries_on q + 0
    first = place ∙ sym (add-zero (entries_on q + entries_on q))

module _ (seed q k : ℕ) (exponents up down : List ℕ) (place : k ≡ entries_on q + entries_on q) (are : exponents ≡ powers_at seed k)
    (first : up ≡ three_of (parameter_base ^ slice_index exponents 0) (parameter_base ^ slice_index exponents 1) (parameter_base ^ slice_index exponents 2))
    (second : down ≡ three_of (inverse_parameter_base ^ slice_index exponents 0) (inverse_parameter_base ^ slice_index exponents 1) (inverse_parameter_base ^ slice_index exponents 2)) where
  -- those of values
  pub values_made : (weights constants : List ℕ) → weights ≡ weights_after seed 0 (entries_on q) → constants ≡ powers_of root_of_unity →
      record { weights = weights; constants = constants; up = up; down = down } ≡ value_tables seed q
  unfolding value_tables tables_of bases_of
  values_made weights constants weighed rooted =
      λ d. record { weights = weighed d; constants = rooted d; up = raised_are seed q k parameter_base exponents up place are first d; down = raised_are seed q k inverse_parameter_base exponents down place are second d }

  -- those of inverse values
  pub inverses_made : (weights constants : List ℕ) → weights ≡ weights_after seed (entries_on q) (entries_on q) → constants ≡ powers_of inverse_root_of_unity →
      record { weights = weights; constants = constants; up = down; down = up } ≡ inverse_tables seed q
  unfolding inverse_tables tables_of bases_of
  inverses_made weights constants weighed rooted =
      λ d. record { weights = weighed d; constants = rooted d; up = raised_are seed q k inverse_parameter_base exponents down place are second d; down = raised_are seed q k parameter_base exponents up place are first d }

-- ---- what the tables of a probe are

-- the weights of values
pub value_weights : (seed q : ℕ) (t : Tables) → t ≡ value_tables seed q → t.weights ≡ weights_after seed 0 (entries_on q)
unfolding value_tables tables_of
value_weights seed q t same = ap (λ (x : Tables). x.weights) same

-- and those of inverse values
pub inverse_weights : (seed q : ℕ) (t : Tables) → t ≡ inverse_tables seed q → t.weights ≡ weights_after seed (entries_on q) (entries_on q)
unfolding inverse_tables tables_of
inverse_weights seed q t same = ap (λ (x : Tables). x.weights) same

-- the tables of values are those of the bases
pub value_bases : (seed q : ℕ) (t : Tables) → t ≡ value_tables seed q → t ≡ tables_of t.weights (bases_of seed q)
unfolding value_tables
value_bases seed q t same = same ∙ ap (λ w. tables_of w (bases_of seed q)) (sym (value_weights seed q t same))

-- and those of inverse values are those of the inverse bases
pub inverse_bases : (seed q : ℕ) (t : Tables) → t ≡ inverse_tables seed q → t ≡ tables_of t.weights (inverted (bases_of seed q))
unfolding inverse_tables
inverse_bases seed q t same = same ∙ ap (λ w. tables_of w (inverted (bases_of seed q))) (sym (inverse_weights seed q t same))
