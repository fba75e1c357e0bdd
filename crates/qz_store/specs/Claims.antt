-- What a claim gives.
use Rattle.std.specs.Prelude.{◌≡◌, ℕ, slice_get, Option, Some, None}
use Rattle.qz_seats.specs.declared.view.View.{View}
use Rattle.qz_seats.specs.Answers.{Drew}

-- one draw gave a number, and the rank is at that place of the list
pub record DrewRank (v : View) (r : ℕ) (w : View) : Type 0 where
  pub number : ℕ
  pub drew : Drew v (Some number) w
  pub at : slice_get v.terms.names number ≡ Some r

-- a rank comes by one draw, and none where the draw gives none
abbrev pub ClaimGives : View → Option ℕ → View → Type 0
ClaimGives v (Some r) w = DrewRank v r w
ClaimGives v None w = Drew v None w
