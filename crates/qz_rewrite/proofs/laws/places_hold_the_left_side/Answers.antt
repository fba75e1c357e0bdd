use Rattle.qz_rewrite.proofs.FoundPlaces.{place_bound}
use Rattle.qz_rewrite.proofs.laws.places_hold_the_left_side.Goals as goal

pub returns-clause-instance : goal.returns-clause-instance
returns-clause-instance _ = λ q left right c place on are among. (place_bound q left right c place on are among).instance

pub returns-clause-lawful : goal.returns-clause-lawful
returns-clause-lawful _ = λ q left right c place on are among. (place_bound q left right c place on are among).lawful

pub returns-clause-bound : goal.returns-clause-bound
returns-clause-bound _ = λ q left right c place on are among. (place_bound q left right c place on are among).bound
