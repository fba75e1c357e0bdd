use Rattle.std.proofs.Common.{subst, refl}
use Rattle.qz_search.specs.declared.table.Side.{Side}
use Rattle.qz_search.specs.Tables.{AreTwinsTaken}
use Rattle.qz_search.proofs.TableLaws.{joined_rest, joined_side, joined_alike}
use Rattle.qz_search.proofs.table.joined.Goals as goal

pub returns-clause-rest : goal.returns-clause-rest
returns-clause-rest c = λ circuits all.
    let side = c.args.side in
    let after = c.take_twins.new.rights.items in
    let old = c.args.sides.now.items in
    let new = c.take_twins.new.sides.items in
    joined_rest circuits side after old new (subst (λ l. AreTwinsTaken l side.rights.items after old new) c.deref.ensures.value c.in_ok-take_twins.ensures) all

pub returns-clause-side : goal.returns-clause-side
returns-clause-side c = λ circuits all.
    let side = c.args.side in
    let whole : Side = record { left = side.left; walk = side.walk; rights = c.sorted.result } in
    let after = c.take_twins.new.rights.items in
    let old = c.args.sides.now.items in
    let new = c.take_twins.new.sides.items in
    joined_side circuits side whole after old new refl refl c.sorted.ensures (subst (λ l. AreTwinsTaken l side.rights.items after old new) c.deref.ensures.value c.in_ok-take_twins.ensures) all

pub returns-clause-alike : goal.returns-clause-alike
returns-clause-alike c = λ circuits.
    let side = c.args.side in
    let whole : Side = record { left = side.left; walk = side.walk; rights = c.sorted.result } in
    let after = c.take_twins.new.rights.items in
    let old = c.args.sides.now.items in
    let new = c.take_twins.new.sides.items in
    joined_alike circuits side whole after old new refl c.sorted.ensures (subst (λ l. AreTwinsTaken l side.rights.items after old new) c.deref.ensures.value c.in_ok-take_twins.ensures)
