use Rattle.std.proofs.Common.{◌≡◌, suc, ◌+◌, ◌*◌, ◌-◌, ◌<◌, ◌++◌, ◌∷◌, [], ◌∙◌, sym, refl, ap, subst, arith, add-one, length, get_or, take_all}
use Rattle.std.proofs.Math.Nat.{pow-zero}
use Rattle.std.proofs.lemmas.List.{take_more}
use Rattle.std.proofs.lemmas.Option.{slice_get_within, get_or_from_slice_get}
use Rattle.qz_circ.specs.declared.circuit.Op.TheVariants.{H}
use Rattle.qz_circ.specs.Circuit.{Within, gates_of}
use Rattle.qz_circ.specs.Bounds.{gate_count}
use Rattle.qz_circ.proofs.CircuitLists.{shorter, length-all_circuits}
use Rattle.qz_circ.proofs.CircuitPlaces.{circuit_at-zero, circuit_at-within, shorter-monotone}
use Rattle.qz_circ.proofs.RankLemmas.{OneMore, one_more, all_few, Placed, rank_is_place}
use Rattle.qz_circ.proofs.ranks.rank.Goals as goal
use Rattle.qz_circ.proofs.ranks.rank.Goals.{In-Some, After-loop-op}

-- the circuit as far as the next gate
more : (c : In-Some) → OneMore c.args.b c.loop-op.op-index c.loop-op.earlier c.in-Some.number (c.loop-op.earlier * c.gates-gates.result + c.in-Some.number + 1)
unfolding gate_count
more c =
    let few : c.loop-op.earlier < shorter (gate_count c.args.b) (suc c.loop-op.op-index) = rw add-one at c.loop-op.invariant.few in
    one_more c.args.b c.loop-op.op-index c.loop-op.earlier c.in-Some.number c.gates-gates.result _ c.gates-gates.ensures.value refl (omega (arith, c.n.ensures.value)) few (slice_get_within (gates_of c.args.b) c.in-Some.number _ c.in-Some.ensures.number)

-- its rank is small
small : (c : In-Some) → c.loop-op.earlier * c.gates-gates.result + c.in-Some.number + 1 < 9000000
small c = omega (arith, (more c).listed, all_few c.args.b c.n.ensures.lawful)

-- the whole circuit has the place
abbrev whole : (c : After-loop-op) → Placed c.args.b c.args.c.now
whole c =
    let ended : c.loop-op.op-index ≡ length c.args.c.now = omega arith in
    let some_longer : suc c.loop-op.op-index + (c.args.b.n - c.loop-op.op-index) ≡ suc c.args.b.n = omega (arith, c.n.ensures.value) in
    let few : c.loop-op.earlier < shorter (gate_count c.args.b) (suc c.loop-op.op-index) = rw add-one at c.loop-op.invariant.few in
    record {
      place = c.loop-op.earlier;
      listed = omega (arith, few, shorter-monotone (gate_count c.args.b) (suc c.loop-op.op-index) (c.args.b.n - c.loop-op.op-index), ap (shorter (gate_count c.args.b)) some_longer, length-all_circuits c.args.b);
      here = c.loop-op.invariant.here ∙ take_all c.loop-op.op-index c.args.c.now (omega arith);
    }

pub loop-op-init : goal.loop-op-init
loop-op-init c = record { few = omega (arith, pow-zero (gate_count c.args.b)); here = circuit_at-zero c.args.b }

pub overflow_mul-earlier : goal.overflow_mul-earlier
overflow_mul-earlier c = record { fits = omega (arith, small c) }

pub overflow_add-earlier : goal.overflow_add-earlier
overflow_add-earlier c = record { fits = omega (arith, small c) }

pub overflow_add-earlier-in-loop-op : goal.overflow_add-earlier-in-loop-op
overflow_add-earlier-in-loop-op c = record { fits = omega (arith, small c) }

pub loop-op-preserved : goal.loop-op-preserved
loop-op-preserved c =
    let gate = get_or_from_slice_get (gates_of c.args.b) c.in-Some.number (get_or c.args.c.now c.loop-op.op-index (H 0)) (H 0) c.in-Some.ensures.number in
    let next : c.loop-op.op-index + 1 + 1 ≡ suc (suc c.loop-op.op-index) = omega arith in
    record {
      few = omega (arith, (more c).few, ap (shorter (gate_count c.args.b)) next);
      here = (more c).circuit ∙ (λ i. c.loop-op.invariant.here i ++ gate i ∷ []) ∙ sym (take_more c.args.c.now c.loop-op.op-index (H 0) c.loop-op-test.true);
    }

pub returns-clause-within : goal.returns-clause-within
returns-clause-within c = (λ e. subst (Within c.args.b) (whole c).here (circuit_at-within c.args.b (whole c).place (whole c).listed), λ w. refl)

pub returns-clause-rank : goal.returns-clause-rank
returns-clause-rank c = sym (rank_is_place c.args.b c.n.ensures.lawful c.args.c.now (whole c))

pub returns-clause-listed : goal.returns-clause-listed
returns-clause-listed c = (whole c).listed
