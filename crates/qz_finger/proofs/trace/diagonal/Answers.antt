use Rattle.std.proofs.Common.{◌≡◌, ℕ, ◌+◌, ◌*◌, ◌%◌, ◌^◌, ◌<◌, refl, sym, ap, subst, ◌∙◌, arith}
use Rattle.qz_finger.specs.Modulo.{sum_below, modulus}
use Rattle.qz_finger.specs.Weights.{place_of}
use Rattle.qz_finger.proofs.Lists.{sum_more}
use Rattle.qz_finger.proofs.PlaceLemmas.{place_below, few_entries}
use Rattle.qz_finger.proofs.trace.diagonal.Goals as goal

pub loop-i-init : goal.loop-i-init
unfolding sum_below
loop-i-init g c = record { sum = λ f each. refl; small = omega arith }

pub loop-i-preserved : goal.loop-i-preserved
loop-i-preserved g c =
    let i = c.loop-i.i in
    let q = c.args.q in
    let rows = c.states_on-rows.ensures.value in
    let row = subst (λ r. i < r) rows c.loop-i-test.true in
    let all : place_of q i i < 64 = omega (arith, place_below q i i row row, few_entries q c.requires.qubits) in
    let within = subst (λ r. i * r + i < 64) (sym rows) all in
    record {
      sum = λ f each.
          let here = each (i * c.states_on-rows.result + i) c.number.result within c.number.ensures ∙ ap (λ r. f (i * r + i)) rows in
          (λ d. c.loop-i.invariant.sum f each d + here d) ∙ sym (sum_more (λ k. f (place_of q k k)) i);
      small = omega arith;
    }

pub number-requires : goal.number-requires
number-requires g c =
    let i = c.loop-i.i in
    let q = c.args.q in
    let rows = c.states_on-rows.ensures.value in
    let row = subst (λ r. i < r) rows c.loop-i-test.true in
    let all : place_of q i i < 64 = omega (arith, place_below q i i row row, few_entries q c.requires.qubits) in
    c.requires.callable (i * c.states_on-rows.result + i) (subst (λ r. i * r + i < 64) (sym rows) all)

pub returns : goal.returns
returns g c = λ f each.
    let all : c.loop-i.i ≡ 2 ^ c.args.q = omega (arith, c.states_on-rows.ensures.value) in
    c.reduce.ensures ∙ ap (λ x. x % modulus) (c.loop-i.invariant.sum f each ∙ ap (sum_below (λ i. f (place_of c.args.q i i))) all)
