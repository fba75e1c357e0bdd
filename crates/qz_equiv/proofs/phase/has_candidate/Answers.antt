use Rattle.std.proofs.Common.{arith, sym, subst}
use Rattle.qz_ring.specs.Exponent.{Exponent as Monomial, IsExponent}
use Rattle.qz_equiv.specs.Phases.{IsMultipleMatrix}
use Rattle.qz_equiv.proofs.PhaseLemmas.{reach_at, candidate_phase, candidate_fails, answer_yes, answer_no, no_phase}
use borrow.Author.Count.{below_more}
use Rattle.qz_equiv.proofs.phase.has_candidate.Goals as goal

pub quotient_of-requires-clause-second : goal.quotient_of-requires-clause-second
quotient_of-requires-clause-second c = omega (arith, reach_at c.args.other.now c.loop-k.k _ c.term-term.ensures.value, c.requires.other_powers)

pub returns-then-branch : goal.returns-then-branch
returns-then-branch c =
    let proper : IsExponent c.quotient_of.result = subst IsExponent (sym c.quotient_of.ensures.value) (omega arith) in
    answer_yes (candidate_phase c.quotient_of.result (λ (u : Monomial). IsMultipleMatrix c.args.roots u c.args.x.now c.args.y.now) proper (c.in_ok-same_either_way.ensures.0 c.if-branch.true))

pub loop-k-preserved : goal.loop-k-preserved
loop-k-preserved c = below_more _ _ c.loop-k.invariant (candidate_fails c.args.lead c.quotient_of.result (λ (u : Monomial). IsMultipleMatrix c.args.roots u c.args.x.now c.args.y.now) c.args.other.now c.loop-k.k _ c.in_ok-same_either_way.field-0 c.quotient_of.ensures.value c.term-term.ensures.value c.if-branch.false c.in_ok-same_either_way.ensures)

pub returns : goal.returns
returns c = answer_no (no_phase c.args.lead (λ (u : Monomial). IsMultipleMatrix c.args.roots u c.args.x.now c.args.y.now) c.args.other.now c.requires.lead_proper c.requires.counted (λ k less. c.loop-k.invariant k (omega (arith, less))))
