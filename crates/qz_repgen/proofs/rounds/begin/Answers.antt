use Rattle.std.proofs.Common.{◌≡◌, ℕ, ◌⊎◌, inl, inr, sym, subst, ◌∙◌}
use Rattle.std.specs.Prelude.{◌↔◌}
use Rattle.std.proofs.lemmas.Result.{on_ok_weaker}
use Rattle.qz_circ.proofs.CircuitPlaces.{circuit_at-zero}
use Rattle.qz_finger.specs.Fingerprint.{fingerprint}
use Rattle.qz_shard.specs.Shards.{print_at}
use Rattle.qz_repgen.specs.Rounds.{IsKeptUpTo}
use Rattle.qz_repgen.proofs.RoundSteps.{some_circuit, empty_kept, only_empty}
use Rattle.qz_repgen.proofs.ShardLemmas.{empty_held, ready, held_more, held_same}
use Rattle.qz_repgen.proofs.rounds.begin.Goals as goal

pub take_in-requires-clause-number : goal.take_in-requires-clause-number
take_in-requires-clause-number g c = (empty_held c.args.b c.args.probe.now c.requires.qubits c.args.shards.now c.requires.empty).are.number

pub take_in-requires-clause-ready : goal.take_in-requires-clause-ready
take_in-requires-clause-ready g c =
    let print : c.finger-print.result ≡ print_at c.args.b c.args.probe.now.seed 0 = c.finger-print.ensures ∙ (λ i. fingerprint c.args.probe.now.seed (c.requires.qubits i) (sym (circuit_at-zero c.args.b) i)) in
    ready c.args.b c.args.probe.now.seed (λ r. ⊥) c.args.shards.now (empty_held c.args.b c.args.probe.now c.requires.qubits c.args.shards.now c.requires.empty) 0 c.finger-print.result print (λ none. none)
    (some_circuit c.args.b)

pub returns : goal.returns
returns g c =
    let b = c.args.b in
    let seed = c.args.probe.now.seed in
    let print : c.finger-print.result ≡ print_at b seed 0 = c.finger-print.ensures ∙ (λ i. fingerprint seed (c.requires.qubits i) (sym (circuit_at-zero b) i)) in
    let same : (r : ℕ) → (⊥ ⊎ (0 ≡ r)) ↔ IsKeptUpTo b 0 r = λ r. (
      λ h. elim h [ inl none ↦ absurd none | inr is ↦ subst (IsKeptUpTo b 0) is (empty_kept b c.requires.lawful) ],
      λ h. inr (only_empty b c.requires.lawful r h),
    ) in
    on_ok_weaker c.take_in.result
    (λ adds. held_same b seed (λ r. ⊥ ⊎ (0 ≡ r)) (IsKeptUpTo b 0) c.take_in.new.shards same
    (held_more b seed (λ r. ⊥) c.args.shards.now (empty_held b c.args.probe.now c.requires.qubits c.args.shards.now c.requires.empty) 0 c.finger-print.result print (λ none. none) c.take_in.new.shards adds))
    c.take_in.ensures
