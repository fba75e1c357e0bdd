use Rattle.std.proofs.Common.{rules, ◌≡◌, ap, ◌∙◌, [], ◌∷◌, ◌++◌, true, false}
use Rattle.qz_rewrite.specs.Sides.{qubits_in, is_touched, before_by, after_by}
use Rattle.qz_rewrite.proofs.SideSteps.{selected_before, selected_after, touched_before, touched_after, free_before, free_after, one_pushed}
use Rattle.qz_rewrite.proofs.sides.Sides.add.Goals as goal

pub returns-then-selected-clause-before : goal.returns-then-selected-clause-before
returns-then-selected-clause-before c = λ rest.
    ap (λ gates. c.args.self.now.before.items ++ gates) (selected_before (qubits_in c.args.self.now.touched) (qubits_in c.touched_by-self.result) c.args.g c.args.selected rest c.if-selected.true c.touched_by-self.ensures)

pub returns-then-selected-clause-after : goal.returns-then-selected-clause-after
returns-then-selected-clause-after c = λ rest.
    ap (λ gates. c.args.self.now.after.items ++ gates) (selected_after (qubits_in c.args.self.now.touched) (qubits_in c.touched_by-self.result) c.args.g c.args.selected rest c.if-selected.true c.touched_by-self.ensures)

pub returns-then-is_touched-clause-before : goal.returns-then-is_touched-clause-before
returns-then-is_touched-clause-before c = λ rest.
    let late : is_touched (qubits_in c.args.self.now.touched) c.args.g ≡ true = cc in
    ap (λ gates. c.args.self.now.before.items ++ gates)
    (touched_before (qubits_in c.args.self.now.touched) (qubits_in c.touched_by-self-then-is_touched.result) c.args.g c.args.selected rest c.if-selected.false late c.touched_by-self-then-is_touched.ensures)

pub returns-then-is_touched-clause-after : goal.returns-then-is_touched-clause-after
returns-then-is_touched-clause-after c = λ rest.
    let late : is_touched (qubits_in c.args.self.now.touched) c.args.g ≡ true = cc in
    let pushed : c.push.new.self.items ≡ c.args.self.now.after.items ++ c.args.g ∷ [] = search rules in
    ap (λ gates. gates ++ after_by (qubits_in c.touched_by-self-then-is_touched.result) rest) pushed ∙
    one_pushed c.args.self.now.after.items c.args.g (after_by (qubits_in c.touched_by-self-then-is_touched.result) rest) (after_by (qubits_in c.args.self.now.touched) ((c.args.selected, c.args.g) ∷ rest))
    (touched_after (qubits_in c.args.self.now.touched) (qubits_in c.touched_by-self-then-is_touched.result) c.args.g c.args.selected rest c.if-selected.false late c.touched_by-self-then-is_touched.ensures)

pub returns-clause-before : goal.returns-clause-before
returns-clause-before c = λ rest.
    let early : is_touched (qubits_in c.args.self.now.touched) c.args.g ≡ false = cc in
    let pushed : c.push-2.new.self.items ≡ c.args.self.now.before.items ++ c.args.g ∷ [] = search rules in
    ap (λ gates. gates ++ before_by (qubits_in c.args.self.now.touched) rest) pushed ∙
    one_pushed c.args.self.now.before.items c.args.g (before_by (qubits_in c.args.self.now.touched) rest) (before_by (qubits_in c.args.self.now.touched) ((c.args.selected, c.args.g) ∷ rest))
    (free_before (qubits_in c.args.self.now.touched) (qubits_in c.args.self.now.touched) c.args.g c.args.selected rest c.if-selected.false early)

pub returns-clause-after : goal.returns-clause-after
returns-clause-after c = λ rest.
    let early : is_touched (qubits_in c.args.self.now.touched) c.args.g ≡ false = cc in
    ap (λ gates. c.args.self.now.after.items ++ gates) (free_after (qubits_in c.args.self.now.touched) (qubits_in c.args.self.now.touched) c.args.g c.args.selected rest c.if-selected.false early)
