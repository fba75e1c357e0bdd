use Rattle.std.proofs.Common.{[], ◌≡◌, ◌<◌, ◌≤◌, length, drop, sym, ◌∙◌, ap, arith}
use Rattle.std.specs.Prelude.{Ok, Err}
use Rattle.std.proofs.lemmas.List.{length-drop, drop-drop}
use Rattle.qz_circ.specs.Tokens.{tokens_of, tokens_from, front, with_token}
use Rattle.qz_lex.specs.Classes.{IsTokenOf}
use Rattle.qz_lex.proofs.LexLemmas.{tokens_go, tokens_fail, tokens_end, with_front-nil, part_of_front}
use Rattle.std.proofs.lemmas.List.Elements.{All-append}
use Rattle.qz_lex.proofs.lex.cut.Goals as goal

pub loop-place-init : goal.loop-place-init
unfolding tokens_of
loop-place-init c = record { read = rw c.new-tokens.ensures.items (with_front-nil (tokens_from 0 0 c.args.bytes.now)); parts = λ k d h. absurd (omega (arith, ap length c.new-tokens.ensures.items)); within = omega arith }

pub returns-in-Err-clause-exact : goal.returns-in-Err-clause-exact
returns-in-Err-clause-exact c other =
    let rest = drop c.loop-place.place c.args.bytes.now in
    let some : 0 < length rest = omega (arith, length-drop c.loop-place.place c.args.bytes.now) in
    let is : Err c.in-Err.fault ≡ front c.loop-place.place rest = rw c.split_at.ensures.back at c.in-Err.ensures.value in
    sym c.loop-place.invariant.read ∙ tokens_fail c.loop-place.place rest c.in-Err.fault c.loop-place.tokens.items some (sym is)

pub loop-place-preserved : goal.loop-place-preserved
loop-place-preserved c =
    let rest = drop c.loop-place.place c.args.bytes.now in
    let len = length-drop c.loop-place.place c.args.bytes.now in
    let some : 0 < length rest = omega (arith, len) in
    let first = c.in-Ok.first in
    let is : Ok first ≡ front c.loop-place.place rest = rw c.split_at.ensures.back at c.in-Ok.ensures.value in
    let step = tokens_go c.loop-place.place rest first c.loop-place.tokens.items some (sym is) c.in-Ok.ensures.part.0 in
    let part : first.1 ≤ length rest = rw c.split_at.ensures.back at c.in-Ok.ensures.part.1 in
    record {
      read = rw c.in_ok-add-in-Ok.ensures.ok (rw (← drop-drop first.1 c.loop-place.place c.args.bytes.now) (step ∙ c.loop-place.invariant.read));
      parts = rw c.in_ok-add-in-Ok.ensures.ok (All-append (IsTokenOf (length c.args.bytes.now)) c.loop-place.tokens.items (with_token c.loop-place.place first []) c.loop-place.invariant.parts (part_of_front c.loop-place.place (length c.args.bytes.now) first c.in-Ok.ensures.part.0 (omega (arith, len, part))));
      within = omega (arith, len, part);
    }

pub returns-clause-exact : goal.returns-clause-exact
returns-clause-exact c =
    let rest = drop c.loop-place.place c.args.bytes.now in
    let none : length rest ≡ 0 = omega (arith, length-drop c.loop-place.place c.args.bytes.now) in
    sym c.loop-place.invariant.read ∙ tokens_end c.loop-place.place rest c.loop-place.tokens.items none
