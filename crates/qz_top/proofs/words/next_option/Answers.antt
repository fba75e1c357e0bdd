use Rattle.std.proofs.Common.{◌≡◌, ◌<◌, ◌+◌, [], length, get_or, map, string_bytes, Some, sym, ap, ◌∙◌, arith}
use Rattle.std.specs.Option.{option_and_then}
use Rattle.std.proofs.lemmas.List.{length-map}
use Rattle.qz_top.specs.Words.{option_of, with_value}
use Rattle.qz_top.proofs.WordLemmas.{unnamed_at, flag_at, missing_at, value_at}
use Rattle.qz_top.proofs.words.next_option.Goals as goal

pub returns-in_err-name-clause-none : goal.returns-in_err-name-clause-none
returns-in_err-name-clause-none c = λ _.
    let words = map string_bytes c.args.words.now in
    let more : c.args.k < length words = omega (arith, c.requires, length-map c.args.words.now string_bytes) in
    unnamed_at c.args.form c.args.given words c.args.k more (ap (option_of c.args.form) (sym c.word.ensures) ∙ sym c.option_of.ensures ∙ c.in_err-name.was)

pub returns-in_err-more-clause-none : goal.returns-in_err-more-clause-none
returns-in_err-more-clause-none c = λ _.
    let words = map string_bytes c.args.words.now in
    let more : c.args.k < length words = omega (arith, c.requires, length-map c.args.words.now string_bytes) in
    let named : option_of c.args.form (get_or words c.args.k []) ≡ Some c.in_ok-name.name = ap (option_of c.args.form) (sym c.word.ensures) ∙ sym c.in_ok-name.ensures in
    flag_at c.args.form c.args.given words c.args.k c.in_ok-name.name more named (sym c.takes_value.ensures ∙ c.if-not-takes_value.true) ∙
    ap (option_and_then _) (sym c.without_value.ensures.value ∙ c.in_err-more.was)

pub returns-then-not-takes_value-clause-next : goal.returns-then-not-takes_value-clause-next
returns-then-not-takes_value-clause-next c =
    let words = map string_bytes c.args.words.now in
    let more : c.args.k < length words = omega (arith, c.requires, length-map c.args.words.now string_bytes) in
    let named : option_of c.args.form (get_or words c.args.k []) ≡ Some c.in_ok-name.name = ap (option_of c.args.form) (sym c.word.ensures) ∙ sym c.in_ok-name.ensures in
    flag_at c.args.form c.args.given words c.args.k c.in_ok-name.name more named (sym c.takes_value.ensures ∙ c.if-not-takes_value.true) ∙
    ap (option_and_then _) (sym c.in_ok-more.ensures.value)

pub returns-then-k-words-clause-none : goal.returns-then-k-words-clause-none
returns-then-k-words-clause-none c = λ _.
    let words = map string_bytes c.args.words.now in
    let last : c.args.k + 1 ≡ length words = omega (arith, c.if-k-words.true, length-map c.args.words.now string_bytes) in
    let named : option_of c.args.form (get_or words c.args.k []) ≡ Some c.in_ok-name.name = ap (option_of c.args.form) (sym c.word.ensures) ∙ sym c.in_ok-name.ensures in
    missing_at c.args.form c.args.given words c.args.k c.in_ok-name.name last named (sym c.takes_value.ensures ∙ c.if-not-takes_value.false)

pub returns-in_err-more-2-clause-none : goal.returns-in_err-more-2-clause-none
returns-in_err-more-2-clause-none c = λ _.
    let words = map string_bytes c.args.words.now in
    let more : c.args.k + 1 < length words = omega (arith, c.requires, c.if-k-words.false, length-map c.args.words.now string_bytes) in
    let named : option_of c.args.form (get_or words c.args.k []) ≡ Some c.in_ok-name.name = ap (option_of c.args.form) (sym c.word.ensures) ∙ sym c.in_ok-name.ensures in
    value_at c.args.form c.args.given words c.args.k c.in_ok-name.name more named (sym c.takes_value.ensures ∙ c.if-not-takes_value.false) ∙
    ap (option_and_then _) (ap (with_value c.args.given c.in_ok-name.name (c.args.k + 1)) (sym c.word-2.ensures) ∙ sym c.with_value.ensures.value ∙ c.in_err-more-2.was)

pub returns-clause-next : goal.returns-clause-next
returns-clause-next c =
    let words = map string_bytes c.args.words.now in
    let more : c.args.k + 1 < length words = omega (arith, c.requires, c.if-k-words.false, length-map c.args.words.now string_bytes) in
    let named : option_of c.args.form (get_or words c.args.k []) ≡ Some c.in_ok-name.name = ap (option_of c.args.form) (sym c.word.ensures) ∙ sym c.in_ok-name.ensures in
    value_at c.args.form c.args.given words c.args.k c.in_ok-name.name more named (sym c.takes_value.ensures ∙ c.if-not-takes_value.false) ∙
    ap (option_and_then _) (ap (with_value c.args.given c.in_ok-name.name (c.args.k + 1)) (sym c.word-2.ensures) ∙ sym c.in_ok-more-2.ensures.value)
