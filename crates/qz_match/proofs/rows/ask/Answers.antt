use Rattle.std.proofs.Common.{◌≡◌, ◌<◌, ◌≤◌, ℕ, suc, length, get_or, sym, subst, ◌∙◌, ap, arith, refl}
use Rattle.std.specs.Prelude.{None}
use Rattle.std.proofs.lemmas.List.{length-map}
use Rattle.qz_match.specs.Words.{Leads, step_to, word_at}
use Rattle.qz_match.specs.Rows.{words_of, words_at}
use Rattle.qz_match.proofs.RowSteps.{row_within, row_words, row_skip, row_leads, row_fails}
use Rattle.qz_match.proofs.rows.ask.Goals as goal

pub advance-reached-requires-clause-within : goal.advance-reached-requires-clause-within
advance-reached-requires-clause-within c =
    let rows = c.args.rows.now in
    let at = c.args.at in
    let within = row_within rows at c.args.cursor.now.left c.requires.at c.requires.cursor.within in
    let is = row_words rows at c.index-rows-at.result c.list-words.result.now within c.index-rows-at.is c.list-words.ensures.same in
    subst (λ w. c.args.cursor.now.kept ≤ length w) (sym is) (c.requires.cursor.few at c.requires.at)

pub advance-reached-requires-clause-known : goal.advance-reached-requires-clause-known
advance-reached-requires-clause-known c =
    let rows = c.args.rows.now in
    let at = c.args.at in
    let cursor = c.args.cursor.now in
    let within = row_within rows at cursor.left c.requires.at c.requires.cursor.within in
    let is = row_words rows at c.index-rows-at.result c.list-words.result.now within c.index-rows-at.is c.list-words.ensures.same in
    subst (λ w. Leads c.args.c.now c.args.neighbours.now.links cursor.first w cursor.kept cursor.found) (sym is) (c.requires.cursor.leads at c.requires.at)

pub leave-requires-clause-within : goal.leave-requires-clause-within
leave-requires-clause-within c =
    let rows = c.args.rows.now in
    let at = c.args.at in
    let within = row_within rows at c.args.cursor.now.left c.requires.at c.requires.cursor.within in
    let less = c.if-reached-words.true in
    let few = c.list-words.ensures.few in
    let low = (row_skip rows at c.advance-reached.result c.index-rows-at.result c.requires.lawful within c.index-rows-at.is (omega arith)).1 in
    omega arith

pub returns-then-reached-words-clause-fewer : goal.returns-then-reached-words-clause-fewer
returns-then-reached-words-clause-fewer c =
    let rows = c.args.rows.now in
    let at = c.args.at in
    let within = row_within rows at c.args.cursor.now.left c.requires.at c.requires.cursor.within in
    let less = c.if-reached-words.true in
    let few = c.list-words.ensures.few in
    let low = (row_skip rows at c.advance-reached.result c.index-rows-at.result c.requires.lawful within c.index-rows-at.is (omega arith)).1 in
    let left = c.leave.ensures.left in
    let here = c.requires.at in
    omega arith

pub returns-then-reached-words-clause-asked : goal.returns-then-reached-words-clause-asked
returns-then-reached-words-clause-asked c = λ no.
    let rows = c.args.rows.now in
    let at = c.args.at in
    let old = c.args.cursor.now in
    let r = c.advance-reached.result in
    let found = c.advance-reached.new.found in
    let p = c.args.c.now in
    let links = c.args.neighbours.now.links in
    let within = row_within rows at old.left c.requires.at c.requires.cursor.within in
    let is = row_words rows at c.index-rows-at.result c.list-words.result.now within c.index-rows-at.is c.list-words.ensures.same in
    let less = c.if-reached-words.true in
    let few = c.list-words.ensures.few in
    let skip = row_skip rows at r c.index-rows-at.result c.requires.lawful within c.index-rows-at.is (omega arith) in
    row_fails p links rows c.requires.lawful old c.leave.new.cursor at r (get_or c.index-rows-at.result.skips r 0) found c.requires.at within c.leave.ensures.first c.leave.ensures.found c.leave.ensures.left c.leave.ensures.few c.leave.ensures.shared
    (subst (λ w. Leads p links old.first w r found) is c.advance-reached.ensures.leads)
    (subst (λ w. r < length w) is less) (omega arith) skip.0
    (subst (λ w. step_to p links old.first found r (word_at w r) ≡ None) is (c.advance-reached.ensures.stops less))

pub returns-clause-next : goal.returns-clause-next
returns-clause-next c = λ yes.
    let rows = c.args.rows.now in
    let at = c.args.at in
    let old = c.args.cursor.now in
    let r = c.advance-reached.result in
    let found = c.advance-reached.new.found in
    let p = c.args.c.now in
    let links = c.args.neighbours.now.links in
    let within = row_within rows at old.left c.requires.at c.requires.cursor.within in
    let is = row_words rows at c.index-rows-at.result c.list-words.result.now within c.index-rows-at.is c.list-words.ensures.same in
    let over = c.if-reached-words.false in
    let low = c.advance-reached.ensures.within in
    let whole : r ≡ length c.list-words.result.now = omega arith in
    row_leads p links rows c.requires.lawful old c.leave-2.new.cursor at r at found c.requires.at within c.leave-2.ensures.first c.leave-2.ensures.found c.leave-2.ensures.left c.leave-2.ensures.few c.leave-2.ensures.shared
    (subst (λ w. Leads p links old.first w r found) is c.advance-reached.ensures.leads) refl (whole ∙ ap length is)
