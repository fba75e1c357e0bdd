use Rattle.std.proofs.Common.{◌-◌, ◌<◌, sym, ◌∙◌, length, arith}
use Rattle.qz_circ.specs.Vectors.{lists_of}
use Rattle.qz_search.proofs.Pairs.{last_two}
use Rattle.qz_search.proofs.RowLaws.{member_is, within_circuits}
use Rattle.qz_search.proofs.class.ends_twice.Goals as goal

pub returns : goal.returns
returns c = λ second.
    let kept = c.args.kept.now in
    let n = length kept in
    let i : n - 1 < n = omega (arith, c.if-n-lt2.false) in
    let j : n - 2 < n = omega (arith, c.if-n-lt2.false) in
    let first = sym (member_is kept (n - 1) c.index-kept-n.result i c.index-kept-n.is) ∙ sym c.deref.ensures.value ∙ c.are_same.ensures c.if-not-are_same.false in
    let other = sym (member_is kept (n - 2) c.index-kept-n-2.result j c.index-kept-n-2.is) ∙ sym c.deref-2.ensures.value ∙ c.are_same-2.ensures second in
    last_two c.args.c.now (lists_of kept) (n - 1) (n - 2) (within_circuits kept (n - 1) i) (omega (arith, c.if-n-lt2.false)) first other
