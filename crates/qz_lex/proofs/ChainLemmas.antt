-- Chains of operators, step by step.
use Rattle.std.proofs.Common.{◌≡◌, ℕ, zero, suc, ◌-◌, ◌<◌, true, false, List, [], ◌∷◌, ◌++◌, refl, arith, length}
use Rattle.std.specs.Prelude.{Ok, Err, Bool}
use Rattle.qz_circ.specs.declared.token.Token.{Token}
use Rattle.qz_circ.specs.declared.token.Kind.{Kind}
use Rattle.qz_circ.specs.declared.fault.AngleFault.{AngleFault}
use Rattle.qz_circ.specs.Angle.{Meaning, Parser, chain, combined, unary, nested, end_of}
use Rattle.qz_lex.specs.Levels.{joins_at, continues_at}
use Rattle.qz_lex.specs.declared.expression.Level.{Level}
use Rattle.qz_lex.specs.declared.expression.Level.TheVariants.{Sum, Product}

-- sums are read by more calls than products
abbrev pub level_rank : Level → ℕ
level_rank Sum = 2
level_rank Product = 0

-- one more operator and its operand
pub chain_goes : (joins : Kind → Bool) (operand : Parser) (n k : ℕ) (left right : Meaning) (t : Token) (all ts behind : List Token) → n ≡ suc k → all ≡ t ∷ ts → joins t.kind ≡ true → operand ts ≡ Ok (right, behind) → chain joins operand k (combined t left right) behind ≡ chain joins operand n left all
unfolding chain
chain_goes joins operand n k left right t all ts behind more is joined_by read = rw (more, is, joined_by, read) refl

-- the operand's fault is the chain's
pub chain_fails : (joins : Kind → Bool) (operand : Parser) (n k : ℕ) (left : Meaning) (t : Token) (all ts : List Token) (e : AngleFault) → n ≡ suc k → all ≡ t ∷ ts → joins t.kind ≡ true → operand ts ≡ Err e → chain joins operand n left all ≡ Err e
unfolding chain
chain_fails joins operand n k left t all ts e more is joined_by read = rw (more, is, joined_by, read) refl

-- without an operator the chain ends
pub chain_stops : (level : Level) (operand : Parser) (n : ℕ) (left : Meaning) (all : List Token) → continues_at level all ≡ false → chain (joins_at level) operand n left all ≡ Ok (left, all)
unfolding chain
chain_stops level operand zero left all other = refl
chain_stops level operand (suc n) left [] other = refl
chain_stops level operand (suc n) left (t ∷ ts) other = rw other refl

pub chain_ends : (joins : Kind → Bool) (operand : Parser) (n : ℕ) (left : Meaning) (all : List Token) → n ≡ 0 → chain joins operand n left all ≡ Ok (left, all)
unfolding chain
chain_ends joins operand n left all none = rw none refl

-- a unary operand where one more level may come
pub unary_deeper : (depth end : ℕ) (t : Token) (all ts : List Token) → 0 < depth → all ≡ t ∷ ts → unary depth end all ≡ nested end (unary (depth - 1) end) t.kind t ts
unfolding unary
unary_deeper zero end t all ts some is = absurd (omega arith)
unary_deeper (suc depth) end t all ts some is = let less : suc depth - 1 ≡ depth = omega arith in rw (is, less) refl

-- the end of the last token
pub end_of-last : (ts : List Token) (t : Token) → end_of (ts ++ t ∷ []) ≡ t.end
unfolding end_of
end_of-last [] t = refl
end_of-last (u ∷ []) t = refl
end_of-last (u ∷ v ∷ ts) t = end_of-last (v ∷ ts) t

pub end_of-none : (ts : List Token) → length ts ≡ 0 → end_of ts ≡ 0
unfolding end_of
end_of-none [] none = refl
end_of-none (t ∷ []) none = absurd (omega arith)
end_of-none (t ∷ u ∷ ts) none = absurd (omega arith)
