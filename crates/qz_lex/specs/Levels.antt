-- The two levels of operators, and the end of an angle.
use Rattle.std.specs.Prelude.{ℕ, Bool, false, List, [], ◌∷◌, Result}
use Rattle.qz_circ.specs.declared.token.Kind.{Kind}
use Rattle.qz_circ.specs.declared.token.Token.{Token}
use Rattle.qz_circ.specs.declared.fault.AngleFault.{AngleFault}
use Rattle.qz_circ.specs.FirstFault.{◌>>=◌}
use Rattle.qz_circ.specs.Angle.{Parser, Meaning, term, with_operators, all_read, turns_of, is_sum_sign, is_product_sign}
use Rattle.qz_lex.specs.declared.expression.Level.{Level}
use Rattle.qz_lex.specs.declared.expression.Level.TheVariants.{Sum, Product}

-- the operators of a level
abbrev pub joins_at : Level → Kind → Bool
joins_at Sum = is_sum_sign
joins_at Product = is_product_sign

-- what the operators of a level join
abbrev pub operand_at : Level → Parser → Parser
operand_at Sum unary = term unary
operand_at Product unary = unary

-- what they make of it
abbrev pub joined_at : Level → Parser → Parser
joined_at level unary = with_operators (joins_at level) (operand_at level unary)

-- an operator of the level comes first
abbrev pub continues_at : Level → List Token → Bool
continues_at level [] = false
continues_at level (t ∷ ts) = joins_at level t.kind

-- the number of 256ths of pi that a meaning is, where no token is left
abbrev pub turns_at_end : ℕ → ℕ → Meaning → List Token → Result ℕ AngleFault
turns_at_end place end meaning rest = do
  whole ← all_read end meaning rest
  value ← whole
  turns_of place value
