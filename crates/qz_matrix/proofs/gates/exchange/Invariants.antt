use Rattle.qz_matrix.proofs.ExchangeLemmas.{IsExchangedBelow}
use Rattle.qz_matrix.proofs.gates.exchange.Given as goal

abbrev pub invariant-loop-k : goal.invariant-loop-k
invariant-loop-k l = IsExchangedBelow l.control l.target l.k l.initial.entries l.entries
