-- The programs of the tests are valid.
use Rattle.std.proofs.Common.{◌≤◌, ◌∷◌, [], List, length, codes, Some, None, lit≤, lit<, refl}
use Rattle.std.specs.List.{AllByRecursion}
use Rattle.qz_circ.specs.declared.circuit.Inst.{Inst}
use Rattle.qz_circ.specs.declared.program.Tail.TheVariants.{Barrier, Measure}
use Rattle.qz_circ.specs.ProgramCircuits.{IsProgramGate}
use Rattle.qz_circ.specs.ValidPrograms.{reserved_words, Valid}
use Rattle.qz_circ.proofs.ProgramNames.{name_by_tests, different_by_tests}

-- two registers of qubits and one of bits, single operands, and any gates on three qubits
pub measured_is_valid : (gates : List Inst) → length gates ≤ 20000 → AllByRecursion (IsProgramGate 3) gates → Valid (record { qregs = record { name = codes "q"; size = 2 } ∷ record { name = codes "a"; size = 1 } ∷ []; cregs = record { name = codes "c"; size = 2 } ∷ []; gates = gates; tail = Barrier (record { register = 0; index = Some 0 } ∷ record { register = 0; index = Some 1 } ∷ record { register = 1; index = Some 0 } ∷ []) ∷ Measure (record { register = 0; index = Some 0 }) (record { register = 0; index = Some 0 }) ∷ Measure (record { register = 0; index = Some 1 }) (record { register = 0; index = Some 1 }) ∷ [] })
unfolding reserved_words
measured_is_valid gates few on = record {
  names = (name_by_tests (codes "q") (lit≤ tt) (refl, tt) refl, (name_by_tests (codes "a") (lit≤ tt) (refl, tt) refl, (name_by_tests (codes "c") (lit≤ tt) (refl, tt) refl, tt)));
  different = different_by_tests (codes "q" ∷ codes "a" ∷ codes "c" ∷ []) ((refl, (refl, tt)), ((refl, tt), (tt, tt)));
  few_registers = lit≤ tt;
  sizes = (lit≤ tt, (lit≤ tt, (lit≤ tt, tt)));
  few_bits = lit≤ tt;
  gates = record { few = lit≤ tt; gates = on };
  few_gates = few;
  tail = (
    (lit≤ tt, (record { register = lit< tt; place = lit< tt }, (record { register = lit< tt; place = lit< tt }, (record { register = lit< tt; place = lit< tt }, tt)))),
    (
      record { source = record { register = lit< tt; place = lit< tt }; target = record { register = lit< tt; place = lit< tt }; alike = tt },
      (record { source = record { register = lit< tt; place = lit< tt }; target = record { register = lit< tt; place = lit< tt }; alike = tt }, tt),
    ),
  );
}

-- no registers
pub empty_is_valid : Valid (record { qregs = []; cregs = []; gates = []; tail = [] })
empty_is_valid = record {
  names = tt;
  different = different_by_tests [] tt;
  few_registers = lit≤ tt;
  sizes = tt;
  few_bits = lit≤ tt;
  gates = record { few = lit≤ tt; gates = tt };
  few_gates = lit≤ tt;
  tail = tt;
}

-- operands that are whole registers
pub whole_is_valid : Valid (record { qregs = record { name = codes "q_1"; size = 3 } ∷ []; cregs = record { name = codes "bits"; size = 3 } ∷ []; gates = []; tail = Measure (record { register = 0; index = None }) (record { register = 0; index = None }) ∷ Barrier (record { register = 0; index = None } ∷ record { register = 0; index = Some 2 } ∷ record { register = 0; index = None } ∷ []) ∷ [] })
unfolding reserved_words
whole_is_valid = record {
  names = (name_by_tests (codes "q_1") (lit≤ tt) (refl, (refl, (refl, tt))) refl, (name_by_tests (codes "bits") (lit≤ tt) (refl, (refl, (refl, (refl, tt)))) refl, tt));
  different = different_by_tests (codes "q_1" ∷ codes "bits" ∷ []) ((refl, tt), (tt, tt));
  few_registers = lit≤ tt;
  sizes = (lit≤ tt, (lit≤ tt, tt));
  few_bits = lit≤ tt;
  gates = record { few = lit≤ tt; gates = tt };
  few_gates = lit≤ tt;
  tail = (
    record { source = record { register = lit< tt; place = tt }; target = record { register = lit< tt; place = tt }; alike = refl },
    ((lit≤ tt, (record { register = lit< tt; place = tt }, (record { register = lit< tt; place = lit< tt }, (record { register = lit< tt; place = tt }, tt)))), tt),
  );
}
