use Rattle.std.proofs.Common.{refl}
use Rattle.qz_circ.specs.Tokens.{word, decimal_length, exponent_length, number, quoted, one_byte_sign, sign, front, tokens_from, tokens_of}
use Rattle.qz_circ.specs.Lexemes.{statements_of}
use Rattle.qz_circ.specs.Forms.{one, is_free_name, header_form, declaration_form}
use Rattle.qz_circ.specs.Grammar.{with_statement, with_statements, with_words, unsupported_words, with_gate, program_from, program_of}
use Rattle.qz_circ.specs.GateNames.{gate_named}
use Rattle.qz_circ.specs.ValidPrograms.{reserved_words}
use Rattle.qz_circ.proofs.worked_texts.headers_are_told.Goals as goal

pub returns-clause-header : goal.returns-clause-header
unfolding word decimal_length exponent_length number quoted one_byte_sign sign front tokens_from tokens_of statements_of one header_form program_from program_of with_statements
returns-clause-header c = refl

pub returns-clause-nothing : goal.returns-clause-nothing
unfolding tokens_from tokens_of statements_of program_from program_of
returns-clause-nothing c = refl

pub returns-clause-version : goal.returns-clause-version
unfolding word decimal_length exponent_length number quoted one_byte_sign sign front tokens_from tokens_of statements_of one header_form program_from program_of with_statements
returns-clause-version c = refl

pub returns-clause-unended : goal.returns-clause-unended
unfolding word decimal_length exponent_length number quoted one_byte_sign sign front tokens_from tokens_of statements_of one header_form program_from program_of with_statements with_statement with_words is_free_name declaration_form unsupported_words reserved_words
returns-clause-unended c = refl

pub returns-clause-unknown : goal.returns-clause-unknown
unfolding word decimal_length exponent_length number quoted one_byte_sign sign front tokens_from tokens_of statements_of one header_form program_from program_of with_statements with_statement with_words is_free_name declaration_form unsupported_words with_gate gate_named
returns-clause-unknown c = refl
