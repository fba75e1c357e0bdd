mod Repetitions
mod Steps
mod Pieces
mod Readings
mod SpelledLexemes
mod ReadForms
mod ReadDeclarations
mod ReadGates
pub mod ValidReadings
mod PieceTexts
mod ExactFronts
mod SoundPieces
mod SoundOperands
mod SoundPrograms
mod Statements
mod EnclosedTokens
mod MoreOperands
mod AnglePieces
mod LinesRead
mod OperandPieces
mod QubitPieces
mod GateLines
mod RegisterLines
mod TailLines
mod ProgramBack
pub mod RoundTrip
mod StatementSteps
