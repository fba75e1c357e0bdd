mod Fractions
mod ProgramTexts
