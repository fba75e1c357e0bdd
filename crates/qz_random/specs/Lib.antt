pub mod RandomWords
