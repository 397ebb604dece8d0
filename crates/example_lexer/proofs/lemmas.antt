pub mod LexerLemmas
