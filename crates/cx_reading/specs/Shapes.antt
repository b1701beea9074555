pub mod TypeParsers
