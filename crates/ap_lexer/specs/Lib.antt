pub mod Spelling
pub mod Pieces
pub mod Laws
pub mod Tokens
pub mod Cursors
