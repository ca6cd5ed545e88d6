pub mod PieceLines
pub mod Alike
pub mod DrawnPieces
pub mod Answers
pub mod JobMore
pub mod GivenBack
pub mod WeighedLines
pub mod Together
