pub mod FaultTexts
pub mod Built
pub mod Words
pub mod Refusals
pub mod Building
