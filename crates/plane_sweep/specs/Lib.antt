pub mod Spans
pub mod Meeting
pub mod Passage
pub mod Places
pub mod Answers
