-- What the contracts of `listing_text` cite: the lines, the whole text, its room; what the small functions of the code do; when it is a refusal; worked examples.
pub mod Lines
pub mod Text
pub mod Rooms
pub mod Steps
pub mod Plan
pub mod When
pub mod Examples
