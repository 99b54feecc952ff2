-- What the contracts of `orient_text` cite: the records, the lines, the whole text; apart from these, what the small functions of the code do.
pub mod Records
pub mod Lines
pub mod Text
pub mod Steps
