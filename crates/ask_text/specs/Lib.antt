-- What the contracts of `ask_text` cite: the records, the lines, the argument FRAME, the whole text; apart from these, what the small functions of the code
-- do, and worked examples.
pub mod Records
pub mod Lines
pub mod FrameText
pub mod Text
pub mod Steps
pub mod Examples
