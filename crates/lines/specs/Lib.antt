-- What the contracts of `lines` cite: the text of each part of a line, and that a text was put into a buffer; the room that it takes. The lines of a text;
-- worked examples.
pub mod Text
pub mod Written
pub mod Room
pub mod Lines
pub mod Examples
