-- What the contracts of `statement_text` cite: the text of a statement; a worked example.
pub mod Text
pub mod Examples
