-- Two lists added (Turn), counts of strips made so (Counts), and the first largest of them (First).
pub mod Turn
pub mod Counts
pub mod First
