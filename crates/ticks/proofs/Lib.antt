pub mod Spans
pub mod Order
pub mod Laying
pub mod Slots
pub mod Marks
