-- In reading order: what docs/RULES.md says (Sums to Grant), the laws that follow (Laws), and the cases by hand (Cases).
pub mod Sums
pub mod Supply
pub mod Usable
pub mod Worst
pub mod Least
pub mod Zone
pub mod Grant
pub mod Laws
pub mod Cases
