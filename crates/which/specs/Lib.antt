pub mod Which
pub mod Laws
