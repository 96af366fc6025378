pub mod Site
pub mod Laws
