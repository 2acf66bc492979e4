pub mod Free
pub mod Del
pub mod Check
pub mod Admin
pub mod Change
