pub mod Certificate
pub mod Reading
pub mod Judging
pub mod Shows
pub mod Answers
pub mod Laws
pub mod Least
pub mod Want
