pub mod Numbers
pub mod Valid
