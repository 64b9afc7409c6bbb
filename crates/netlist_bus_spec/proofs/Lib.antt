pub mod Fronts
pub mod MemberNames
pub mod Numbers
pub mod Rows
pub mod Tests
pub mod Told
