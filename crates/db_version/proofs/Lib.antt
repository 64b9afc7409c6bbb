-- The names in lower case have just those of the list. So a look for the lower case of a name answers for all that are the same.
-- The names of a library are those of its parts, one after another. So a place is one in a part, behind those before it.
pub mod Places
pub mod Setting
pub mod Lowering
pub mod Parts
