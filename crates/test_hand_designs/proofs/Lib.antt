-- What a plan gives is shown sound by computation, in the crates that make designs: `design-requires c = refl`.
-- The heights of cells are the rank that a design without a cycle has.
pub mod Checked
