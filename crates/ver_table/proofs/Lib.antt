-- The entries of a page, the pages of a group and the groups of a directory are all lists in the order of numbers. So one set of
-- lemmas finds, puts and cuts in each.
-- To put a pair into the sheet of its slot is to put it into the pairs of all sheets, and a run of changes on one page is one new
-- sheet. So the loop over runs has as its invariant that the new sheets put among the old ones, and then the other changes, are the
-- whole.
pub mod Counts
pub mod Fronts
pub mod Listed
pub mod Maps
pub mod Places
pub mod Revisions
pub mod Sheets
pub mod Steps
pub mod Values
