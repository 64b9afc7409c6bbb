-- To enter an occurrence opens an instance, by the law `items_go_down`. To leave one closes an empty rest.
-- The items whose paths begin with a path are those at and below it, since both lists are in path order.
mod AtLemmas
pub mod BelowLemmas
mod FollowLemmas
pub mod LeftLemmas
mod StartLemmas
