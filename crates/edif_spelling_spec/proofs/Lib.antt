-- `lexed` reads a text as a function of the whole list. The grammar (`IsRow`, `FaultAfter`) is a relation. Two laws join them in
-- both directions: one for a text without a fault, one for the first fault.
-- The front of an identifier, an integer or a row of codes is one too, unless it is a mark alone. So what is bad stays bad.
pub mod EscapeLemmas
pub mod FaultLemmas
pub mod FirstTreeFault
pub mod Followed
pub mod FollowedTokens
pub mod Fronts
pub mod IntegerLemmas
pub mod LexedLemmas
pub mod Listings
pub mod Mended
pub mod OneTreeFault
pub mod ParseLemmas
pub mod PlacedListings
pub mod RowLemmas
pub mod SpelledTokens
pub mod TextLemmas
pub mod TreeFaultLemmas
