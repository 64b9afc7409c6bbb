use Rattle.std.proofs.Common.{inl, inr}
use Rattle.netdb_calls.proofs.view_calls.next.Goals as goal

pub returns-in-Shown : goal.returns-in-Shown
returns-in-Shown c = inl (c.in-Shown.ensures.0, inl (c.only.ensures, c.in-Shown.ensures.1))

pub returns-in-Lost : goal.returns-in-Lost
returns-in-Lost c = inl (c.in-Lost.ensures.0, inr (c.only-in-Lost.ensures, c.in-Lost.ensures.1))
