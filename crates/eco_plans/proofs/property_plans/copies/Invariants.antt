use Rattle.std.proofs.Common.{◌≡◌, take}
use Rattle.eco_plans.proofs.property_plans.copies.Given as goal

-- the properties so far are copied
abbrev pub invariant-loop-property : goal.invariant-loop-property
invariant-loop-property l = l.made.items ≡ take l.property-index l.properties
