-- The worked examples compute.
use Rattle.std.proofs.Common.{◌≡◌, map, refl}
use Rattle.std.specs.Fmt.{digits}
use Rattle.edit_rules_spec.specs.Paths.{most_cells}
use Rattle.uniquify_spec.specs.Blocks.{trees_below}
use Rattle.edit_spec.specs.Step.{run}
use Rattle.edit_spec.specs.Worked.{ShownReply, ungroup_replies, worked_design, whole_replies}
use Rattle.ungroup_spec.specs.Groups.{is_grouped}
use Rattle.edit_spec.specs.WorkedLimits.{two_libraries, limit_replies}
use Rattle.edit_spec.specs.WorkedMiddle.{three, own_replies, IsMiddleGone}

pub worked : (run worked_design (map (λ (line : ShownReply). line.0) whole_replies)).replies ≡ map (λ (line : ShownReply). line.1) whole_replies
unfolding most_cells trees_below digits is_grouped
worked = refl

pub limits : (run two_libraries (map (λ (line : ShownReply). line.0) limit_replies)).replies ≡ map (λ (line : ShownReply). line.1) limit_replies
unfolding most_cells
limits = refl

pub ungrouped : (run worked_design (map (λ (line : ShownReply). line.0) ungroup_replies)).replies ≡ map (λ (line : ShownReply). line.1) ungroup_replies
unfolding is_grouped digits
ungrouped = refl

pub middle : IsMiddleGone
middle = record { contents = refl; properties = refl; notes = refl }

pub own_ends : (run three (map (λ (line : ShownReply). line.0) own_replies)).replies ≡ map (λ (line : ShownReply). line.1) own_replies
own_ends = refl
