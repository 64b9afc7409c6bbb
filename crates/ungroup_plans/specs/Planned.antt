-- What is planned for the contents around an instance that is dissolved.
use Rattle.std.specs.Prelude.{◌≡◌, List, [], ◌∷◌, Option, Some, None, Result, Ok, Err, ℕ}
use Rattle.netlist_schema.specs.Types.{Contents, Note}
use Rattle.netlist_schema.specs.declared.limits.TheConstants.{MOST_ENDS, MOST_INSTS, MOST_NETS}
use Rattle.edit_rules_spec.specs.Rule.{first, is_leaf, no_inst}
use Rattle.edit_rules_spec.specs.declared.reply.Reply.{Reply}
use Rattle.ungroup_spec.specs.Dissolved.{children, contents_after}
use Rattle.ungroup_spec.specs.Groups.{Site}
use Rattle.ungroup_spec.specs.Ungroup.{count_ends, count_insts, count_nets, over, site_of}
use Rattle.ungroup_plans.specs.Moved.{notes_moved}
use Rattle.ungroup_plans.specs.declared.plan.Ungrouped.{Ungrouped}

-- the limits that the contents would pass, in order
abbrev pub limits_of : Option Site → List (Option Reply)
limits_of site = over MOST_INSTS count_insts site ∷ over MOST_NETS count_nets site ∷ over MOST_ENDS count_ends site ∷ []

-- the contents afterwards, where they are within the limits, or else the first limit that they pass
abbrev pub IsDissolved : Site → Result Contents Reply → Type 0
IsDissolved s (Ok made) = (first (limits_of (Some s)) ≡ None) × (made ≡ contents_after s)
IsDissolved s (Err refusal) = first (limits_of (Some s)) ≡ Some refusal

-- the refusals in order
abbrev pub refusals_of : Option Contents → List ℕ → Option Contents → List (Option Reply)
refusals_of around name within = no_inst around name ∷ is_leaf within ∷ limits_of (site_of around name within)

-- the contents and the notes afterwards, with the instance that is dissolved
pub record IsMade (around : Option Contents) (name : List ℕ) (within : Option Contents) (notes : List Note) (places : List (Option ℕ)) (made : Ungrouped) : Type 0 where
  pub not_refused : first (refusals_of around name within) ≡ None
  pub site : Site
  pub is : site_of around name within ≡ Some site
  pub contents : made.contents ≡ contents_after site
  pub moved : made.notes ≡ notes_moved site.within.insts (children site) notes places

-- either is planned, or the operation is refused
abbrev pub IsPlanned : Option Contents → List ℕ → Option Contents → List Note → List (Option ℕ) → Result Ungrouped Reply → Type 0
IsPlanned around name within notes places (Ok made) = IsMade around name within notes places made
IsPlanned around name within notes places (Err refusal) = first (refusals_of around name within) ≡ Some refusal
