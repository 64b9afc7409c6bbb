-- Ungroup: one instance is dissolved into its parent. Its refusals in order, its reply, and what it changes.
use Rattle.std.specs.Prelude.{◌≡◌, ◌≤◌, ℕ, nat_lt, List, [], ◌∷◌, Option, Some, None, length, option_map, option_and_then, option_to_list, slice_get}
use Rattle.std.specs.List.{flat_map}
use Rattle.std.specs.Option.{option_map_or}
use Rattle.netlist_schema.specs.Design.{Design}
use Rattle.netlist_schema.specs.Types.{CellId, Contents, Note}
use Rattle.netlist_schema.specs.declared.limits.TheConstants.{MOST_ENDS, MOST_INSTS, MOST_NETS}
use Rattle.edit_rules_spec.specs.Edit.{Edit, inner, noted, edited}
use Rattle.edit_rules_spec.specs.Find.{cell_named, inst_place}
use Rattle.edit_rules_spec.specs.Rule.{Rule, refuse, no_lib, no_cell, no_inst, is_leaf, first}
use Rattle.edit_rules_spec.specs.Seen.{Named, named, inside, placed, contents_at}
use Rattle.edit_rules_spec.specs.declared.reply.CellName.{CellName}
use Rattle.edit_rules_spec.specs.declared.reply.Reply.{Reply}
use Rattle.edit_rules_spec.specs.declared.reply.Reply.TheVariants.{Done, TooMany}
use Rattle.ungroup_spec.specs.Dissolved.{insts_after, nets_after, contents_after}
use Rattle.ungroup_spec.specs.Groups.{Site}
use Rattle.ungroup_spec.specs.MovedNotes.{changed_notes}

-- the instance with this name in contents, with the contents of its cell
abbrev pub site_of : Option Contents → List ℕ → Option Contents → Option Site
site_of around name within =
    option_and_then (λ contents. option_and_then (λ place. option_and_then (λ inst.
    option_map (λ inner. record { around = contents; place = place; inst = inst; within = inner }) within)
    (slice_get contents.insts place)) (inst_place name contents.insts)) around

-- the contents of the cell of the instance with this name
abbrev pub inside_inst : Design → CellName → List ℕ → Option Contents
inside_inst d cell name = option_and_then (λ inst. contents_at d inst.of) (placed d cell name)

abbrev pub site_named : Design → CellName → List ℕ → Option Site
site_named d cell name = site_of (inside d cell) name (inside_inst d cell name)

-- there would be more of something than the limit
abbrev pub over : ℕ → (Site → ℕ) → Option Site → Option Reply
over limit count site = refuse (nat_lt limit (option_map_or count site 0)) (TooMany limit)

abbrev pub count_insts : Site → ℕ
count_insts s = length (insts_after s)

abbrev pub count_nets : Site → ℕ
count_nets s = length (nets_after s)

abbrev pub count_ends : Site → ℕ
count_ends s = length (flat_map (λ net. net.ends) (nets_after s))

-- the contents of the cell, and the notes where they change
abbrev pub edits_at : CellId → Site → Option (List Note) → List Edit
edits_at id s notes = inner id (contents_after s) ∷ option_to_list (option_map noted notes)

abbrev pub edits_if : Option CellId → Option Site → Option (List Note) → List Edit
edits_if id site notes = option_map_or (λ i. option_map_or (λ s. edits_at i s notes) site []) id []

-- the row of the operation, over what it sees of the design
abbrev pub rule_seen : Named → Option Contents → List ℕ → Option Contents → Option (List Note) → Rule
rule_seen at around name within notes =
    let site = site_of around name within in
    record {
      refusals = no_lib at ∷ no_cell at ∷ no_inst around name ∷ is_leaf within ∷ over MOST_INSTS count_insts site ∷ over MOST_NETS count_nets site ∷ over MOST_ENDS count_ends site ∷ [];
      reply = Done;
      edits = edits_if at.cell site notes;
    }

abbrev pub notes_seen : Design → CellName → List ℕ → Option (List Note)
notes_seen d cell name = option_and_then (λ id. option_and_then (changed_notes d id) (site_named d cell name)) (cell_named d cell)

abbrev pub ungroup : Design → CellName → List ℕ → Rule
ungroup d cell name = rule_seen (named d cell) (inside d cell) name (inside_inst d cell name) (notes_seen d cell name)

-- ---- the same by places

-- the instance stands in the cell
pub record IsSite (d : Design) (cell : CellId) (s : Site) : Type 0 where
  pub around : contents_at d cell ≡ Some s.around
  pub inst : slice_get s.around.insts s.place ≡ Some s.inst
  pub within : contents_at d s.inst.of ≡ Some s.within

-- the design after the instance is dissolved
abbrev pub ungrouped : Design → CellId → Site → Design
ungrouped d cell s = edited d (edits_at cell s (changed_notes d cell s))

-- where nothing refuses the operation, an instance is dissolved: the one with that name
pub record HasDissolved (d : Design) (cell : CellName) (name : List ℕ) : Type 0 where
  pub id : CellId
  pub site : Site
  pub named_so : cell_named d cell ≡ Some id
  pub found : inst_place name site.around.insts ≡ Some site.place
  pub stands : IsSite d id site
  pub edits : edited d (ungroup d cell name).edits ≡ ungrouped d id site
  pub insts_fit : count_insts site ≤ MOST_INSTS
  pub nets_fit : count_nets site ≤ MOST_NETS
  pub ends_fit : count_ends site ≤ MOST_ENDS

-- an operation that nothing refuses dissolves the instance
abbrev pub DoneDissolves : Type 0
DoneDissolves = (d : Design) (cell : CellName) (name : List ℕ) → first (ungroup d cell name).refusals ≡ None → HasDissolved d cell name
