-- The two operations: refusals in order, the reply, and what is changed.
use Rattle.std.specs.Prelude.{ℕ, not, is_none, nat_le, List, [], ◌∷◌, ◌++◌, Option, length}
use Rattle.std.specs.List.{list_any}
use Rattle.std.specs.Option.{option_map_or}
use Rattle.netlist_schema.specs.Design.{Design}
use Rattle.netlist_schema.specs.Types.{CellId}
use Rattle.netlist_schema.specs.declared.limits.TheConstants.{MOST_CELLS}
use Rattle.edit_rules_spec.specs.Frame.{Stepped, stepped}
use Rattle.edit_rules_spec.specs.Rule.{Rule, refuse}
use Rattle.edit_rules_spec.specs.Paths.{is_path}
use Rattle.edit_rules_spec.specs.declared.reply.Reply.{Reply}
use Rattle.edit_rules_spec.specs.declared.reply.Reply.TheVariants.{Copies, NoPath, NoTop, TooMany}
use Rattle.uniquify_spec.specs.Blocks.{each_block, along_path}
use Rattle.uniquify_spec.specs.Copies.{Copy}
use Rattle.uniquify_spec.specs.Split.{Split, split_edits}

-- a copy would get a place that a library does not have
abbrev pub too_many_cells : List Copy → Option Reply
too_many_cells copies = refuse (list_any (λ copy. nat_le MOST_CELLS copy.id.slot) copies) (TooMany MOST_CELLS)

-- cells of their own for the occurrences of a split, where neither these refusals apply nor a library would be too large
abbrev pub split_row : Design → List (Option Reply) → Split → Rule
split_row d refusals s = record {
  refusals = refusals ++ too_many_cells s.copies ∷ [];
  reply = Copies (length s.copies);
  edits = split_edits d s;
}

-- a split below the top, where there is one
abbrev pub below_top : (CellId → Split) → Design → Split
below_top split d = option_map_or (λ top. split top.cell) d.top (record { kept = []; copies = [] })

-- each occurrence of a block below the top gets a cell of its own
abbrev pub uniquify_row : Design → Rule
uniquify_row d = split_row d (refuse (is_none d.top) NoTop ∷ []) (below_top (each_block d) d)

-- each block at the end of a step of the path gets a copy
abbrev pub unique_path_row : Design → List (List ℕ) → Rule
unique_path_row d path =
    split_row d (refuse (is_none d.top) NoTop ∷ refuse (not (is_path d d.top path)) NoPath ∷ []) (below_top (along_path d path) d)

-- what comes of the two: the reply, and the design afterwards, which a refusal leaves as it is
abbrev pub uniquified : Design → Stepped
uniquified d = stepped uniquify_row d

abbrev pub unique_along : Design → List (List ℕ) → Stepped
unique_along d path = stepped (λ e. unique_path_row e path) d
