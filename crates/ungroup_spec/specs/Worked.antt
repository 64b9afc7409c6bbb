-- Worked examples of the operation.
use Rattle.std.specs.Prelude.{◌≡◌, ℕ, List, [], ◌∷◌, Some, codes}
use Rattle.netlist_schema.specs.Design.{Design}
use Rattle.netlist_schema.specs.Types.{CellBody, Contents, Inst, Note}
use Rattle.edit_rules_spec.specs.Edit.{edited}
use Rattle.edit_rules_spec.specs.Rule.{ruled}
use Rattle.edit_rules_spec.specs.Seen.{contents_at}
use Rattle.edit_rules_spec.specs.declared.reply.CellName.{CellName}
use Rattle.edit_rules_spec.specs.declared.reply.Reply.{Reply}
use Rattle.edit_rules_spec.specs.declared.reply.Reply.TheVariants.{Done}
use Rattle.flat_spec.specs.ExampleNotes.{pair}
use Rattle.flat_spec.specs.ExampleParts.{named, renamed, id_of, on_port, inst, inst_named, net, net_named, own_port, scalar, says, body, cell, leaf, lib, top}
use Rattle.flat_spec.specs.Flattening.{flattening}
use Rattle.flat_spec.specs.declared.item.Item.{Item}
use Rattle.flat_spec.specs.declared.item.Item.TheVariants.{Enter}
use Rattle.netlist_schema.specs.declared.cell.Direction.TheVariants.{Inout}
use Rattle.ungroup_spec.specs.Ungroup.{ungroup}

-- the reply, and the design afterwards
abbrev pub reply_to : Design → CellName → List ℕ → Reply
reply_to d cell name = (ruled (ungroup d cell name)).reply

abbrev pub after : Design → CellName → List ℕ → Design
after d cell name = edited d (ruled (ungroup d cell name)).edits

abbrev in_w : List ℕ → CellName
in_w cell = record { lib = codes "w"; cell = cell }

-- ---- a feedthrough: the nets X and Y are joined through the net m of the instance i, and become one; the net s becomes a new net;
-- Z loses its only end; the name i_j is taken

-- a cell with a feedthrough, under a name
abbrev pub body_c : List ℕ → CellBody
body_c name =
    body name (scalar (codes "p") Inout ∷ scalar (codes "q") Inout ∷ scalar (codes "r") Inout ∷ [])
    (inst (codes "j") (id_of 0 0) [] ∷ inst (codes "k") (id_of 0 0) [] ∷ [])
    (net (codes "m") (own_port 0 ∷ own_port 1 ∷ on_port 0 0 ∷ []) ∷ net (codes "s") (on_port 1 0 ∷ []) ∷ [])

abbrev pub leaf_p : CellBody
leaf_p = leaf (codes "P") (scalar (codes "a") Inout ∷ [])

-- a leaf P, a cell C with two of it, and the top T with C and P
abbrev pub bridge : Design
bridge = record {
  title = named (codes "e");
  libs = lib (codes "w") (
      leaf_p
      ∷ body_c (codes "C")
      ∷ body (codes "T") [] (inst (codes "i") (id_of 0 1) [] ∷ inst (codes "i_j") (id_of 0 0) [] ∷ [])
      (net (codes "X") (on_port 0 0 ∷ []) ∷ net (codes "Y") (on_port 0 1 ∷ on_port 1 0 ∷ []) ∷ net (codes "Z") (on_port 0 2 ∷ []) ∷ [])
      ∷ [])
      ∷ [];
  top = top (codes "T") (id_of 0 2) [];
  notes = [];
}

abbrev pub feedthrough_contents : Contents
feedthrough_contents = record {
  insts =
      inst_named (renamed (codes "i_j_1") (codes "i/j")) (id_of 0 0) []
      ∷ inst_named (renamed (codes "i_k") (codes "i/k")) (id_of 0 0) []
      ∷ inst (codes "i_j") (id_of 0 0) []
      ∷ [];
  nets =
      net (codes "X") (on_port 2 0 ∷ on_port 0 0 ∷ [])
      ∷ net (codes "Z") []
      ∷ net_named (renamed (codes "i_s") (codes "i/s")) (on_port 1 0 ∷ [])
      ∷ [];
}

abbrev pub FeedthroughIsUngrouped : Type 0
FeedthroughIsUngrouped =
    (reply_to bridge (in_w (codes "T")) (codes "i") ≡ Done)
    × (contents_at (after bridge (in_w (codes "T")) (codes "i")) (id_of 0 2) ≡ Some feedthrough_contents)

-- ---- a note for what is inside the instance moves up with it, and the occurrence keeps its value

abbrev pub pair_after : Design
pair_after = after pair (in_w (codes "pair")) (codes "u1")

abbrev pub pair_insts : List Inst
pair_insts =
    inst_named (renamed (codes "u1_u2") (codes "u1/u2")) (id_of 0 0) (says (codes "INIT") (codes "0") ∷ [])
    ∷ inst (codes "u3") (id_of 0 1) []
    ∷ []

abbrev pub pair_note : Note
pair_note = record { path = codes "u1_u2" ∷ []; property = says (codes "INIT") (codes "1") }

abbrev pub pair_items : List Item
pair_items =
    Enter [] (id_of 0 2) []
    ∷ Enter (0 ∷ []) (id_of 0 0) (says (codes "INIT") (codes "1") ∷ [])
    ∷ Enter (1 ∷ []) (id_of 0 1) []
    ∷ Enter (1 ∷ 0 ∷ []) (id_of 0 0) (says (codes "INIT") (codes "0") ∷ [])
    ∷ []

abbrev pub PairIsUngrouped : Type 0
PairIsUngrouped =
    (reply_to pair (in_w (codes "pair")) (codes "u1") ≡ Done)
    × (contents_at pair_after (id_of 0 2) ≡ Some (record { insts = pair_insts; nets = [] }))
    × (pair_after.notes ≡ pair_note ∷ [])
    × (flattening pair_after ≡ pair_items)
