-- A worked example: a small design, operations on it, and their replies.
use Rattle.std.specs.Prelude.{ℕ, true, false, pos, List, [], ◌∷◌, ◌++◌, Option, Some, None, codes}
use Rattle.netlist_schema.specs.Design.{Design}
use Rattle.netlist_schema.specs.Types.{CellBody, CellId, Contents, End, Inst, Name, Net, Port, Property, Value}
use Rattle.netlist_schema.specs.declared.cell.CellKind.TheVariants.{Generic}
use Rattle.netlist_schema.specs.declared.cell.Direction.TheVariants.{Input, Output, Inout}
use Rattle.netlist_schema.specs.declared.property.Value.TheVariants.{Boolean, Integer}
use Rattle.edit_rules_spec.specs.declared.reply.CellName.{CellName}
use Rattle.edit_rules_spec.specs.declared.reply.EndName.{EndName}
use Rattle.edit_rules_spec.specs.declared.reply.Reply.{Reply}
use Rattle.edit_rules_spec.specs.declared.reply.Reply.TheVariants.{Done, Cell, Net as ShownNet, Inst as ShownInst, NoLib, NoCell, NoInst, NoNet, NoPort, BadBit, Taken, AlreadyJoined, NotJoined, IsLeaf, IsCyclic, NoPath, NoNote, Copies}
use Rattle.edit_spec.specs.declared.ops.Op.{Op}
use Rattle.edit_spec.specs.declared.ops.Op.TheVariants.{ShowCell, ShowNet, ShowInst, AddCell, AddNet, DropNet, AddInst, DropInst, Join, Cut, SetProp, SetNote, DropNote, Uniquify, UniquePath, Ungroup}
use Rattle.edit_spec.specs.declared.ops.Target.TheVariants.{Inst as OfInst, Net as OfNet}

-- ---- the design: a leaf P, a cell C with two of it, and the top T with C and P

abbrev pub plain : List ℕ → Name
plain id = record { id = id; shown = None }

abbrev cell_id : ℕ → CellId
cell_id slot = record { lib = record { 0 = 0 }; slot = slot }

abbrev inout_port : List ℕ → Port
inout_port id = record { name = plain id; array = None; direction = Some Inout; designator = None; properties = [] }

abbrev inst_of : List ℕ → ℕ → Inst
inst_of id slot = record { name = plain id; of = cell_id slot; designator = None; properties = [] }

abbrev net_of : List ℕ → List End → Net
net_of id ends = record { name = plain id; ends = ends; properties = [] }

abbrev end_at : Option ℕ → ℕ → End
end_at inst port = record { inst = inst; port = port; bit = 0 }

abbrev pub body_of : List ℕ → List Port → Option Contents → CellBody
body_of id ports contents = record {
  name = plain id;
  kind = Generic;
  properties = [];
  view = plain (codes "v");
  view_properties = [];
  interface_properties = [];
  ports = ports;
  contents = contents;
}

abbrev cell_c : CellBody
cell_c = body_of (codes "C") (inout_port (codes "p") ∷ inout_port (codes "q") ∷ inout_port (codes "r") ∷ []) (Some (record {
  insts = inst_of (codes "j") 0 ∷ inst_of (codes "k") 0 ∷ [];
  nets = net_of (codes "m") (end_at None 0 ∷ end_at None 1 ∷ end_at (Some 0) 0 ∷ []) ∷ net_of (codes "s") (end_at (Some 1) 0 ∷ []) ∷ [];
}))

abbrev cell_t : CellBody
cell_t = body_of (codes "T") [] (Some (record {
  insts = inst_of (codes "i") 1 ∷ inst_of (codes "i_j") 0 ∷ [];
  nets = net_of (codes "X") (end_at (Some 0) 0 ∷ []) ∷ net_of (codes "Y") (end_at (Some 0) 1 ∷ end_at (Some 1) 0 ∷ []) ∷ net_of (codes "Z") (end_at (Some 0) 2 ∷ []) ∷ [];
}))

abbrev pub worked_design : Design
worked_design = record {
  title = plain (codes "e");
  libs = record { head = record { name = plain (codes "w"); external = false }; cells = body_of (codes "P") (inout_port (codes "a") ∷ []) None ∷ cell_c ∷ cell_t ∷ [] } ∷ [];
  top = Some (record { name = plain (codes "T"); cell = cell_id 2; properties = [] });
  notes = [];
}

-- ---- the operations and what they reply

abbrev in_w : List ℕ → CellName
in_w cell = record { lib = codes "w"; cell = cell }

abbrev end_on : List ℕ → List ℕ → ℕ → EndName
end_on inst port bit = record { inst = Some inst; port = port; bit = bit }

abbrev says : Value → Property
says value = record { key = plain (codes "K"); value = value; owner = None }

abbrev pub ShownReply : Type 0
ShownReply = Op × Reply

abbrev pub worked_replies : List ShownReply
worked_replies =
    (ShowCell (record { lib = codes "x"; cell = codes "T" }), NoLib)
    ∷ (ShowCell (in_w (codes "Q")), NoCell)
    ∷ (ShowCell (in_w (codes "T")), Cell 0 2 3 false)
    ∷ (ShowNet (in_w (codes "T")) (codes "N"), NoNet)
    ∷ (ShowNet (in_w (codes "T")) (codes "Y"), ShownNet (end_on (codes "i") (codes "q") 0 ∷ end_on (codes "i_j") (codes "a") 0 ∷ []))
    ∷ (ShowInst (in_w (codes "T")) (codes "z"), NoInst)
    ∷ (ShowInst (in_w (codes "T")) (codes "i"), ShownInst (in_w (codes "C")) [])
    ∷ (AddCell (in_w (codes "p")) true [], Taken)
    ∷ (AddCell (in_w (codes "D")) false (record { name = codes "a"; direction = Some Input; array = None } ∷ record { name = codes "b"; direction = Some Output; array = Some 4 } ∷ []), Done)
    ∷ (AddNet (in_w (codes "P")) (codes "n"), IsLeaf)
    ∷ (AddNet (in_w (codes "T")) (codes "x"), Taken)
    ∷ (AddNet (in_w (codes "T")) (codes "n"), Done)
    ∷ (DropNet (in_w (codes "T")) (codes "n"), Done)
    ∷ (DropNet (in_w (codes "T")) (codes "n"), NoNet)
    ∷ (AddInst (in_w (codes "C")) (codes "t") (in_w (codes "T")), IsCyclic)
    ∷ (AddInst (in_w (codes "T")) (codes "d") (in_w (codes "D")), Done)
    ∷ (Join (in_w (codes "T")) (codes "X") (end_on (codes "z") (codes "a") 0), NoInst)
    ∷ (Join (in_w (codes "T")) (codes "X") (end_on (codes "d") (codes "c") 0), NoPort)
    ∷ (Join (in_w (codes "T")) (codes "X") (end_on (codes "d") (codes "b") 4), BadBit 4)
    ∷ (Join (in_w (codes "T")) (codes "X") (end_on (codes "i_j") (codes "a") 0), AlreadyJoined (codes "Y"))
    ∷ (Cut (in_w (codes "T")) (end_on (codes "i_j") (codes "a") 0), Done)
    ∷ (Cut (in_w (codes "T")) (end_on (codes "i_j") (codes "a") 0), NotJoined)
    ∷ (Join (in_w (codes "T")) (codes "X") (end_on (codes "i_j") (codes "a") 0), Done)
    ∷ (DropInst (in_w (codes "T")) (codes "d"), Done)
    ∷ (DropInst (in_w (codes "T")) (codes "d"), NoInst)
    ∷ (SetProp (in_w (codes "T")) (OfNet (codes "X")) (says (Boolean true)), Done)
    ∷ (SetProp (in_w (codes "T")) (OfNet (codes "N")) (says (Boolean true)), NoNet)
    ∷ (SetNote (codes "i" ∷ codes "j" ∷ []) (says (Integer (pos 1))), Done)
    ∷ (SetNote (codes "i" ∷ codes "zz" ∷ []) (says (Integer (pos 1))), NoPath)
    ∷ (DropNote (codes "i" ∷ codes "j" ∷ []) (codes "K"), Done)
    ∷ (DropNote (codes "i" ∷ codes "j" ∷ []) (codes "K"), NoNote)
    ∷ (UniquePath (codes "i" ∷ []), Copies 1)
    ∷ (UniquePath (codes "i" ∷ codes "zz" ∷ []), NoPath)
    ∷ (Uniquify, Copies 0)
    ∷ []

-- the same, and then an instance is dissolved
abbrev pub whole_replies : List ShownReply
whole_replies = worked_replies ++ (Ungroup (in_w (codes "T")) (codes "i_j"), IsLeaf) ∷ (Ungroup (in_w (codes "T")) (codes "i"), Done) ∷ []

-- ---- an instance that is dissolved: a leaf is not, and what was inside moves up

abbrev pub ungroup_replies : List ShownReply
ungroup_replies =
    (SetNote (codes "i" ∷ codes "j" ∷ []) (says (Integer (pos 1))), Done)
    ∷ (SetNote (codes "i" ∷ []) (says (Integer (pos 3))), Done)
    ∷ (Ungroup (in_w (codes "T")) (codes "i_j"), IsLeaf)
    ∷ (Ungroup (in_w (codes "T")) (codes "i"), Done)
    ∷ (Ungroup (in_w (codes "T")) (codes "i"), NoInst)
    ∷ (ShowCell (in_w (codes "T")), Cell 0 3 3 false)
    ∷ (ShowNet (in_w (codes "T")) (codes "X"), ShownNet (end_on (codes "i_j") (codes "a") 0 ∷ end_on (codes "i_j_1") (codes "a") 0 ∷ []))
    ∷ (ShowNet (in_w (codes "T")) (codes "Y"), NoNet)
    ∷ (ShowNet (in_w (codes "T")) (codes "i_s"), ShownNet (end_on (codes "i_k") (codes "a") 0 ∷ []))
    ∷ (DropNote (codes "i" ∷ []) (codes "K"), NoNote)
    ∷ (DropNote (codes "i_j_1" ∷ []) (codes "K"), Done)
    ∷ []

-- ---- an instance that goes: later instances move one place forward, and its notes go

abbrev keyed : List ℕ → Value → Property
keyed key value = record { key = plain key; value = value; owner = None }

abbrev pub drop_replies : List ShownReply
drop_replies =
    (SetNote (codes "i" ∷ codes "j" ∷ []) (says (Integer (pos 1))), Done)
    ∷ (SetNote (codes "i_j" ∷ []) (says (Integer (pos 2))), Done)
    ∷ (SetNote (codes "i" ∷ []) (says (Integer (pos 3))), Done)
    ∷ (SetProp (in_w (codes "T")) (OfInst (codes "i_j")) (keyed (codes "K") (Integer (pos 1))), Done)
    ∷ (SetProp (in_w (codes "T")) (OfInst (codes "i_j")) (keyed (codes "L") (Integer (pos 2))), Done)
    ∷ (SetProp (in_w (codes "T")) (OfInst (codes "i_j")) (keyed (codes "K") (Integer (pos 3))), Done)
    ∷ (DropInst (in_w (codes "T")) (codes "i"), Done)
    ∷ (ShowCell (in_w (codes "T")), Cell 0 1 3 false)
    ∷ (ShowNet (in_w (codes "T")) (codes "X"), ShownNet [])
    ∷ (ShowNet (in_w (codes "T")) (codes "Y"), ShownNet (end_on (codes "i_j") (codes "a") 0 ∷ []))
    ∷ (ShowInst (in_w (codes "T")) (codes "i_j"), ShownInst (in_w (codes "P")) (keyed (codes "K") (Integer (pos 3)) ∷ keyed (codes "L") (Integer (pos 2)) ∷ []))
    ∷ (DropNote (codes "i" ∷ codes "j" ∷ []) (codes "K"), NoNote)
    ∷ (DropNote (codes "i" ∷ []) (codes "K"), NoNote)
    ∷ (DropNote (codes "i_j" ∷ []) (codes "K"), Done)
    ∷ (SetNote [] (says (Integer (pos 1))), NoPath)
    ∷ []
