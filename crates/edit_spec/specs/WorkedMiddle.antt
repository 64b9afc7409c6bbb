-- Worked examples: an instance in the middle goes, properties and notes are set in place, and ends of a cell's own ports.
use Rattle.std.specs.Prelude.{◌≡◌, ℕ, pos, List, [], ◌∷◌, Some, None, option_map, codes}
use Rattle.netlist_schema.specs.Design.{Design, cell_at}
use Rattle.netlist_schema.specs.Types.{Contents, Note, Property}
use Rattle.netlist_schema.specs.declared.cell.Direction.TheVariants.{Inout}
use Rattle.netlist_schema.specs.declared.property.Value.TheVariants.{Integer}
use Rattle.edit_rules_spec.specs.Seen.{contents_at}
use Rattle.edit_rules_spec.specs.declared.reply.CellName.{CellName}
use Rattle.edit_rules_spec.specs.declared.reply.EndName.{EndName}
use Rattle.edit_rules_spec.specs.declared.reply.Reply.TheVariants.{Done, Net as ShownNet, NoNet, NoPort, BadBit, AlreadyJoined, NotJoined}
use Rattle.flat_spec.specs.ExampleParts.{named, id_of, scalar, own_port, on_port, inst, net, leaf, body, lib, top}
use Rattle.edit_spec.specs.Step.{run}
use Rattle.edit_spec.specs.Worked.{ShownReply}
use Rattle.edit_spec.specs.declared.ops.Op.{Op}
use Rattle.edit_spec.specs.declared.ops.Op.TheVariants.{ShowNet, DropInst, Join, Cut, SetProp, SetNote}
use Rattle.edit_spec.specs.declared.ops.Target.TheVariants.{Whole, Inst as OfInst, Net as OfNet}

abbrev in_w : List ℕ → CellName
in_w cell = record { lib = codes "w"; cell = cell }

abbrev says : List ℕ → ℕ → Property
says key n = record { key = named key; value = Integer (pos n); owner = None }

-- a leaf P, a cell M with one of it, and the top T with the three instances a of P, b of M and c of P, all on the net n
abbrev pub three : Design
three = record {
  title = named (codes "e");
  libs =
      lib (codes "w") (
      leaf (codes "P") (scalar (codes "a") Inout ∷ [])
      ∷ body (codes "M") (scalar (codes "p") Inout ∷ scalar (codes "q") Inout ∷ []) (inst (codes "x") (id_of 0 0) [] ∷ []) (net (codes "m") (own_port 0 ∷ on_port 0 0 ∷ []) ∷ [])
      ∷ body (codes "T") [] (inst (codes "a") (id_of 0 0) [] ∷ inst (codes "b") (id_of 0 1) [] ∷ inst (codes "c") (id_of 0 0) [] ∷ [])
      (net (codes "n") (on_port 2 0 ∷ on_port 1 0 ∷ on_port 0 0 ∷ []) ∷ net (codes "o") (on_port 1 1 ∷ []) ∷ [])
      ∷ []
      )
      ∷ [];
  top = top (codes "T") (id_of 0 2) [];
  notes = [];
}

-- notes at all three and below b, one of them set again; then b goes
abbrev pub middle_goes : List Op
middle_goes =
    SetNote (codes "a" ∷ []) (says (codes "K") 1)
    ∷ SetNote (codes "b" ∷ []) (says (codes "K") 2)
    ∷ SetNote (codes "b" ∷ codes "x" ∷ []) (says (codes "K") 3)
    ∷ SetNote (codes "c" ∷ []) (says (codes "K") 4)
    ∷ SetNote (codes "a" ∷ []) (says (codes "K") 5)
    ∷ SetProp (in_w (codes "T")) (OfInst (codes "c")) (says (codes "K") 1)
    ∷ SetProp (in_w (codes "T")) (OfInst (codes "c")) (says (codes "L") 2)
    ∷ SetProp (in_w (codes "T")) (OfInst (codes "c")) (says (codes "K") 3)
    ∷ SetProp (in_w (codes "T")) (OfNet (codes "o")) (says (codes "K") 1)
    ∷ SetProp (in_w (codes "T")) (OfNet (codes "o")) (says (codes "L") 2)
    ∷ SetProp (in_w (codes "T")) (OfNet (codes "o")) (says (codes "K") 3)
    ∷ SetProp (in_w (codes "T")) Whole (says (codes "K") 1)
    ∷ SetProp (in_w (codes "T")) Whole (says (codes "L") 2)
    ∷ SetProp (in_w (codes "T")) Whole (says (codes "K") 3)
    ∷ DropInst (in_w (codes "T")) (codes "b")
    ∷ []

-- c has moved one place forward, with its ends; the ends of b are gone; what was set twice stands in its place
abbrev pub without_middle : Contents
without_middle = record {
  insts = inst (codes "a") (id_of 0 0) [] ∷ inst (codes "c") (id_of 0 0) (says (codes "K") 3 ∷ says (codes "L") 2 ∷ []) ∷ [];
  nets = net (codes "n") (on_port 1 0 ∷ on_port 0 0 ∷ []) ∷ record (net (codes "o") []) { properties = says (codes "K") 3 ∷ says (codes "L") 2 ∷ [] } ∷ [];
}

abbrev pub notes_left : List Note
notes_left = record { path = codes "a" ∷ []; property = says (codes "K") 5 } ∷ record { path = codes "c" ∷ []; property = says (codes "K") 4 } ∷ []

pub record IsMiddleGone : Type 0 where
  pub contents : contents_at (run three middle_goes).design (id_of 0 2) ≡ Some without_middle
  pub properties : option_map (λ cell. cell.properties) (cell_at (run three middle_goes).design (id_of 0 2)) ≡ Some (says (codes "K") 3 ∷ says (codes "L") 2 ∷ [])
  pub notes : (run three middle_goes).design.notes ≡ notes_left

-- ---- ends of the cell's own ports

abbrev own : List ℕ → ℕ → EndName
own port bit = record { inst = None; port = port; bit = bit }

abbrev on : List ℕ → List ℕ → EndName
on inst port = record { inst = Some inst; port = port; bit = 0 }

abbrev pub own_replies : List ShownReply
own_replies =
    (ShowNet (in_w (codes "M")) (codes "m"), ShownNet (own (codes "p") 0 ∷ on (codes "x") (codes "a") ∷ []))
    ∷ (Join (in_w (codes "M")) (codes "m") (own (codes "r") 0), NoPort)
    ∷ (Join (in_w (codes "M")) (codes "m") (own (codes "q") 1), BadBit 1)
    ∷ (Join (in_w (codes "M")) (codes "m") (own (codes "p") 0), AlreadyJoined (codes "m"))
    ∷ (Join (in_w (codes "M")) (codes "m") (own (codes "q") 0), Done)
    ∷ (Cut (in_w (codes "M")) (own (codes "p") 0), Done)
    ∷ (Cut (in_w (codes "M")) (own (codes "p") 0), NotJoined)
    ∷ (ShowNet (in_w (codes "M")) (codes "m"), ShownNet (on (codes "x") (codes "a") ∷ own (codes "q") 0 ∷ []))
    -- a leaf has ports and no nets
    ∷ (Join (in_w (codes "P")) (codes "n") (own (codes "a") 0), NoNet)
    ∷ (Cut (in_w (codes "P")) (own (codes "a") 0), NotJoined)
    ∷ []
