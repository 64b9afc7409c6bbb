-- A worked example on two libraries without a top: a later library, a cycle over several levels, no top, and limits.
use Rattle.std.specs.Prelude.{◌≡◌, ℕ, true, false, pos, List, [], ◌∷◌, Some, None, map, codes, Bool, length}
use Rattle.std.specs.List.{list_any}
use Rattle.netlist_schema.specs.Design.{Design}
use Rattle.netlist_schema.specs.Types.{CellBody, Lib, LibId, Property}
use Rattle.netlist_schema.specs.declared.property.Value.TheVariants.{Integer}
use Rattle.edit_rules_spec.specs.Rule.{too_many}
use Rattle.edit_spec.specs.AddCell.{has_twice, names_in}
use Rattle.edit_spec.specs.Step.{step}
use Rattle.edit_spec.specs.Worked.{ShownReply, body_of, plain}
use Rattle.edit_rules_spec.specs.Find.{is_same, lib_named}
use Rattle.edit_rules_spec.specs.declared.reply.CellName.{CellName}
use Rattle.edit_rules_spec.specs.declared.reply.Reply.TheVariants.{Done, Taken, IsCyclic, IsLeaf, LaterLibrary, NoTop, TooMany}
use Rattle.edit_spec.specs.declared.ops.Op.TheVariants.{AddCell, AddInst, SetNote, DropNote}
use Rattle.edit_spec.specs.declared.ops.PortDecl.{PortDecl}

-- a library w with a cell T, and after it a library z with a leaf Q and a cell B
abbrev empty_cell : List ℕ → CellBody
empty_cell id = body_of id [] (Some (record { insts = []; nets = [] }))

abbrev lib_of : List ℕ → List CellBody → Lib
lib_of lib cells = record { head = record { name = plain lib; external = false }; cells = cells }

abbrev pub two_libraries : Design
two_libraries = record {
  title = plain (codes "e");
  libs = lib_of (codes "w") (empty_cell (codes "T") ∷ []) ∷ lib_of (codes "z") (body_of (codes "Q") [] None ∷ empty_cell (codes "B") ∷ []) ∷ [];
  top = None;
  notes = [];
}

abbrev in_w : List ℕ → CellName
in_w cell = record { lib = codes "w"; cell = cell }

abbrev in_z : List ℕ → CellName
in_z cell = record { lib = codes "z"; cell = cell }

-- ports of 65,536 bits each, named by single letters: sixteen of them have 1,048,576 bits
abbrev wide_ports : List ℕ → List PortDecl
wide_ports letters = map (λ letter. record { name = letter ∷ []; direction = None; array = Some 65536 }) letters

abbrev note : Property
note = record { key = plain (codes "K"); value = Integer (pos 1); owner = None }

abbrev pub limit_replies : List ShownReply
limit_replies =
    (AddInst (in_w (codes "T")) (codes "q") (in_z (codes "Q")), LaterLibrary)
    ∷ (AddInst (in_z (codes "Q")) (codes "i") (in_w (codes "T")), IsLeaf)
    ∷ (AddInst (in_z (codes "B")) (codes "i") (in_w (codes "T")), Done)
    ∷ (AddInst (in_z (codes "B")) (codes "I") (in_w (codes "T")), Taken)
    ∷ (AddInst (in_z (codes "B")) (codes "j") (in_z (codes "B")), IsCyclic)
    ∷ (AddCell (in_z (codes "D")) false [], Done)
    ∷ (AddCell (in_z (codes "E")) false [], Done)
    ∷ (AddInst (in_z (codes "D")) (codes "b") (in_z (codes "B")), Done)
    ∷ (AddInst (in_z (codes "E")) (codes "d") (in_z (codes "D")), Done)
    -- B is below E, two levels down
    ∷ (AddInst (in_z (codes "B")) (codes "x") (in_z (codes "E")), IsCyclic)
    ∷ (SetNote (codes "i" ∷ []) note, NoTop)
    ∷ (DropNote (codes "i" ∷ []) (codes "K"), NoTop)
    ∷ (AddCell (in_w (codes "C")) true (wide_ports (codes "abcdefghijklmnopq")), TooMany 1048576)
    ∷ (AddCell (in_w (codes "C")) true (wide_ports (codes "abcdefghijklmnop")), Done)
    ∷ []

-- a limit is reached, and not yet
pub record IsLimitReached : Type 0 where
  pub at_limit : too_many 3 3 ≡ Some (TooMany 3)
  pub below_limit : too_many 2 3 ≡ None

-- a library of 65,536 cells takes no other one: where its name is free and no two ports have one name, this is the reply
abbrev pub IsFullLibrary : Design → CellName → Bool → List PortDecl → Type 0
IsFullLibrary d cell leaf ports = (lib : LibId) → lib_named d cell.lib ≡ Some lib
    → list_any (λ other. is_same other cell.cell) (names_in d (Some lib)) ≡ false → has_twice (map (λ port. port.name) ports) ≡ false
    → length (names_in d (Some lib)) ≡ 65536 → (step d (AddCell cell leaf ports)).reply ≡ TooMany 65536
