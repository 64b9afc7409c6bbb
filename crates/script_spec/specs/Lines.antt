-- The lines of a script, by their pieces: one equation for each kind of line.
use Rattle.std.specs.Prelude.{◌≡◌, ℕ, zero, Bool, true, false, List, [], ◌∷◌, ◌++◌, Option, None, Some, map, codes}
use Rattle.std.specs.List.{All}
use Rattle.netlist_schema.specs.Types.{Direction, Property, Value}
use Rattle.netlist_schema.specs.declared.cell.Direction.TheVariants as directions
use Rattle.netlist_schema.specs.declared.property.Num.TheVariants as numbers
use Rattle.netlist_schema.specs.declared.property.Value.TheVariants as values
use Rattle.netlist_schema.specs.declared.limits.TheConstants.{MOST_WIDTH}
use Rattle.edit_rules_spec.specs.declared.reply.CellName.{CellName}
use Rattle.edit_rules_spec.specs.declared.reply.EndName.{EndName}
use Rattle.edit_spec.specs.declared.ops.Op.{Op}
use Rattle.edit_spec.specs.declared.ops.Op.TheVariants as op
use Rattle.edit_spec.specs.declared.ops.PortDecl.{PortDecl}
use Rattle.edit_spec.specs.declared.ops.Target.{Target}
use Rattle.edit_spec.specs.declared.ops.Target.TheVariants as targets
use Rattle.flat_lines_spec.specs.Lines.{spaced}
use Rattle.script_spec.specs.declared.script.Step.{Step}
use Rattle.script_spec.specs.declared.script.Step.TheVariants as step
use Rattle.script_spec.specs.Pieces.{Atom, Said, Named, Number, Integer, Exponent, Quoted, Piece, Alone, Joined, piece_text, IsSayablePiece}

-- a word of the language, an identifier, a number up to a greatest
abbrev pub said : List ℕ → Piece
said word = Alone (Said word)

abbrev pub name : List ℕ → Piece
name id = Alone (Named id)

abbrev pub number : ℕ → ℕ → Piece
number most n = Alone (Number 0 most n)

-- LIB CELL
abbrev pub cell_pieces : CellName → List Piece
cell_pieces cell = name cell.lib ∷ name cell.cell ∷ []

-- PATH: identifiers with `/` between each two
abbrev pub path_piece : List (List ℕ) → Piece
path_piece path = Joined 47 (map Named path)

-- DIR
abbrev pub direction_word : Option Direction → List ℕ
direction_word None = codes "none"
direction_word (Some directions.Input) = codes "in"
direction_word (Some directions.Output) = codes "out"
direction_word (Some directions.Inout) = codes "inout"

-- N, where the port is an array
abbrev pub width_atoms : Option ℕ → List Atom
width_atoms None = []
width_atoms (Some width) = Number 1 MOST_WIDTH width ∷ []

-- PORT: NAME:DIR, or NAME:DIR:N
abbrev pub port_piece : PortDecl → Piece
port_piece decl = Joined 58 (Named decl.name ∷ Said (direction_word decl.direction) ∷ width_atoms decl.array)

-- `leaf` or `empty`
abbrev pub leaf_word : Bool → List ℕ
leaf_word true = codes "leaf"
leaf_word false = codes "empty"

-- INST, or `-` for the cell's own port
abbrev pub inst_piece : Option (List ℕ) → Piece
inst_piece None = said (codes "-")
inst_piece (Some inst) = name inst

-- INST PORT BIT
abbrev pub end_pieces : EndName → List Piece
end_pieces end = inst_piece end.inst ∷ name end.port ∷ number 4294967295 end.bit ∷ []

-- `cell`, `inst INST` or `net NET`
abbrev pub target_pieces : Target → List Piece
target_pieces targets.Whole = said (codes "cell") ∷ []
target_pieces (targets.Inst inst) = said (codes "inst") ∷ name inst ∷ []
target_pieces (targets.Net net) = said (codes "net") ∷ name net ∷ []

-- VALUE: `true`, `false`, `int I`, `num I`, `num I e I` or `str STRING`
abbrev pub value_pieces : Value → List Piece
value_pieces (values.Boolean true) = said (codes "true") ∷ []
value_pieces (values.Boolean false) = said (codes "false") ∷ []
value_pieces (values.Integer z) = said (codes "int") ∷ Alone (Integer z) ∷ []
value_pieces (values.Number (numbers.Int z)) = said (codes "num") ∷ Alone (Integer z) ∷ []
value_pieces (values.Number (numbers.Scaled m x)) = said (codes "num") ∷ Alone (Integer m) ∷ said (codes "e") ∷ Alone (Exponent x) ∷ []
value_pieces (values.Text text) = said (codes "str") ∷ Alone (Quoted text) ∷ []

-- KEY VALUE
abbrev pub property_pieces : Property → List Piece
property_pieces property = name property.key.id ∷ value_pieces property.value

-- ---- the table of operations

abbrev pub op_pieces : Op → List Piece
op_pieces (op.ShowCell cell) = said (codes "show-cell") ∷ cell_pieces cell
op_pieces (op.ShowNet cell net) = said (codes "show-net") ∷ cell_pieces cell ++ name net ∷ []
op_pieces (op.ShowInst cell inst) = said (codes "show-inst") ∷ cell_pieces cell ++ name inst ∷ []
op_pieces (op.AddCell cell leaf ports) = said (codes "add-cell") ∷ cell_pieces cell ++ said (leaf_word leaf) ∷ map port_piece ports
op_pieces (op.AddNet cell net) = said (codes "add-net") ∷ cell_pieces cell ++ name net ∷ []
op_pieces (op.DropNet cell net) = said (codes "drop-net") ∷ cell_pieces cell ++ name net ∷ []
op_pieces (op.AddInst cell inst of) = said (codes "add-inst") ∷ cell_pieces cell ++ name inst ∷ cell_pieces of
op_pieces (op.DropInst cell inst) = said (codes "drop-inst") ∷ cell_pieces cell ++ name inst ∷ []
op_pieces (op.Join cell net end) = said (codes "join") ∷ cell_pieces cell ++ name net ∷ end_pieces end
op_pieces (op.Cut cell end) = said (codes "cut") ∷ cell_pieces cell ++ end_pieces end
op_pieces (op.SetProp cell target property) = said (codes "set-prop") ∷ cell_pieces cell ++ target_pieces target ++ property_pieces property
op_pieces (op.SetNote path property) = said (codes "set-note") ∷ path_piece path ∷ property_pieces property
op_pieces (op.DropNote path key) = said (codes "drop-note") ∷ path_piece path ∷ name key ∷ []
op_pieces op.Uniquify = said (codes "uniquify") ∷ []
op_pieces (op.UniquePath path) = said (codes "unique-path") ∷ path_piece path ∷ []
op_pieces (op.Ungroup cell inst) = said (codes "ungroup") ∷ cell_pieces cell ++ name inst ∷ []

-- ---- the table of the other lines

abbrev pub step_pieces : Step → List Piece
step_pieces (step.Begin zero) = said (codes "begin") ∷ []
step_pieces (step.Begin retries) = said (codes "begin") ∷ said (codes "retry") ∷ number 16 retries ∷ []
step_pieces (step.Run op) = op_pieces op
step_pieces step.Commit = said (codes "commit") ∷ []
step_pieces step.Abandon = said (codes "abandon") ∷ []
step_pieces step.Pin = said (codes "pin") ∷ []
step_pieces (step.PinAt version) = said (codes "pin-at") ∷ number 18446744073709551615 version ∷ []
step_pieces (step.Walk None) = said (codes "walk") ∷ []
step_pieces (step.Walk (Some limit)) = said (codes "walk") ∷ said (codes "limit") ∷ Alone (Number 1 4294967295 limit) ∷ []
step_pieces step.Release = said (codes "release") ∷ []
step_pieces step.Collect = said (codes "collect") ∷ []

-- ---- the canonical line, and what has one

-- a property as a line gives it: without a shown text and an owner
abbrev pub IsPlainProperty : Property → Type 0
IsPlainProperty property = (property.key.shown ≡ None) × (property.owner ≡ None)

abbrev pub IsPlainOp : Op → Type 0
IsPlainOp (op.SetProp cell target property) = IsPlainProperty property
IsPlainOp (op.SetNote path property) = IsPlainProperty property
IsPlainOp op = Unit {0}

-- an operation that a line can say
pub record IsSayableOp (op : Op) : Type 0 where
  pub pieces : All IsSayablePiece (op_pieces op)
  pub plain : IsPlainOp op

abbrev pub IsSayable : Step → Type 0
IsSayable (step.Run op) = IsSayableOp op
IsSayable step = All IsSayablePiece (step_pieces step)

-- the canonical line of an operation, words separated by one blank, without a line feed
abbrev pub op_text : Op → List ℕ
op_text op = spaced (map piece_text (op_pieces op))
