-- The first words of lines, and what stands behind them.
use Rattle.std.specs.Prelude.{◌≡◌, ◌≢◌, ℕ, List, [], ◌∷◌, ◌++◌, Result, map, codes, MatchResult}
use Rattle.netlist_schema.specs.Typed.{IsBytes}
use Rattle.netlist_schema.specs.Types.{Value}
use Rattle.netlist_schema.specs.declared.property.Value.TheVariants.{Text}
use Rattle.edit_spec.specs.declared.ops.Op.{Op}
use Rattle.edit_spec.specs.declared.ops.Op.TheVariants as op
use Rattle.script_spec.specs.Lines.{IsPlainOp, said, name, cell_pieces, path_piece, end_pieces, target_pieces, property_pieces, port_piece, leaf_word}
use Rattle.script_spec.specs.Pieces.{Piece, SpellPieces}
use Rattle.script_words.specs.declared.unread.Unread.{Unread}
use Rattle.script_words.specs.declared.unread.Unread.TheVariants.{Bad}
use Rattle.script_ops.specs.declared.verbs.Verb.{Verb}
use Rattle.script_ops.specs.declared.verbs.Verb.TheVariants as verb
use Rattle.script_ops.specs.declared.verbs.Bare.{Bare}
use Rattle.script_ops.specs.declared.verbs.Bare.TheVariants as bare
use Rattle.script_ops.specs.declared.verbs.Inside.{Inside}
use Rattle.script_ops.specs.declared.verbs.Inside.TheVariants as inside
use Rattle.script_ops.specs.declared.verbs.OpVerb.{OpVerb}
use Rattle.script_ops.specs.declared.verbs.OpVerb.TheVariants as op_verb

-- ---- the first words

abbrev pub bare_word : Bare → List ℕ
bare_word bare.Commit = codes "commit"
bare_word bare.Abandon = codes "abandon"
bare_word bare.Pin = codes "pin"
bare_word bare.Release = codes "release"
bare_word bare.Collect = codes "collect"

abbrev pub inside_word : Inside → List ℕ
inside_word inside.ShowNet = codes "show-net"
inside_word inside.ShowInst = codes "show-inst"
inside_word inside.AddNet = codes "add-net"
inside_word inside.DropNet = codes "drop-net"
inside_word inside.DropInst = codes "drop-inst"
inside_word inside.Ungroup = codes "ungroup"

abbrev pub op_word : OpVerb → List ℕ
op_word op_verb.ShowCell = codes "show-cell"
op_word (op_verb.InCell v) = inside_word v
op_word op_verb.AddCell = codes "add-cell"
op_word op_verb.AddInst = codes "add-inst"
op_word op_verb.Join = codes "join"
op_word op_verb.Cut = codes "cut"
op_word op_verb.SetProp = codes "set-prop"
op_word op_verb.SetNote = codes "set-note"
op_word op_verb.DropNote = codes "drop-note"
op_word op_verb.Uniquify = codes "uniquify"
op_word op_verb.UniquePath = codes "unique-path"

abbrev pub verb_word : Verb → List ℕ
verb_word verb.Begin = codes "begin"
verb_word verb.PinAt = codes "pin-at"
verb_word verb.Walk = codes "walk"
verb_word (verb.Alone v) = bare_word v
verb_word (verb.Operation v) = op_word v

-- the verbs, in the order of the table
abbrev pub all_verbs : List Verb
all_verbs =
    verb.Begin
    ∷ verb.Operation op_verb.ShowCell
    ∷ verb.Operation (op_verb.InCell inside.ShowNet)
    ∷ verb.Operation (op_verb.InCell inside.ShowInst)
    ∷ verb.Operation op_verb.AddCell
    ∷ verb.Operation (op_verb.InCell inside.AddNet)
    ∷ verb.Operation (op_verb.InCell inside.DropNet)
    ∷ verb.Operation op_verb.AddInst
    ∷ verb.Operation (op_verb.InCell inside.DropInst)
    ∷ verb.Operation op_verb.Join
    ∷ verb.Operation op_verb.Cut
    ∷ verb.Operation op_verb.SetProp
    ∷ verb.Operation op_verb.SetNote
    ∷ verb.Operation op_verb.DropNote
    ∷ verb.Operation op_verb.Uniquify
    ∷ verb.Operation op_verb.UniquePath
    ∷ verb.Operation (op_verb.InCell inside.Ungroup)
    ∷ verb.Alone bare.Commit
    ∷ verb.Alone bare.Abandon
    ∷ verb.Alone bare.Pin
    ∷ verb.PinAt
    ∷ verb.Walk
    ∷ verb.Alone bare.Release
    ∷ verb.Alone bare.Collect
    ∷ []

-- the word is none of these verbs
abbrev pub NoneIs : List ℕ → List Verb → Type 0
NoneIs word [] = Unit {0}
NoneIs word (v ∷ vs) = (word ≢ verb_word v) × NoneIs word vs

-- ---- which verb an operation has

abbrev pub verb_of_op : Op → OpVerb
verb_of_op (op.ShowCell cell) = op_verb.ShowCell
verb_of_op (op.ShowNet cell net) = op_verb.InCell inside.ShowNet
verb_of_op (op.ShowInst cell inst) = op_verb.InCell inside.ShowInst
verb_of_op (op.AddCell cell leaf ports) = op_verb.AddCell
verb_of_op (op.AddNet cell net) = op_verb.InCell inside.AddNet
verb_of_op (op.DropNet cell net) = op_verb.InCell inside.DropNet
verb_of_op (op.AddInst cell inst of) = op_verb.AddInst
verb_of_op (op.DropInst cell inst) = op_verb.InCell inside.DropInst
verb_of_op (op.Join cell net end) = op_verb.Join
verb_of_op (op.Cut cell end) = op_verb.Cut
verb_of_op (op.SetProp cell target property) = op_verb.SetProp
verb_of_op (op.SetNote path property) = op_verb.SetNote
verb_of_op (op.DropNote path key) = op_verb.DropNote
verb_of_op op.Uniquify = op_verb.Uniquify
verb_of_op (op.UniquePath path) = op_verb.UniquePath
verb_of_op (op.Ungroup cell inst) = op_verb.InCell inside.Ungroup

-- ---- what stands behind the first word

-- the pieces of an operation behind its first word
abbrev pub op_rest : Op → List Piece
op_rest (op.ShowCell cell) = cell_pieces cell
op_rest (op.ShowNet cell net) = cell_pieces cell ++ name net ∷ []
op_rest (op.ShowInst cell inst) = cell_pieces cell ++ name inst ∷ []
op_rest (op.AddCell cell leaf ports) = cell_pieces cell ++ said (leaf_word leaf) ∷ map port_piece ports
op_rest (op.AddNet cell net) = cell_pieces cell ++ name net ∷ []
op_rest (op.DropNet cell net) = cell_pieces cell ++ name net ∷ []
op_rest (op.AddInst cell inst of) = cell_pieces cell ++ name inst ∷ cell_pieces of
op_rest (op.DropInst cell inst) = cell_pieces cell ++ name inst ∷ []
op_rest (op.Join cell net end) = cell_pieces cell ++ name net ∷ end_pieces end
op_rest (op.Cut cell end) = cell_pieces cell ++ end_pieces end
op_rest (op.SetProp cell target property) = cell_pieces cell ++ target_pieces target ++ property_pieces property
op_rest (op.SetNote path property) = path_piece path ∷ property_pieces property
op_rest (op.DropNote path key) = path_piece path ∷ name key ∷ []
op_rest op.Uniquify = []
op_rest (op.UniquePath path) = path_piece path ∷ []
op_rest (op.Ungroup cell inst) = cell_pieces cell ++ name inst ∷ []

-- the bytes of texts are bytes
abbrev pub HasBytes : Value → Type 0
HasBytes (Text text) = IsBytes text
HasBytes value = Unit {0}

abbrev pub OpHasBytes : Op → Type 0
OpHasBytes (op.SetProp cell target property) = HasBytes property.value
OpHasBytes (op.SetNote path property) = HasBytes property.value
OpHasBytes o = Unit {0}

-- an operation with this verb was read from the words behind it, or they say none
pub record IsOpOf (v : OpVerb) (words : List (List ℕ)) (o : Op) : Type 0 where
  pub verb : verb_of_op o ≡ v
  pub spelled : SpellPieces words (op_rest o)
  pub plain : IsPlainOp o
  pub bytes : OpHasBytes o

abbrev pub ReadsOp : OpVerb → List (List ℕ) → Result Op Unread → Type 0
ReadsOp v words result = MatchResult result (IsOpOf v words) (λ e. e ≡ Bad → (o : Op) → verb_of_op o ≡ v → ¬ SpellPieces words (op_rest o))
