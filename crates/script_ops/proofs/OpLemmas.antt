-- An operation by its verb.
use Rattle.std.proofs.Common.{◌≡◌, List, ℕ, Bool, [], ◌∷◌, ◌++◌, map}
use Rattle.netlist_schema.specs.Types.{Property}
use Rattle.edit_rules_spec.specs.declared.reply.CellName.{CellName}
use Rattle.edit_rules_spec.specs.declared.reply.EndName.{EndName}
use Rattle.edit_spec.specs.declared.ops.Op.{Op}
use Rattle.edit_spec.specs.declared.ops.Op.TheVariants as op
use Rattle.edit_spec.specs.declared.ops.PortDecl.{PortDecl}
use Rattle.edit_spec.specs.declared.ops.Target.{Target}
use Rattle.script_spec.specs.Lines.{cell_pieces, end_pieces, leaf_word, name, path_piece, port_piece, property_pieces, said, target_pieces}
use Rattle.script_spec.specs.Pieces.{SpellPieces}
use Rattle.script_ops.specs.Verbs.{op_rest, verb_of_op}
use Rattle.script_ops.specs.declared.verbs.Inside.{Inside}
use Rattle.script_ops.specs.declared.verbs.Inside.TheVariants as inside
use Rattle.script_ops.specs.declared.verbs.OpVerb.{OpVerb}
use Rattle.script_ops.specs.declared.verbs.OpVerb.TheVariants as verbs

-- no operation with this verb is spelled behind it
abbrev pub HasNone : OpVerb → List (List ℕ) → Type 0
HasNone v words = (o : Op) → verb_of_op o ≡ v → ¬ SpellPieces words (op_rest o)

pub no_show_cell : (words : List (List ℕ)) → ((cell : CellName) → ¬ SpellPieces words (cell_pieces cell)) → HasNone verbs.ShowCell words
no_show_cell words n (op.ShowCell cell) e s = n cell s
no_show_cell words n o e s = absurd (cc (e))

pub no_inside : (v : Inside) (words : List (List ℕ)) → ((cell : CellName) (id : List ℕ) → ¬ SpellPieces words (cell_pieces cell ++ name id ∷ [])) → HasNone (verbs.InCell v) words
no_inside v words n (op.ShowNet cell net) e s = n cell net s
no_inside v words n (op.ShowInst cell inst) e s = n cell inst s
no_inside v words n (op.AddNet cell net) e s = n cell net s
no_inside v words n (op.DropNet cell net) e s = n cell net s
no_inside v words n (op.DropInst cell inst) e s = n cell inst s
no_inside v words n (op.Ungroup cell inst) e s = n cell inst s
no_inside v words n o e s = absurd (cc (e))

pub no_add_cell : (words : List (List ℕ)) → ((cell : CellName) (leaf : Bool) (ports : List PortDecl) → ¬ SpellPieces words (cell_pieces cell ++ said (leaf_word leaf) ∷ map port_piece ports))
    → HasNone verbs.AddCell words
no_add_cell words n (op.AddCell cell leaf ports) e s = n cell leaf ports s
no_add_cell words n o e s = absurd (cc (e))

pub no_add_inst : (words : List (List ℕ)) → ((cell : CellName) (inst : List ℕ) (of : CellName) → ¬ SpellPieces words (cell_pieces cell ++ name inst ∷ cell_pieces of)) → HasNone verbs.AddInst words
no_add_inst words n (op.AddInst cell inst of) e s = n cell inst of s
no_add_inst words n o e s = absurd (cc (e))

pub no_join : (words : List (List ℕ)) → ((cell : CellName) (net : List ℕ) (end : EndName) → ¬ SpellPieces words (cell_pieces cell ++ name net ∷ end_pieces end)) → HasNone verbs.Join words
no_join words n (op.Join cell net end) e s = n cell net end s
no_join words n o e s = absurd (cc (e))

pub no_cut : (words : List (List ℕ)) → ((cell : CellName) (end : EndName) → ¬ SpellPieces words (cell_pieces cell ++ end_pieces end)) → HasNone verbs.Cut words
no_cut words n (op.Cut cell end) e s = n cell end s
no_cut words n o e s = absurd (cc (e))

pub no_set_prop : (words : List (List ℕ)) → ((cell : CellName) (target : Target) (property : Property) → ¬ SpellPieces words (cell_pieces cell ++ target_pieces target ++ property_pieces property))
    → HasNone verbs.SetProp words
no_set_prop words n (op.SetProp cell target property) e s = n cell target property s
no_set_prop words n o e s = absurd (cc (e))

pub no_set_note : (words : List (List ℕ)) → ((path : List (List ℕ)) (property : Property) → ¬ SpellPieces words (path_piece path ∷ property_pieces property)) → HasNone verbs.SetNote words
no_set_note words n (op.SetNote path property) e s = n path property s
no_set_note words n o e s = absurd (cc (e))

pub no_drop_note : (words : List (List ℕ)) → ((path : List (List ℕ)) (key : List ℕ) → ¬ SpellPieces words (path_piece path ∷ name key ∷ [])) → HasNone verbs.DropNote words
no_drop_note words n (op.DropNote path key) e s = n path key s
no_drop_note words n o e s = absurd (cc (e))

pub no_uniquify : (words : List (List ℕ)) → ¬ SpellPieces words [] → HasNone verbs.Uniquify words
no_uniquify words n op.Uniquify e s = n s
no_uniquify words n o e s = absurd (cc (e))

pub no_unique_path : (words : List (List ℕ)) → ((path : List (List ℕ)) → ¬ SpellPieces words (path_piece path ∷ [])) → HasNone verbs.UniquePath words
no_unique_path words n (op.UniquePath path) e s = n path s
no_unique_path words n o e s = absurd (cc (e))
