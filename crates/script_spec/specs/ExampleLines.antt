-- Worked lines: operations and their replies as an event shows them, and lines that are no script.
use Rattle.std.specs.Prelude.{◌≡◌, List, [], ◌∷◌, ◌++◌, map, codes}
use Rattle.edit_spec.specs.Worked.{ShownReply, worked_replies, ungroup_replies}
use Rattle.edit_spec.specs.declared.ops.Op.TheVariants.{SetProp}
use Rattle.edit_spec.specs.declared.ops.Target.TheVariants as targets
use Rattle.flat_spec.specs.ExampleParts.{says}
use Rattle.db_spec.specs.Example.{in_w}
use Rattle.script_spec.specs.Example.{text_of}
use Rattle.script_spec.specs.ScriptText.{IsFirstBad, Says, lines_of}
use Rattle.script_spec.specs.declared.script.Step.TheVariants.{Begin, Run}
use Rattle.script_spec.specs.Texts.{op_lines}

-- operations of each kind, with their replies
abbrev pub shown_replies : List ShownReply
shown_replies = worked_replies ++ ungroup_replies

abbrev pub OperationsAreShown : Type 0
OperationsAreShown = op_lines (map (λ (line : ShownReply). line.0) shown_replies) (map (λ (line : ShownReply). line.1) shown_replies) ≡ text_of (
    codes " show-cell x T -> no-lib"
    ∷ codes " show-cell w Q -> no-cell"
    ∷ codes " show-cell w T -> cell ports 0 insts 2 nets 3"
    ∷ codes " show-net w T N -> no-net"
    ∷ codes " show-net w T Y -> ends i q 0; i_j a 0"
    ∷ codes " show-inst w T z -> no-inst"
    ∷ codes " show-inst w T i -> inst w C"
    ∷ codes " add-cell w p leaf -> taken"
    ∷ codes " add-cell w D empty a:in b:out:4 -> done"
    ∷ codes " add-net w P n -> is-leaf"
    ∷ codes " add-net w T x -> taken"
    ∷ codes " add-net w T n -> done"
    ∷ codes " drop-net w T n -> done"
    ∷ codes " drop-net w T n -> no-net"
    ∷ codes " add-inst w C t w T -> is-cyclic"
    ∷ codes " add-inst w T d w D -> done"
    ∷ codes " join w T X z a 0 -> no-inst"
    ∷ codes " join w T X d c 0 -> no-port"
    ∷ codes " join w T X d b 4 -> bad-bit 4"
    ∷ codes " join w T X i_j a 0 -> already-joined Y"
    ∷ codes " cut w T i_j a 0 -> done"
    ∷ codes " cut w T i_j a 0 -> not-joined"
    ∷ codes " join w T X i_j a 0 -> done"
    ∷ codes " drop-inst w T d -> done"
    ∷ codes " drop-inst w T d -> no-inst"
    ∷ codes " set-prop w T net X K true -> done"
    ∷ codes " set-prop w T net N K true -> no-net"
    ∷ codes " set-note i/j K int 1 -> done"
    ∷ codes " set-note i/zz K int 1 -> no-path"
    ∷ codes " drop-note i/j K -> done"
    ∷ codes " drop-note i/j K -> no-note"
    ∷ codes " unique-path i -> copies 1"
    ∷ codes " unique-path i/zz -> no-path"
    ∷ codes " uniquify -> copies 0"
    ∷ codes " set-note i/j K int 1 -> done"
    ∷ codes " set-note i K int 3 -> done"
    ∷ codes " ungroup w T i_j -> is-leaf"
    ∷ codes " ungroup w T i -> done"
    ∷ codes " ungroup w T i -> no-inst"
    ∷ codes " show-cell w T -> cell ports 0 insts 3 nets 3"
    ∷ codes " show-net w T X -> ends i_j a 0; i_j_1 a 0"
    ∷ codes " show-net w T Y -> no-net"
    ∷ codes " show-net w T i_s -> ends i_k a 0"
    ∷ codes " drop-note i K -> no-note"
    ∷ codes " drop-note i_j_1 K -> done"
    ∷ [])

-- a line that no row has, a commit where nothing is held, and one retry too many
pub record HaveBadLines : Type 0 where
  pub unknown : IsFirstBad (text_of (codes "begin" ∷ codes "frob" ∷ [])) 2
  pub misplaced : IsFirstBad (text_of (codes "commit" ∷ [])) 1
  pub too_many : IsFirstBad (text_of (codes "begin retry 17" ∷ [])) 1

-- blanks of both kinds and leading zeros; and a string that holds a blank and an escape, with blanks behind it
pub record AreReadAlike : Type 0 where
  pub zeros : Says (codes " \tbegin  retry\t007 ") (Begin 7)
  pub string : Says (codes "set-prop w A cell K str \"a b%37%\"  ") (Run (SetProp (in_w (codes "A")) targets.Whole (says (codes "K") (codes "a b%"))))
  pub commented : lines_of (codes "# all\r\n\npin\n") ≡ codes "# all" ∷ [] ∷ codes "pin" ∷ []
