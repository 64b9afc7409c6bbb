-- The texts of replies, objects and events.
use Rattle.std.specs.Prelude.{ℕ, ◌+◌, true, false, Bool, List, [], ◌∷◌, ◌++◌, map, codes, decimal}
use Rattle.std.specs.Option.{option_map_or}
use Rattle.netlist_schema.specs.Design.{Design, lib_at}
use Rattle.netlist_schema.specs.Types.{CellId, LibId, Object}
use Rattle.netlist_schema.specs.declared.ids.Object.TheVariants as objects
use Rattle.edif_spec.specs.PropertyText.{property_text}
use Rattle.edit_rules_spec.specs.declared.reply.EndName.{EndName}
use Rattle.edit_spec.specs.declared.ops.Op.{Op}
use Rattle.edit_rules_spec.specs.declared.reply.Reply.{Reply}
use Rattle.edit_rules_spec.specs.declared.reply.Reply.TheVariants as reply
use Rattle.db_spec.specs.declared.event.Answer.{Answer}
use Rattle.db_spec.specs.declared.event.Answer.TheVariants as answer
use Rattle.db_spec.specs.declared.event.Call.{Call}
use Rattle.db_spec.specs.declared.event.Call.TheVariants as call
use Rattle.db_spec.specs.declared.event.Event.{Event}
use Rattle.flat_lines_spec.specs.Lines.{spaced, lib_text, cell_text}
use Rattle.script_spec.specs.Lines.{op_text}

-- words with a blank between each two, and a line feed
abbrev pub line : List (List ℕ) → List ℕ
line words = spaced words ++ 10 ∷ []

-- ---- replies

-- INST PORT BIT, with `-` for the cell's own port
abbrev pub end_words : EndName → List (List ℕ)
end_words end = option_map_or (λ inst. inst) end.inst (codes "-") ∷ end.port ∷ decimal end.bit ∷ []

-- each end behind a blank, and `;` behind all but the last
abbrev pub ends_text : List EndName → List ℕ
ends_text [] = []
ends_text (end ∷ []) = codes " " ++ spaced (end_words end)
ends_text (end ∷ next ∷ ends) = codes " " ++ spaced (end_words end) ++ codes ";" ++ ends_text (next ∷ ends)

abbrev pub leaf_words : Bool → List (List ℕ)
leaf_words true = codes "leaf" ∷ []
leaf_words false = []

-- a reply, without a line feed
abbrev pub reply_text : Reply → List ℕ
reply_text reply.Done = codes "done"
reply_text (reply.Cell ports insts nets leaf) =
    spaced (codes "cell" ∷ codes "ports" ∷ decimal ports ∷ codes "insts" ∷ decimal insts ∷ codes "nets" ∷ decimal nets ∷ leaf_words leaf)
reply_text (reply.Net ends) = codes "ends" ++ ends_text ends
reply_text (reply.Inst of properties) = spaced (codes "inst" ∷ of.lib ∷ of.cell ∷ map property_text properties)
reply_text reply.NoLib = codes "no-lib"
reply_text reply.NoCell = codes "no-cell"
reply_text reply.NoInst = codes "no-inst"
reply_text reply.NoNet = codes "no-net"
reply_text reply.NoPort = codes "no-port"
reply_text (reply.BadBit width) = spaced (codes "bad-bit" ∷ decimal width ∷ [])
reply_text reply.Taken = codes "taken"
reply_text (reply.AlreadyJoined net) = spaced (codes "already-joined" ∷ net ∷ [])
reply_text reply.NotJoined = codes "not-joined"
reply_text reply.IsLeaf = codes "is-leaf"
reply_text reply.IsCyclic = codes "is-cyclic"
reply_text reply.LaterLibrary = codes "later-library"
reply_text reply.NoPath = codes "no-path"
reply_text reply.NoNote = codes "no-note"
reply_text reply.NoTop = codes "no-top"
reply_text (reply.TooMany limit) = spaced (codes "too-many" ∷ decimal limit ∷ [])
reply_text (reply.Copies count) = spaced (codes "copies" ∷ decimal count ∷ [])

-- ---- objects

-- the identifier of a library of the design; nothing where there is no such library
abbrev pub library_text : Design → LibId → List ℕ
library_text d lib = option_map_or (λ found. found.head.name.id) (lib_at d lib) []

-- LIB CELL
abbrev pub cell_words : Design → CellId → List (List ℕ)
cell_words d id = lib_text d id ∷ cell_text d id ∷ []

-- a cell as seen from outside, and what is in it
abbrev pub interface_words : Design → CellId → List (List ℕ)
interface_words d id = codes "interface" ∷ cell_words d id

abbrev pub contents_words : Design → CellId → List (List ℕ)
contents_words d id = codes "contents" ∷ cell_words d id

-- OBJECT
abbrev pub object_words : Design → Object → List (List ℕ)
object_words d (objects.Directory lib) = codes "directory" ∷ library_text d lib ∷ []
object_words d (objects.Interface id) = interface_words d id
object_words d (objects.Contents id) = contents_words d id
object_words d objects.Notes = codes "notes" ∷ []

abbrev pub object_text : Design → Object → List ℕ
object_text d object = spaced (object_words d object)

-- ---- events

abbrev pub call_words : Call → List (List ℕ)
call_words call.Pin = codes "pin" ∷ []
call_words (call.PinAt version) = codes "pin-at" ∷ decimal version ∷ []
call_words (call.Release pin) = codes "release" ∷ codes "pin" ∷ decimal pin ∷ []
call_words call.Collect = codes "collect" ∷ []
call_words (call.Commit pin ops) = codes "commit" ∷ codes "pin" ∷ decimal pin ∷ []

-- a conflict: the object, and the commit that wrote it
abbrev pub conflict_words : Design → Object → ℕ → List (List ℕ)
conflict_words d object version = codes "conflict" ∷ object_words d object ++ codes "version" ∷ decimal version ∷ []

abbrev pub answer_words : Design → Answer → List (List ℕ)
answer_words d (answer.Pinned pin version) = codes "pin" ∷ decimal pin ∷ codes "version" ∷ decimal version ∷ []
answer_words d (answer.NoVersion last) = codes "no-version" ∷ decimal last ∷ []
answer_words d (answer.Gone least) = codes "gone" ∷ decimal least ∷ []
answer_words d answer.Released = codes "released" ∷ []
answer_words d (answer.Collected count) = codes "collected" ∷ decimal count ∷ []
answer_words d (answer.Committed version replies) = codes "committed" ∷ decimal version ∷ []
answer_words d (answer.Conflict object version) = conflict_words d object version

-- the operations of a call, and the replies of an answer
abbrev pub ops_of : Call → List Op
ops_of (call.Commit pin ops) = ops
ops_of call = []

abbrev pub replies_of : Answer → List Reply
replies_of (answer.Committed version replies) = replies
replies_of answer = []

-- each operation on a line behind a blank, and its reply where there is one
abbrev pub op_lines : List Op → List Reply → List ℕ
op_lines [] replies = []
op_lines (op ∷ ops) [] = codes " " ++ op_text op ++ 10 ∷ op_lines ops []
op_lines (op ∷ ops) (reply ∷ replies) = codes " " ++ op_text op ++ codes " -> " ++ reply_text reply ++ 10 ∷ op_lines ops replies

-- an event with its number in the history: a line, and the operations below it
abbrev pub event_text : Design → ℕ → Event → List ℕ
event_text d number event =
    line (decimal number ∷ codes "caller" ∷ decimal event.caller ∷ call_words event.call ++ codes "->" ∷ answer_words d event.answer)
    ++ op_lines (ops_of event.call) (replies_of event.answer)

-- the events, numbered from this number on
abbrev pub event_texts : Design → ℕ → List Event → List ℕ
event_texts d number [] = []
event_texts d number (event ∷ events) = event_text d number event ++ event_texts d (number + 1) events
