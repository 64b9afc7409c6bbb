-- What the code writes of an event, one after another.
use Rattle.std.specs.Prelude.{ℕ, List, [], ◌∷◌, ◌++◌, Option, None, Some, codes, decimal}
use Rattle.edit_spec.specs.declared.ops.Op.{Op}
use Rattle.edit_rules_spec.specs.declared.reply.Reply.{Reply}
use Rattle.db_spec.specs.declared.event.Event.{Event}
use Rattle.netlist_schema.specs.Design.{Design}
use Rattle.script_spec.specs.Texts.{answer_words, call_words, reply_text}
use Rattle.script_texts.specs.Parts.{behind_blanks, op_words}

-- the words of an event behind its number
abbrev pub event_words : Design → Event → List (List ℕ)
event_words d event = codes "caller" ∷ decimal event.caller ∷ call_words event.call ++ codes "->" ∷ answer_words d event.answer

-- a reply behind an arrow, where there is one
abbrev pub told_text : Option Reply → List ℕ
told_text None = []
told_text (Some reply) = codes " -> " ++ reply_text reply

-- an operation in a line below an event, with its reply where there is one
abbrev pub op_line : Op → Option Reply → List ℕ
op_line op told = behind_blanks (op_words op) ++ (told_text told ++ 10 ∷ [])
