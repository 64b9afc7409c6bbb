-- Notes with one set, and without one.
use Rattle.std.specs.Prelude.{◌==◌, ◌&&◌, ℕ, Bool, not, List, Option, length}
use Rattle.netlist_schema.specs.Types.{Note, Property}
use Rattle.edit_rules_spec.specs.declared.reply.Reply.{Reply}
use Rattle.edit_spec.specs.SetNote.{no_set_note}

-- the refusals to set it, where there is a top from which the path leads or not
abbrev pub no_note_set : Bool → List Note → List (List ℕ) → Property → List (Option Reply)
no_note_set leads notes path property =
    no_set_note (not (length path == 0) && leads) notes path property
