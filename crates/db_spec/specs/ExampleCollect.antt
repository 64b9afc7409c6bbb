-- A worked history: a version is kept while it is pinned, and dropped by the first collect after that.
use Rattle.std.specs.Prelude.{List, [], ◌∷◌, codes}
use Rattle.netlist_schema.specs.Design.{Design}
use Rattle.edit_rules_spec.specs.declared.reply.Reply.TheVariants.{Done}
use Rattle.db_spec.specs.declared.event.Answer.TheVariants.{Pinned, NoVersion, Gone, Released, Collected, Committed}
use Rattle.db_spec.specs.declared.event.Call.TheVariants.{Pin, PinAt, Release, Collect, Commit}
use Rattle.db_spec.specs.declared.event.Event.{Event}
use Rattle.db_spec.specs.Example.{event, empty_cell, design_of, net_in}

-- a cell with nothing in it
abbrev pub one_cell : Design
one_cell = design_of (empty_cell (codes "A") ∷ [])

-- caller 0 holds version 0 while caller 1 makes version 1
abbrev pub collected_versions : List Event
collected_versions =
    event 0 Pin (Pinned 0 0)
    ∷ event 1 Pin (Pinned 1 0)
    ∷ event 1 (Commit 1 (net_in (codes "A") ∷ [])) (Committed 1 (Done ∷ []))
    ∷ event 1 (Release 1) Released
    ∷ event 1 Collect (Collected 0)
    ∷ event 1 (PinAt 0) (Pinned 2 0)
    ∷ event 1 (Release 2) Released
    ∷ event 0 (Release 0) Released
    ∷ event 1 Collect (Collected 1)
    ∷ event 1 (PinAt 0) (Gone 1)
    ∷ event 1 (PinAt 2) (NoVersion 1)
    ∷ event 1 (PinAt 1) (Pinned 3 1)
    ∷ []
