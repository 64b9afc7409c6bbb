-- A worked history: two callers place each other's cells in the same version, and the second one to commit is refused.
use Rattle.std.specs.Prelude.{◌≡◌, ℕ, List, [], ◌∷◌, ◌++◌, codes}
use Rattle.netlist_schema.specs.Design.{Design}
use Rattle.netlist_schema.specs.declared.ids.Object.TheVariants.{Contents}
use Rattle.edit_spec.specs.Step.{run}
use Rattle.edit_spec.specs.declared.ops.Op.{Op}
use Rattle.edit_rules_spec.specs.declared.reply.Reply.{Reply}
use Rattle.edit_rules_spec.specs.declared.reply.Reply.TheVariants.{Done, IsCyclic}
use Rattle.db_spec.specs.declared.event.Answer.TheVariants.{Pinned, Released, Committed, Conflict}
use Rattle.db_spec.specs.declared.event.Call.TheVariants.{Pin, Release, Commit}
use Rattle.db_spec.specs.declared.event.Event.{Event}
use Rattle.db_spec.specs.Example.{event, empty_cell, design_of, at_place, place}
use Rattle.db_spec.specs.History.{Legal, state_after, version_at}
use Rattle.db_spec.specs.State.{live_pin}

-- two cells with nothing in them
abbrev pub two_cells : Design
two_cells = design_of (empty_cell (codes "A") ∷ empty_cell (codes "B") ∷ [])

-- caller 0 places B in A
abbrev pub b_in_a : List Op
b_in_a = place (codes "B") (codes "A") ∷ []

-- caller 1 places A in B
abbrev pub a_in_b : List Op
a_in_b = place (codes "A") (codes "B") ∷ []

-- both pin version 0 and commit; the second commit read the contents of A, which the first one wrote
abbrev pub refused_commit : List Event
refused_commit =
    event 0 Pin (Pinned 0 0)
    ∷ event 1 Pin (Pinned 1 0)
    ∷ event 0 (Commit 0 b_in_a) (Committed 1 (Done ∷ []))
    ∷ event 1 (Commit 1 a_in_b) (Conflict (Contents (at_place 0)) 1)
    ∷ event 1 (Release 1) Released
    ∷ event 1 Pin (Pinned 2 1)
    ∷ []

-- the releases of the pins that are then live
abbrev pub last_releases : List Event
last_releases = event 0 (Release 0) Released ∷ event 1 (Release 2) Released ∷ []

-- the replies to operations on a version of this history
abbrev pub tried : ℕ → List Op → List Reply
tried v ops = (run (version_at two_cells refused_commit v) ops).replies

-- the history is legal, the replies are these, and so many events and pins there are
pub record IsRefusedCommit : Type 0 where
  pub legal : Legal two_cells refused_commit
  -- on version 0 each is done alone, and on version 1 the second one would place a cell below itself
  pub first_alone : tried 0 b_in_a ≡ Done ∷ []
  pub second_alone : tried 0 a_in_b ≡ Done ∷ []
  pub second_again : tried 1 a_in_b ≡ IsCyclic ∷ []
  -- six events, and one pin of each caller
  pub six : (state_after two_cells refused_commit).events ≡ 6
  pub live : (state_after two_cells refused_commit).pins ≡ live_pin 0 0 0 ∷ live_pin 2 1 1 ∷ []
  -- and one more event for the release of each
  pub ends : Legal two_cells (refused_commit ++ last_releases)
  pub eight : (state_after two_cells (refused_commit ++ last_releases)).events ≡ 8
  pub none_live : (state_after two_cells (refused_commit ++ last_releases)).pins ≡ []
