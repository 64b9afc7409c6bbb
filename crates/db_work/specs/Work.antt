-- Work on a version: what its fields stand for.
use Rattle.netlist_schema.specs.Valid.{IsValid}
use Rattle.edit_cells.specs.State.{State}
use Rattle.db_work.specs.declared.work.Work.TheInside.{Inside as WorkInside}

-- what contracts see: the design of the version, the design as it is now, and what was read and written
abbrev pub state_of : WorkInside → State
state_of work = record { base = work.draft.base; design = work.draft.design; reads = work.reads; written = work.written }

-- the design is valid
abbrev pub IsWork : WorkInside → Type 0
IsWork work = IsValid work.draft.design
