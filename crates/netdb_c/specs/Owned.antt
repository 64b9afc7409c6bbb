-- What a handle owns.
use Rattle.std.specs.Prelude.{Bool, true, false, Option, None, Some}
use base.Fml.{Fml, fsep, feq}
use mir.Syntax.{Ty}
use denote.RawPtr.{Ptr}
use Rattle.std_alloc.specs.Box.Ownership.{box_owns}
use Rattle.std_heap.specs.contracts.GlobalAllocator.TheImpl.{ghosts}
use Rattle.std_heap.specs.declared.Global.{Global}
use Rattle.netdb_calls.specs.contracts.opened.Opened.{the_row}

-- the one heap
abbrev pub heap : Global
heap = record { memory = record { seal = tt } }

-- the right to free a block of the heap
abbrev pub heap_token : Ty → Ptr → Fml
heap_token = ghosts.dealloc_token heap

-- a box on the heap, with this in it
abbrev pub boxed : Ptr → the_row.Denot → Fml
boxed = box_owns heap_token the_row

-- an open handle owns its box, and another one owns nothing
abbrev pub owned : Bool → Ptr → Option the_row.Denot → Fml
owned is_open p None = feq Bool is_open false
owned is_open p (Some x) = fsep (feq Bool is_open true) (boxed p x)
