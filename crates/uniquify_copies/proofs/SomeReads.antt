-- Reading one after the other.
use Rattle.std.proofs.Common.{refl, ◌∙◌}
use Rattle.edit_cells.specs.State.{State, HasReadSome}
use Rattle.edit_cells.proofs.Growing.{prefix_refl, prefix_twice}

pub some_none : (s : State) → HasReadSome s s
some_none s = record { base = refl; design = refl; written = refl; prefix = prefix_refl s.reads }

pub some_then : (s t u : State) → HasReadSome s t → HasReadSome t u → HasReadSome s u
some_then s t u first second = record {
  base = second.base ∙ first.base;
  design = second.design ∙ first.design;
  written = second.written ∙ first.written;
  prefix = prefix_twice s.reads t.reads u.reads first.prefix second.prefix;
}
