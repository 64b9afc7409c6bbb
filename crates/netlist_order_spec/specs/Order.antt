-- The order of the cells of a library: children first, and else as they stand.
use Rattle.std.specs.Prelude.{ℕ, zero, suc, List, [], ◌∷◌, ◌++◌, length, Bool, not, ◌||◌, ◌&&◌, Option, Some, None, option_map, unwrap_or, nat_eq, if◌then◌else◌}
use Rattle.std.specs.List.{list_all, list_any}
use Rattle.netlist_schema.specs.Design.{insts_of}
use Rattle.netlist_schema.specs.Types.{CellBody, Inst}

-- the placed cell is written, or stands in another library
abbrev pub is_written : ℕ → List ℕ → Inst → Bool
is_written own written i = not (nat_eq i.of.lib.0 own) || list_any (nat_eq i.of.slot) written

-- the cell is not written yet, and its children in its library all are
abbrev pub is_ready : ℕ → List ℕ → ℕ → CellBody → Bool
is_ready own written slot c = not (list_any (nat_eq slot) written) && list_all (is_written own written) (insts_of c)

-- the first cell that is ready, from a place on
abbrev pub first_ready : ℕ → List ℕ → ℕ → List CellBody → Option ℕ
first_ready own written slot [] = None
first_ready own written slot (c ∷ cs) = if is_ready own written slot c then Some slot else first_ready own written (suc slot) cs

-- repeatedly the first cell that is ready, at most n more
abbrev pub order_from : ℕ → List CellBody → ℕ → List ℕ → List ℕ
order_from own cells zero written = []
order_from own cells (suc n) written = unwrap_or (option_map (λ slot. slot ∷ order_from own cells n (written ++ slot ∷ [])) (first_ready own written 0 cells)) []

-- the order in which the cells of a library are written
abbrev pub order_of : ℕ → List CellBody → List ℕ
order_of own cells = order_from own cells (length cells) []
