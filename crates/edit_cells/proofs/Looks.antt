-- What is seen of a cell that is there.
use Rattle.std.proofs.Common.{◌≡◌, Some, None, sym, ap, ◌∙◌}
use Rattle.std.specs.Option.{option_map}
use Rattle.netlist_schema.specs.Design.{Design, cell_at}
use Rattle.netlist_schema.specs.Types.{CellBody, CellId}
use Rattle.edit_cells.specs.Parts.{Seen, seen_at, seen_of}

pub found_face : (d : Design) (id : CellId) (body : CellBody) (seen : Seen) → cell_at d id ≡ Some body → seen ≡ seen_of body → Some seen ≡ seen_at d id
found_face d id body seen there is = ap (λ (s : Seen). Some s) is ∙ ap (option_map seen_of) (sym there)

pub no_face : (d : Design) (id : CellId) → cell_at d id ≡ None → None ≡ seen_at d id
no_face d id none = ap (option_map seen_of) (sym none)
