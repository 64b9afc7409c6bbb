-- A full library takes no other cell.
use Rattle.std.proofs.Common.{◌≡◌, ℕ, Bool, false, ◌||◌, List, [], ◌∷◌, Option, Some, length, map, ap, ◌∙◌}
use Rattle.std.specs.List.{list_any}
use Rattle.std.specs.Option.{option_map, option_to_list}
use Rattle.std.specs.Prelude.{nat_lt, sum_by}
use Rattle.netlist_schema.specs.Design.{Design, port_width}
use Rattle.netlist_schema.specs.Types.{LibId}
use Rattle.edit_rules_spec.specs.Edit.{fresh}
use Rattle.edit_rules_spec.specs.Find.{is_same}
use Rattle.edit_rules_spec.specs.Rule.{ruled, unless, first, refuse, too_many}
use Rattle.edit_rules_spec.specs.declared.reply.CellName.{CellName}
use Rattle.edit_rules_spec.specs.declared.reply.Reply.TheVariants.{Done, NoLib, Taken, TooMany}
use Rattle.edit_spec.specs.AddCell.{names_in, new_port, new_cell, has_twice, add_cell}
use Rattle.edit_spec.specs.WorkedLimits.{IsFullLibrary}
use Rattle.edit_spec.specs.declared.ops.PortDecl.{PortDecl}

full : (lib : LibId) (names : List (List ℕ)) (name : List ℕ) (leaf : Bool) (ports : List PortDecl) → list_any (λ other. is_same other name) names ≡ false → has_twice (map (λ (port : PortDecl). port.name) ports) ≡ false → length names ≡ 65536 → (ruled (add_cell (Some lib) names name leaf ports)).reply ≡ TooMany 65536
full lib names name leaf ports free once many =
    λ i. (unless (first (refuse false NoLib ∷ refuse (free i || once i) Taken ∷ too_many (many i) 65536 ∷ refuse (nat_lt 65536 (length ports)) (TooMany 65536) ∷ refuse (nat_lt 1048576 (sum_by port_width (map new_port ports))) (TooMany 1048576) ∷ [])) Done
    (option_to_list (option_map (λ l. fresh (record { lib = l; slot = length names }) (new_cell name leaf ports)) (Some lib)))).reply

pub full_library : (d : Design) (cell : CellName) (leaf : Bool) (ports : List PortDecl) → IsFullLibrary d cell leaf ports
full_library d cell leaf ports lib is free once many =
    ap (λ (o : Option LibId). (ruled (add_cell o (names_in d o) cell.cell leaf ports)).reply) is ∙ full lib (names_in d (Some lib)) cell.cell leaf ports free once many
