-- The name that a look from outside shows.
use Rattle.std.proofs.Common.{◌≡◌, [], Option, Some, None, ap, ◌∙◌}
use Rattle.std.specs.Prelude.{IsSome}
use Rattle.std.specs.Option.{option_map, option_map_or}
use Rattle.netlist_schema.specs.Types.{CellBody, Name}
use Rattle.edit_cells.specs.Parts.{Seen, seen_of, shown_by}
use Rattle.edit_cells.specs.declared.face.Face.{Face}

abbrev pub no_name : Name
no_name = record { id = []; shown = None }

pub name_seen : (face : Option Face) (o : Option CellBody) (name : Name) → option_map shown_by face ≡ option_map seen_of o → Some name ≡ option_map (λ f. f.name.now) face → name ≡ option_map_or (λ body. body.name) o no_name
name_seen None None name seen is = cc
name_seen None (Some body) name seen is = cc
name_seen (Some face) None name seen is = cc
name_seen (Some face) (Some body) name seen is = let same : name ≡ face.name.now = cc in let shown : shown_by face ≡ seen_of body = cc in same ∙ ap (λ (s : Seen). s.name) shown

pub is_seen : (face : Option Face) (o : Option CellBody) → option_map shown_by face ≡ option_map seen_of o → None ≡ option_map (λ f. f.name.now) face → IsSome o → ⊥
is_seen None None seen is some = cc
is_seen None (Some body) seen is some = cc
is_seen (Some face) o seen is some = cc
