-- Agreement on an object is that its value is one.
use Rattle.std.proofs.Common.{◌≡◌, ◌↔◌, List, Option, Some, None, refl, ap}
use Rattle.std.specs.Option.{option_map}
use Rattle.netlist_schema.specs.Design.{Design, lib_at}
use Rattle.netlist_schema.specs.Names.{cell_names}
use Rattle.netlist_schema.specs.Types.{CellBody, Contents as CellContents, Lib, Note, Object}
use Rattle.netlist_schema.specs.declared.ids.Object.TheVariants.{Directory, Interface, Contents, Notes}
use Rattle.edit_rules_spec.specs.Objects.{Agrees, of_directory, of_interface, of_contents, of_notes, value_of, face_at, inside_at}

lib_value : (o p : Option Lib) → option_map (λ (l : Lib). cell_names l.cells) o ≡ option_map (λ (l : Lib). cell_names l.cells) p ↔ option_map (λ (l : Lib). of_directory (cell_names l.cells)) o ≡ option_map (λ (l : Lib). of_directory (cell_names l.cells)) p
lib_value None None = (λ _. refl, λ _. refl)
lib_value None (Some m) = (λ same. cc, λ same. cc)
lib_value (Some l) None = (λ same. cc, λ same. cc)
lib_value (Some l) (Some m) = (λ same. cc, λ same. cc)

face_value : (o p : Option CellBody) → (o ≡ p) ↔ (option_map of_interface o ≡ option_map of_interface p)
face_value None None = (λ _. refl, λ _. refl)
face_value None (Some b) = (λ same. cc, λ same. cc)
face_value (Some a) None = (λ same. cc, λ same. cc)
face_value (Some a) (Some b) = (λ same. ap (option_map of_interface) same, λ same. cc)

inside_value : (o p : Option (Option CellContents)) → (o ≡ p) ↔ (option_map of_contents o ≡ option_map of_contents p)
inside_value None None = (λ _. refl, λ _. refl)
inside_value None (Some b) = (λ same. cc, λ same. cc)
inside_value (Some a) None = (λ same. cc, λ same. cc)
inside_value (Some a) (Some b) = (λ same. ap (option_map of_contents) same, λ same. cc)

pub agree_is_same_value : (d e : Design) (o : Object) → Agrees d e o ↔ (value_of d o ≡ value_of e o)
agree_is_same_value d e (Directory lib) = lib_value (lib_at d lib) (lib_at e lib)
agree_is_same_value d e (Interface id) = face_value (face_at d id) (face_at e id)
agree_is_same_value d e (Contents id) = inside_value (inside_at d id) (inside_at e id)
agree_is_same_value d e Notes = (λ same. ap (λ (notes : List Note). Some (of_notes notes)) same, λ same. cc)
