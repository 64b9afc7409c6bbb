-- The laws of names.
use Rattle.std.proofs.Common.{◌≡◌, ℕ, List, [], map, refl, sym, ap, subst, ◌∙◌, inl, inr, arith, Some, None, Option, slice_get}
use Rattle.std.specs.Prelude.{◌↔◌, ◌⊎◌, IsSome, option_and_then}
use Rattle.std.specs.List.{AllByRecursion}
use Rattle.std.specs.Option.{option_map_or}
use Rattle.std.proofs.lemmas.Option.{none-some}
use Rattle.netlist_schema.specs.Design.{Design}
use Rattle.netlist_schema.specs.Hierarchy.{insts_at}
use Rattle.netlist_schema.specs.Ident.{IsIdentifier}
use Rattle.netlist_schema.specs.Names.{AreDistinct}
use Rattle.netlist_schema.specs.Types.{CellId, Inst, Net, Port, TopHead}
use Rattle.netlist_schema.specs.Valid.{IsValid}
use Rattle.netlist_schema.proofs.Lists.{get_mapped, some_of}
use Rattle.flat_spec.specs.Effective.{names_along}
use Rattle.flat_spec.specs.Paths.{cell_along, nets_at}
use Rattle.flat_lines_spec.specs.Lines.{names_text, path_text}
use Rattle.edit_rules_spec.specs.Find.{place_of}
use Rattle.edit_rules_spec.proofs.Named.{named_item}
use Rattle.script_spec.specs.Lines.{path_piece}
use Rattle.script_spec.specs.Pieces.{SpellsPiece}
use Rattle.ask_names.specs.Places.{names_in, places_along, ports_at}
use Rattle.ask_names.specs.Told.{InstsAreTold, NetsAreTold, PathsAreFound, PathsAreTold, PortsAreTold}
use Rattle.ask_names.proofs.AlongLemmas.{ids_along, names_of_places, places_of_names}
use Rattle.ask_names.proofs.IndexLemmas.{insts_differ, nets_differ, ports_differ}
use Rattle.ask_names.proofs.OrderLemmas.{at_place}
use Rattle.ask_names.proofs.TextLemmas.{flat_names, script_names, text_of_names}

-- ---- places of names

place_told : {X : Type 0} (f : X → List ℕ) (xs : List X) (name : List ℕ) (place : ℕ) → AreDistinct (map f xs)
    → (place_of name (map f xs) ≡ Some place) ↔ ((x : X) × (slice_get xs place ≡ Some x) × (f x ≡ name))
place_told {X} f xs name place differ = (there, back)
  where
    there : place_of name (map f xs) ≡ Some place → (x : X) × (slice_get xs place ≡ Some x) × (f x ≡ name)
    there is =
        let item = named_item f name 0 place xs is in
        let same : place ≡ item.1 = omega (arith, item.2) in
        (item.0, ap (slice_get xs) same ∙ item.3, item.4)

    back : (x : X) × (slice_get xs place ≡ Some x) × (f x ≡ name) → place_of name (map f xs) ≡ Some place
    back has = at_place (map f xs) name place differ (get_mapped f xs place has.0 has.1 ∙ ap (λ (v : List ℕ). Some v) has.2)

pub insts_told : InstsAreTold
insts_told d c name place valid = place_told (λ (v : Inst). v.name.id) (insts_at d c) name place (insts_differ d c valid)

pub nets_told : NetsAreTold
nets_told d c name place valid = place_told (λ (v : Net). v.name.id) (nets_at d c) name place (nets_differ d c valid)

pub ports_told : PortsAreTold
ports_told d c name place valid = place_told (λ (v : Port). v.name.id) (ports_at d c) name place (ports_differ d c valid)

-- ---- paths of texts

-- with a top, and without
abbrev Told : Design → Option TopHead → List ℕ → List ℕ → Type 0
Told d top text path = (option_and_then (λ (t : TopHead). places_along d t.cell (names_in text)) top ≡ Some path)
    ↔ (IsSome (option_and_then (λ (t : TopHead). cell_along d t.cell path) top)
    × ((text ≡ names_text (option_map_or (λ (t : TopHead). names_along d t.cell path) top [])) ⊎ SpellsPiece text (path_piece (option_map_or (λ (t : TopHead). names_along d t.cell path) top []))))

told_at : (d : Design) (top : Option TopHead) (text path : List ℕ) → IsValid d → Told d top text path
told_at d None text path valid = (λ is. absurd (none-some path is), λ has. absurd (cc (has.0)))
told_at d (Some t) text path valid = (there, back)
  where
    ids : AllByRecursion IsIdentifier (names_along d t.cell path)
    ids = ids_along d t.cell path valid

    there : places_along d t.cell (names_in text) ≡ Some path
        → IsSome (cell_along d t.cell path) × ((text ≡ names_text (names_along d t.cell path)) ⊎ SpellsPiece text (path_piece (names_along d t.cell path)))
    there is =
        let found = names_of_places d t.cell (names_in text) path is in (
          subst (λ (o : Option CellId). IsSome o) (sym found.1) refl,
          text_of_names text (names_along d t.cell path) ids (sym found.2),
        )

    same_names : (text ≡ names_text (names_along d t.cell path)) ⊎ SpellsPiece text (path_piece (names_along d t.cell path)) → names_in text ≡ names_along d t.cell path
    same_names (inl shown) = ap names_in shown ∙ flat_names (names_along d t.cell path) ids
    same_names (inr spelled) = script_names text (names_along d t.cell path) spelled

    back : IsSome (cell_along d t.cell path) × ((text ≡ names_text (names_along d t.cell path)) ⊎ SpellsPiece text (path_piece (names_along d t.cell path)))
        → places_along d t.cell (names_in text) ≡ Some path
    back has =
        let end = some_of (cell_along d t.cell path) has.0 in
        ap (places_along d t.cell) (same_names has.1) ∙ places_of_names d t.cell path end.0 valid end.1

pub paths_told : PathsAreTold
paths_told d text path valid = told_at d d.top text path valid

pub paths_found : PathsAreFound
paths_found d path valid there = (paths_told d (path_text d path) path valid).1 (there, inl refl)
