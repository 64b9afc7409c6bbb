-- What an operation sees is the same in two designs that agree on what it needs.
use Rattle.std.proofs.Common.{◌≡◌, ◌↔◌, ◌⊎◌, inl, inr, ℕ, ◌+◌, Bool, true, false, cond, List, [], ◌∷◌, ◌++◌, map, Option, Some, None, refl, sym, ap, subst, ◌∙◌}
use Rattle.std.specs.Option.{option_map, option_map_or, option_and_then}
use Rattle.std.specs.List.{position_from}
use Rattle.netlist_schema.specs.Design.{Design, lib_at, cell_at, cells_in, insts_in}
use Rattle.netlist_schema.specs.Names.{cell_names, lib_names}
use Rattle.netlist_schema.specs.Types.{CellBody, CellId, Contents, Inst, Lib, LibHead, LibId, Object}
use Rattle.netlist_schema.specs.declared.ids.Object.TheVariants.{Directory}
use Rattle.edit_rules_spec.specs.Find.{is_name, place_of, lib_named, cell_in, cell_named, inst_named}
use Rattle.edit_rules_spec.specs.Objects.{Agrees, AgreesOn, Grown, IsPrefix, face_at, face_object, contents_object}
use Rattle.edit_rules_spec.specs.Reading.{IsFor, IsForName, IsInside, IsForCell, IsFaceOf, IsForEnd}
use Rattle.edit_rules_spec.specs.Seen.{Named, named, contents_at, inside, placed, ports_seen, end_ports}
use Rattle.edit_rules_spec.specs.declared.reply.CellName.{CellName}

-- a place that is found in a list is found in a longer one
found_in_longer : (b : Bool) (i k : ℕ) (rest more : Option ℕ) → (rest ≡ Some k → more ≡ Some k) → cond b (Some i) rest ≡ Some k → cond b (Some i) more ≡ Some k
found_in_longer true i k rest more follows is = is
found_in_longer false i k rest more follows is = follows is

pub position_from-append : {X : Type 0} (test : X → Bool) (i k : ℕ) (xs more : List X) → position_from test i xs ≡ Some k → position_from test i (xs ++ more) ≡ Some k
position_from-append test i k [] more is = cc
position_from-append test i k (x ∷ xs) more is =
    found_in_longer (test x) i k (position_from test (i + 1) xs) (position_from test (i + 1) (xs ++ more)) (position_from-append test (i + 1) k xs more) is

place_in_longer : (name : List ℕ) (names longer : List (List ℕ)) (k : ℕ) → IsPrefix names longer → place_of name names ≡ Some k → place_of name longer ≡ Some k
place_in_longer name names longer k prefix is =
    subst (λ (ns : List (List ℕ)). place_of name ns ≡ Some k) (sym prefix.1) (position_from-append (λ (other : List ℕ). is_name other name) 0 k names prefix.0 is)

names_of_heads : (libs : List Lib) → map (λ (head : LibHead). head.name.id) (map (λ (lib : Lib). lib.head) libs) ≡ lib_names libs
names_of_heads [] = refl
names_of_heads (lib ∷ libs) = ap (λ (names : List (List ℕ)). lib.head.name.id ∷ names) (names_of_heads libs)

lib_names_same : (d e : Design) → Grown d e → lib_names d.libs ≡ lib_names e.libs
lib_names_same d e grown = sym (names_of_heads d.libs) ∙ ap (map (λ (head : LibHead). head.name.id)) grown.libs ∙ names_of_heads e.libs

pub lib_named_same : (d e : Design) (name : List ℕ) → Grown d e → lib_named d name ≡ lib_named e name
lib_named_same d e name grown = ap (λ (names : List (List ℕ)). option_map (λ place. let id : LibId = record { 0 = place } in id) (place_of name names)) (lib_names_same d e grown)

-- a directory on which two designs agree
pub names_of_directory : (o p : Option Lib) → option_map (λ (l : Lib). cell_names l.cells) o ≡ option_map (λ (l : Lib). cell_names l.cells) p → cell_names (option_map_or (λ (l : Lib). l.cells) o []) ≡ cell_names (option_map_or (λ (l : Lib). l.cells) p [])
names_of_directory None None same = refl
names_of_directory None (Some m) same = cc
names_of_directory (Some l) None same = cc
names_of_directory (Some l) (Some m) same = cc

in_lib : (d e : Design) (name : List ℕ) (lib : LibId) → Grown d e → (place : Option ℕ) → place_of name (cell_names (cells_in d lib)) ≡ place → AgreesOn d e (IsFor (option_map (λ slot. record { lib = lib; slot = slot }) place) (Some lib)) → place_of name (cell_names (cells_in e lib)) ≡ place
in_lib d e name lib grown None is agree =
    ap (place_of name) (sym (names_of_directory (lib_at d lib) (lib_at e lib) (agree (Directory lib) refl))) ∙ is
in_lib d e name lib grown (Some k) is agree = place_in_longer name (cell_names (cells_in d lib)) (cell_names (cells_in e lib)) k (grown.directories lib) is

cell_in_same : (d e : Design) (name : List ℕ) (lib : Option LibId) → Grown d e → AgreesOn d e (IsFor (option_and_then (cell_in d name) lib) lib) → option_and_then (cell_in d name) lib ≡ option_and_then (cell_in e name) lib
cell_in_same d e name None grown agree = refl
cell_in_same d e name (Some lib) grown agree =
    ap (λ (place : Option ℕ). option_map (λ slot. let id : CellId = record { lib = lib; slot = slot } in id) place) (sym (in_lib d e name lib grown (place_of name (cell_names (cells_in d lib))) refl agree))

pub cell_named_same : (d e : Design) (name : CellName) → Grown d e → AgreesOn d e (IsForName d name) → cell_named d name ≡ cell_named e name
cell_named_same d e name grown agree =
    cell_in_same d e name.cell (lib_named d name.lib) grown agree ∙ ap (λ (lib : Option LibId). option_and_then (cell_in e name.cell) lib) (lib_named_same d e name.lib grown)

-- what is seen of the cell that is found, from outside and inside
face_same : (d e : Design) (id : Option CellId) (lib : Option LibId) → AgreesOn d e (IsFor id lib) → option_and_then (face_at d) id ≡ option_and_then (face_at e) id
face_same d e None lib agree = refl
face_same d e (Some id) lib agree = agree (face_object id) refl

pub named_same : (d e : Design) (name : CellName) → Grown d e → AgreesOn d e (IsForName d name) → named d name ≡ named e name
named_same d e name grown agree = λ i. record {
  lib = lib_named_same d e name.lib grown i;
  cell = cell_named_same d e name grown agree i;
  face = (face_same d e (cell_named d name) (lib_named d name.lib) agree ∙ ap (option_and_then (face_at e)) (cell_named_same d e name grown agree)) i;
}

contents_of : (o : Option CellBody) → option_and_then (λ body. body.contents) o ≡ option_and_then (λ contents. contents) (option_map (λ body. body.contents) o)
contents_of None = refl
contents_of (Some body) = refl

pub contents_same : (d e : Design) (id : CellId) → Agrees d e (contents_object id) → contents_at d id ≡ contents_at e id
contents_same d e id agree = contents_of (cell_at d id) ∙ ap (option_and_then (λ (contents : Option Contents). contents)) agree ∙ sym (contents_of (cell_at e id))

pub found_contents_same : (d e : Design) (id : Option CellId) → AgreesOn d e (IsInside id) → option_and_then (contents_at d) id ≡ option_and_then (contents_at e) id
found_contents_same d e None agree = refl
found_contents_same d e (Some id) agree = contents_same d e id (agree (contents_object id) refl)

-- where a cell is seen whole
pub by_name : (d e : Design) (name : CellName) → AgreesOn d e (IsForCell d name) → AgreesOn d e (IsForName d name)
by_name d e name agree o is = agree o (inl is)

pub inside_same : (d e : Design) (name : CellName) → Grown d e → AgreesOn d e (IsForCell d name) → inside d name ≡ inside e name
inside_same d e name grown agree =
    found_contents_same d e (cell_named d name) (λ o is. agree o (inr is)) ∙ ap (option_and_then (contents_at e)) (cell_named_same d e name grown (by_name d e name agree))

pub placed_same : (d e : Design) (name : CellName) (inst : List ℕ) → Grown d e → AgreesOn d e (IsForCell d name) → placed d name inst ≡ placed e name inst
placed_same d e name inst grown agree = ap (λ (contents : Option Contents). inst_named inst (insts_in contents)) (inside_same d e name grown agree)

pub face_of_placed_same : (d e : Design) (inst : Option Inst) → AgreesOn d e (IsFaceOf inst) → option_and_then (λ i. face_at d i.of) inst ≡ option_and_then (λ i. face_at e i.of) inst
face_of_placed_same d e None agree = refl
face_of_placed_same d e (Some inst) agree = agree (face_object inst.of) refl

pub end_ports_same : (d e : Design) (name : CellName) (inst : Option (List ℕ)) → Grown d e → AgreesOn d e (IsForCell d name) → AgreesOn d e (IsForEnd d name inst) → end_ports d name inst ≡ end_ports e name inst
end_ports_same d e name None grown agree end_agree = ap (λ (at : Named). ports_seen at.face) (named_same d e name grown (by_name d e name agree))
end_ports_same d e name (Some inst) grown agree end_agree =
    ap ports_seen (face_of_placed_same d e (placed d name inst) end_agree ∙ ap (option_and_then (λ (i : Inst). face_at e i.of)) (placed_same d e name inst grown agree))

-- the same objects are needed
pub both_ways : {S : Type 0} (P : S → Type 0) (s t : S) → s ≡ t → P s ↔ P t
both_ways P s t same = (subst P same, subst P (sym same))

pub name_needs_same : (d e : Design) (name : CellName) (o : Object) → Grown d e → AgreesOn d e (IsForName d name) → IsForName d name o ↔ IsForName e name o
name_needs_same d e name o grown agree = both_ways (λ (at : Named). IsFor at.cell at.lib o) (named d name) (named e name) (named_same d e name grown agree)

pub cell_needs_same : (d e : Design) (name : CellName) (o : Object) → Grown d e → AgreesOn d e (IsForCell d name) → IsForCell d name o ↔ IsForCell e name o
cell_needs_same d e name o grown agree =
    both_ways (λ (at : Named). IsFor at.cell at.lib o ⊎ IsInside at.cell o) (named d name) (named e name) (named_same d e name grown (by_name d e name agree))

pub end_needs_same : (d e : Design) (name : CellName) (inst : Option (List ℕ)) (o : Object) → Grown d e → AgreesOn d e (IsForCell d name) → IsForEnd d name inst o ↔ IsForEnd e name inst o
end_needs_same d e name None o grown agree = (λ is. is, λ is. is)
end_needs_same d e name (Some inst) o grown agree = both_ways (λ (i : Option Inst). IsFaceOf i o) (placed d name inst) (placed e name inst) (placed_same d e name inst grown agree)
