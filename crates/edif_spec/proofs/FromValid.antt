-- A valid design is valid by recursion on its lists.
use Rattle.std.proofs.Common.{◌≡◌, ◌≢◌, ℕ, zero, suc, ◌<◌, List, [], ◌∷◌, length, refl, ap, sym, ◌∙◌, subst, Bool, true, false, Option, Some, None, arith, slice_index_or}
use Rattle.std.specs.Prelude.{IfSome, IsSomeAnd, nat_eq, slice_get, option_map, unwrap_or}
use Rattle.std.specs.List.{All, AllByRecursion, list_any, flat_map}
use Rattle.std.specs.Option.{option_map_or}
use Rattle.std.proofs.lemmas.Bool.Decides.{nat_tests}
use Rattle.std.proofs.lemmas.List.Elements.{recursion_from_All}
use Rattle.netlist_schema.specs.Design.{cell_at, insts_in, nets_in, insts_of, nets_of, ends_of}
use Rattle.netlist_schema.specs.Hierarchy.{IsCell, insts_at, Resolves}
use Rattle.netlist_schema.specs.Names.{AreDistinct, HasDistinctKeys, cell_names}
use Rattle.netlist_schema.specs.Typed.{IsTypedName, IsTypedProperty, IsTypedPort, IsTypedInst, IsTypedNet, IsTypedCell, IsTypedNote}
use Rattle.netlist_schema.specs.Valid.{IsValid, IsValidCell, IsEndAt, IsEndOf, HasBit, IsNoteBelow}
use Rattle.netlist_schema.proofs.Lists.{all_weaker, all_at, all_from_places}
use Rattle.edif_spec.proofs.ArrangeOrder.{zip_all}
use Rattle.edif_spec.proofs.CellPlaces.{all_append_parts}
use Rattle.edif_spec.specs.Canonical.{ports_of_end}
use Rattle.edif_spec.specs.Means.{equal}
use Rattle.edif_spec.specs.Design as design
use Rattle.edif_spec.proofs.Both.{both}
use Rattle.edif_spec.proofs.ValidForms.{distinct, ValidPort, ValidInst, ValidEnd, ValidNet, ValidContents, ValidCell, ValidLib, ValidPath, ValidNote, ValidRoot, Valid}

-- Names that differ, as a test.
pub equal_says : (m n : List ℕ) → equal m n ≡ true → m ≡ n
equal_says [] [] h = refl
equal_says [] (c ∷ n) h = absurd (cc h)
equal_says (b ∷ m) [] h = absurd (cc h)
equal_says (b ∷ m) (c ∷ n) h =
    let t = both (nat_eq b c) (equal m n) h in
    let first : b ≡ c = byte b c t.0 in
    let rest : m ≡ n = equal_says m n t.1 in
    cc
  where
    byte : (b c : ℕ) → nat_eq b c ≡ true → b ≡ c
    byte b c h = grind (arith, nat_tests)

different : (m n : List ℕ) → m ≢ n → equal m n ≡ false
different m n h = go (equal m n) refl
  where
    go : (b : Bool) → equal m n ≡ b → b ≡ false
    go true e = absurd (h (equal_says m n e))
    go false e = refl

differs_tail : (n : List ℕ) (ns : List (List ℕ)) → AreDistinct (n ∷ ns) → AreDistinct ns
differs_tail n ns h = λ i j d l k. h (suc i) (suc j) d (omega arith) (omega arith)

differs_head : (n : List ℕ) (ns : List (List ℕ)) → AreDistinct (n ∷ ns) → All (λ m. n ≢ m) ns
differs_head n ns h = λ k d l. h 0 (suc k) d (omega arith) (omega arith)

none_equal : (n : List ℕ) (ns : List (List ℕ)) → AllByRecursion (λ m. n ≢ m) ns → list_any (equal n) ns ≡ false
none_equal n [] h = refl
none_equal n (m ∷ ns) h = rw (different n m h.0) (none_equal n ns h.1)

pub distinct_names : (ns : List (List ℕ)) → AreDistinct ns → distinct ns ≡ true
distinct_names [] h = refl
distinct_names (n ∷ ns) h = rw (none_equal n ns (recursion_from_All (λ m. n ≢ m) ns (differs_head n ns h))) (distinct_names ns (differs_tail n ns h))

-- what holds of all elements, and what follows of each
each_from : {A : Type 0} (P Q : A → Type 0) (xs : List A) → ((x : A) → P x → Q x) → All P xs → AllByRecursion Q xs
each_from P Q xs f h = all_weaker P Q xs f (recursion_from_All P xs h)

both_from : {A : Type 0} (P Q R : A → Type 0) (xs : List A) → ((x : A) → P x → Q x → R x) → All P xs → All Q xs → AllByRecursion R xs
both_from P Q R xs f h k = all_weaker (λ x. P x × Q x) R xs (λ x b. f x b.0 b.1) (zip_all P Q xs (recursion_from_All P xs h) (recursion_from_All Q xs k))

within : {A : Type 0} (xs : List A) (i : ℕ) (P : A → Type 0) → IsSomeAnd (slice_get xs i) P → i < length xs
within [] i P h = absurd h
within (x ∷ xs) zero P h = omega arith
within (x ∷ xs) (suc i) P h = let l : i < length xs = within xs i P h in omega arith

-- Cells.
valid_port : (p : design.Port) → IsTypedPort p → ValidPort p
valid_port p t = record { array = t.array; properties = recursion_from_All IsTypedProperty p.properties t.properties }

-- the ports of the cell that an instance places
ports_through : (libs : List design.Lib) (own : List design.Port) (insts : List design.Inst) (place port bit : ℕ) →
    IsSomeAnd (slice_get insts place) (λ inst. IsSomeAnd (design.cell_at libs inst.of) (λ of. HasBit of.ports port bit)) → HasBit (ports_of_end libs own insts (Some place)) port bit
ports_through libs own insts place port bit h = go (slice_get insts place) h
  where
    cell : (o : Option design.CellBody) → IsSomeAnd o (λ of. HasBit of.ports port bit) → HasBit (unwrap_or (option_map (λ (c : design.CellBody). c.ports) o) []) port bit
    cell None k = absurd k
    cell (Some c) k = k

    go : (o : Option design.Inst) → IsSomeAnd o (λ inst. IsSomeAnd (design.cell_at libs inst.of) (λ of. HasBit of.ports port bit)) → HasBit (unwrap_or (option_map (λ (x : design.Inst). design.ports_at libs x.of) o) []) port bit
    go None k = absurd k
    go (Some x) k = cell (design.cell_at libs x.of) k

valid_end_at : (d : design.Design) (body : design.CellBody) (insts : List design.Inst) → insts_of body ≡ insts → (inst : Option ℕ) (port bit : ℕ) → IsEndAt d body inst port bit → IfSome inst (λ i. i < length insts) × HasBit (ports_of_end d.libs body.ports insts inst) port bit
valid_end_at d body insts e None port bit h = (tt, h)
valid_end_at d body insts e (Some place) port bit h =
    let Through : design.Inst → Type 0 = λ inst. IsSomeAnd (cell_at d inst.of) (λ of. HasBit of.ports port bit) in
    let there : IsSomeAnd (slice_get insts place) Through = subst (λ (xs : List design.Inst). IsSomeAnd (slice_get xs place) Through) e h in
    (within insts place Through there, ports_through d.libs body.ports insts place port bit there)

valid_end : (d : design.Design) (body : design.CellBody) (insts : List design.Inst) → insts_of body ≡ insts → (e : design.End) → IsEndOf d body e → ValidEnd d.libs body.ports insts e
valid_end d body insts is e h = let r = valid_end_at d body insts is e.inst e.port e.bit h in record { inst = r.0; bit = r.1 }

valid_nets : (libs : List design.Lib) (ports : List design.Port) (insts : List design.Inst) (nets : List design.Net) → AllByRecursion IsTypedNet nets → AllByRecursion (ValidEnd libs ports insts) (flat_map (λ net. net.ends) nets) → AllByRecursion (ValidNet libs ports insts) nets
valid_nets libs ports insts [] t h = tt
valid_nets libs ports insts (n ∷ nets) t h =
    let r = all_append_parts (ValidEnd libs ports insts) n.ends (flat_map (λ net. net.ends) nets) h in
    (record { ends = r.0; properties = recursion_from_All IsTypedProperty n.properties t.0.properties }, valid_nets libs ports insts nets t.1 r.1)

valid_contents : (d : design.Design) (id : design.CellId) (body : design.CellBody) (o : Option design.Contents) → body.contents ≡ o → IsTypedCell body → IsValidCell d id body → IfSome o (ValidContents d.libs body.ports)
valid_contents d id body None e t v = tt
valid_contents d id body (Some x) e t v =
    let insts : insts_of body ≡ x.insts = ap insts_in e in
    let nets : nets_of body ≡ x.nets = ap nets_in e in
    let ends : ends_of body ≡ flat_map (λ net. net.ends) x.nets = ap (flat_map (λ (net : design.Net). net.ends)) nets in
    let there = subst (λ (is : List design.Inst). All (λ inst. IsCell d inst.of) is) insts v.placed in
    let typed_insts = subst (λ (is : List design.Inst). All IsTypedInst is) insts t.insts in
    let typed_nets = subst (λ (ns : List design.Net). All IsTypedNet ns) nets t.nets in
    let names = subst (λ (is : List design.Inst). AreDistinct (design.inst_ids is)) insts v.names.insts in
    let each_end = subst (λ (es : List design.End). All (IsEndOf d body) es) ends v.ends in
    record {
      insts = both_from (λ (inst : design.Inst). IsCell d inst.of) IsTypedInst (ValidInst d.libs) x.insts
          (λ inst is typed. record { of = is; properties = recursion_from_All IsTypedProperty inst.properties typed.properties }) there typed_insts;
      nets = valid_nets d.libs body.ports x.insts x.nets (recursion_from_All IsTypedNet x.nets typed_nets)
          (each_from (IsEndOf d body) (ValidEnd d.libs body.ports x.insts) (flat_map (λ net. net.ends) x.nets) (valid_end d body x.insts insts) each_end);
      inst_names = distinct_names (design.inst_ids x.insts) names;
    }

valid_cell : (d : design.Design) (id : design.CellId) (body : design.CellBody) → IsTypedCell body → IsValidCell d id body → ValidCell d.libs body
valid_cell d id body t v = record {
  properties = recursion_from_All IsTypedProperty body.properties t.properties;
  view_properties = recursion_from_All IsTypedProperty body.view_properties t.view_properties;
  interface_properties = recursion_from_All IsTypedProperty body.interface_properties t.interface_properties;
  ports = each_from IsTypedPort ValidPort body.ports valid_port t.ports;
  port_names = distinct_names (design.port_ids body.ports) v.names.ports;
  contents = valid_contents d id body body.contents refl t v;
}

-- Libraries.
abbrev place : ℕ → ℕ → design.CellId
place lib slot = record { lib = record { 0 = lib }; slot = slot }

valid_lib : (d : design.Design) (i : ℕ) (l : design.Lib) → IsValid d → slice_get d.libs i ≡ Some l → ValidLib d.libs l
valid_lib d i l v e =
    let typed : AllByRecursion IsTypedCell l.cells = recursion_from_All IsTypedCell l.cells (all_at (λ (x : design.Lib). All IsTypedCell x.cells) d.libs i l (recursion_from_All (λ (x : design.Lib). All IsTypedCell x.cells) d.libs v.typed.cells) e) in
    let names : AreDistinct (cell_names l.cells) = all_at (λ (x : design.Lib). AreDistinct (cell_names x.cells)) d.libs i l (recursion_from_All (λ (x : design.Lib). AreDistinct (cell_names x.cells)) d.libs v.names.cells) e in
    record {
      cells = all_from_places (ValidCell d.libs) l.cells (λ j c f.
          valid_cell d (place i j) c (all_at IsTypedCell l.cells j c typed f) (v.cells (place i j) c (ap (λ (o : Option design.Lib). slice_get (option_map_or (λ lib. lib.cells) o []) j) e ∙ f)));
      cell_names = distinct_names (cell_names l.cells) names;
    }

-- Notes.
insts_there : (libs : List design.Lib) (id : design.CellId) → design.insts_at libs id ≡ option_map_or insts_of (design.cell_at libs id) []
insts_there libs id = go (design.cell_at libs id)
  where
    go : (o : Option design.CellBody) → unwrap_or (option_map insts_of o) [] ≡ option_map_or insts_of o []
    go None = refl
    go (Some c) = refl

found_at : {A : Type 0} (xs : List A) (k : ℕ) (x : A) → k < length xs → slice_index_or xs k x ≡ x → slice_get xs k ≡ Some x
found_at [] k x l e = absurd (omega arith)
found_at (y ∷ xs) zero x l e = ap Some e
found_at (y ∷ xs) (suc k) x l e = found_at xs k x (omega arith) e

valid_path : (d : design.Design) (id : design.CellId) (path : List (List ℕ)) → Resolves d id path → ValidPath d.libs id path
valid_path d id [] h = tt
valid_path d id (n ∷ path) h = (
  h.1.0,
  h.0,
  ap (λ (xs : List design.Inst). slice_get xs h.1.0) (insts_there d.libs id) ∙ found_at (insts_at d id) h.1.0 h.0 h.1.1 h.1.2,
  sym h.2,
  valid_path d h.0.of path h.3,
)

valid_root : (d : design.Design) (o : Option design.TopHead) → IfSome o (λ top. IsTypedName top.name × All IsTypedProperty top.properties) → IfSome o (λ top. IsCell d top.cell × HasDistinctKeys top.properties) → IfSome o (λ top. All (IsNoteBelow d top.cell) d.notes) → All IsTypedNote d.notes → IfSome o (ValidRoot d.libs d.notes)
valid_root d None t c n m = tt
valid_root d (Some top) t c n m = record {
  top = record { cell = c.0; properties = recursion_from_All IsTypedProperty top.properties t.1 };
  noted = both_from (IsNoteBelow d top.cell) IsTypedNote (ValidNote d.libs top.cell) d.notes (λ note below typed. record { some_step = below.has_step; path = valid_path d top.cell note.path below.resolves; property = typed.property }) n m;
}

-- a valid design
pub from_valid : (d : design.Design) → IsValid d → Valid d
from_valid d v = record {
  libs = all_from_places (ValidLib d.libs) d.libs (λ i l e. valid_lib d i l v e);
  lib_names = distinct_names (design.lib_ids d.libs) v.names.libs;
  root = valid_root d d.top v.typed.top v.top v.notes v.typed.notes;
  valid = v;
}
