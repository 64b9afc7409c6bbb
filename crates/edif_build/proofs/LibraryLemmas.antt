-- The cells of a library, and libraries, one more at a time.
use Rattle.std.proofs.Common.{◌≡◌, ℕ, zero, suc, ◌+◌, ◌<◌, ◌≤◌, List, [], ◌∷◌, ◌++◌, map, length, refl, ap, sym, ◌∙◌, subst, inl, inr, Bool, true, false, Option, Some, None, arith, length-append}
use Rattle.std.specs.Prelude.{slice_get, ◌||◌}
use Rattle.std.specs.List.{AllByRecursion, Contains}
use Rattle.std.proofs.lemmas.List.{length-map, map-append}
use Rattle.netlist_schema.specs.Names.{AreDistinct, cell_names, lib_names}
use Rattle.netlist_schema.proofs.Lists.{all_push}
use Rattle.edif_spelling_spec.specs.Tree.{Bare, Placed, bare}
use Rattle.edif_spec.specs.Keyword.{row, Takes, name_definition, the, Many}
use Rattle.edif_spec.specs.Canonical.{library_keyword}
use Rattle.edif_spec.specs.Design as design
use Rattle.edif_spec.specs.Faults.{followers, place_of, those_of, token_kind, RowFault}
use Rattle.edif_spec.specs.Means.{MeansCell, MeansLibrary, is_library}
use Rattle.edif_spec.specs.Rows.{EachAfter, IsFormOf, has_keyword}
use Rattle.edif_spec.specs.Stands.{CellFault, LibraryFault}
use Rattle.edif_spec.specs.Stands as stands
use Rattle.edif_spec.specs.declared.keyword.Keyword.{Keyword}
use Rattle.edif_spec.specs.declared.keyword.Keyword.TheVariants as keywords
use Rattle.edif_spec.specs.declared.fault.ClashKind.TheVariants.{Duplicate}
use Rattle.edif_spec.specs.declared.fault.Kind.TheVariants.{BadForm}
use Rattle.edif_spec.specs.declared.fault.MeaningFault.{MeaningFault}
use Rattle.edif_spec.specs.declared.fault.MeaningFault.TheVariants.{Clash, OverLimit}
use Rattle.edif_spec.proofs.FaultForms.{filter_bare, after_length}
use Rattle.edif_spec.proofs.FaultPlaces.{after_later}
use Rattle.edif_tree.specs.Handles.{all}
use Rattle.edif_build.specs.Cells.{IsSoundCell, ReadCell}
use Rattle.edif_grammar.specs.Forms.{ArePartsOf}
use Rattle.edif_grammar.specs.declared.lent.Form.{Form}
use Rattle.edif_build.proofs.CellLemmas.{ThreeNodes, three_nodes}
use Rattle.edif_contents.specs.Known.{KnownLibs, OpensLib, AddsCell, with_cell}
use Rattle.edif_build.specs.Libraries.{CellsAre, CellsFail, FailsAt, IsSoundLib, LibsAre, LibsFail, ReadHead}
use Rattle.edif_parts.specs.Names.{Define, ids}
use Rattle.edif_build.specs.declared.cells.CellAt.{CellAt}
use Rattle.edif_build.specs.declared.libraries.Head.{Head}
use Rattle.edif_build.proofs.FilterSteps.{after_push}
use Rattle.edif_contents.proofs.KnownLemmas.{with_pushed}
use Rattle.edif_parts.proofs.NameLists.{define_push, ids_named, name_repeats, distinct_push, none_distinct}

abbrev MeansHere : List design.Lib → design.LibHead → List design.CellBody → Bare → design.CellBody → Type 0
MeansHere before head = λ cells. MeansCell (before ++ record { head = head; cells = cells } ∷ []) (Some (length before))

abbrev FailsHere : List design.Lib → design.LibHead → List design.CellBody → Placed → MeaningFault → Type 0
FailsHere before head = λ cells. CellFault (before ++ record { head = head; cells = cells } ∷ []) (Some (length before))

-- what a list has at the place behind the front
pub get_behind : {A : Type 0} (xs ys : List A) (x : A) (n : ℕ) → length xs ≡ n → slice_get (xs ++ x ∷ ys) n ≡ Some x
get_behind [] ys x zero e = refl
get_behind [] ys x (suc n) e = absurd (cc e)
get_behind (y ∷ xs) ys x zero e = absurd (omega arith)
get_behind (y ∷ xs) ys x (suc n) e = get_behind xs ys x n (omega arith)

-- a name that differs from those of a list, at its end
distinct_named : {A : Type 0} (g : A → List ℕ) (ns : List (List ℕ × ℕ)) (xs : List A) (x : A) → ids ns ≡ map g xs → AreDistinct (map g xs) → ¬ Contains (ids ns) (g x) → AreDistinct (map g (xs ++ x ∷ []))
distinct_named g ns xs x e d n =
    let P : List (List ℕ) → Type 0 = λ v. ¬ Contains v (g x) in
    let Q : List (List ℕ) → Type 0 = AreDistinct in
    subst Q (sym (map-append g xs (x ∷ []))) (distinct_push (map g xs) (g x) d (subst P e n))

-- the number of cells, of their names and of their forms
pub cells_count : (before : List design.Lib) (head : design.LibHead) (names : List (List ℕ × ℕ)) (ts : List Placed) (known : KnownLibs) (h : CellsAre before head names ts known) → (length known.cell_names ≡ length h.cells) × (length ts ≡ length h.cells)
cells_count before head names ts known h = (
  sym (length-map known.cell_names (λ (n : List ℕ × ℕ). n.0)) ∙ (ap length h.named ∙ length-map h.cells (λ (c : design.CellBody). c.name.id)),
  sym (length-map ts bare) ∙ after_length (MeansHere before head) [] (map bare ts) h.cells h.mean,
)

pub some_library : (before : List design.Lib) (head : design.LibHead) (names : List (List ℕ × ℕ)) (ts : List Placed) (known : KnownLibs) → CellsAre before head names ts known → 0 < length known.libs
some_library before head names ts known h =
    let l : length known.libs ≡ length before + 1 = ap length h.libs ∙ length-append before (record { head = head; cells = h.cells } ∷ []) in
    omega (arith, l)

-- one more cell
pub cell_added : (before : List design.Lib) (head : design.LibHead) (names : List (List ℕ × ℕ)) (ts : List Placed) (t : Placed) (old new : KnownLibs) (own : ℕ) (c : CellAt) → CellsAre before head names ts old → own ≡ length before → ReadCell old.libs (Some own) t c
    → length old.cell_names < 65536 → AddsCell old c.cell c.place new None → CellsAre before head names (ts ++ t ∷ []) new
cell_added before head names ts t old new own c h o r l a =
    let P : List design.Lib → ℕ → Type 0 = λ v w. MeansCell v (Some w) (bare t) c.cell in
    let m : MeansCell (before ++ record { head = head; cells = h.cells } ∷ []) (Some (length before)) (bare t) c.cell = subst (λ v. P v (length before)) h.libs (subst (λ w. P old.libs w) o r.mean) in
    let n = cells_count before head names ts old h in
    let n0 : length old.cell_names ≡ length h.cells = n.0 in
    let k : length (h.cells ++ c.cell ∷ []) ≡ length h.cells + 1 = length-append h.cells (c.cell ∷ []) in
    let D : List (List ℕ × ℕ) → Type 0 = λ v. Define (ts ++ t ∷ []) v in
    let I : List (List ℕ × ℕ) → Type 0 = λ v. ids v ≡ cell_names (h.cells ++ c.cell ∷ []) in
    let cn : new.cell_names ≡ old.cell_names ++ (c.cell.name.id, c.place) ∷ [] = ap (λ (v : KnownLibs). v.cell_names) a.1 in
    record {
      cells = h.cells ++ c.cell ∷ [];
      libs = ap (λ (v : KnownLibs). v.libs) a.1 ∙ ap (λ v. with_cell v c.cell) h.libs ∙ with_pushed before (record { head = head; cells = h.cells }) c.cell;
      lib_names = ap (λ (v : KnownLibs). v.lib_names) a.1 ∙ h.lib_names;
      mean = after_push (MeansHere before head) ts h.cells t c.cell h.mean m;
      sound = all_push IsSoundCell h.cells c.cell h.sound r.sound;
      define = subst D (sym cn) (define_push ts old.cell_names t (c.cell.name.id, c.place) h.define r.place);
      named = subst I (sym cn) (ids_named (λ (v : design.CellBody). v.name.id) old.cell_names h.cells c.cell c.place h.named);
      distinct = distinct_named (λ (v : design.CellBody). v.name.id) old.cell_names h.cells c.cell h.named h.distinct a.0;
      count = omega (arith, k, n0, l);
    }

-- what is wrong with it
pub cell_fault : (before : List design.Lib) (head : design.LibHead) (names : List (List ℕ × ℕ)) (ts : List Placed) (t : Placed) (old : KnownLibs) (own : ℕ) (f : MeaningFault) → CellsAre before head names ts old → own ≡ length before → CellFault old.libs (Some own) t f
    → FailsAt (CellsFail before head) ts t f
cell_fault before head names ts t old own f h o b = λ rest.
    let P : List design.Lib → ℕ → Type 0 = λ v w. CellFault v (Some w) t f in
    inl (after_later (MeansHere before head) (FailsHere before head) [] ts (t ∷ rest) h.cells f h.mean (inl (subst (λ v. P v (length before)) h.libs (subst (λ w. P old.libs w) o b))))

pub cell_repeats : (before : List design.Lib) (head : design.LibHead) (names : List (List ℕ × ℕ)) (ts : List Placed) (t : Placed) (old new : KnownLibs) (own : Option ℕ) (c : CellAt) (earlier : ℕ) → CellsAre before head names ts old → ReadCell old.libs own t c
    → AddsCell old c.cell c.place new (Some earlier) → FailsAt (CellsFail before head) ts t (Clash Duplicate c.place earlier)
cell_repeats before head names ts t old new own c earlier h r a = λ rest. inr (inl (name_repeats ts old.cell_names t rest c.cell.name.id earlier c.place h.define a.0 r.place))

pub cell_beyond : (before : List design.Lib) (head : design.LibHead) (names : List (List ℕ × ℕ)) (ts : List Placed) (t : Placed) (old : KnownLibs) (place : ℕ) → CellsAre before head names ts old → 65536 ≤ length old.cell_names → place ≡ place_of t
    → FailsAt (CellsFail before head) ts t (OverLimit 65536 place)
cell_beyond before head names ts t old place h l p = λ rest.
    let n = cells_count before head names ts old h in
    let n0 : length old.cell_names ≡ length h.cells = n.0 in
    let n1 : length ts ≡ length h.cells = n.1 in
    let k : length h.cells ≤ 65536 = h.count in
    let e : length ts ≡ 65536 = omega (arith, n0, n1, k, l) in
    inr (inr (t, get_behind ts rest t 65536 e, ap (λ v. OverLimit 65536 v) p))

-- a library just opened
pub opened : (old mid : KnownLibs) (head : design.LibHead) (place : ℕ) → OpensLib old head place mid None → CellsAre old.libs head (old.lib_names ++ (head.name.id, place) ∷ []) [] mid
opened old mid head place a =
    let e : mid.cell_names ≡ [] = ap (λ (v : KnownLibs). v.cell_names) a.1 in
    let D : List (List ℕ × ℕ) → Type 0 = λ v. Define [] v in
    record {
      cells = [];
      libs = ap (λ (v : KnownLibs). v.libs) a.1;
      lib_names = ap (λ (v : KnownLibs). v.lib_names) a.1;
      mean = tt;
      sound = tt;
      define = subst D (sym e) tt;
      named = ap ids e;
      distinct = none_distinct;
      count = omega arith;
    }

-- one more library
pub library_added : (ts : List Placed) (t : Placed) (old mid new : KnownLibs) (h : Head) → LibsAre ts old → ReadHead t h → length old.libs < 1024 → OpensLib old h.head h.place mid None
    → CellsAre old.libs h.head (old.lib_names ++ (h.head.name.id, h.place) ∷ []) (those_of keywords.Cell (followers keywords.Library t)) new → LibsAre (ts ++ t ∷ []) new
library_added ts t old mid new h k r n a c =
    let l : design.Lib = record { head = h.head; cells = c.cells } in
    let P : List Bare → Type 0 = λ v. EachAfter (MeansHere old.libs h.head) [] v c.cells in
    let m : MeansLibrary old.libs (bare t) l = record {
      name_part = bare r.name_part;
      level_part = bare r.level_part;
      technology_part = bare r.technology_part;
      inner = map bare (followers keywords.Library t);
      form = r.form;
      name = r.name;
      level = r.level;
      cells = subst P (filter_bare (has_keyword keywords.Cell) (followers keywords.Library t)) c.mean;
    } in
    let s : IsSoundLib l = record { name = r.typed; cells = c.sound; names = c.distinct; count = c.count } in
    let L : List design.Lib → Type 0 = λ v. EachAfter MeansLibrary [] (map bare (ts ++ t ∷ [])) v in
    let S : List design.Lib → Type 0 = λ v. AllByRecursion IsSoundLib v in
    let D : List (List ℕ × ℕ) → Type 0 = λ v. Define (ts ++ t ∷ []) v in
    let N : List (List ℕ × ℕ) → List design.Lib → Type 0 = λ v w. ids v ≡ lib_names w in
    let A : List design.Lib → Type 0 = λ v. AreDistinct (lib_names v) in
    let count : length new.libs ≡ length old.libs + 1 = ap length c.libs ∙ length-append old.libs (l ∷ []) in
    record {
      mean = subst L (sym c.libs) (after_push MeansLibrary ts old.libs t l k.mean m);
      sound = subst S (sym c.libs) (all_push IsSoundLib old.libs l k.sound s);
      define = subst D (sym c.lib_names) (define_push ts old.lib_names t (h.head.name.id, h.place) k.define r.place);
      names = subst (λ w. N new.lib_names w) (sym c.libs) (subst (λ v. N v (old.libs ++ l ∷ [])) (sym c.lib_names) (ids_named (λ (v : design.Lib). v.head.name.id) old.lib_names old.libs l h.place k.names));
      distinct = subst A (sym c.libs) (distinct_named (λ (v : design.Lib). v.head.name.id) old.lib_names old.libs l k.names k.distinct a.0);
      count = omega (arith, count, n);
    }

-- what is wrong with it
pub library_fault : (ts : List Placed) (t : Placed) (old : KnownLibs) (f : MeaningFault) → LibsAre ts old → LibraryFault old.libs t f → FailsAt LibsFail ts t f
library_fault ts t old f h b = λ rest. inl (after_later MeansLibrary LibraryFault [] ts (t ∷ rest) old.libs f h.mean (inl b))

pub library_repeats : (ts : List Placed) (t : Placed) (old new : KnownLibs) (h : Head) (earlier : ℕ) → LibsAre ts old → ReadHead t h → OpensLib old h.head h.place new (Some earlier) → FailsAt LibsFail ts t (Clash Duplicate h.place earlier)
library_repeats ts t old new h earlier k r a = λ rest. inr (inl (name_repeats ts old.lib_names t rest h.head.name.id earlier h.place k.define a.0 r.place))

pub library_beyond : (ts : List Placed) (t : Placed) (old : KnownLibs) (place : ℕ) → LibsAre ts old → 1024 ≤ length old.libs → place ≡ place_of t → FailsAt LibsFail ts t (OverLimit 1024 place)
library_beyond ts t old place h l p = λ rest.
    let n : length ts ≡ length old.libs = sym (length-map ts bare) ∙ after_length MeansLibrary [] (map bare ts) old.libs h.mean in
    let k : length old.libs ≤ 1024 = h.count in
    let e : length ts ≡ 1024 = omega (arith, n, k, l) in
    inr (inr (t, get_behind ts rest t 1024 e, ap (λ v. OverLimit 1024 v) p))

-- what is wrong with its cells
pub library_cells : (before : List design.Lib) (t : Placed) (h : Head) (f : MeaningFault) → ReadHead t h → CellsFail before h.head (those_of keywords.Cell (followers keywords.Library t)) f → LibraryFault before t f
library_cells before t h f r (inl b) = stands.library_cells (record { name_part = r.name_part; head = h.head; there = r.at_name; name = r.name; external = r.external; fault = b })
library_cells before t h f r (inr (inl b)) = stands.cell_again b
library_cells before t h f r (inr (inr b)) = stands.many_cells b

-- the keyword of a library
pub its_row : (e : Bool) → row (library_keyword e) ≡ Takes (name_definition ∷ the keywords.EdifLevel ∷ the keywords.Technology ∷ []) (Many keywords.Status ∷ Many keywords.Cell ∷ Many keywords.Comment ∷ Many keywords.UserData ∷ [])
its_row true = refl
its_row false = refl

pub its_kind : (e : Bool) → token_kind (library_keyword e) ≡ BadForm
its_kind true = refl
its_kind false = refl

pub its_followers : (e : Bool) (t : Placed) → followers (library_keyword e) t ≡ followers keywords.Library t
its_followers true t = refl
its_followers false t = refl

pub its_keyword : (e : Bool) (t : Bare) → is_library t ≡ true → e ≡ has_keyword keywords.External t → has_keyword (library_keyword e) t ≡ true
its_keyword true t h k = sym k
its_keyword false t h k = go (has_keyword keywords.Library t) (has_keyword keywords.External t) h k
  where
    go : (a b : Bool) → (a || b) ≡ true → false ≡ b → a ≡ true
    go true b h k = refl
    go false true h k = absurd (cc k)
    go false false h k = h

pub its_rows_fault : (e : Bool) (before : List design.Lib) (t : Placed) (f : MeaningFault) → has_keyword (library_keyword e) (bare t) ≡ true → RowFault (library_keyword e) t f → LibraryFault before t f
its_rows_fault false before t f h b = stands.library_row h b
its_rows_fault true before t f h b = stands.external_row h b

-- the nodes of its parts
pub record HeadNodes (e : Bool) (t : Placed) (p : Form) : Type 0 where
  pub three : ThreeNodes (library_keyword e) name_definition (the keywords.EdifLevel) (the keywords.Technology) t p
  pub form : (u v w : Placed) → slice_get (all p.fixed) 0 ≡ Some u → slice_get (all p.fixed) 1 ≡ Some v → slice_get (all p.fixed) 2 ≡ Some w → IsFormOf (library_keyword e) (bare t) (bare u ∷ bare v ∷ bare w ∷ []) (map bare (followers keywords.Library t))
  pub inner : all p.inner ≡ followers keywords.Library t

pub head_nodes : (e : Bool) (k : Keyword) (t : Placed) (p : Form) → k ≡ library_keyword e → ArePartsOf k t p → HeadNodes e t p
head_nodes e k t p q a =
    let P : Keyword → Type 0 = λ v. ArePartsOf v t p in
    let b : ArePartsOf (library_keyword e) t p = subst P q a in
    let n = three_nodes (library_keyword e) name_definition (the keywords.EdifLevel) (the keywords.Technology) (Many keywords.Status ∷ Many keywords.Cell ∷ Many keywords.Comment ∷ Many keywords.UserData ∷ []) t p (its_row e) (its_kind e) refl b in
    record {
      three = n;
      form = λ u v w g h i. (let F : List Placed → Type 0 = λ ts. IsFormOf (library_keyword e) (bare t) (bare u ∷ bare v ∷ bare w ∷ []) (map bare ts) in subst F (its_followers e t) (n.form u v w g h i));
      inner = b.inner ∙ its_followers e t;
    }

pub either_first : (a b : Bool) → a ≡ true → true ≡ (a || b)
either_first a b h = sym (ap (λ v. v || b) h)

pub either_second : (a b r : Bool) → a ≡ false → r ≡ b → r ≡ (a || b)
either_second a b r h k = k ∙ sym (ap (λ v. v || b) h)
