-- The canonical tree of a valid design whose cells are in order means the design.
use Rattle.std.proofs.Common.{◌≡◌, ℕ, zero, suc, List, [], ◌∷◌, ◌++◌, map, length, refl, ap, sym, ◌∙◌, true, Option, Some, None, append-nil, append_assoc}
use Rattle.std.specs.Prelude.{IfSome, codes, slice_get, option_map, unwrap_or, filter}
use Rattle.std.specs.List.{AllByRecursion}
use Rattle.std.proofs.lemmas.List.Elements.{filter-append}
use Rattle.netlist_schema.proofs.Lists.{some_of, get_mapped, all_at}
use Rattle.edif_spelling_spec.specs.Tree.{Bare, word}
use Rattle.edif_spec.proofs.CellPlaces.{lib_of_cell}
use Rattle.edif_spec.specs.Keyword.{Many}
use Rattle.edif_spec.specs.Rows.{Perhaps}
use Rattle.edif_spec.specs.Canonical.{perhaps, name_tree, property_tree, cell_ref_tree, contents_tree, design_tree, note_tree, tree_of}
use Rattle.edif_spec.specs.Means.{meant, MeansPath, MeansNote, MeansDesign, MeansContents, MeansFile, is_note}
use Rattle.netlist_schema.specs.Design.{insts_in}
use Rattle.netlist_schema.specs.Valid.{IsValid}
use Rattle.std.proofs.lemmas.List.{map-append}
use Rattle.edif_spec.specs.Defined.{AllAfter, DefinedBefore}
use Rattle.edif_spec.proofs.ValidForms.{distinct, Valid, ValidLib, ValidCell, ValidTop, ValidPath, ValidNote, ValidRoot, ValidContents}
use Rattle.edif_spec.proofs.FromValid.{from_valid}
use Rattle.edif_spec.specs.declared.keyword.Keyword.{Keyword}
use Rattle.edif_spec.specs.declared.keyword.Keyword.TheVariants as keywords
use Rattle.edif_spec.specs.Design as design
use Rattle.edif_spec.proofs.Groups.{joined, Grouped, those_joined, joined_follows}
use Rattle.edif_spec.proofs.Followers.{all_kept, none_kept, each_map}
use Rattle.edif_spec.proofs.Meanings.{name_fits, name_meant, group_of, properties_meant, property_meant, ContentsMeant}
use Rattle.edif_spec.proofs.Scopes.{meant_self, distinct_front, IsScope}
use Rattle.edif_spec.proofs.ContentsMeanings.{cell_ref_meant, DefinedIn, PortsDiffer, contents_meant}
use Rattle.edif_spec.proofs.Files.{CellMeant, file_meant}

-- facts by what stands before
after_map : {A : Type 0} (P Q : List A → A → Type 0) (before xs : List A) → AllAfter P before xs → ((b : List A) (x : A) (after : List A) → b ++ x ∷ after ≡ before ++ xs → P b x → Q b x) → AllAfter Q before xs
after_map P Q before [] h f = tt
after_map P Q before (x ∷ xs) h f = (f before x xs refl h.0, after_map P Q (before ++ x ∷ []) xs h.1 (λ b y after e p. f b y after (e ∙ append_assoc before (x ∷ []) xs) p))

after_both : {A : Type 0} (P Q : List A → A → Type 0) (before xs : List A) → AllAfter P before xs → AllAfter Q before xs → AllAfter (λ b x. P b x × Q b x) before xs
after_both P Q before [] h k = tt
after_both P Q before (x ∷ xs) h k = ((h.0, k.0), after_both P Q (before ++ x ∷ []) xs h.1 k.1)

after_all : {A : Type 0} (P : A → Type 0) (before xs : List A) → AllByRecursion P xs → AllAfter (λ b x. P x) before xs
after_all P before [] h = tt
after_all P before (x ∷ xs) h = (h.0, after_all P (before ++ x ∷ []) xs h.1)

valid_cell_at : (d : design.Design) (id : design.CellId) (c : design.CellBody) → Valid d → design.cell_at d.libs id ≡ Some c → ValidCell d.libs c
valid_cell_at d id c v e =
    let l = lib_of_cell d.libs id c e in
    let w = all_at (ValidLib d.libs) d.libs id.lib.0 l.0 v.libs l.1 in
    all_at (ValidCell d.libs) l.0.cells id.slot c w.cells l.2

ports_of_valid : (d : design.Design) → Valid d → PortsDiffer d.libs
ports_of_valid d v id c e = (valid_cell_at d id c v e).port_names

-- The libraries before one and the cells before one in it are a scope.
abbrev cut : design.LibHead → List design.CellBody → design.Lib
cut head cells = record { head = head; cells = cells }

scope_at : (before after : List design.Lib) (l : design.Lib) (cells rest : List design.CellBody) → l.cells ≡ cells ++ rest → (i : ℕ) (x : design.Lib) → slice_get (before ++ cut l.head cells ∷ []) i ≡ Some x →
    (m : design.Lib) × (slice_get (before ++ l ∷ after) i ≡ Some m) × (m.head ≡ x.head) × ((more : List design.CellBody) × (m.cells ≡ x.cells ++ more))
scope_at [] after l cells rest f zero x e = let w : cut l.head cells ≡ x = cc e in (l, refl, ap (λ (v : design.Lib). v.head) w, (rest, f ∙ ap (λ (v : design.Lib). v.cells ++ rest) w))
scope_at [] after l cells rest f (suc i) x e = absurd (cc e)
scope_at (b ∷ before) after l cells rest f zero x e = let w : b ≡ x = cc e in (b, refl, ap (λ (v : design.Lib). v.head) w, ([], ap (λ (v : design.Lib). v.cells) w ∙ sym (append-nil x.cells)))
scope_at (b ∷ before) after l cells rest f (suc i) x e = scope_at before after l cells rest f i x e

scope_names : (before after : List design.Lib) (l : design.Lib) (cells : List design.CellBody) → design.lib_ids (before ++ l ∷ after) ≡ design.lib_ids (before ++ cut l.head cells ∷ []) ++ design.lib_ids after
scope_names [] after l cells = refl
scope_names (b ∷ before) after l cells = ap (λ v. b.head.name.id ∷ v) (scope_names before after l cells)

is_scope : (d : design.Design) (before after : List design.Lib) (l : design.Lib) (cells rest : List design.CellBody) → Valid d → before ++ l ∷ after ≡ d.libs → l.cells ≡ cells ++ rest → IsScope (before ++ cut l.head cells ∷ []) d.libs
is_scope d before after l cells rest v e f =
    let at : (i : ℕ) (x : design.Lib) → slice_get (before ++ cut l.head cells ∷ []) i ≡ Some x → (m : design.Lib) × (slice_get d.libs i ≡ Some m) × (m.head ≡ x.head) × ((more : List design.CellBody) × (m.cells ≡ x.cells ++ more)) =
    λ i x g. let m = scope_at before after l cells rest f i x g in (m.0, ap (λ u. slice_get u i) (sym e) ∙ m.1, m.2, m.3) in
    record {
      at = at;
      lib_names = distinct_front (design.lib_ids (before ++ cut l.head cells ∷ [])) (design.lib_ids after) (ap distinct (sym (scope_names before after l cells) ∙ ap design.lib_ids e) ∙ v.lib_names);
      cell_names = λ i x g. let m = at i x g in let w = all_at (ValidLib d.libs) d.libs i m.0 v.libs m.1 in
          distinct_front (map (λ c. c.name.id) x.cells) (map (λ c. c.name.id) m.3.0) (ap distinct (sym (map-append (λ (c : design.CellBody). c.name.id) x.cells m.3.0) ∙ ap (map (λ c. c.name.id)) (sym m.3.1)) ∙ w.cell_names);
    }

-- a cell's contents mean what they were made of
cell_part : (d : design.Design) (scope : List design.Lib) (o : Option ℕ) (c : design.CellBody) → Valid d → IsScope scope d.libs → ValidCell d.libs c → AllByRecursion (DefinedIn scope) (design.insts_of c) → ContentsMeant d.libs scope o c
cell_part d scope o c v s h f = go c.contents h.contents f
  where
    go : (x : Option design.Contents) → IfSome x (ValidContents d.libs c.ports) → AllByRecursion (DefinedIn scope) (insts_in x) → Perhaps (MeansContents scope o c.ports) (perhaps (contents_tree d.libs c.ports) x) x
    go None k f = tt
    go (Some x) k f = contents_meant scope d.libs o c.ports x s (ports_of_valid d v) h.port_names f k

libs_meant : (d : design.Design) → Valid d → DefinedBefore d → AllAfter (λ before l. AllAfter (CellMeant d.libs before l.head) [] l.cells) [] d.libs
libs_meant d v b =
    after_map (λ before l. ValidLib d.libs l × AllAfter (λ cells c. AllByRecursion (DefinedIn (before ++ cut l.head cells ∷ [])) (design.insts_of c)) [] l.cells) (λ before l. AllAfter (CellMeant d.libs before l.head) [] l.cells) [] d.libs
    (after_both (λ before l. ValidLib d.libs l) (λ before l. AllAfter (λ cells c. AllByRecursion (DefinedIn (before ++ cut l.head cells ∷ [])) (design.insts_of c)) [] l.cells) [] d.libs (after_all (ValidLib d.libs) [] d.libs v.libs) b)
    (λ before l after e h.
    after_map (λ cells c. ValidCell d.libs c × AllByRecursion (DefinedIn (before ++ cut l.head cells ∷ [])) (design.insts_of c)) (CellMeant d.libs before l.head) [] l.cells
    (after_both (λ cells c. ValidCell d.libs c) (λ cells c. AllByRecursion (DefinedIn (before ++ cut l.head cells ∷ [])) (design.insts_of c)) [] l.cells (after_all (ValidCell d.libs) [] l.cells h.0.cells) h.1)
    (λ cells c rest f k. (
      record { properties = k.0.properties; view_properties = k.0.view_properties; interface_properties = k.0.interface_properties; ports = k.0.ports },
      cell_part d (before ++ cut l.head cells ∷ []) (Some (length before)) c v (is_scope d before after l cells (c ∷ rest) v e (sym f)) k.0 k.1,
    )))

-- all libraries are a scope of themselves
whole_scope : (d : design.Design) → Valid d → IsScope d.libs d.libs
whole_scope d v = record {
  at = λ i l e. (l, e, refl, ([], sym (append-nil l.cells)));
  lib_names = v.lib_names;
  cell_names = λ i l e. (all_at (ValidLib d.libs) d.libs i l v.libs e).cell_names;
}

-- instances of each cell have different names
insts_differ : (d : design.Design) (id : design.CellId) → Valid d → distinct (design.inst_ids (design.insts_at d.libs id)) ≡ true
insts_differ d id v = go (design.cell_at d.libs id) refl
  where
    in_cell : (ports : List design.Port) (x : Option design.Contents) → IfSome x (ValidContents d.libs ports) → distinct (design.inst_ids (insts_in x)) ≡ true
    in_cell ports None h = refl
    in_cell ports (Some x) h = h.inst_names

    go : (o : Option design.CellBody) → design.cell_at d.libs id ≡ o → distinct (design.inst_ids (unwrap_or (option_map design.insts_of o) [])) ≡ true
    go None e = refl
    go (Some c) e = in_cell c.ports c.contents (valid_cell_at d id c v e).contents

path_meant : (d : design.Design) (id : design.CellId) (ns : List (List ℕ)) → Valid d → ValidPath d.libs id ns → MeansPath d.libs id (map word ns) ns
path_meant d id [] v h = tt
path_meant d id (n ∷ ns) v h = (
  n,
  h.0,
  h.1,
  refl,
  ap (meant (design.inst_ids (design.insts_at d.libs id))) h.3 ∙ meant_self (design.inst_ids (design.insts_at d.libs id)) h.0 h.1.name.id (insts_differ d id v) (get_mapped (λ (y : design.Inst). y.name.id) (design.insts_at d.libs id) h.0 h.1 h.2),
  h.2,
  h.3,
  path_meant d h.1.of ns v h.4,
)

length_words : (ns : List (List ℕ)) → length (map word ns) ≡ length ns
length_words [] = refl
length_words (n ∷ ns) = ap suc (length_words ns)

note_meant : (d : design.Design) (top : design.CellId) (n : design.Note) → Valid d → ValidNote d.libs top n → MeansNote d.libs top (note_tree n) n
note_meant d top n v h = record {
  spelled = codes "userData";
  mark = codes "netdb_note";
  path_word = codes "path";
  steps = map word n.path;
  property_part = property_tree n.property;
  is = refl;
  path_keyword = refl;
  some_step = rw (length_words n.path) h.some_step;
  path = path_meant d top n.path v h.path;
  property = property_meant n.property h.property;
}

top_meant : (d : design.Design) (t : design.TopHead) → Valid d → ValidTop d.libs t → AllByRecursion (ValidNote d.libs t.cell) d.notes → MeansDesign d.libs d.notes (design_tree d.libs d.notes t) t
top_meant d t v h n =
    let c = some_of (design.cell_at d.libs t.cell) h.cell in
    let gs : List (Keyword × List Bare) = (keywords.Property, map property_tree t.properties) ∷ (keywords.UserData, map note_tree d.notes) ∷ [] in
    let grouped : Grouped gs = (group_of keywords.Property property_tree t.properties (λ x. refl), (group_of keywords.UserData note_tree d.notes (λ x. refl), tt)) in
    let only_notes : filter is_note (joined gs) ≡ map note_tree d.notes = filter-append is_note (map property_tree t.properties) (map note_tree d.notes)
    ∙ (ap (λ v. v ++ filter is_note (map note_tree d.notes)) (none_kept is_note property_tree t.properties (λ x. refl)) ∙ all_kept is_note note_tree d.notes (λ x. refl)) in
    record {
      name_part = name_tree t.name;
      cell_part = cell_ref_tree d.libs t.cell;
      inner = joined gs;
      form = record { spelled = codes "design"; is = refl; keyword = refl; fits = ((name_fits t.name.id t.name.shown, (refl, tt)), joined_follows (Many keywords.Status ∷ Many keywords.Property ∷ Many keywords.Comment ∷ Many keywords.UserData ∷ []) gs refl grouped, tt) };
      name = name_meant t.name.id t.name.shown;
      cell = cell_ref_meant d.libs d.libs None t.cell c.0 (whole_scope d v) c.1;
      properties = rw (those_joined keywords.Property gs grouped) (properties_meant t.properties h.properties);
      noted = rw only_notes (each_map (ValidNote d.libs t.cell) (MeansNote d.libs t.cell) note_tree d.notes n (λ x w. note_meant d t.cell x v w));
    }

top_part : (d : design.Design) → Valid d → Perhaps (MeansDesign d.libs d.notes) (perhaps (design_tree d.libs d.notes) d.top) d.top
top_part d v = go d.top v.root
  where
    go : (o : Option design.TopHead) → IfSome o (ValidRoot d.libs d.notes) → Perhaps (MeansDesign d.libs d.notes) (perhaps (design_tree d.libs d.notes) o) o
    go None h = tt
    go (Some t) h = top_meant d t v h.top h.noted

pub tree_meant : (d : design.Design) → IsValid d → DefinedBefore d → MeansFile (tree_of d) d
tree_meant d valid b =
    let v = from_valid d valid in
    file_meant d (record { libs = libs_meant d v b; top = top_part d v; valid = valid })
