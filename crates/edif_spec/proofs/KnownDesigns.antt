-- A tree of a file means a design, or a fault stands in it.
use Rattle.std.proofs.Common.{◌≡◌, ℕ, zero, suc, ◌≤◌, List, [], ◌∷◌, ◌++◌, map, length, refl, ap, sym, ◌∙◌, subst, ◌⊎◌, inl, inr, true, Option, Some, None, arith}
use Rattle.std.specs.Prelude.{filter, slice_get, IfSome, IfNone, IsSome, is_some, take}
use Rattle.std.specs.List.{AllZip, AllByRecursion, All}
use Rattle.std.proofs.lemmas.List.Elements.{All-from_recursion}
use Rattle.std.proofs.lemmas.Bool.{cases_Bool}
use Rattle.std.proofs.lemmas.List.{length-map}
use Rattle.netlist_schema.specs.Hierarchy.{IsCell}
use Rattle.netlist_schema.specs.Names.{AreDistinct, HasDistinctKeys, note_key, lib_names, cell_names}
use Rattle.netlist_schema.specs.Typed.{IsTypedName, IsTypedProperty, IsTypedCell, IsTypedNote}
use Rattle.netlist_schema.specs.Valid.{IsValid, IsNoteBelow}
use Rattle.netlist_schema.proofs.Lists.{some_of, all_weaker}
use Rattle.netlist_schema.proofs.WithCell.{IfSome-weaker}
use Rattle.edif_spelling_spec.specs.Tree.{Bare, Placed, bare}
use Rattle.edif_spec.specs.Keyword.{Choice, Many, One, name_definition, the}
use Rattle.edif_spec.specs.Rows.{has_keyword, those, is_one_of, IsFormOf, EachAfter, Perhaps}
use Rattle.edif_spec.specs.Means.{MeansLibrary, is_library, is_note, MeansDesign, MeansCellRef, before_design, libs_before_design, MeansFile}
use Rattle.edif_spec.specs.Faults.{arguments, followers, parts, Among, misplaced}
use Rattle.edif_spec.specs.Stands.{LibraryFault, DesignFault, before_the_design, libraries, FileFault, file_row, Stands, InDesign}
use Rattle.edif_spec.specs.Stands as stands
use Rattle.edif_spec.specs.Design as design
use Rattle.edif_spec.specs.declared.keyword.Keyword.TheVariants as keywords
use Rattle.edif_spec.specs.declared.fault.Kind.TheVariants.{BadForm}
use Rattle.edif_spec.specs.declared.fault.MeaningFault.{MeaningFault}
use Rattle.edif_spec.proofs.Defined.{meant_there, cell_there}
use Rattle.edif_spec.proofs.FaultForms.{filter_bare, after_length, after_with, IsNamed}
use Rattle.edif_spec.proofs.FileFaultsApart.{library_named, before_bare, libraries_before, front_after, FineTop}
use Rattle.edif_spec.proofs.KnownForms.{Faulty, Written, IsOf, after_known, beyond_known, names_known, differ_distinct, kept_of, parts_of, arguments_written, followers_written, form_choice, Fits, row_known}
use Rattle.edif_spec.proofs.KnownRows.{name_known}
use Rattle.edif_spec.proofs.KnownCells.{parts_bare}
use Rattle.edif_spec.proofs.KnownFile.{level_known, version_known, map_known, library_known, FineLib, NamesFit, FineNote, design_known}
use Rattle.edif_spec.proofs.KnownValid.{front_cell, cell_form, valid_cell, no_cycle, names_fit, notes_below, KnownCell}

-- the fixed arguments of a file
record FileParts (t : Placed) : Type 0 where
  pub a : Placed
  pub b : Placed
  pub c : Placed
  pub d : Placed
  pub at_a : slice_get (arguments t) 0 ≡ Some a
  pub at_b : slice_get (arguments t) 1 ≡ Some b
  pub at_c : slice_get (arguments t) 2 ≡ Some c
  pub at_d : slice_get (arguments t) 3 ≡ Some d
  pub is_a : is_one_of name_definition (bare a) ≡ true
  pub is_b : has_keyword keywords.EdifVersion (bare b) ≡ true
  pub is_c : has_keyword keywords.EdifLevel (bare c) ≡ true
  pub is_d : has_keyword keywords.KeywordMap (bare d) ≡ true
  pub written_a : Written a
  pub written_b : Written b
  pub written_c : Written c
  pub written_d : Written d
  pub form : IsFormOf keywords.Edif (bare t) (bare a ∷ bare b ∷ bare c ∷ bare d ∷ []) (map bare (followers keywords.Edif t))

abbrev FileChoices : List (List Choice)
FileChoices = name_definition ∷ the keywords.EdifVersion ∷ the keywords.EdifLevel ∷ the keywords.KeywordMap ∷ []

file_parts : (t : Placed) → Written t → Fits keywords.Edif FileChoices t → FileParts t
file_parts t w h = go h.fixed h.split h.choices h.form
  where
    go : (us : List Placed) → arguments t ≡ us ++ followers keywords.Edif t → AllZip (λ c u. is_one_of c (bare u) ≡ true) FileChoices us → IsFormOf keywords.Edif (bare t) (map bare us) (map bare (followers keywords.Edif t)) → FileParts t
    go [] s z f = absurd z
    go (a ∷ []) s z f = absurd z.1
    go (a ∷ b ∷ []) s z f = absurd z.1.1
    go (a ∷ b ∷ c ∷ []) s z f = absurd z.1.1.1
    go (a ∷ b ∷ c ∷ d ∷ x ∷ us) s z f = absurd z.1.1.1.1
    go (a ∷ b ∷ c ∷ d ∷ []) s z f =
        let P : List Placed → Type 0 = λ v. AllByRecursion Written v in
        let r = subst P s (arguments_written t w) in
        record {
          a = a;
          b = b;
          c = c;
          d = d;
          at_a = ap (λ v. slice_get v 0) s;
          at_b = ap (λ v. slice_get v 1) s;
          at_c = ap (λ v. slice_get v 2) s;
          at_d = ap (λ v. slice_get v 3) s;
          is_a = z.0;
          is_b = form_choice keywords.EdifVersion b z.1.0;
          is_c = form_choice keywords.EdifLevel c z.1.1.0;
          is_d = form_choice keywords.KeywordMap d z.1.1.1.0;
          written_a = r.0;
          written_b = r.1.0;
          written_c = r.1.1.0;
          written_d = r.1.1.1.0;
          form = f;
        }

-- the design of a file, or none
record KnownTop (libs : List design.Lib) (ts : List Placed) : Type 0 where
  pub top : Option design.TopHead
  pub notes : List design.Note
  pub mean : Perhaps (MeansDesign libs notes) (map bare ts) top
  pub fine : IfSome top (λ x. FineTop notes x × IsTypedName x.name × All IsTypedProperty x.properties)
  pub none : IfNone top (notes ≡ [])
  pub fine_notes : AllByRecursion FineNote notes
  pub count : length notes ≤ 1048576
  pub differ : AreDistinct (map note_key notes)

top_known : (libs : List design.Lib) → NamesFit libs → (ts : List Placed) → AllByRecursion (IsOf (has_keyword keywords.Design)) ts → length ts ≤ 1 → KnownTop libs ts ⊎ Faulty (Among (DesignFault libs) ts)
top_known libs fit [] h l = inl (record { top = None; notes = []; mean = tt; fine = tt; none = refl; fine_notes = tt; count = omega arith; differ = differ_distinct [] tt })
top_known libs fit (t ∷ u ∷ ts) h l = absurd (omega arith)
top_known libs fit (t ∷ []) h l = elim (design_known libs fit t h.0) [
  | inr b ↦ inr (b.0, inl b.1)
  | inl k ↦ inl (record { top = Some k.top; notes = k.notes; mean = k.mean; fine = (k.fine, k.name, k.typed); none = tt; fine_notes = k.fine_notes; count = k.fine.count; differ = k.fine.differ })
]

-- the top cell is there
top_cell : (libs scope : List design.Lib) → ((id : design.CellId) (c : design.CellBody) → design.cell_at scope id ≡ Some c → design.cell_at libs id ≡ Some c) → (t : Bare) (id : design.CellId) → MeansCellRef scope None t id → IsSome (design.cell_at libs id)
top_cell libs scope sub t id h =
    let c = some_of (design.cell_at scope id) (cell_there scope id (meant_there (design.cell_ids scope id.lib.0) h.spelled id.slot h.cell)) in
    ap is_some (sub id c.0 c.1)

-- what a design's form gives the design
tops : (d : design.Design) (scope : List design.Lib) → ((id : design.CellId) (c : design.CellBody) → design.cell_at scope id ≡ Some c → design.cell_at d.libs id ≡ Some c) → (ts : List Bare) (o : Option design.TopHead) → Perhaps (MeansDesign scope d.notes) ts o
    → IfSome o (λ x. FineTop d.notes x × IsTypedName x.name × All IsTypedProperty x.properties) → AllByRecursion FineNote d.notes
    → IfSome o (λ x. (IsCell d x.cell × HasDistinctKeys x.properties) × All (IsNoteBelow d x.cell) d.notes × (IsTypedName x.name × All IsTypedProperty x.properties))
tops d scope sub [] None h f n = tt
tops d scope sub [] (Some x) h f n = absurd h
tops d scope sub (t ∷ []) None h f n = absurd h
tops d scope sub (t ∷ u ∷ ts) None h f n = absurd h
tops d scope sub (t ∷ u ∷ ts) (Some x) h f n = absurd h
tops d scope sub (t ∷ []) (Some x) h f n =
    ((top_cell d.libs scope sub h.cell_part x.cell h.cell, f.0.keys), All-from_recursion (IsNoteBelow d x.cell) d.notes (notes_below d scope sub x.cell (filter is_note h.inner) d.notes h.noted n), (f.1, f.2))

pub design_is_valid : (d : design.Design) (ts us : List Bare) (n : ℕ) → IsTypedName d.title → EachAfter MeansLibrary [] ts d.libs → AllByRecursion FineLib d.libs → AreDistinct (lib_names d.libs) → length d.libs ≤ 1024
    → Perhaps (MeansDesign (take n d.libs) d.notes) us d.top → IfSome d.top (λ x. FineTop d.notes x × IsTypedName x.name × All IsTypedProperty x.properties) → IfNone d.top (d.notes ≡ []) → AllByRecursion FineNote d.notes → length d.notes ≤ 1048576 → AreDistinct (map note_key d.notes)
    → IsValid d
design_is_valid d ts us n title libs fine names count top ft none fn nc nd =
    let k : (id : design.CellId) (body : design.CellBody) → design.cell_at d.libs id ≡ Some body → KnownCell d.libs id body = λ id body e. cell_form d.libs ts libs fine id body e in
    let r = tops d (take n d.libs) (λ id c e. front_cell d.libs n id c e) us d.top top ft fn in
    let P : design.TopHead → Type 0 = λ x. (IsCell d x.cell × HasDistinctKeys x.properties) × All (IsNoteBelow d x.cell) d.notes × (IsTypedName x.name × All IsTypedProperty x.properties) in
    record {
      typed = record {
        title = title;
        libs = All-from_recursion (λ (l : design.Lib). IsTypedName l.head.name) d.libs (all_weaker FineLib (λ (l : design.Lib). IsTypedName l.head.name) d.libs (λ l h. h.name) fine);
        cells = All-from_recursion (λ (l : design.Lib). All IsTypedCell l.cells) d.libs (all_weaker FineLib (λ (l : design.Lib). All IsTypedCell l.cells) d.libs (λ l h. All-from_recursion IsTypedCell l.cells h.typed) fine);
        top = IfSome-weaker d.top P (λ x. IsTypedName x.name × All IsTypedProperty x.properties) (λ x h. h.2) r;
        notes = All-from_recursion IsTypedNote d.notes (all_weaker FineNote IsTypedNote d.notes (λ m h. h.typed) fn);
      };
      limits = record {
        libs = count;
        cells = All-from_recursion (λ (l : design.Lib). length l.cells ≤ 65536) d.libs (all_weaker FineLib (λ (l : design.Lib). length l.cells ≤ 65536) d.libs (λ l h. h.count) fine);
        notes = nc;
      };
      names = record {
        libs = names;
        cells = All-from_recursion (λ (l : design.Lib). AreDistinct (cell_names l.cells)) d.libs (all_weaker FineLib (λ (l : design.Lib). AreDistinct (cell_names l.cells)) d.libs (λ l h. h.names) fine);
      };
      cells = λ id body e. valid_cell d id body (k id body e);
      no_cycle = no_cycle d k;
      top = IfSome-weaker d.top P (λ x. IsCell d x.cell × HasDistinctKeys x.properties) (λ x h. h.0) r;
      notes = IfSome-weaker d.top P (λ x. All (IsNoteBelow d x.cell) d.notes) (λ x h. h.1) r;
      notes_need_top = none;
      notes_differ = nd;
    }

in_first : (t : Placed) (libs : List design.Lib) (f : MeaningFault) → EachAfter MeansLibrary [] (map bare (libraries (before_the_design (followers keywords.Edif t)))) libs → length (parts keywords.Edif keywords.Design t) ≤ 1 → Among (DesignFault libs) (parts keywords.Edif keywords.Design t) f → InDesign t f
in_first t libs f m l b = let u = the_first (DesignFault libs) f (parts keywords.Edif keywords.Design t) l b in record { libs = libs; means = m; first = u.0; there = u.1; fault = u.2 }
  where
    the_first : (F : Placed → MeaningFault → Type 0) (f : MeaningFault) (ts : List Placed) → length ts ≤ 1 → Among F ts f → (u : Placed) × (slice_get ts 0 ≡ Some u) × F u f
    the_first F f [] l b = absurd b
    the_first F f (t ∷ []) l (inl b) = (t, refl, b)
    the_first F f (t ∷ []) l (inr b) = absurd b
    the_first F f (t ∷ u ∷ ts) l b = absurd (omega arith)

file_known : (t : Placed) → IsOf (has_keyword keywords.Edif) t → ((d : design.Design) × MeansFile (bare t) d) ⊎ Faulty (FileFault t)
file_known t h = elim (row_known keywords.Edif FileChoices (Many keywords.Status ∷ Many keywords.External ∷ Many keywords.Library ∷ One keywords.Design ∷ Many keywords.Comment ∷ Many keywords.UserData ∷ []) t refl h.0) [
  | inr b ↦ inr (b.0, stands.edif_row b.1)
  | inl q ↦ (let s = file_parts t h.1 q in
      let us : List Placed = followers keywords.Edif t in
      elim (name_known s.a s.written_a s.is_a) [
        | inr b ↦ inr (b.0, stands.edif_name (s.a, s.at_a, b.1))
        | inl n ↦ elim (version_known s.b (s.is_b, s.written_b)) [
          | inr b ↦ inr (b.0, stands.edif_version (s.b, s.at_b, s.is_b, b.1))
          | inl v ↦ elim (level_known keywords.EdifLevel s.c refl (s.is_c, s.written_c)) [
            | inr b ↦ inr (b.0, stands.edif_level (s.c, s.at_c, s.is_c, b.1))
            | inl l ↦ elim (map_known s.d (s.is_d, s.written_d)) [
              | inr b ↦ inr (b.0, stands.edif_map (s.d, s.at_d, s.is_d, b.1))
              | inl m ↦ elim (after_known MeansLibrary FineLib LibraryFault (IsOf is_library) library_known [] (libraries (followers keywords.Edif t)) (kept_of is_library (followers keywords.Edif t) (followers_written keywords.Edif t h.1))) [
                | inr b ↦ inr (b.0, stands.edif_library b.1)
                | inl x ↦ elim (names_known (λ (y : design.Lib). y.head.name.id) (libraries (followers keywords.Edif t)) x.0 (after_with MeansLibrary (λ u y. IsNamed u y.head.name.id) library_named [] (libraries (followers keywords.Edif t)) (map bare (libraries (followers keywords.Edif t))) x.0 refl x.1)) [
                  | inr b ↦ inr (b.0, stands.library_again b.1)
                  | inl d ↦ elim (beyond_known 1024 (libraries (followers keywords.Edif t))) [
                    | inr b ↦ inr (b.0, stands.many_libraries b.1)
                    | inl c ↦ (let inner : List Bare = map bare (followers keywords.Edif t) in
                        let e : map bare (libraries (followers keywords.Edif t)) ≡ filter is_library (map bare (followers keywords.Edif t)) = filter_bare is_library (followers keywords.Edif t) in
                        let z : length (libraries (followers keywords.Edif t)) ≡ length x.0 = sym (length-map (libraries (followers keywords.Edif t)) bare) ∙ after_length MeansLibrary [] (map bare (libraries (followers keywords.Edif t))) x.0 x.1 in
                        let ls : EachAfter MeansLibrary [] (filter is_library (map bare (followers keywords.Edif t))) x.0 = subst (λ w. EachAfter MeansLibrary [] w x.0) e x.1 in
                        let r = libraries_before (map bare (followers keywords.Edif t)) in
                        let g : EachAfter MeansLibrary [] (filter is_library (before_design (map bare (followers keywords.Edif t)))) (libs_before_design (map bare (followers keywords.Edif t)) x.0) =
                        front_after MeansLibrary [] (filter is_library (before_design (map bare (followers keywords.Edif t)))) r.0 x.0 (subst (λ w. EachAfter MeansLibrary [] w x.0) r.1 ls) in
                        let front : map bare (libraries (before_the_design (followers keywords.Edif t))) ≡ filter is_library (before_design (map bare (followers keywords.Edif t))) = filter_bare is_library (before_the_design (followers keywords.Edif t)) ∙ ap (filter is_library) (before_bare (followers keywords.Edif t)) in
                        let gp : EachAfter MeansLibrary [] (map bare (libraries (before_the_design (followers keywords.Edif t)))) (libs_before_design (map bare (followers keywords.Edif t)) x.0) = subst (λ w. EachAfter MeansLibrary [] w (libs_before_design (map bare (followers keywords.Edif t)) x.0)) (sym front) g in
                        let fit : NamesFit (libs_before_design (map bare (followers keywords.Edif t)) x.0) =
                        names_fit (libs_before_design (map bare (followers keywords.Edif t)) x.0) (filter is_library (before_design (map bare (followers keywords.Edif t)))) g (front_all FineLib (length (filter is_library (before_design (map bare (followers keywords.Edif t))))) x.0 x.2) in
                        let o : length (parts keywords.Edif keywords.Design t) ≡ length (those keywords.Design (map bare (followers keywords.Edif t))) = sym (length-map (parts keywords.Edif keywords.Design t) bare) ∙ ap length (parts_bare keywords.Edif keywords.Design t) in
                        let once : length (those keywords.Design (map bare (followers keywords.Edif t))) ≤ 1 = s.form.fits.2.0 in
                        elim (top_known (libs_before_design (map bare (followers keywords.Edif t)) x.0) fit (parts keywords.Edif keywords.Design t) (parts_of keywords.Edif keywords.Design t h.1) (omega (arith, o, once))) [
                          | inr b ↦ inr (b.0, stands.edif_design (in_first t (libs_before_design (map bare (followers keywords.Edif t)) x.0) b.0 gp (omega (arith, o, once)) b.1))
                          | inl k ↦ (let y : design.Design = record { title = n.0; libs = x.0; top = k.top; notes = k.notes } in
                              let top : Perhaps (MeansDesign (libs_before_design (map bare (followers keywords.Edif t)) x.0) k.notes) (those keywords.Design (map bare (followers keywords.Edif t))) k.top =
                              subst (λ w. Perhaps (MeansDesign (libs_before_design (map bare (followers keywords.Edif t)) x.0) k.notes) w k.top) (parts_bare keywords.Edif keywords.Design t) k.mean in
                              let valid : IsValid y = design_is_valid y (filter is_library (map bare (followers keywords.Edif t))) (those keywords.Design (map bare (followers keywords.Edif t))) (length (filter is_library (before_design (map bare (followers keywords.Edif t)))))
                              n.2 ls x.2 d (omega (arith, z, c)) top k.fine k.none k.fine_notes k.count k.differ in
                              inl (
                                y,
                                record {
                                  name_part = bare s.a;
                                  version_part = bare s.b;
                                  level_part = bare s.c;
                                  map_part = bare s.d;
                                  keyword_level_part = m.level_part;
                                  map_inner = m.inner;
                                  inner = map bare (followers keywords.Edif t);
                                  form = s.form;
                                  name = n.1;
                                  version = v;
                                  level = l;
                                  keyword_map = m.form;
                                  keyword_level = m.level;
                                  libs = ls;
                                  top = top;
                                  valid = valid;
                                },
                              ))
                        ])
                  ]
                ]
              ]
            ]
          ]
        ]
      ])
]
  where
    front_all : {A : Type 0} (P : A → Type 0) (n : ℕ) (xs : List A) → AllByRecursion P xs → AllByRecursion P (take n xs)
    front_all P zero xs h = tt
    front_all P (suc n) [] h = tt
    front_all P (suc n) (x ∷ xs) h = (h.0, front_all P n xs h.1)

-- A tree that can be written means a design, or a fault stands in it.
pub stands_known : (t : Placed) → Written t → ((d : design.Design) × MeansFile (bare t) d) ⊎ ((f : MeaningFault) × Stands t f)
stands_known t w = elim (cases_Bool (has_keyword keywords.Edif (bare t))) [
  | inr e ↦ inr (misplaced BadForm file_row t, stands.no_file e refl)
  | inl e ↦ elim (file_known t (e, w)) [ inl x ↦ inl x | inr b ↦ inr (b.0, stands.in_file e b.1) ]
]
