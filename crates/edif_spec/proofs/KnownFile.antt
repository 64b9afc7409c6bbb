-- A form means something, or a fault stands in it: levels, libraries, notes and the design.
use Rattle.std.proofs.Common.{◌≡◌, ◌≢◌, ℕ, suc, ◌<◌, ◌≤◌, ℤ, pos, negsuc, List, [], ◌∷◌, ◌++◌, map, length, refl, ap, sym, ◌∙◌, subst, ◌⊎◌, inl, inr, Bool, true, false, Some, None, arith}
use Rattle.std.specs.Prelude.{IsTrue, filter, slice_get, take, drop}
use Rattle.std.specs.List.{AllByRecursion, All, list_all}
use Rattle.std.proofs.lemmas.List.Elements.{All-from_recursion}
use Rattle.std.proofs.lemmas.Bool.{or_cases}
use Rattle.std.proofs.lemmas.List.{length-map}
use Rattle.netlist_schema.specs.Ident.{IsIdentifier}
use Rattle.netlist_schema.specs.Names.{AreDistinct, note_key, cell_names}
use Rattle.netlist_schema.specs.Typed.{IsTypedName, IsTypedProperty, IsTypedCell, IsTypedNote}
use Rattle.netlist_schema.proofs.Lists.{some_of, get_unmapped}
use Rattle.edif_spelling_spec.specs.Tree.{Bare, Placed, Form', Word', Integer', String', End, More, form, word, integer, bare}
use Rattle.edif_spec.specs.Keyword.{same, spelling_of, Many, name_definition, identifier, the}
use Rattle.edif_spec.specs.Keyword as keyword
use Rattle.edif_spec.specs.Rows.{has_keyword, those, is_one_of, is_follower, IsFormOf, Each, EachAfter}
use Rattle.edif_spec.specs.Canonical.{library_keyword}
use Rattle.edif_spec.specs.Means.{Meant as Meaning, meant, Found, Absent, Several, MeansCell, IsLevel, MeansLibrary, is_library, is_note, has_mark, MeansPath, MeansNote, MeansDesign}
use Rattle.edif_spec.specs.Faults.{place_of, arguments, followers, FixedFault, FollowerFault}
use Rattle.edif_spec.specs.Stands.{ValueFault, CellFault, LevelFault, cells_in, LibraryFault, bad_form, note_parts, StepsFault, PathFault, NoteFault, SameNote, notes_in, DesignFault, VersionFault, MapFault, Notes}
use Rattle.edif_spec.specs.Stands as stands
use Rattle.edif_spec.specs.Design as design
use Rattle.edif_spec.specs.declared.keyword.Keyword.{Keyword}
use Rattle.edif_spec.specs.declared.keyword.Keyword.TheVariants as keywords
use Rattle.edif_spec.specs.declared.fault.Kind.{Kind}
use Rattle.edif_spec.specs.declared.fault.Kind.TheVariants.{BadForm, BadLevel, BadVersion, BadPath}
use Rattle.edif_spec.specs.declared.fault.ClashKind.TheVariants.{Duplicate}
use Rattle.edif_spec.specs.declared.fault.MeaningFault.TheVariants.{At, Clash}
use Rattle.edif_spec.proofs.Both.{both}
use Rattle.edif_spec.proofs.Defined.{meant_there, name_there}
use Rattle.edif_spec.proofs.FaultForms.{filter_bare, after_length, after_with, each_with, IsNamed}
use Rattle.edif_spec.proofs.FaultsApart.{property_named}
use Rattle.edif_spec.proofs.CellFaultsApart.{cell_named, FineCell}
use Rattle.edif_spec.proofs.FileFaultsApart.{external_is, cells_are, note_property, note_arguments, notes_there, HasKey, FineTop}
use Rattle.edif_spec.proofs.KnownForms.{Faulty, Written, IsOf, Meant, each_known, after_known, beyond_known, names_known, distinct_known, bytes_same, list_same, nat_same, kept_of, parts_of, arguments_written, followers_written, followers_known, fixed_known, FixedFit, trees_bares, integer_choice, word_choice, form_choice, Fits3, known1, known2, known3}
use Rattle.edif_spec.proofs.KnownRows.{follow_none, name_known, property_known, properties_known, first_all, second_all, each_count}
use Rattle.edif_spec.proofs.KnownCells.{cell_ref_known, cell_known}

-- numbers
int_same : (x y : ℤ) → (x ≡ y) ⊎ (x ≢ y)
int_same (pos a) (pos b) = elim (nat_same a b) [ inl e ↦ inl (ap (λ v. pos v) e) | inr n ↦ inr (λ e. let d : a ≡ b = cc e in n d) ]
int_same (negsuc a) (negsuc b) = elim (nat_same a b) [ inl e ↦ inl (ap (λ v. negsuc v) e) | inr n ↦ inr (λ e. let d : a ≡ b = cc e in n d) ]
int_same (pos a) (negsuc b) = inr (λ e. absurd (cc e))
int_same (negsuc a) (pos b) = inr (λ e. absurd (cc e))

value_known : (wanted : ℤ) (kind : Kind) (u : Placed) → is_one_of keyword.integer (bare u) ≡ true → (bare u ≡ integer wanted) ⊎ Faulty (ValueFault wanted kind u)
value_known wanted kind u h = (let a = integer_choice u h in
    elim (int_same a.1 wanted) [ inl e ↦ inl (ap bare a.2 ∙ ap integer e) | inr n ↦ inr (At kind a.0, (a.1, a.0, a.2, n, refl)) ])

pub level_known : (k : Keyword) (t : Placed) → keyword.row k ≡ keyword.Takes (keyword.integer ∷ []) [] → IsOf (has_keyword k) t → IsLevel k (bare t) ⊎ Faulty (LevelFault k t)
level_known k t r h = elim (known1 k keyword.integer [] t r h) [
  | inr b ↦ inr (b.0, stands.level_row b.1)
  | inl s ↦ elim (value_known (pos 0) BadLevel s.a s.is_a) [
    | inr b ↦ inr (b.0, stands.other_level (s.a, s.at_a, b.1))
    | inl e ↦ inl (subst (λ v. IsFormOf k (bare t) (v ∷ []) []) e (follow_none k (keyword.integer ∷ []) (bare t) (bare s.a ∷ []) (map bare (followers k t)) r s.form))
  ]
]

pub version_known : (t : Placed) → IsOf (has_keyword keywords.EdifVersion) t → IsFormOf keywords.EdifVersion (bare t) (integer (pos 2) ∷ integer (pos 0) ∷ integer (pos 0) ∷ []) [] ⊎ Faulty (VersionFault t)
version_known t h = elim (known3 keywords.EdifVersion keyword.integer keyword.integer keyword.integer [] t refl h) [
  | inr b ↦ inr (b.0, stands.version_row b.1)
  | inl s ↦ elim (value_known (pos 2) BadVersion s.a s.is_a) [
    | inr b ↦ inr (b.0, stands.first_number (s.a, s.at_a, b.1))
    | inl e ↦ elim (value_known (pos 0) BadVersion s.b s.is_b) [
      | inr b ↦ inr (b.0, stands.second_number (s.b, s.at_b, b.1))
      | inl f ↦ elim (value_known (pos 0) BadVersion s.x s.is_x) [
        | inr b ↦ inr (b.0, stands.third_number (s.x, s.at_x, b.1))
        | inl g ↦ (let P : Bare → Bare → Bare → Type 0 = λ x y z. IsFormOf keywords.EdifVersion (bare t) (x ∷ y ∷ z ∷ []) [] in
            let w : P (bare s.a) (bare s.b) (bare s.x) = follow_none keywords.EdifVersion (keyword.integer ∷ keyword.integer ∷ keyword.integer ∷ []) (bare t) (bare s.a ∷ bare s.b ∷ bare s.x ∷ []) (map bare (followers keywords.EdifVersion t)) refl s.form in
            inl (subst (λ z. P (integer (pos 2)) (integer (pos 0)) z) g (subst (λ y. P (integer (pos 2)) y (bare s.x)) f (subst (λ x. P x (bare s.b) (bare s.x)) e w))))
      ]
    ]
  ]
]

pub record KnownMap (t : Placed) : Type 0 where
  pub level_part : Bare
  pub inner : List Bare
  pub form : IsFormOf keywords.KeywordMap (bare t) (level_part ∷ []) inner
  pub level : IsLevel keywords.KeywordLevel level_part

pub map_known : (t : Placed) → IsOf (has_keyword keywords.KeywordMap) t → KnownMap t ⊎ Faulty (MapFault t)
map_known t h = elim (known1 keywords.KeywordMap (the keywords.KeywordLevel) (Many keywords.Comment ∷ []) t refl h) [
  | inr b ↦ inr (b.0, stands.map_row b.1)
  | inl s ↦ elim (level_known keywords.KeywordLevel s.a refl (form_choice keywords.KeywordLevel s.a s.is_a, s.written_a)) [
    | inr b ↦ inr (b.0, stands.map_level (s.a, s.at_a, form_choice keywords.KeywordLevel s.a s.is_a, b.1))
    | inl l ↦ inl (record { level_part = bare s.a; inner = map bare (followers keywords.KeywordMap t); form = s.form; level = l })
  ]
]

-- libraries
pub record FineLib (l : design.Lib) : Type 0 where
  pub name : IsTypedName l.head.name
  pub typed : AllByRecursion IsTypedCell l.cells
  pub cells : AllByRecursion FineCell l.cells
  pub names : AreDistinct (cell_names l.cells)
  pub count : length l.cells ≤ 65536

abbrev In : List design.Lib → design.LibHead → List design.CellBody → List design.Lib
In before head cells = before ++ record { head = head; cells = cells } ∷ []

library_rest : (e : Bool) (before : List design.Lib) (t : Placed) → Written t → Fits3 (library_keyword e) name_definition (the keywords.EdifLevel) (the keywords.Technology) t → Meant (MeansLibrary before) FineLib t ⊎ Faulty (LibraryFault before t)
library_rest e before t w s = elim (name_known s.a s.written_a s.is_a) [
  | inr b ↦ inr (b.0, stands.library_name (s.a, s.at_a, b.1))
  | inl n ↦ elim (level_known keywords.EdifLevel s.b refl (form_choice keywords.EdifLevel s.b s.is_b, s.written_b)) [
    | inr b ↦ inr (b.0, stands.library_level (s.b, s.at_b, form_choice keywords.EdifLevel s.b s.is_b, b.1))
    | inl l ↦ (let head : design.LibHead = record { name = n.0; external = e } in
        let x : e ≡ has_keyword keywords.External (bare t) = sym (external_is e (bare t) (bare s.a) (bare s.b) (bare s.x) (map bare (followers (library_keyword e) t)) s.form) in
        let c : map bare (cells_in t) ≡ those keywords.Cell (map bare (followers (library_keyword e) t)) = cells_are e t (bare s.a) (bare s.b) (bare s.x) (map bare (followers (library_keyword e) t)) s.form in
        elim (after_known (λ cells. MeansCell (In before head cells) (Some (length before))) (λ c. IsTypedCell c × FineCell c) (λ cells. CellFault (In before head cells) (Some (length before))) (IsOf (has_keyword keywords.Cell))
        (λ cells u h. cell_known (In before head cells) (Some (length before)) u h) [] (cells_in t) (parts_of keywords.Library keywords.Cell t w)) [
          | inr b ↦ inr (b.0, stands.library_cells (record { name_part = s.a; head = head; there = s.at_a; name = n.1; external = x; fault = b.1 }))
          | inl cs ↦ elim (names_known (λ (c : design.CellBody). c.name.id) (cells_in t) cs.0 (after_with (λ cells. MeansCell (In before head cells) (Some (length before))) (λ u c. IsNamed u c.name.id) (λ cells u c m. cell_named (In before head cells) (Some (length before)) u c m) [] (cells_in t) (map bare (cells_in t)) cs.0 refl cs.1)) [
            | inr b ↦ inr (b.0, stands.cell_again b.1)
            | inl d ↦ elim (beyond_known 65536 (cells_in t)) [
              | inr b ↦ inr (b.0, stands.many_cells b.1)
              | inl k ↦ (let m : length (cells_in t) ≡ length cs.0 = sym (length-map (cells_in t) bare) ∙ after_length (λ cells. MeansCell (In before head cells) (Some (length before))) [] (map bare (cells_in t)) cs.0 cs.1 in
                  inl (
                    record { head = head; cells = cs.0 },
                    record {
                      name_part = bare s.a;
                      level_part = bare s.b;
                      technology_part = bare s.x;
                      inner = map bare (followers (library_keyword e) t);
                      form = s.form;
                      name = n.1;
                      level = l;
                      cells = subst (λ v. EachAfter (λ cells. MeansCell (In before head cells) (Some (length before))) [] v cs.0) c cs.1;
                    },
                    record { name = n.2; typed = first_all IsTypedCell FineCell cs.0 cs.2; cells = second_all IsTypedCell FineCell cs.0 cs.2; names = d; count = omega (arith, m, k) },
                  ))
            ]
          ]
        ])
  ]
]

pub library_known : (before : List design.Lib) (t : Placed) → IsOf is_library t → Meant (MeansLibrary before) FineLib t ⊎ Faulty (LibraryFault before t)
library_known before t h = elim (or_cases (has_keyword keywords.Library (bare t)) (has_keyword keywords.External (bare t)) h.0) [
  | inl k ↦ elim (known3 keywords.Library name_definition (the keywords.EdifLevel) (the keywords.Technology) (Many keywords.Status ∷ Many keywords.Cell ∷ Many keywords.Comment ∷ Many keywords.UserData ∷ []) t refl (k, h.1)) [ inr b ↦ inr (b.0, stands.library_row k b.1) | inl s ↦ library_rest false before t h.1 s ]
  | inr k ↦ elim (known3 keywords.External name_definition (the keywords.EdifLevel) (the keywords.Technology) (Many keywords.Status ∷ Many keywords.Cell ∷ Many keywords.Comment ∷ Many keywords.UserData ∷ []) t refl (k, h.1)) [ inr b ↦ inr (b.0, stands.external_row k b.1) | inl s ↦ library_rest true before t h.1 s ]
]

-- paths
abbrev pub NamesFit : List design.Lib → Type 0
NamesFit libs = (id : design.CellId) (i : ℕ) (x : design.Inst) → slice_get (design.insts_at libs id) i ≡ Some x → IsIdentifier x.name.id

pub record KnownSteps (libs : List design.Lib) (id : design.CellId) (ts : List Placed) : Type 0 where
  pub path : List (List ℕ)
  pub mean : MeansPath libs id (map bare ts) path
  pub typed : AllByRecursion IsIdentifier path
  pub count : length path ≡ length ts

inst_found : (libs : List design.Lib) (id : design.CellId) (w : List ℕ) (i : ℕ) → meant (design.inst_ids (design.insts_at libs id)) w ≡ Found i → (x : design.Inst) × (slice_get (design.insts_at libs id) i ≡ Some x)
inst_found libs id w i m = some_of (slice_get (design.insts_at libs id) i) (name_there (λ (x : design.Inst). x.name.id) (design.insts_at libs id) i (meant_there (design.inst_ids (design.insts_at libs id)) w i m))

found_or : (m : Meaning) → ((i : ℕ) × (m ≡ Found i)) ⊎ ((i : ℕ) → m ≡ Found i → ⊥)
found_or (Found i) = inl (i, refl)
found_or Absent = inr (λ i e. absurd (cc e))
found_or Several = inr (λ i e. absurd (cc e))

steps_known : (libs : List design.Lib) → NamesFit libs → (id : design.CellId) (ts : List Placed) → KnownSteps libs id ts ⊎ Faulty (StepsFault libs id ts)
steps_known libs fit id [] = inl (record { path = []; mean = tt; typed = tt; count = refl })
steps_known libs fit id (Form' p us ∷ ts) = inr (At BadForm p, stands.no_step (λ w e. absurd (cc e)) refl)
steps_known libs fit id (Integer' p z ∷ ts) = inr (At BadForm p, stands.no_step (λ w e. absurd (cc e)) refl)
steps_known libs fit id (String' p s ∷ ts) = inr (At BadForm p, stands.no_step (λ w e. absurd (cc e)) refl)
steps_known libs fit id (Word' p w ∷ ts) = go (λ x. steps_known libs fit x ts)
  where
    go : ((x : design.CellId) → KnownSteps libs x ts ⊎ Faulty (StepsFault libs x ts)) → KnownSteps libs id (Word' p w ∷ ts) ⊎ Faulty (StepsFault libs id (Word' p w ∷ ts))
    go more = elim (found_or (meant (design.inst_ids (design.insts_at libs id)) w)) [
      | inr n ↦ inr (At BadPath p, stands.lost_step (record { spelled = w; place = p; is = refl; lost = n; fault = refl }))
      | inl i ↦ (let x = inst_found libs id w i.0 i.1 in
          elim (more x.0.of) [
            | inr b ↦ inr (b.0, stands.later_step x.0 (record { spelled = w; place = p; at = i.0; is = refl; means = i.1; there = x.1 }) b.1)
            | inl r ↦ inl (record { path = x.0.name.id ∷ r.path; mean = (w, i.0, x.0, refl, i.1, x.1, refl, r.mean); typed = (fit id i.0 x.0 x.1, r.typed); count = ap suc r.count })
          ])
    ]

-- notes
pub keyword_form : (k : Keyword) (t : Placed) → has_keyword k (bare t) ≡ true → (w : List ℕ) × (bare t ≡ form (word w ∷ map bare (arguments t))) × (same w (spelling_of k) ≡ true)
keyword_form k (Form' p (More (Word' q w) ts)) h = (w, ap (λ v. Form' tt (More (word w) v)) (sym (trees_bares ts)), h)
keyword_form k (Form' p (More (Form' q us) ts)) h = absurd (cc h)
keyword_form k (Form' p (More (Integer' q z) ts)) h = absurd (cc h)
keyword_form k (Form' p (More (String' q s) ts)) h = absurd (cc h)
keyword_form k (Form' p End) h = absurd (cc h)
keyword_form k (Word' p w) h = absurd (cc h)
keyword_form k (Integer' p z) h = absurd (cc h)
keyword_form k (String' p s) h = absurd (cc h)

pub record FineNote (n : design.Note) : Type 0 where
  pub typed : IsTypedNote n
  pub some_step : 0 < length n.path

-- the shape of a note
record Shape (t : Placed) : Type 0 where
  pub a : Placed
  pub b : Placed
  pub c : Placed
  pub are : arguments t ≡ a ∷ b ∷ c ∷ []
  pub is_a : is_one_of identifier (bare a) ≡ true
  pub is_b : has_keyword keywords.Path (bare b) ≡ true
  pub is_c : has_keyword keywords.Property (bare c) ≡ true

shape_known : (t : Placed) → Shape t ⊎ Faulty (λ f. FixedFault bad_form (place_of t) note_parts (arguments t) f ⊎ FollowerFault bad_form [] (drop 3 (arguments t)) f)
shape_known t = elim (fixed_known bad_form (place_of t) note_parts (arguments t)) [
  | inr b ↦ inr (b.0, inl b.1)
  | inl h ↦ elim (followers_known bad_form [] (drop 3 (arguments t))) [ inr b ↦ inr (b.0, inr b.1) | inl k ↦ inl (go (arguments t) refl h k) ]
]
  where
    go : (us : List Placed) → arguments t ≡ us → FixedFit note_parts (take 3 us) → IsTrue (list_all (is_follower []) (map bare (drop 3 us))) → Shape t
    go [] e h k = absurd h
    go (a ∷ []) e h k = absurd h.1
    go (a ∷ b ∷ []) e h k = absurd h.1.1
    go (a ∷ b ∷ c ∷ d ∷ us) e h k = absurd (cc k)
    go (a ∷ b ∷ c ∷ []) e h k = record { a = a; b = b; c = c; are = e; is_a = h.0; is_b = form_choice keywords.Path b h.1.0; is_c = form_choice keywords.Property c h.1.1.0 }

path_known : (libs : List design.Lib) → NamesFit libs → (top : design.CellId) (t : Placed) → ((n : List (List ℕ)) × MeansPath libs top (map bare (arguments t)) n × AllByRecursion IsIdentifier n × (0 < length n)) ⊎ Faulty (PathFault libs top t)
path_known libs fit top t = go (arguments t) refl
  where
    go : (us : List Placed) → arguments t ≡ us → ((n : List (List ℕ)) × MeansPath libs top (map bare (arguments t)) n × AllByRecursion IsIdentifier n × (0 < length n)) ⊎ Faulty (PathFault libs top t)
    go [] e = inr (At BadPath (place_of t), stands.no_steps e refl)
    go (u ∷ us) e = elim (steps_known libs fit top (arguments t)) [
      | inr b ↦ inr (b.0, stands.bad_step b.1)
      | inl s ↦ (let l : length s.path ≡ length (arguments t) = s.count in let m : length (arguments t) ≡ suc (length us) = ap length e in inl (s.path, s.mean, s.typed, omega (arith, l, m)))
    ]

note_known : (libs : List design.Lib) → NamesFit libs → (top : design.CellId) (t : Placed) → IsOf is_note t → Meant (MeansNote libs top) FineNote t ⊎ Faulty (NoteFault libs top t)
note_known libs fit top t h = elim (shape_known t) [
  | inr b ↦ inr (b.0, elim (b.1) [ inl x ↦ stands.note_part x | inr x ↦ stands.note_surplus x ])
  | inl s ↦ (let w : AllByRecursion Written (s.a ∷ s.b ∷ s.c ∷ []) = subst (λ v. AllByRecursion Written v) s.are (arguments_written t h.1) in
      elim (path_known libs fit top s.b) [
        | inr b ↦ inr (b.0, stands.note_path (s.b, ap (λ v. slice_get v 1) s.are, s.is_b, b.1))
        | inl p ↦ elim (property_known s.c (s.is_c, w.1.1.0)) [
          | inr b ↦ inr (b.0, stands.note_property (s.c, ap (λ v. slice_get v 2) s.are, s.is_c, b.1))
          | inl q ↦ (let u = (both (has_keyword keywords.UserData (bare t)) (has_mark (bare t)) h.0).0 in
              let k = keyword_form keywords.UserData t u in
              let m = word_choice s.a s.is_a in
              let r = keyword_form keywords.Path s.b s.is_b in
              let e : map bare (arguments t) ≡ word m.1 ∷ form (word r.0 ∷ map bare (arguments s.b)) ∷ bare s.c ∷ [] =
              ap (map bare) s.are ∙ (ap (λ v. v ∷ bare s.b ∷ bare s.c ∷ []) (ap bare m.2) ∙ ap (λ v. word m.1 ∷ v ∷ bare s.c ∷ []) r.1) in
              let l : length (map bare (arguments s.b)) ≡ length (arguments s.b) = length-map (arguments s.b) bare in
              inl (
                record { path = p.0; property = q.0 },
                record {
                  spelled = k.0;
                  mark = m.1;
                  path_word = r.0;
                  steps = map bare (arguments s.b);
                  property_part = bare s.c;
                  is = k.1 ∙ ap (λ v. form (word k.0 ∷ v)) e;
                  path_keyword = r.2;
                  some_step = steps_count libs top (map bare (arguments s.b)) p.0 p.1 p.3;
                  path = p.1;
                  property = q.1;
                },
                record { typed = record { path = All-from_recursion IsIdentifier p.0 p.2; property = q.2 }; some_step = p.3 },
              ))
        ]
      ])
]
  where
    steps_count : (libs : List design.Lib) (id : design.CellId) (ts : List Bare) (ns : List (List ℕ)) → MeansPath libs id ts ns → 0 < length ns → 0 < length ts
    steps_count libs id [] [] m l = l
    steps_count libs id [] (n ∷ ns) m l = absurd m
    steps_count libs id (t ∷ ts) ns m l = omega arith

-- two notes of one path and key
pair_same : (x y : List (List ℕ) × List ℕ) → (x ≡ y) ⊎ (x ≢ y)
pair_same x y = elim (list_same bytes_same x.0 y.0) [
  | inr n ↦ inr (λ e. n (ap (λ v. v.0) e))
  | inl p ↦ elim (bytes_same x.1 y.1) [ inr n ↦ inr (λ e. n (ap (λ v. v.1) e)) | inl q ↦ inl (λ i. (p i, q i)) ]
]

note_part : (libs : List design.Lib) (top : design.CellId) (t : Placed) (n : design.Note) (h : MeansNote libs top (bare t) n) (i : ℕ) (b : Bare) → slice_get (word h.mark ∷ form (word h.path_word ∷ h.steps) ∷ h.property_part ∷ []) i ≡ Some b → (u : Placed) × (slice_get (arguments t) i ≡ Some u) × (bare u ≡ b)
note_part libs top t n h i b e = get_unmapped bare (arguments t) i b (ap (λ v. slice_get v i) (note_arguments libs top t n h) ∙ e)

noted_at : (libs : List design.Lib) (top : design.CellId) (t : Placed) (n : design.Note) (h : MeansNote libs top (bare t) n) → (p : ℕ) × Notes libs top t n.path n.property.key.id p
noted_at libs top t n h =
    let x = note_part libs top t n h 1 (form (word h.path_word ∷ h.steps)) refl in
    let u = note_part libs top t n h 2 h.property_part refl in
    let p = property_named u.0 n.property (note_property libs top t u.0 n h u.1) in
    (p.0, notes_there libs top t x.0 u.0 n p.0 h x.1 u.1 p.1)

repeated_note : (libs : List design.Lib) (top : design.CellId) (a b : Placed) (k : List (List ℕ) × List ℕ) → HasKey libs top a k → HasKey libs top b k → Faulty (λ f. SameNote libs top f a b)
repeated_note libs top a b k h g =
    let p = noted_at libs top a h.0 h.1 in
    let q = noted_at libs top b g.0 g.1 in
    let e : note_key g.0 ≡ note_key h.0 = g.2 ∙ sym h.2 in
    let path : g.0.path ≡ h.0.path = ap (λ v. v.0) e in
    let key : g.0.property.key.id ≡ h.0.property.key.id = ap (λ v. v.1) e in
    let P : List (List ℕ) → List ℕ → Type 0 = λ v w. Notes libs top b v w q.0 in (
      Clash Duplicate q.0 p.0,
      record {
        steps = h.0.path;
        key = h.0.property.key.id;
        earlier = p.0;
        place = q.0;
        first = p.1;
        second = subst (λ w. P h.0.path w) key (subst (λ v. P v g.0.property.key.id) path q.1);
        fault = refl;
      },
    )

-- the design
pub record KnownDesign (libs : List design.Lib) (t : Placed) : Type 0 where
  pub top : design.TopHead
  pub notes : List design.Note
  pub mean : MeansDesign libs notes (bare t) top
  pub fine : FineTop notes top
  pub name : IsTypedName top.name
  pub typed : All IsTypedProperty top.properties
  pub fine_notes : AllByRecursion FineNote notes

pub design_known : (libs : List design.Lib) → NamesFit libs → (t : Placed) → IsOf (has_keyword keywords.Design) t → KnownDesign libs t ⊎ Faulty (DesignFault libs t)
design_known libs fit t h = elim (known2 keywords.Design name_definition (the keywords.CellRef) (Many keywords.Status ∷ Many keywords.Property ∷ Many keywords.Comment ∷ Many keywords.UserData ∷ []) t refl h) [
  | inr b ↦ inr (b.0, stands.design_row b.1)
  | inl s ↦ elim (name_known s.a s.written_a s.is_a) [
    | inr b ↦ inr (b.0, stands.design_name (s.a, s.at_a, b.1))
    | inl n ↦ elim (cell_ref_known libs None s.b (form_choice keywords.CellRef s.b s.is_b, s.written_b)) [
      | inr b ↦ inr (b.0, stands.design_cell (s.b, s.at_b, form_choice keywords.CellRef s.b s.is_b, b.1))
      | inl c ↦ elim (properties_known keywords.Design t h.1) [
        | inr b ↦ inr (b.0, stands.design_properties b.1)
        | inl ps ↦ elim (each_known (MeansNote libs c.0) FineNote (NoteFault libs c.0) (IsOf is_note) (note_known libs fit c.0) (notes_in t) (kept_of is_note (followers keywords.Design t) (followers_written keywords.Design t h.1))) [
          | inr b ↦ inr (b.0, stands.design_notes (stands.one_note c.0 (s.b, s.at_b, c.1) b.1))
          | inl ns ↦ elim (distinct_known (HasKey libs c.0) (SameNote libs c.0) note_key pair_same (repeated_note libs c.0) (notes_in t) ns.0 (each_with (MeansNote libs c.0) (λ u n. HasKey libs c.0 u (note_key n)) (λ u n q. (n, q, refl)) (notes_in t) (map bare (notes_in t)) ns.0 refl ns.1)) [
            | inr b ↦ inr (b.0, stands.design_notes (stands.note_again c.0 (s.b, s.at_b, c.1) b.1))
            | inl d ↦ elim (beyond_known 1048576 (notes_in t)) [
              | inr b ↦ inr (b.0, stands.many_notes b.1)
              | inl k ↦ (let e : map bare (notes_in t) ≡ filter is_note (map bare (followers keywords.Design t)) = filter_bare is_note (followers keywords.Design t) in
                  let l : length (notes_in t) ≡ length ns.0 = each_count (MeansNote libs c.0) (notes_in t) (map bare (notes_in t)) ns.0 refl ns.1 in
                  inl (record {
                    top = record { name = n.0; cell = c.0; properties = ps.list };
                    notes = ns.0;
                    mean = record { name_part = bare s.a; cell_part = bare s.b; inner = map bare (followers keywords.Design t); form = s.form; name = n.1; cell = c.1; properties = ps.mean; noted = subst (λ v. Each (MeansNote libs c.0) v ns.0) e ns.1 };
                    fine = record { keys = ps.keys; count = omega (arith, l, k); differ = d };
                    name = n.2;
                    typed = ps.typed;
                    fine_notes = ns.2;
                  }))
            ]
          ]
        ]
      ]
    ]
  ]
]
