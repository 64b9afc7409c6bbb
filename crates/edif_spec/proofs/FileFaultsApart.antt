-- No fault stands in a tree that means a design: libraries, notes, the design and the file.
use Rattle.std.proofs.Common.{◌≡◌, ℕ, ◌<◌, ◌≤◌, ℤ, pos, List, [], ◌∷◌, ◌++◌, map, length, refl, ap, sym, ◌∙◌, subst, ◌⊎◌, inl, inr, Bool, true, false, Option, Some, None, arith}
use Rattle.std.specs.Prelude.{IsTrue, cond, filter, slice_get, IfSome, take, drop}
use Rattle.std.specs.List.{AllByRecursion, list_all}
use Rattle.std.specs.Option.{option_map_or}
use Rattle.std.proofs.lemmas.List.Elements.{recursion_from_All}
use Rattle.std.proofs.lemmas.Bool.{or_left}
use Rattle.std.proofs.lemmas.List.{length-map}
use Rattle.netlist_schema.specs.Hierarchy.{IsCell}
use Rattle.netlist_schema.specs.Names.{AreDistinct, HasDistinctKeys, note_key, cell_names}
use Rattle.netlist_schema.specs.Valid.{IsValid}
use Rattle.netlist_schema.proofs.Lists.{map_drop, get_mapped, all_at, all_from_places}
use Rattle.edif_spelling_spec.specs.Tree.{Bare, Placed, form, word, integer, bare}
use Rattle.edif_spec.specs.Keyword.{same, spelling_of, the}
use Rattle.edif_spec.specs.Rows.{has_keyword, those, is_one_of, is_follower, IsFormOf, EachAfter}
use Rattle.edif_spec.specs.Canonical.{library_keyword}
use Rattle.edif_spec.specs.Means.{meant, Found, MeansName, MeansProperty, MeansCellRef, MeansCell, IsLevel, MeansLibrary, is_library, is_note, MeansPath, MeansNote, MeansDesign, before_design, libs_before_design, MeansFile}
use Rattle.edif_spec.specs.Faults.{AtTwo, defined, place_of, arguments, followers, parts, Among, RowFault}
use Rattle.edif_spec.specs.Stands.{ValueFault, CellFault, LevelFault, AmongAfter, cells_in, LibraryFault, bad_form, note_parts, StepsFault, NoteFault, SameNote, notes_in, DesignFault, VersionFault, MapFault, before_the_design, libraries, FileFault, Stands, PathFault, Notes, MeansTop}
use Rattle.edif_spec.specs.Stands as stands
use Rattle.edif_spec.specs.Design as design
use Rattle.edif_spec.specs.declared.keyword.Keyword.{Keyword}
use Rattle.edif_spec.specs.declared.keyword.Keyword.TheVariants as keywords
use Rattle.edif_spec.specs.declared.fault.Kind.{Kind}
use Rattle.edif_spec.specs.declared.fault.Kind.TheVariants.{BadLevel, BadVersion}
use Rattle.edif_spec.specs.declared.fault.MeaningFault.{MeaningFault}
use Rattle.edif_spec.proofs.Once.{each_after_once, name_once}
use Rattle.edif_spec.proofs.OnceFile.{cell_ref_once, cell_once, library_once, path_once}
use Rattle.edif_spec.proofs.FaultForms.{part_is, parts_are, followers_are, row_apart, each_apart, perhaps_apart, after_apart, each_length, after_length, filter_bare, beyond_apart, each_with, after_with, IsNamed, repeats_apart, two_apart, differ, arguments_of_form, fixed_apart, followers_apart, first_same}
use Rattle.edif_spec.proofs.FaultsApart.{keyword_of, other_form, name_apart, property_apart, properties_apart, property_named, form_named, free_all}
use Rattle.edif_spec.proofs.CellFaultsApart.{cell_ref_apart, cell_apart, cell_named, FineCell}

-- numbers
value_apart : (wanted : ℤ) (kind : Kind) (u : Placed) (f : MeaningFault) → bare u ≡ integer wanted → ValueFault wanted kind u f → ⊥
value_apart wanted kind u f e b = let d : integer b.0 ≡ integer wanted = sym (ap bare b.2) ∙ e in let c : b.0 ≡ wanted = cc d in b.3 c

level_apart : (k : Keyword) (t : Placed) (f : MeaningFault) → IsLevel k (bare t) → LevelFault k t f → ⊥
level_apart k t f h (stands.level_row b) = row_apart k t (integer (pos 0) ∷ []) [] f h b
level_apart k t f h (stands.other_level b) = value_apart (pos 0) BadLevel b.0 f (part_is k t (integer (pos 0) ∷ []) [] 0 b.0 (integer (pos 0)) h b.1 refl) b.2

abbrev Version : List Bare
Version = integer (pos 2) ∷ integer (pos 0) ∷ integer (pos 0) ∷ []

version_apart : (t : Placed) (f : MeaningFault) → IsFormOf keywords.EdifVersion (bare t) Version [] → VersionFault t f → ⊥
version_apart t f h (stands.version_row b) = row_apart keywords.EdifVersion t Version [] f h b
version_apart t f h (stands.first_number b) = value_apart (pos 2) BadVersion b.0 f (part_is keywords.EdifVersion t Version [] 0 b.0 (integer (pos 2)) h b.1 refl) b.2
version_apart t f h (stands.second_number b) = value_apart (pos 0) BadVersion b.0 f (part_is keywords.EdifVersion t Version [] 1 b.0 (integer (pos 0)) h b.1 refl) b.2
version_apart t f h (stands.third_number b) = value_apart (pos 0) BadVersion b.0 f (part_is keywords.EdifVersion t Version [] 2 b.0 (integer (pos 0)) h b.1 refl) b.2

map_apart : (t : Placed) (level : Bare) (inner : List Bare) (f : MeaningFault) → IsFormOf keywords.KeywordMap (bare t) (level ∷ []) inner → IsLevel keywords.KeywordLevel level → MapFault t f → ⊥
map_apart t level inner f h l (stands.map_row b) = row_apart keywords.KeywordMap t (level ∷ []) inner f h b
map_apart t level inner f h l (stands.map_level b) = level_apart keywords.KeywordLevel b.0 f (subst (IsLevel keywords.KeywordLevel) (sym (part_is keywords.KeywordMap t (level ∷ []) inner 0 b.0 level h b.1 refl)) l) b.3

-- libraries
pub record FineLibrary (l : design.Lib) : Type 0 where
  pub cells : AllByRecursion FineCell l.cells
  pub names : AreDistinct (cell_names l.cells)
  pub count : length l.cells ≤ 65536

pub cells_are : (e : Bool) (t : Placed) (n l g : Bare) (inner : List Bare) → IsFormOf (library_keyword e) (bare t) (n ∷ l ∷ g ∷ []) inner → map bare (cells_in t) ≡ those keywords.Cell inner
cells_are false t n l g inner h = parts_are keywords.Library keywords.Cell t (n ∷ l ∷ g ∷ []) inner h
cells_are true t n l g inner h = parts_are keywords.External keywords.Cell t (n ∷ l ∷ g ∷ []) inner h

pub external_is : (e : Bool) (t n l g : Bare) (inner : List Bare) → IsFormOf (library_keyword e) t (n ∷ l ∷ g ∷ []) inner → has_keyword keywords.External t ≡ e
external_is true t n l g inner h = keyword_of keywords.External t (n ∷ l ∷ g ∷ []) inner h
external_is false t n l g inner h = go (has_keyword keywords.External t) refl
  where
    go : (b : Bool) → has_keyword keywords.External t ≡ b → b ≡ false
    go false e = refl
    go true e = absurd (other_form keywords.External keywords.Library t (n ∷ l ∷ g ∷ []) inner refl h e)

library_rows : (e : Bool) (t : Placed) (n l g : Bare) (inner : List Bare) (f : MeaningFault) → IsFormOf (library_keyword e) (bare t) (n ∷ l ∷ g ∷ []) inner
    → (IsTrue (has_keyword keywords.Library (bare t)) × RowFault keywords.Library t f) ⊎ (IsTrue (has_keyword keywords.External (bare t)) × RowFault keywords.External t f) → ⊥
library_rows false t n l g inner f h (inl b) = row_apart keywords.Library t (n ∷ l ∷ g ∷ []) inner f h b.1
library_rows false t n l g inner f h (inr b) = other_form keywords.External keywords.Library (bare t) (n ∷ l ∷ g ∷ []) inner refl h b.0
library_rows true t n l g inner f h (inl b) = other_form keywords.Library keywords.External (bare t) (n ∷ l ∷ g ∷ []) inner refl h b.0
library_rows true t n l g inner f h (inr b) = row_apart keywords.External t (n ∷ l ∷ g ∷ []) inner f h b.1

library_apart : (before : List design.Lib) (t : Placed) (l : design.Lib) (f : MeaningFault) → MeansLibrary before (bare t) l → FineLibrary l → LibraryFault before t f → ⊥
library_apart before t l f h v b = go (cells_are l.head.external t h.name_part h.level_part h.technology_part h.inner h.form) b
  where
    go : map bare (cells_in t) ≡ those keywords.Cell h.inner → LibraryFault before t f → ⊥
    go e (stands.library_row k b) = library_rows l.head.external t h.name_part h.level_part h.technology_part h.inner f h.form (inl (k, b))
    go e (stands.external_row k b) = library_rows l.head.external t h.name_part h.level_part h.technology_part h.inner f h.form (inr (k, b))
    go e (stands.library_name b) = name_apart b.0 l.head.name f (subst (λ u. MeansName u l.head.name) (sym (part_is (library_keyword l.head.external) t (h.name_part ∷ h.level_part ∷ h.technology_part ∷ []) h.inner 0 b.0 h.name_part h.form b.1 refl)) h.name) b.2
    go e (stands.library_level b) = level_apart keywords.EdifLevel b.0 f (subst (IsLevel keywords.EdifLevel) (sym (part_is (library_keyword l.head.external) t (h.name_part ∷ h.level_part ∷ h.technology_part ∷ []) h.inner 1 b.0 h.level_part h.form b.1 refl)) h.level) b.3
    go e (stands.library_cells b) =
        let u : bare b.name_part ≡ h.name_part = part_is (library_keyword l.head.external) t (h.name_part ∷ h.level_part ∷ h.technology_part ∷ []) h.inner 0 b.name_part h.name_part h.form b.there refl in
        let name : b.head.name ≡ l.head.name = name_once (bare b.name_part) b.head.name l.head.name b.name (subst (λ w. MeansName w l.head.name) (sym u) h.name) in
        let ext : b.head.external ≡ l.head.external = b.external ∙ external_is l.head.external (bare t) h.name_part h.level_part h.technology_part h.inner h.form in
        let head : b.head ≡ l.head = λ i. record { name = name i; external = ext i } in
        let P : design.LibHead → Type 0 = λ w. AmongAfter (λ cells. MeansCell (before ++ record { head = w; cells = cells } ∷ []) (Some (length before))) (λ cells. CellFault (before ++ record { head = w; cells = cells } ∷ []) (Some (length before))) [] (cells_in t) f in
        after_apart (λ cells. MeansCell (before ++ record { head = l.head; cells = cells } ∷ []) (Some (length before))) FineCell (λ cells. CellFault (before ++ record { head = l.head; cells = cells } ∷ []) (Some (length before))) f
        (λ cells w c m q k. cell_apart (before ++ record { head = l.head; cells = cells } ∷ []) (Some (length before)) w c f m q k)
        (λ cells. cell_once (before ++ record { head = l.head; cells = cells } ∷ []) (Some (length before)))
        [] (cells_in t) (those keywords.Cell h.inner) l.cells e h.cells v.cells (subst P head b.fault)
    go e (stands.cell_again b) = repeats_apart (λ (c : design.CellBody). c.name.id) f (cells_in t) l.cells
        (after_with (λ cells. MeansCell (before ++ record { head = l.head; cells = cells } ∷ []) (Some (length before))) (λ u c. IsNamed u c.name.id) (λ cells u c m. cell_named (before ++ record { head = l.head; cells = cells } ∷ []) (Some (length before)) u c m)
        [] (cells_in t) (those keywords.Cell h.inner) l.cells e h.cells) v.names b
    go e (stands.many_cells b) =
        let n : length (cells_in t) ≡ length l.cells = sym (length-map (cells_in t) bare) ∙ (ap length e ∙ after_length (λ cells. MeansCell (before ++ record { head = l.head; cells = cells } ∷ []) (Some (length before))) [] (those keywords.Cell h.inner) l.cells h.cells) in
        let k : length l.cells ≤ 65536 = v.count in beyond_apart 65536 (cells_in t) f (omega (arith, n, k)) b

pub library_named : (before : List design.Lib) (t : Placed) (l : design.Lib) → MeansLibrary before (bare t) l → IsNamed t l.head.name.id
library_named before t l h = form_named (library_keyword l.head.external) t h.name_part (h.level_part ∷ h.technology_part ∷ []) h.inner l.head.name h.form h.name

-- notes
steps_apart : (libs : List design.Lib) (id : design.CellId) (ts : List Placed) (bs : List Bare) (ns : List (List ℕ)) (f : MeaningFault) → map bare ts ≡ bs → MeansPath libs id bs ns → StepsFault libs id ts f → ⊥
steps_apart libs id [] bs ns f e h b = b
steps_apart libs id (t ∷ ts) [] ns f e h b = absurd (cc e)
steps_apart libs id (t ∷ ts) (u ∷ bs) [] f e h b = absurd h
steps_apart libs id (t ∷ ts) (u ∷ bs) (n ∷ ns) f e h (stands.no_step n' k) = let w : bare t ≡ u = cc e in n' h.0 (w ∙ h.3)
steps_apart libs id (t ∷ ts) (u ∷ bs) (n ∷ ns) f e h (stands.lost_step b) =
    let w : bare t ≡ u = cc e in
    let d : word b.spelled ≡ word h.0 = sym (ap bare b.is) ∙ (w ∙ h.3) in let c : b.spelled ≡ h.0 = cc d in
    b.lost h.1 (ap (meant (design.inst_ids (design.insts_at libs id))) c ∙ h.4)
steps_apart libs id (t ∷ ts) (u ∷ bs) (n ∷ ns) f e h (stands.later_step x b more) =
    let w : bare t ≡ u = cc e in let r : map bare ts ≡ bs = cc e in
    let d : word b.spelled ≡ word h.0 = sym (ap bare b.is) ∙ (w ∙ h.3) in let c : b.spelled ≡ h.0 = cc d in
    let q : Found b.at ≡ Found h.1 = sym b.means ∙ (ap (meant (design.inst_ids (design.insts_at libs id))) c ∙ h.4) in let i : b.at ≡ h.1 = cc q in
    let s : Some x ≡ Some h.2 = sym b.there ∙ (ap (slice_get (design.insts_at libs id)) i ∙ h.5) in let y : x ≡ h.2 = cc s in
    let P : design.Inst → Type 0 = λ v. StepsFault libs v.of ts f in
    steps_apart libs h.2.of ts bs ns f r h.7 (subst P y more)

-- the parts of a note
pub note_arguments : (libs : List design.Lib) (top : design.CellId) (t : Placed) (n : design.Note) (h : MeansNote libs top (bare t) n) → map bare (arguments t) ≡ word h.mark ∷ form (word h.path_word ∷ h.steps) ∷ h.property_part ∷ []
note_arguments libs top t n h = arguments_of_form h.spelled t (word h.mark ∷ form (word h.path_word ∷ h.steps) ∷ h.property_part ∷ []) h.is

argument_is : (t u : Placed) (bs : List Bare) (i : ℕ) (b : Bare) → map bare (arguments t) ≡ bs → slice_get (arguments t) i ≡ Some u → slice_get bs i ≡ Some b → bare u ≡ b
argument_is t u bs i b e g k = let w : Some (bare u) ≡ Some b = sym (get_mapped bare (arguments t) i u g) ∙ (ap (λ v. slice_get v i) e ∙ k) in cc w

pub note_path : (libs : List design.Lib) (top : design.CellId) (t u : Placed) (n : design.Note) → MeansNote libs top (bare t) n → slice_get (arguments t) 1 ≡ Some u → MeansPath libs top (map bare (arguments u)) n.path
note_path libs top t u n h e =
    let w : bare u ≡ form (word h.path_word ∷ h.steps) = argument_is t u (word h.mark ∷ form (word h.path_word ∷ h.steps) ∷ h.property_part ∷ []) 1 (form (word h.path_word ∷ h.steps)) (note_arguments libs top t n h) e refl in
    let s : map bare (arguments u) ≡ h.steps = arguments_of_form h.path_word u h.steps w in
    subst (λ v. MeansPath libs top v n.path) (sym s) h.path

pub note_property : (libs : List design.Lib) (top : design.CellId) (t u : Placed) (n : design.Note) → MeansNote libs top (bare t) n → slice_get (arguments t) 2 ≡ Some u → MeansProperty (bare u) n.property
note_property libs top t u n h e =
    let w : bare u ≡ h.property_part = argument_is t u (word h.mark ∷ form (word h.path_word ∷ h.steps) ∷ h.property_part ∷ []) 2 h.property_part (note_arguments libs top t n h) e refl in
    subst (λ v. MeansProperty v n.property) (sym w) h.property

-- a note has a path and a property, where they stand
pub notes_there : (libs : List design.Lib) (top : design.CellId) (t x u : Placed) (n : design.Note) (place : ℕ) → MeansNote libs top (bare t) n → slice_get (arguments t) 1 ≡ Some x → slice_get (arguments t) 2 ≡ Some u → defined u ≡ Some (n.property.key.id, place)
    → Notes libs top t n.path n.property.key.id place
notes_there libs top t x u n place h a b d =
    let w : bare x ≡ form (word h.path_word ∷ h.steps) = argument_is t x (word h.mark ∷ form (word h.path_word ∷ h.steps) ∷ h.property_part ∷ []) 1 (form (word h.path_word ∷ h.steps)) (note_arguments libs top t n h) a refl in
    let q = note_property libs top t u n h b in
    record {
      path = x;
      path_there = a;
      is_path = subst (λ v. IsTrue (has_keyword keywords.Path v)) (sym w) h.path_keyword;
      means = note_path libs top t x n h a;
      property = u;
      property_there = b;
      is_property = keyword_of keywords.Property (bare u) (q.key_part ∷ q.value_part ∷ []) q.inner q.form;
      key_there = d;
    }

path_apart : (libs : List design.Lib) (top : design.CellId) (t : Placed) (ns : List (List ℕ)) (f : MeaningFault) → 0 < length (map bare (arguments t)) → MeansPath libs top (map bare (arguments t)) ns → PathFault libs top t f → ⊥
path_apart libs top t ns f l h (stands.no_steps k b) = let z : length (map bare (arguments t)) ≡ 0 = ap (λ v. length (map bare v)) k in omega (arith, l, z)
path_apart libs top t ns f l h (stands.bad_step b) = steps_apart libs top (arguments t) (map bare (arguments t)) ns f refl h b

note_apart : (libs : List design.Lib) (top : design.CellId) (t : Placed) (n : design.Note) (f : MeaningFault) → MeansNote libs top (bare t) n → NoteFault libs top t f → ⊥
note_apart libs top t n f h (stands.note_part b) =
    let path_fits : is_one_of (the keywords.Path) (form (word h.path_word ∷ h.steps)) ≡ true = or_left (same h.path_word (spelling_of keywords.Path)) false h.path_keyword in
    let property_fits : is_one_of (the keywords.Property) h.property_part ≡ true = or_left (has_keyword keywords.Property h.property_part) false (keyword_of keywords.Property h.property_part (h.property.key_part ∷ h.property.value_part ∷ []) h.property.inner h.property.form) in
    fixed_apart bad_form (place_of t) note_parts (arguments t) (word h.mark ∷ form (word h.path_word ∷ h.steps) ∷ h.property_part ∷ []) [] f (note_arguments libs top t n h) (refl, (path_fits, (property_fits, tt))) b
note_apart libs top t n f h (stands.note_surplus b) =
    let rest : map bare (drop 3 (arguments t)) ≡ [] = map_drop bare 3 (arguments t) ∙ ap (drop 3) (note_arguments libs top t n h) in
    followers_apart bad_form [] (drop 3 (arguments t)) f (ap (list_all (is_follower [])) rest) b
note_apart libs top t n f h (stands.note_path b) =
    let w : bare b.0 ≡ form (word h.path_word ∷ h.steps) = argument_is t b.0 (word h.mark ∷ form (word h.path_word ∷ h.steps) ∷ h.property_part ∷ []) 1 (form (word h.path_word ∷ h.steps)) (note_arguments libs top t n h) b.1 refl in
    let s : map bare (arguments b.0) ≡ h.steps = arguments_of_form h.path_word b.0 h.steps w in
    let l : 0 < length h.steps = h.some_step in
    path_apart libs top b.0 n.path f (let z : length (map bare (arguments b.0)) ≡ length h.steps = ap length s in omega (arith, l, z)) (note_path libs top t b.0 n h b.1) b.3
note_apart libs top t n f h (stands.note_property b) = property_apart b.0 n.property f (note_property libs top t b.0 n h b.1) b.3

-- the path and the key of a note
abbrev pub HasKey : List design.Lib → design.CellId → Placed → List (List ℕ) × List ℕ → Type 0
HasKey libs top u k = (n : design.Note) × MeansNote libs top (bare u) n × (note_key n ≡ k)

-- a note's path and key are those of its form
key_noted : (libs : List design.Lib) (top : design.CellId) (t : Placed) (x : List (List ℕ) × List ℕ) → HasKey libs top t x → (steps : List (List ℕ)) (key : List ℕ) (place : ℕ) → Notes libs top t steps key place → x ≡ (steps, key)
key_noted libs top t x h steps key place s =
    let p : h.0.path ≡ steps = path_once libs top (map bare (arguments s.path)) h.0.path steps (note_path libs top t s.path h.0 h.1 s.path_there) s.means in
    let i = property_named s.property h.0.property (note_property libs top t s.property h.0 h.1 s.property_there) in
    let m : h.0.property.key.id ≡ key = first_same (h.0.property.key.id, i.0) (key, place) (sym i.1 ∙ s.key_there) in
    let g : note_key h.0 ≡ (steps, key) = λ i. (p i, m i) in
    sym h.2 ∙ g

same_note : (libs : List design.Lib) (top : design.CellId) (f : MeaningFault) (a b : Placed) (x y : List (List ℕ) × List ℕ) → HasKey libs top a x → HasKey libs top b y → SameNote libs top f a b → x ≡ y
same_note libs top f a b x y h k s = key_noted libs top a x h s.steps s.key s.earlier s.first ∙ sym (key_noted libs top b y k s.steps s.key s.place s.second)

-- the design
pub record FineTop (notes : List design.Note) (d : design.TopHead) : Type 0 where
  pub keys : HasDistinctKeys d.properties
  pub count : length notes ≤ 1048576
  pub differ : AreDistinct (map note_key notes)

notes_are : (libs : List design.Lib) (notes : List design.Note) (t : Placed) (d : design.TopHead) → (h : MeansDesign libs notes (bare t) d) → map bare (notes_in t) ≡ filter is_note h.inner
notes_are libs notes t d h = filter_bare is_note (followers keywords.Design t) ∙ ap (filter is_note) (followers_are keywords.Design t (h.name_part ∷ h.cell_part ∷ []) h.inner h.form)

-- the cell that a design's form names is its top
top_once : (libs : List design.Lib) (notes : List design.Note) (t : Placed) (d : design.TopHead) (top : design.CellId) → MeansDesign libs notes (bare t) d → MeansTop libs t top → top ≡ d.cell
top_once libs notes t d top h b =
    cell_ref_once libs None (bare b.0) top d.cell b.2 (subst (λ u. MeansCellRef libs None u d.cell) (sym (part_is keywords.Design t (h.name_part ∷ h.cell_part ∷ []) h.inner 1 b.0 h.cell_part h.form b.1 refl)) h.cell)

design_apart : (libs : List design.Lib) (notes : List design.Note) (t : Placed) (d : design.TopHead) (f : MeaningFault) → MeansDesign libs notes (bare t) d → FineTop notes d → DesignFault libs t f → ⊥
design_apart libs notes t d f h v (stands.design_row b) = row_apart keywords.Design t (h.name_part ∷ h.cell_part ∷ []) h.inner f h.form b
design_apart libs notes t d f h v (stands.design_name b) = name_apart b.0 d.name f (subst (λ u. MeansName u d.name) (sym (part_is keywords.Design t (h.name_part ∷ h.cell_part ∷ []) h.inner 0 b.0 h.name_part h.form b.1 refl)) h.name) b.2
design_apart libs notes t d f h v (stands.design_cell b) = cell_ref_apart libs None b.0 d.cell f (subst (λ u. MeansCellRef libs None u d.cell) (sym (part_is keywords.Design t (h.name_part ∷ h.cell_part ∷ []) h.inner 1 b.0 h.cell_part h.form b.1 refl)) h.cell) b.3
design_apart libs notes t d f h v (stands.design_properties b) = properties_apart (parts keywords.Design keywords.Property t) (those keywords.Property h.inner) d.properties f (parts_are keywords.Design keywords.Property t (h.name_part ∷ h.cell_part ∷ []) h.inner h.form) h.properties v.keys b
design_apart libs notes t d f h v (stands.design_notes (stands.one_note top m b)) =
    let i = top_once libs notes t d top h m in
    each_apart (MeansNote libs d.cell) (λ n. Unit {0}) (NoteFault libs d.cell) f (λ u n q r s. note_apart libs d.cell u n f q s) (notes_in t) (filter is_note h.inner) notes (notes_are libs notes t d h) h.noted (free_all notes) (subst (λ w. Among (NoteFault libs w) (notes_in t) f) i b)
design_apart libs notes t d f h v (stands.design_notes (stands.note_again top m b)) =
    let i = top_once libs notes t d top h m in
    two_apart (HasKey libs d.cell) (SameNote libs d.cell f) note_key (same_note libs d.cell f) (notes_in t) notes
    (each_with (MeansNote libs d.cell) (λ u n. HasKey libs d.cell u (note_key n)) (λ u n q. (n, q, refl)) (notes_in t) (filter is_note h.inner) notes (notes_are libs notes t d h) h.noted) (differ (map note_key notes) v.differ)
    (subst (λ w. AtTwo (SameNote libs w f) (notes_in t)) i b)
design_apart libs notes t d f h v (stands.many_notes b) =
    let l : length (notes_in t) ≡ length notes = sym (length-map (notes_in t) bare) ∙ (ap length (notes_are libs notes t d h) ∙ each_length (MeansNote libs d.cell) (filter is_note h.inner) notes h.noted) in
    let k : length notes ≤ 1048576 = v.count in beyond_apart 1048576 (notes_in t) f (omega (arith, l, k)) b

-- what stands before the design
pub before_bare : (ts : List Placed) → map bare (before_the_design ts) ≡ before_design (map bare ts)
before_bare [] = refl
before_bare (t ∷ ts) = go (has_keyword keywords.Design (bare t)) (before_bare ts)
  where
    go : (b : Bool) → map bare (before_the_design ts) ≡ before_design (map bare ts) → map bare (cond b [] (t ∷ before_the_design ts)) ≡ cond b [] (bare t ∷ before_design (map bare ts))
    go true e = refl
    go false e = ap (λ v. bare t ∷ v) e

pub libraries_before : (ts : List Bare) → (rest : List Bare) × (filter is_library ts ≡ filter is_library (before_design ts) ++ rest)
libraries_before [] = ([], refl)
libraries_before (t ∷ ts) = go (libraries_before ts) (has_keyword keywords.Design t)
  where
    more : (b : Bool) → (r : (rest : List Bare) × (filter is_library ts ≡ filter is_library (before_design ts) ++ rest)) → cond b (t ∷ filter is_library ts) (filter is_library ts) ≡ cond b (t ∷ filter is_library (before_design ts)) (filter is_library (before_design ts)) ++ r.0
    more true r = ap (λ v. t ∷ v) r.1
    more false r = r.1

    go : ((rest : List Bare) × (filter is_library ts ≡ filter is_library (before_design ts) ++ rest)) → (b : Bool) → (rest : List Bare) × (filter is_library (t ∷ ts) ≡ filter is_library (cond b [] (t ∷ before_design ts)) ++ rest)
    go r true = (filter is_library (t ∷ ts), refl)
    go r false = (r.0, more (is_library t) r)

pub front_after : {A : Type 0} (M : List A → Bare → A → Type 0) (before : List A) (ts us : List Bare) (xs : List A) → EachAfter M before (ts ++ us) xs → EachAfter M before ts (take (length ts) xs)
front_after M before [] us xs h = tt
front_after M before (t ∷ ts) us [] h = absurd h
front_after M before (t ∷ ts) us (x ∷ xs) h = (h.0, front_after M (before ++ x ∷ []) ts us xs h.1)

-- what a valid design owes to each part
fine_library : (d : design.Design) (i : ℕ) (l : design.Lib) → IsValid d → slice_get d.libs i ≡ Some l → FineLibrary l
fine_library d i l v e = record {
  cells = all_from_places FineCell l.cells (λ j c g. let k = v.cells (record { lib = record { 0 = i }; slot = j }) c (ap (λ (o : Option design.Lib). slice_get (option_map_or (λ lib. lib.cells) o []) j) e ∙ g) in record { limits = k.limits; names = k.names; joined_once = k.joined_once });
  names = all_at (λ (x : design.Lib). AreDistinct (cell_names x.cells)) d.libs i l (recursion_from_All (λ (x : design.Lib). AreDistinct (cell_names x.cells)) d.libs v.names.cells) e;
  count = all_at (λ (x : design.Lib). length x.cells ≤ 65536) d.libs i l (recursion_from_All (λ (x : design.Lib). length x.cells ≤ 65536) d.libs v.limits.cells) e;
}

fine_top : (d : design.Design) (o : Option design.TopHead) → d.top ≡ o → IsValid d → IfSome o (FineTop d.notes)
fine_top d None e v = tt
fine_top d (Some x) e v =
    let P : Option design.TopHead → Type 0 = λ o. IfSome o (λ top. IsCell d top.cell × HasDistinctKeys top.properties) in
    let k : IsCell d x.cell × HasDistinctKeys x.properties = subst P e v.top in
    record { keys = k.1; count = v.limits.notes; differ = v.notes_differ }

-- a fault in the first of some forms is one among them
among_first : (F : Placed → MeaningFault → Type 0) (f : MeaningFault) (ts : List Placed) (u : Placed) → slice_get ts 0 ≡ Some u → F u f → Among F ts f
among_first F f [] u e b = absurd (cc e)
among_first F f (t ∷ ts) u e b = let w : t ≡ u = cc e in inl (subst (λ v. F v f) (sym w) b)

file_apart : (t : Placed) (d : design.Design) (f : MeaningFault) → MeansFile (bare t) d → FileFault t f → ⊥
file_apart t d f h b =
    let e : map bare (libraries (followers keywords.Edif t)) ≡ filter is_library h.inner = filter_bare is_library (followers keywords.Edif t) ∙ ap (filter is_library) (followers_are keywords.Edif t (h.name_part ∷ h.version_part ∷ h.level_part ∷ h.map_part ∷ []) h.inner h.form) in
    go e b
  where
    go : map bare (libraries (followers keywords.Edif t)) ≡ filter is_library h.inner → FileFault t f → ⊥
    go e (stands.edif_row b) = row_apart keywords.Edif t (h.name_part ∷ h.version_part ∷ h.level_part ∷ h.map_part ∷ []) h.inner f h.form b
    go e (stands.edif_name b) = name_apart b.0 d.title f (subst (λ u. MeansName u d.title) (sym (part_is keywords.Edif t (h.name_part ∷ h.version_part ∷ h.level_part ∷ h.map_part ∷ []) h.inner 0 b.0 h.name_part h.form b.1 refl)) h.name) b.2
    go e (stands.edif_version b) = version_apart b.0 f (subst (λ u. IsFormOf keywords.EdifVersion u Version []) (sym (part_is keywords.Edif t (h.name_part ∷ h.version_part ∷ h.level_part ∷ h.map_part ∷ []) h.inner 1 b.0 h.version_part h.form b.1 refl)) h.version) b.3
    go e (stands.edif_level b) = level_apart keywords.EdifLevel b.0 f (subst (IsLevel keywords.EdifLevel) (sym (part_is keywords.Edif t (h.name_part ∷ h.version_part ∷ h.level_part ∷ h.map_part ∷ []) h.inner 2 b.0 h.level_part h.form b.1 refl)) h.level) b.3
    go e (stands.edif_map b) = map_apart b.0 h.keyword_level_part h.map_inner f (subst (λ u. IsFormOf keywords.KeywordMap u (h.keyword_level_part ∷ []) h.map_inner) (sym (part_is keywords.Edif t (h.name_part ∷ h.version_part ∷ h.level_part ∷ h.map_part ∷ []) h.inner 3 b.0 h.map_part h.form b.1 refl)) h.keyword_map) h.keyword_level b.3
    go e (stands.edif_library b) = after_apart MeansLibrary FineLibrary LibraryFault f (λ before u l m q k. library_apart before u l f m q k) library_once [] (libraries (followers keywords.Edif t)) (filter is_library h.inner) d.libs e h.libs
        (all_from_places FineLibrary d.libs (λ i l g. fine_library d i l h.valid g)) b
    go e (stands.library_again b) = repeats_apart (λ (l : design.Lib). l.head.name.id) f (libraries (followers keywords.Edif t)) d.libs
        (after_with MeansLibrary (λ u l. IsNamed u l.head.name.id) library_named [] (libraries (followers keywords.Edif t)) (filter is_library h.inner) d.libs e h.libs) h.valid.names.libs b
    go e (stands.many_libraries b) =
        let n : length (libraries (followers keywords.Edif t)) ≡ length d.libs = sym (length-map (libraries (followers keywords.Edif t)) bare) ∙ (ap length e ∙ after_length MeansLibrary [] (filter is_library h.inner) d.libs h.libs) in
        let k : length d.libs ≤ 1024 = h.valid.limits.libs in beyond_apart 1024 (libraries (followers keywords.Edif t)) f (omega (arith, n, k)) b
    go e (stands.edif_design b) =
        let ts = followers keywords.Edif t in
        let w : map bare ts ≡ h.inner = followers_are keywords.Edif t (h.name_part ∷ h.version_part ∷ h.level_part ∷ h.map_part ∷ []) h.inner h.form in
        let front : map bare (libraries (before_the_design ts)) ≡ filter is_library (before_design h.inner) = filter_bare is_library (before_the_design ts) ∙ ap (filter is_library) (before_bare ts ∙ ap before_design w) in
        let r = libraries_before h.inner in
        let P : List Bare → Type 0 = λ v. EachAfter MeansLibrary [] v d.libs in
        let g : EachAfter MeansLibrary [] (filter is_library (before_design h.inner)) (libs_before_design h.inner d.libs) = front_after MeansLibrary [] (filter is_library (before_design h.inner)) r.0 d.libs (subst P r.1 h.libs) in
        let Q : List Bare → Type 0 = λ v. EachAfter MeansLibrary [] v b.libs in
        let s : b.libs ≡ libs_before_design h.inner d.libs = each_after_once MeansLibrary library_once [] (filter is_library (before_design h.inner)) b.libs (libs_before_design h.inner d.libs) (subst Q front b.means) g in
        let R : List design.Lib → Type 0 = λ v. Among (DesignFault v) (parts keywords.Edif keywords.Design t) f in
        perhaps_apart (MeansDesign (libs_before_design h.inner d.libs) d.notes) (FineTop d.notes) (DesignFault (libs_before_design h.inner d.libs)) f (λ u x m q k. design_apart (libs_before_design h.inner d.libs) d.notes u x f m q k)
        (parts keywords.Edif keywords.Design t) (those keywords.Design h.inner) d.top (parts_are keywords.Edif keywords.Design t (h.name_part ∷ h.version_part ∷ h.level_part ∷ h.map_part ∷ []) h.inner h.form) h.top (fine_top d d.top refl h.valid) (subst R s (among_first (DesignFault b.libs) f (parts keywords.Edif keywords.Design t) b.first b.there b.fault))

-- No fault stands in a tree that means a design.
pub stands_apart : (t : Placed) (d : design.Design) (f : MeaningFault) → MeansFile (bare t) d → Stands t f → ⊥
stands_apart t d f h (stands.no_file k b) =
    let yes' : has_keyword keywords.Edif (bare t) ≡ true = keyword_of keywords.Edif (bare t) (h.name_part ∷ h.version_part ∷ h.level_part ∷ h.map_part ∷ []) h.inner h.form in
    let no' : has_keyword keywords.Edif (bare t) ≡ false = k in absurd (cc)
stands_apart t d f h (stands.in_file k b) = file_apart t d f h b
