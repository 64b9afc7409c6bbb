-- A file whose parts are meant means a valid design.
use Rattle.std.proofs.Common.{◌≡◌, ℕ, List, [], ◌∷◌, map, length, take, refl, ap, sym, ◌∙◌, subst, Option, Some, None, arith}
use Rattle.std.specs.Prelude.{filter}
use Rattle.std.specs.List.{AllByRecursion}
use Rattle.std.proofs.lemmas.List.{length-map}
use Rattle.netlist_schema.specs.Names.{AreDistinct}
use Rattle.netlist_schema.specs.Typed.{IsTypedName, IsTypedCell}
use Rattle.netlist_schema.specs.Valid.{IsValid}
use Rattle.netlist_schema.proofs.Lists.{all_weaker}
use Rattle.edif_spelling_spec.specs.Tree.{Bare, Placed, bare}
use Rattle.edif_spec.specs.Rows.{has_keyword, those, EachAfter, Perhaps}
use Rattle.edif_spec.specs.Means.{MeansLibrary, is_library, MeansDesign, before_design, libs_before_design, MeansFile}
use Rattle.edif_spec.specs.Faults.{followers}
use Rattle.edif_spec.specs.Stands.{before_the_design, libraries}
use Rattle.edif_spec.specs.Design as design
use Rattle.edif_spec.specs.declared.keyword.Keyword.TheVariants as keywords
use Rattle.edif_spec.proofs.CellFaultsApart.{FineCell}
use Rattle.edif_spec.proofs.FaultForms.{filter_bare}
use Rattle.edif_spec.proofs.FileFaultsApart.{before_bare}
use Rattle.edif_spec.proofs.KnownDesigns.{design_is_valid}
use Rattle.edif_spec.proofs.KnownFile.{FineLib, FineNote}
use Rattle.edif_build.specs.Cells.{IsSoundCell}
use Rattle.edif_build.specs.Files.{ReadFollowers, ReadHeads, TopIs, head_of, notes_of}
use Rattle.edif_contents.specs.Known.{KnownLibs}
use Rattle.edif_build.specs.Libraries.{IsSoundLib, LibsAre}
use Rattle.edif_build.specs.Notes.{IsSoundNote}
use Rattle.edif_build.specs.declared.top.Top.{Top}

-- what was read is fine
fine_lib : (l : design.Lib) → IsSoundLib l → FineLib l
fine_lib l h = record {
  name = h.name;
  typed = all_weaker IsSoundCell IsTypedCell l.cells (λ c s. s.typed) h.cells;
  cells = all_weaker IsSoundCell FineCell l.cells (λ c s. record { limits = s.limits; names = s.names; joined_once = s.joined_once }) h.cells;
  names = h.names;
  count = h.count;
}

fine_libs : (ts : List Placed) (known : KnownLibs) → LibsAre ts known → AllByRecursion FineLib known.libs
fine_libs ts known h = all_weaker IsSoundLib FineLib known.libs fine_lib h.sound

none_differ : AreDistinct {X = List (List ℕ) × List ℕ} []
none_differ = λ i j d l k. absurd (omega arith)

-- the parts of a valid design
abbrev pub whole : design.Name → List design.Lib → Option Top → design.Design
whole title libs o = record { title = title; libs = libs; top = head_of o; notes = notes_of o }

pub valid_whole : (ts : List Placed) (title : design.Name) (known : KnownLibs) (o : Option Top) → IsTypedName title → ReadFollowers ts known o → IsValid (whole title known.libs o)
valid_whole ts title known None n h =
    design_is_valid (whole title known.libs None) (map bare (libraries ts)) [] 0 n h.libs.mean (fine_libs (libraries ts) known h.libs) h.libs.distinct h.libs.count tt tt refl tt (omega arith) none_differ
valid_whole ts title known (Some x) n h =
    let r = h.top.5 in
    let P : List design.Lib → Type 0 = λ v. MeansDesign v x.notes (bare h.top.0) x.head in
    design_is_valid (whole title known.libs (Some x)) (map bare (libraries ts)) (bare h.top.0 ∷ []) (length (libraries (before_the_design ts))) n h.libs.mean (fine_libs (libraries ts) known h.libs) h.libs.distinct h.libs.count
    (subst P h.top.4 r.mean) (record { keys = r.keys; count = r.count; differ = r.differ }, r.name, r.typed) tt (all_weaker IsSoundNote FineNote x.notes (λ m s. record { typed = s.typed; some_step = s.some_step }) r.sound) r.count r.differ

-- the libraries before the design, as they are counted
front_is : (ts : List Placed) (libs : List design.Lib) → libs_before_design (map bare ts) libs ≡ take (length (libraries (before_the_design ts))) libs
front_is ts libs =
    let e : map bare (libraries (before_the_design ts)) ≡ filter is_library (before_design (map bare ts)) = filter_bare is_library (before_the_design ts) ∙ ap (filter is_library) (before_bare ts) in
    let n : length (filter is_library (before_design (map bare ts))) ≡ length (libraries (before_the_design ts)) = ap length (sym e) ∙ length-map (libraries (before_the_design ts)) bare in
    ap (λ k. take k libs) n

top_means : (ts : List Placed) (libs : List design.Lib) (o : Option Top) → TopIs libs ts o → Perhaps (MeansDesign (libs_before_design (map bare ts) libs) (notes_of o)) (those keywords.Design (map bare ts)) (head_of o)
top_means ts libs None h =
    let P : List Bare → Type 0 = λ v. Perhaps (MeansDesign (libs_before_design (map bare ts) libs) []) v None in
    let e : [] ≡ those keywords.Design (map bare ts) = ap (map bare) (sym h) ∙ filter_bare (has_keyword keywords.Design) ts in
    subst P e tt
top_means ts libs (Some x) h =
    let M : List design.Lib → Type 0 = λ v. MeansDesign v x.notes (bare h.0) x.head in
    let m : MeansDesign (libs_before_design (map bare ts) libs) x.notes (bare h.0) x.head = subst M (h.4 ∙ sym (front_is ts libs)) h.5.mean in
    let P : List Bare → Type 0 = λ v. Perhaps (MeansDesign (libs_before_design (map bare ts) libs) x.notes) v (Some x.head) in
    let e : bare h.0 ∷ [] ≡ those keywords.Design (map bare ts) = ap (map bare) (sym h.2) ∙ filter_bare (has_keyword keywords.Design) ts in
    subst P e m

-- the file means the design
pub file_means : (t : Placed) (title : design.Name) (known : KnownLibs) (o : Option Top) → ReadHeads t title → ReadFollowers (followers keywords.Edif t) known o → MeansFile (bare t) (whole title known.libs o)
file_means t title known o h k =
    let L : List Bare → Type 0 = λ v. EachAfter MeansLibrary [] v known.libs in
    record {
      name_part = bare h.a;
      version_part = bare h.b;
      level_part = bare h.x;
      map_part = bare h.y;
      keyword_level_part = h.keyword_map.level_part;
      map_inner = h.keyword_map.inner;
      inner = map bare (followers keywords.Edif t);
      form = h.form;
      name = h.name;
      version = h.version;
      level = h.level;
      keyword_map = h.keyword_map.form;
      keyword_level = h.keyword_map.level;
      libs = subst L (filter_bare is_library (followers keywords.Edif t)) k.libs.mean;
      top = top_means (followers keywords.Edif t) known.libs o k.top;
      valid = valid_whole (followers keywords.Edif t) title known o h.typed k;
    }
