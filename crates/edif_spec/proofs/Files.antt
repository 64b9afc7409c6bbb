-- The canonical tree of a whole design.
use Rattle.std.proofs.Common.{◌≡◌, pos, List, [], ◌∷◌, ◌++◌, map, length, take, refl, ap, sym, ◌∙◌, subst, Bool, true, false, Option, Some, None, append-nil}
use Rattle.std.specs.Prelude.{IsTrue, filter, codes}
use Rattle.std.specs.List.{list_all}
use Rattle.std.proofs.lemmas.List.Elements.{filter-append}
use Rattle.std.proofs.Math.Seq.{take-length}
use Rattle.std.proofs.lemmas.List.{length-map}
use Rattle.edif_spelling_spec.specs.Tree.{Bare, form, word, integer}
use Rattle.edif_spec.specs.Keyword.{Follower, Many, One, name_definition}
use Rattle.edif_spec.specs.Rows.{has_keyword, those, is_follower, is_one_of, IsFormOf, Perhaps, EachAfter}
use Rattle.edif_spec.specs.Canonical.{make, perhaps, name_tree, cell_tree, library_tree, library_keyword, zero_tree, design_tree, tree_of}
use Rattle.edif_spec.specs.Means.{MeansDesign, MeansCell, MeansLibrary, MeansFile, is_library, before_design, libs_before_design}
use Rattle.netlist_schema.specs.Valid.{IsValid}
use Rattle.edif_spec.specs.Defined.{AllAfter}
use Rattle.edif_spec.specs.declared.keyword.Keyword.{Keyword}
use Rattle.edif_spec.specs.declared.keyword.Keyword.TheVariants as keywords
use Rattle.edif_spec.specs.Design as design
use Rattle.edif_spec.proofs.Groups.{joined, Grouped, those_joined, joined_follows}
use Rattle.edif_spec.proofs.Followers.{all_kept, none_kept, one_kept, one_dropped, all_pass, one_passes, both_pass, at_most_one}
use Rattle.edif_spec.proofs.Meanings.{name_fits, name_meant, cell_meant, group_of, zero_level, ValidFace, ContentsMeant}

pub each_after_map : {A : Type 0} (P : List A → A → Type 0) (R : List A → Bare → A → Type 0) (f : A → Bare) (before xs : List A) → AllAfter P before xs → ((b : List A) (x : A) → P b x → R b (f x) x) → EachAfter R before (map f xs) xs
each_after_map P R f before [] h g = tt
each_after_map P R f before (x ∷ xs) h g = (g before x h.0, each_after_map P R f (before ++ x ∷ []) xs h.1 g)

abbrev library_followers : List Follower
library_followers = Many keywords.Status ∷ Many keywords.Cell ∷ Many keywords.Comment ∷ Many keywords.UserData ∷ []

library_form : (e : Bool) (n : Bare) (inner : List Bare) → IsTrue (is_one_of name_definition n) → IsTrue (list_all (is_follower library_followers) inner) →
    IsFormOf (library_keyword e) (make (library_keyword e) (n ∷ zero_tree keywords.EdifLevel ∷ make keywords.Technology (form (word (codes "numberDefinition") ∷ []) ∷ []) ∷ inner))
    (n ∷ zero_tree keywords.EdifLevel ∷ make keywords.Technology (form (word (codes "numberDefinition") ∷ []) ∷ []) ∷ []) inner
library_form false n inner h f = record { spelled = codes "library"; is = refl; keyword = refl; fits = ((h, (refl, (refl, tt))), f, tt) }
library_form true n inner h f = record { spelled = codes "external"; is = refl; keyword = refl; fits = ((h, (refl, (refl, tt))), f, tt) }

-- the cell's parts are valid, and its contents' tree means it by the cells before
abbrev pub CellMeant : List design.Lib → List design.Lib → design.LibHead → List design.CellBody → design.CellBody → Type 0
CellMeant all before head cells c = ValidFace c × ContentsMeant all (before ++ record { head = head; cells = cells } ∷ []) (Some (length before)) c

pub library_meant : (all before : List design.Lib) (l : design.Lib) → AllAfter (CellMeant all before l.head) [] l.cells → MeansLibrary before (library_tree all l) l
library_meant all before l h =
    let gs : List (Keyword × List Bare) = (keywords.Cell, map (cell_tree all) l.cells) ∷ [] in
    let grouped : Grouped gs = (group_of keywords.Cell (cell_tree all) l.cells (λ x. refl), tt) in
    record {
      name_part = name_tree l.head.name;
      level_part = zero_tree keywords.EdifLevel;
      technology_part = make keywords.Technology (form (word (codes "numberDefinition") ∷ []) ∷ []);
      inner = joined gs;
      form = library_form l.head.external (name_tree l.head.name) (joined gs) (name_fits l.head.name.id l.head.name.shown) (joined_follows library_followers gs refl grouped);
      name = name_meant l.head.name.id l.head.name.shown;
      level = zero_level keywords.EdifLevel refl ((refl, tt), refl, tt);
      cells = rw (those_joined keywords.Cell gs grouped) (each_after_map (CellMeant all before l.head) (λ cells. MeansCell (before ++ record { head = l.head; cells = cells } ∷ []) (Some (length before))) (cell_tree all) [] l.cells h
          (λ b x k. cell_meant all (before ++ record { head = l.head; cells = b } ∷ []) (Some (length before)) x k.0 k.1));
    }

-- a test of a library's tree goes by its keyword
by_keyword : (e : Bool) (arguments : List Bare) (p : Bare → Bool) (b : Bool) → p (make keywords.Library arguments) ≡ b → p (make keywords.External arguments) ≡ b → p (make (library_keyword e) arguments) ≡ b
by_keyword false arguments p b h k = h
by_keyword true arguments p b h k = k

library_test : (all : List design.Lib) (p : Bare → Bool) (b : Bool) → ((arguments : List Bare) → (p (make keywords.Library arguments) ≡ b) × (p (make keywords.External arguments) ≡ b)) → (l : design.Lib) → p (library_tree all l) ≡ b
library_test all p b h l =
    let arguments : List Bare = name_tree l.head.name ∷ zero_tree keywords.EdifLevel ∷ make keywords.Technology (form (word (codes "numberDefinition") ∷ []) ∷ []) ∷ map (cell_tree all) l.cells in
    by_keyword l.head.external arguments p b (h arguments).0 (h arguments).1

-- what stands before the design
front : {A B : Type 0} (f : A → Bare) (g : B → Bare) (xs : List A) (o : Option B) → ((x : A) → has_keyword keywords.Design (f x) ≡ false) → ((y : B) → has_keyword keywords.Design (g y) ≡ true) → before_design (map f xs ++ perhaps g o) ≡ map f xs
front f g [] None h k = refl
front f g [] (Some y) h k = rw (k y) refl
front f g (x ∷ xs) o h k = rw (h x) (ap (λ v. f x ∷ v) (front f g xs o h k))

-- The design's part of the file.
pub record FileMeant (d : design.Design) : Type 0 where
  pub libs : AllAfter (λ before l. AllAfter (CellMeant d.libs before l.head) [] l.cells) [] d.libs
  pub top : Perhaps (MeansDesign d.libs d.notes) (perhaps (design_tree d.libs d.notes) d.top) d.top
  pub valid : IsValid d

pub file_meant : (d : design.Design) → FileMeant d → MeansFile (tree_of d) d
file_meant d h =
    let libs = map (library_tree d.libs) d.libs in
    let tops = perhaps (design_tree d.libs d.notes) d.top in
    let fs : List Follower = Many keywords.Status ∷ Many keywords.External ∷ Many keywords.Library ∷ One keywords.Design ∷ Many keywords.Comment ∷ Many keywords.UserData ∷ [] in
    let only_libs : filter is_library (libs ++ tops) ≡ libs =
    filter-append is_library libs tops ∙ (ap (λ v. v ++ filter is_library tops) (all_kept is_library (library_tree d.libs) d.libs (library_test d.libs is_library true (λ a. (refl, refl))))
    ∙ (ap (λ v. libs ++ v) (one_dropped is_library (design_tree d.libs d.notes) d.top (λ x. refl)) ∙ append-nil libs)) in
    let only_tops : those keywords.Design (libs ++ tops) ≡ tops =
    filter-append (has_keyword keywords.Design) libs tops ∙ (ap (λ v. v ++ those keywords.Design tops) (none_kept (has_keyword keywords.Design) (library_tree d.libs) d.libs (library_test d.libs (has_keyword keywords.Design) false (λ a. (refl, refl))))
    ∙ one_kept (has_keyword keywords.Design) (design_tree d.libs d.notes) d.top (λ x. refl)) in
    let all_before : libs_before_design (libs ++ tops) d.libs ≡ d.libs =
    ap (λ v. take (length (filter is_library v)) d.libs) (front (library_tree d.libs) (design_tree d.libs d.notes) d.libs d.top (library_test d.libs (has_keyword keywords.Design) false (λ a. (refl, refl))) (λ y. refl))
    ∙ (ap (λ v. take (length v) d.libs) (all_kept is_library (library_tree d.libs) d.libs (library_test d.libs is_library true (λ a. (refl, refl))))
    ∙ (ap (λ n. take n d.libs) (length-map d.libs (library_tree d.libs)) ∙ take-length d.libs)) in
    let P : List design.Lib → Type 0 = λ v. Perhaps (MeansDesign v d.notes) tops d.top in
    record {
      name_part = name_tree d.title;
      version_part = make keywords.EdifVersion (integer (pos 2) ∷ integer (pos 0) ∷ integer (pos 0) ∷ []);
      level_part = zero_tree keywords.EdifLevel;
      map_part = make keywords.KeywordMap (zero_tree keywords.KeywordLevel ∷ []);
      keyword_level_part = zero_tree keywords.KeywordLevel;
      map_inner = [];
      inner = libs ++ tops;
      form = record {
        spelled = codes "edif";
        is = refl;
        keyword = refl;
        fits = (
          (name_fits d.title.id d.title.shown, (refl, (refl, (refl, tt)))),
          both_pass (is_follower fs) libs tops (all_pass (is_follower fs) (library_tree d.libs) d.libs (library_test d.libs (is_follower fs) true (λ a. (refl, refl)))) (one_passes (is_follower fs) (design_tree d.libs d.notes) d.top (λ x. refl)),
          (rw only_tops (at_most_one (design_tree d.libs d.notes) d.top), tt),
        );
      };
      name = name_meant d.title.id d.title.shown;
      version = record { spelled = codes "edifVersion"; is = refl; keyword = refl; fits = ((refl, (refl, (refl, tt))), refl, tt) };
      level = zero_level keywords.EdifLevel refl ((refl, tt), refl, tt);
      keyword_map = record { spelled = codes "keywordMap"; is = refl; keyword = refl; fits = ((refl, tt), refl, tt) };
      keyword_level = zero_level keywords.KeywordLevel refl ((refl, tt), refl, tt);
      libs = rw only_libs (each_after_map (λ before l. AllAfter (CellMeant d.libs before l.head) [] l.cells) MeansLibrary (library_tree d.libs) [] d.libs h.libs (library_meant d.libs));
      top = rw only_tops (subst P (sym all_before) h.top);
      valid = h.valid;
    }
