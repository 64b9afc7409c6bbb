use Rattle.std.proofs.Common.{◌≡◌, List, [], ◌∷◌, map, length, refl, sym, ap, subst, true, arith}
use Rattle.std.specs.Prelude.{IsTrue}
use Rattle.edif_spelling_spec.specs.Tree.{Bare, Placed, bare}
use Rattle.edif_spec.specs.Faults.{followers}
use Rattle.edif_spec.specs.Keyword.{name_definition}
use Rattle.edif_spec.specs.Rows.{IsFormOf, has_keyword, is_one_of}
use Rattle.edif_spec.specs.Stands.{FileFault, LevelFault, MapFault, NameFault, VersionFault}
use Rattle.edif_spec.specs.Stands as stands
use Rattle.edif_spec.specs.declared.keyword.Keyword.TheVariants as keywords
use Rattle.edif_tree.specs.Handles.{here, all}
use Rattle.edif_build.specs.Files.{HasFixed, ReadHeads}
use Rattle.edif_parts.proofs.Answering.{hand_on}
use Rattle.edif_parts.proofs.PartLemmas.{same_at}
use Rattle.edif_build.proofs.file.read_heads.Goals as goal

count : (t : Placed) (ts : List Placed) → HasFixed t ts → length ts ≡ 4
count t ts h = ap length h.are

pub at-requires : goal.at-requires
at-requires c = omega (arith, count c.requires.0 (all c.args.fixed) c.requires.1)

pub at-requires-2 : goal.at-requires-2
at-requires-2 c = omega (arith, count c.requires.0 (all c.args.fixed) c.requires.1)

pub at-requires-3 : goal.at-requires-3
at-requires-3 c = omega (arith, count c.requires.0 (all c.args.fixed) c.requires.1)

pub at-requires-4 : goal.at-requires-4
at-requires-4 c = omega (arith, count c.requires.0 (all c.args.fixed) c.requires.1)

pub read_version-requires : goal.read_version-requires
read_version-requires c =
    let u = here c.at.result in
    let h = c.requires.1 in
    let P : Placed → Type 0 = λ v. has_keyword keywords.EdifVersion (bare v) ≡ true in
    subst P (same_at (all c.args.fixed) (h.a ∷ h.b ∷ h.x ∷ h.y ∷ []) 1 h.b u h.are refl c.at.ensures) h.is_b

pub returns-in_err-read_version : goal.returns-in_err-read_version
returns-in_err-read_version c = λ t h.
    let u = here c.at.result in
    let e = same_at (all c.args.fixed) (h.a ∷ h.b ∷ h.x ∷ h.y ∷ []) 1 h.b u h.are refl c.at.ensures in
    hand_on (ReadHeads t) (VersionFault u) (FileFault t) c.from_residual.result c.in_err-read_version.field-0.0 c.from_residual.ensures.1
    (λ f b. (let F : Placed → Type 0 = λ v. VersionFault v f in stands.edif_version (h.b, h.at_b, h.is_b, subst F (sym e) b))) c.in_err-read_version.ensures

pub read_level-requires-clause-keyword : goal.read_level-requires-clause-keyword
read_level-requires-clause-keyword c =
    let u = here c.at-2.result in
    let h = c.requires.1 in
    let P : Placed → Type 0 = λ v. has_keyword keywords.EdifLevel (bare v) ≡ true in
    subst P (same_at (all c.args.fixed) (h.a ∷ h.b ∷ h.x ∷ h.y ∷ []) 2 h.x u h.are refl c.at-2.ensures) h.is_x

pub returns-in_err-read_level : goal.returns-in_err-read_level
returns-in_err-read_level c = λ t h.
    let u = here c.at-2.result in
    let e = same_at (all c.args.fixed) (h.a ∷ h.b ∷ h.x ∷ h.y ∷ []) 2 h.x u h.are refl c.at-2.ensures in
    hand_on (ReadHeads t) (LevelFault keywords.EdifLevel u) (FileFault t) c.from_residual-in_err-read_level.result c.in_err-read_level.field-0.0 c.from_residual-in_err-read_level.ensures.1
    (λ f b. (let F : Placed → Type 0 = λ v. LevelFault keywords.EdifLevel v f in stands.edif_level (h.x, h.at_x, h.is_x, subst F (sym e) b))) c.in_err-read_level.ensures

pub read_keyword_map-requires : goal.read_keyword_map-requires
read_keyword_map-requires c =
    let u = here c.at-3.result in
    let h = c.requires.1 in
    let P : Placed → Type 0 = λ v. has_keyword keywords.KeywordMap (bare v) ≡ true in
    subst P (same_at (all c.args.fixed) (h.a ∷ h.b ∷ h.x ∷ h.y ∷ []) 3 h.y u h.are refl c.at-3.ensures) h.is_y

pub returns-in_err-read_keyword_map : goal.returns-in_err-read_keyword_map
returns-in_err-read_keyword_map c = λ t h.
    let u = here c.at-3.result in
    let e = same_at (all c.args.fixed) (h.a ∷ h.b ∷ h.x ∷ h.y ∷ []) 3 h.y u h.are refl c.at-3.ensures in
    hand_on (ReadHeads t) (MapFault u) (FileFault t) c.from_residual-in_err-read_keyword_map.result c.in_err-read_keyword_map.field-0.0 c.from_residual-in_err-read_keyword_map.ensures.1
    (λ f b. (let F : Placed → Type 0 = λ v. MapFault v f in stands.edif_map (h.y, h.at_y, h.is_y, subst F (sym e) b))) c.in_err-read_keyword_map.ensures

pub read_name-requires : goal.read_name-requires
read_name-requires c =
    let u = here c.at-4.result in
    let h = c.requires.1 in
    let P : Placed → Type 0 = λ v. IsTrue (is_one_of name_definition (bare v)) in
    subst P (same_at (all c.args.fixed) (h.a ∷ h.b ∷ h.x ∷ h.y ∷ []) 0 h.a u h.are refl c.at-4.ensures) h.is_a

pub returns-in_err-title : goal.returns-in_err-title
returns-in_err-title c = λ t h.
    let u = here c.at-4.result in
    let e = same_at (all c.args.fixed) (h.a ∷ h.b ∷ h.x ∷ h.y ∷ []) 0 h.a u h.are refl c.at-4.ensures in
    hand_on (ReadHeads t) (NameFault u) (FileFault t) c.from_residual-in_err-title.result c.in_err-title.field-0.0 c.from_residual-in_err-title.ensures.1
    (λ f b. (let F : Placed → Type 0 = λ v. NameFault v f in stands.edif_name (h.a, h.at_a, subst F (sym e) b))) c.in_err-title.ensures

pub returns : goal.returns
returns c = λ t h.
    let us : List Placed = h.a ∷ h.b ∷ h.x ∷ h.y ∷ [] in
    let a = here c.at-4.result in
    let b = here c.at.result in
    let x = here c.at-2.result in
    let y = here c.at-3.result in
    let is_a = same_at (all c.args.fixed) us 0 h.a a h.are refl c.at-4.ensures in
    let is_b = same_at (all c.args.fixed) us 1 h.b b h.are refl c.at.ensures in
    let is_x = same_at (all c.args.fixed) us 2 h.x x h.are refl c.at-2.ensures in
    let is_y = same_at (all c.args.fixed) us 3 h.y y h.are refl c.at-3.ensures in
    let F : List Bare → Type 0 = λ v. IsFormOf keywords.Edif (bare t) v (map bare (followers keywords.Edif t)) in
    let m = c.in_ok-title.ensures in
    record {
      a = a;
      b = b;
      x = x;
      y = y;
      form = subst F (λ i. bare (is_a i) ∷ bare (is_b i) ∷ bare (is_x i) ∷ bare (is_y i) ∷ []) h.form;
      name = m.0;
      typed = m.1;
      version = c.in_ok-read_version.ensures;
      level = c.in_ok-read_level.ensures;
      keyword_map = c.in_ok-read_keyword_map.ensures;
    }
