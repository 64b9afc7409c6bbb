-- What is read of a file.
use Rattle.std.specs.Prelude.{◌≡◌, ◌⊎◌, ℕ, pos, List, [], ◌∷◌, Option, None, Some, length, map, option_map, slice_get, take, true}
use Rattle.edif_spelling_spec.specs.Tree.{Placed, bare, integer}
use Rattle.netlist_schema.specs.Typed.{IsTypedName}
use Rattle.edif_spec.specs.Design as design
use Rattle.edif_spec.specs.Faults.{AtTwo, arguments, fixed_count, followers, place_of, those_of}
use Rattle.edif_spec.specs.Keyword.{name_definition, row}
use Rattle.edif_spec.specs.Means.{IsLevel, MeansName}
use Rattle.edif_spec.specs.Rows.{IsFormOf, has_keyword, is_one_of}
use Rattle.edif_spec.specs.Stands.{DesignFault, before_the_design, libraries}
use Rattle.edif_spec.specs.declared.keyword.Keyword.TheVariants as keywords
use Rattle.edif_spec.specs.declared.fault.ClashKind.TheVariants.{SecondDesign}
use Rattle.edif_spec.specs.declared.fault.MeaningFault.{MeaningFault}
use Rattle.edif_spec.specs.declared.fault.MeaningFault.TheVariants.{Clash}
use Rattle.edif_tree.specs.Handles.{all}
use Rattle.edif_grammar.specs.Forms.{Fits}
use Rattle.edif_contents.specs.Known.{KnownLibs}
use Rattle.edif_build.specs.Levels.{IsKeywordMap}
use Rattle.edif_build.specs.Libraries.{LibsAre, LibsFail}
use Rattle.edif_build.specs.Notes.{ReadTop}
use Rattle.edif_build.specs.declared.file.FileForm.{FileForm}
use Rattle.edif_grammar.specs.declared.lent.Form.{Form}
use Rattle.edif_build.specs.declared.top.Top.{Top}

-- the parts of the form of a file, which fits but for a second design
pub record ReadRoot (t : Placed) (p : Form) : Type 0 where
  pub fits : Fits None keywords.Edif t
  pub fixed : all p.fixed ≡ take (fixed_count (row keywords.Edif)) (arguments t)
  pub inner : all p.inner ≡ followers keywords.Edif t

-- the four fixed arguments of a file
pub record HasFixed (t : Placed) (fixed : List Placed) : Type 0 where
  pub a : Placed
  pub b : Placed
  pub x : Placed
  pub y : Placed
  pub at_a : slice_get (arguments t) 0 ≡ Some a
  pub at_b : slice_get (arguments t) 1 ≡ Some b
  pub at_x : slice_get (arguments t) 2 ≡ Some x
  pub at_y : slice_get (arguments t) 3 ≡ Some y
  pub is_a : is_one_of name_definition (bare a) ≡ true
  pub is_b : has_keyword keywords.EdifVersion (bare b) ≡ true
  pub is_x : has_keyword keywords.EdifLevel (bare x) ≡ true
  pub is_y : has_keyword keywords.KeywordMap (bare y) ≡ true
  pub form : IsFormOf keywords.Edif (bare t) (bare a ∷ bare b ∷ bare x ∷ bare y ∷ []) (map bare (followers keywords.Edif t))
  pub are : fixed ≡ a ∷ b ∷ x ∷ y ∷ []

-- the place of the one design, where there is one
abbrev pub DesignAt : List Placed → Option ℕ → Type 0
DesignAt ts None = those_of keywords.Design ts ≡ []
DesignAt ts (Some i) = (t : Placed) × (slice_get ts i ≡ Some t) × (those_of keywords.Design (take i ts) ≡ []) × (those_of keywords.Design ts ≡ t ∷ [])

-- a second design
abbrev pub SecondDesigns : List Placed → MeaningFault → Type 0
SecondDesigns ts f = AtTwo (λ a b. f ≡ Clash SecondDesign (place_of b) (place_of a)) (those_of keywords.Design ts)

-- The form of a file, by its parts.
pub record ReadForm (t : Placed) (f : FileForm) : Type 0 where
  pub fixed : HasFixed t (all f.fixed)
  pub inner : all f.inner ≡ followers keywords.Edif t
  pub design : DesignAt (followers keywords.Edif t) f.design

-- The title, the version, the level and the keyword map that the fixed arguments of a file mean.
pub record ReadHeads (t : Placed) (title : design.Name) : Type 0 where
  pub a : Placed
  pub b : Placed
  pub x : Placed
  pub y : Placed
  pub form : IsFormOf keywords.Edif (bare t) (bare a ∷ bare b ∷ bare x ∷ bare y ∷ []) (map bare (followers keywords.Edif t))
  pub name : MeansName (bare a) title
  pub typed : IsTypedName title
  pub version : IsFormOf keywords.EdifVersion (bare b) (integer (pos 2) ∷ integer (pos 0) ∷ integer (pos 0) ∷ []) []
  pub level : IsLevel keywords.EdifLevel (bare x)
  pub keyword_map : IsKeywordMap (bare y)

-- no design, or one, which means the top where the libraries before it are those that are known then
abbrev pub TopIs : List design.Lib → List Placed → Option Top → Type 0
TopIs libs ts None = those_of keywords.Design ts ≡ []
TopIs libs ts (Some x) = (t : Placed) × (before : KnownLibs) × (those_of keywords.Design ts ≡ t ∷ []) × LibsAre (libraries (before_the_design ts)) before
    × (before.libs ≡ take (length (libraries (before_the_design ts))) libs) × ReadTop before.libs t x

-- the libraries and the top that what follows in a file means
pub record ReadFollowers (ts : List Placed) (known : KnownLibs) (o : Option Top) : Type 0 where
  pub libs : LibsAre (libraries ts) known
  pub top : TopIs known.libs ts o

-- the libraries and the top that what follows in a file means, without the names that are known then
abbrev pub ReadBody : List Placed → List design.Lib → Option Top → Type 0
ReadBody ts libs o = (known : KnownLibs) × ReadFollowers ts known o × (libs ≡ known.libs)

-- in what follows: in the libraries, in the first design where the libraries before it are known
abbrev pub FollowersFail : List Placed → MeaningFault → Type 0
FollowersFail ts f = LibsFail (libraries ts) f ⊎ ((before : KnownLibs) × LibsAre (libraries (before_the_design ts)) before × (u : Placed) × (slice_get (those_of keywords.Design ts) 0 ≡ Some u) × DesignFault before.libs u f)

-- the top and the notes, none where there is no design
abbrev pub head_of : Option Top → Option design.TopHead
head_of o = option_map (λ x. x.head) o

abbrev pub notes_of : Option Top → List design.Note
notes_of None = []
notes_of (Some x) = x.notes
