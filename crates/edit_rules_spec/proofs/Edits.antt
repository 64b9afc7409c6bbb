-- What a change does to the parts of a design.
use Rattle.std.proofs.Common.{◌≡◌, ◌≢◌, ℕ, zero, suc, ◌⊎◌, inl, inr, ⊎_elim, List, [], ◌∷◌, ◌++◌, map, Option, Some, None, refl, sym, ap, subst, ◌∙◌, slice_get, length, arith, append-nil}
use Rattle.std.specs.Option.{option_map, option_map_or}
use Rattle.std.proofs.lemmas.Bool.{cases_eq}
use Rattle.std.proofs.lemmas.List.{map-append}
use Rattle.netlist_schema.specs.Design.{Design, lib_at, cell_at, cells_in}
use Rattle.netlist_schema.specs.Names.{cell_names}
use Rattle.netlist_schema.specs.Types.{CellBody, CellId, Contents as CellContents, Lib, LibId, Object}
use Rattle.netlist_schema.specs.declared.ids.Object.TheVariants.{Directory, Interface, Contents, Notes}
use Rattle.netlist_schema.proofs.WithCell.{same_id, cases_cell}
use Rattle.edit_rules_spec.specs.Edit.{Edit, fresh, lib_with_more, with_more_cell, inner, own, noted, changed_at, with_changed_cell, with_contents, with_properties, edited_once, edited, IsChangedBy, IsChanged, GoesLast, AllGoLast}
use Rattle.edit_rules_spec.specs.Objects.{Agrees, Grown, IsPrefix, Outside, outside_of, outside_at, face_of}

-- what the change of an item keeps is kept at each place
pub kept_at : {X Y : Type 0} (f : X → X) (K : Option X → Y) → ((x : X) → K (Some (f x)) ≡ K (Some x)) → (i : ℕ) (xs : List X) (j : ℕ) → K (slice_get (changed_at f i xs) j) ≡ K (slice_get xs j)
kept_at f K keeps i [] j = refl
kept_at f K keeps zero (x ∷ xs) zero = keeps x
kept_at f K keeps zero (x ∷ xs) (suc j) = refl
kept_at f K keeps (suc i) (x ∷ xs) zero = refl
kept_at f K keeps (suc i) (x ∷ xs) (suc j) = kept_at f K keeps i xs j

pub map-changed_at : {X Y : Type 0} (f : X → X) (g : X → Y) → ((x : X) → g (f x) ≡ g x) → (i : ℕ) (xs : List X) → map g (changed_at f i xs) ≡ map g xs
map-changed_at f g keeps i [] = refl
map-changed_at f g keeps zero (x ∷ xs) = ap (λ y. y ∷ map g xs) (keeps x)
map-changed_at f g keeps (suc i) (x ∷ xs) = ap (λ ys. g x ∷ ys) (map-changed_at f g keeps i xs)

pub slice_get-changed_same : {X : Type 0} (f : X → X) (i : ℕ) (xs : List X) → slice_get (changed_at f i xs) i ≡ option_map f (slice_get xs i)
slice_get-changed_same f i [] = refl
slice_get-changed_same f zero (x ∷ xs) = refl
slice_get-changed_same f (suc i) (x ∷ xs) = slice_get-changed_same f i xs

pub slice_get-changed_other : {X : Type 0} (f : X → X) (i : ℕ) (xs : List X) (j : ℕ) → j ≢ i → slice_get (changed_at f i xs) j ≡ slice_get xs j
slice_get-changed_other f i [] j other = refl
slice_get-changed_other f zero (x ∷ xs) zero other = absurd (other refl)
slice_get-changed_other f zero (x ∷ xs) (suc j) other = refl
slice_get-changed_other f (suc i) (x ∷ xs) zero other = refl
slice_get-changed_other f (suc i) (x ∷ xs) (suc j) other = slice_get-changed_other f i xs j (λ same. other (ap suc same))

abbrev lib_change : (CellBody → CellBody) → ℕ → Lib → Lib
lib_change f slot lib = record lib { cells = changed_at f slot lib.cells }

abbrev pub cells_of : Option Lib → List CellBody
cells_of o = option_map_or (λ (lib : Lib). lib.cells) o []

-- the changed cell, and any other
changed_in : (f : CellBody → CellBody) (slot : ℕ) (o : Option Lib) → slice_get (cells_of (option_map (lib_change f slot) o)) slot ≡ option_map f (slice_get (cells_of o) slot)
changed_in f slot None = refl
changed_in f slot (Some lib) = slice_get-changed_same f slot lib.cells

pub cell_at-changed_same : (d : Design) (id : CellId) (f : CellBody → CellBody) → cell_at (with_changed_cell d id f) id ≡ option_map f (cell_at d id)
cell_at-changed_same d id f =
    ap (λ (o : Option Lib). slice_get (cells_of o) id.slot) (slice_get-changed_same (lib_change f id.slot) id.lib.0 d.libs) ∙ changed_in f id.slot (lib_at d id.lib)

other_in : (f : CellBody → CellBody) (slot other : ℕ) → other ≢ slot → (o : Option Lib) → slice_get (cells_of (option_map (lib_change f slot) o)) other ≡ slice_get (cells_of o) other
other_in f slot other apart None = refl
other_in f slot other apart (Some lib) = slice_get-changed_other f slot lib.cells other apart

pub cell_at-changed_other : (d : Design) (id : CellId) (f : CellBody → CellBody) (other : CellId) → other ≢ id → cell_at (with_changed_cell d id f) other ≡ cell_at d other
cell_at-changed_other d id f other apart =
    ⊎_elim
    (λ (libs : other.lib.0 ≡ id.lib.0).
    let slots : other.slot ≢ id.slot = λ same. apart (same_id other id libs same) in
    let here : slice_get (changed_at (lib_change f id.slot) id.lib.0 d.libs) other.lib.0 ≡ option_map (lib_change f id.slot) (slice_get d.libs other.lib.0) = rw libs (slice_get-changed_same (lib_change f id.slot) id.lib.0 d.libs) in
    ap (λ (o : Option Lib). slice_get (cells_of o) other.slot) here ∙ other_in f id.slot other.slot slots (lib_at d other.lib))
    (λ (libs : other.lib.0 ≢ id.lib.0). ap (λ (o : Option Lib). slice_get (cells_of o) other.slot) (slice_get-changed_other (lib_change f id.slot) id.lib.0 d.libs other.lib.0 libs))
    (cases_eq other.lib.0 id.lib.0)

-- what a change of a cell keeps of the list of cells is kept in each library
cells_kept : {Y : Type 0} (d : Design) (id : CellId) (f : CellBody → CellBody) (K : List CellBody → Y) → ((cells : List CellBody) → K (changed_at f id.slot cells) ≡ K cells) → (lib : LibId) → K (cells_in (with_changed_cell d id f) lib) ≡ K (cells_in d lib)
cells_kept d id f K keeps lib = kept_at (lib_change f id.slot) (λ o. K (cells_of o)) (λ l. keeps l.cells) id.lib.0 d.libs lib.0

-- a change that keeps the outside of a cell
pub record Keeps (f : CellBody → CellBody) : Type 0 where
  pub outside : (body : CellBody) → outside_of (f body) ≡ outside_of body

names_kept : (f : CellBody → CellBody) → Keeps f → (i : ℕ) (cells : List CellBody) → cell_names (changed_at f i cells) ≡ cell_names cells
names_kept f keeps i cells = map-changed_at f (λ (c : CellBody). c.name.id) (λ body. ap (λ (o : Outside). o.name.id) (keeps.outside body)) i cells

-- two designs of the same directories, outsides and so on
pub record IsAlike (d e : Design) : Type 0 where
  pub title : d.title ≡ e.title
  pub libs : map (λ (lib : Lib). lib.head) d.libs ≡ map (λ (lib : Lib). lib.head) e.libs
  pub top : d.top ≡ e.top
  pub directory : (lib : LibId) → Agrees d e (Directory lib)
  pub names : (lib : LibId) → cell_names (cells_in d lib) ≡ cell_names (cells_in e lib)
  pub outside : (id : CellId) → outside_at d id ≡ outside_at e id

pub changed_alike : (d : Design) (id : CellId) (f : CellBody → CellBody) → Keeps f → IsAlike (with_changed_cell d id f) d
changed_alike d id f keeps = record {
  title = refl;
  libs = map-changed_at (lib_change f id.slot) (λ (lib : Lib). lib.head) (λ _. refl) id.lib.0 d.libs;
  top = refl;
  directory = λ lib. kept_at (lib_change f id.slot) (option_map (λ (l : Lib). cell_names l.cells)) (λ l. ap (λ (names : List (List ℕ)). Some names) (names_kept f keeps id.slot l.cells)) id.lib.0 d.libs lib.0;
  names = λ lib. cells_kept d id f cell_names (names_kept f keeps id.slot) lib;
  outside = λ other. cells_kept d id f (λ cells. option_map outside_of (slice_get cells other.slot)) (λ cells. kept_at f (option_map outside_of) (λ body. ap (λ (o : Outside). Some o) (keeps.outside body)) id.slot cells other.slot) other.lib;
}

-- changes of what is there
abbrev pub IsOld : Edit → Type 0
IsOld (fresh id body) = ⊥
IsOld (inner id contents) = Unit {0}
IsOld (own id properties) = Unit {0}
IsOld (noted notes) = Unit {0}

pub once_alike : (d : Design) (edit : Edit) → IsOld edit → IsAlike (edited_once d edit) d
once_alike d (fresh id body) is = absurd is
once_alike d (inner id contents) is = changed_alike d id (with_contents contents) (record { outside = λ body. refl })
once_alike d (own id properties) is = changed_alike d id (with_properties properties) (record { outside = λ body. refl })
once_alike d (noted notes) is = record { title = refl; libs = refl; top = refl; directory = λ lib. refl; names = λ lib. refl; outside = λ id. refl }

alike_grown : (d d' e e' : Design) → IsAlike d' d → IsAlike e' e → Grown d e → Grown d' e'
alike_grown d d' e e' left right grown = record {
  title = left.title ∙ grown.title ∙ sym right.title;
  libs = left.libs ∙ grown.libs ∙ sym right.libs;
  top = left.top ∙ grown.top ∙ sym right.top;
  directories = λ lib. let was = grown.directories lib in (was.0, right.names lib ∙ was.1 ∙ ap (λ (names : List (List ℕ)). names ++ was.0) (sym (left.names lib)));
  cells = λ id outside is. right.outside id ∙ grown.cells id outside (sym (left.outside id) ∙ is);
}

-- what is seen of a cell, after a change of it
map_change : {Y : Type 0} (K : CellBody → Y) (f : CellBody → CellBody) (g : Y → Y) → ((body : CellBody) → K (f body) ≡ g (K body)) → (o : Option CellBody) → option_map K (option_map f o) ≡ option_map g (option_map K o)
map_change K f g follows None = refl
map_change K f g follows (Some body) = ap (λ y. Some y) (follows body)

changed_seen : {Y : Type 0} (K : CellBody → Y) (g : Y → Y) (d : Design) (id : CellId) (f : CellBody → CellBody) → ((body : CellBody) → K (f body) ≡ g (K body)) → option_map K (cell_at (with_changed_cell d id f) id) ≡ option_map g (option_map K (cell_at d id))
changed_seen K g d id f follows = ap (option_map K) (cell_at-changed_same d id f) ∙ map_change K f g follows (cell_at d id)

-- what is seen of a cell is the same in two designs, and so it is where the cell is changed in both
changed_agrees : {Y : Type 0} (K : CellBody → Y) (g : Y → Y) (d e : Design) (id : CellId) (f : CellBody → CellBody) → ((body : CellBody) → K (f body) ≡ g (K body)) → (other : CellId) → option_map K (cell_at d other) ≡ option_map K (cell_at e other) → option_map K (cell_at (with_changed_cell d id f) other) ≡ option_map K (cell_at (with_changed_cell e id f) other)
changed_agrees K g d e id f follows other agree =
    ⊎_elim
    (λ (at : other ≡ id).
    subst (λ (c : CellId). option_map K (cell_at (with_changed_cell d id f) c) ≡ option_map K (cell_at (with_changed_cell e id f) c)) (sym at)
    (changed_seen K g d id f follows ∙ ap (option_map g) (subst (λ (c : CellId). option_map K (cell_at d c) ≡ option_map K (cell_at e c)) at agree) ∙ sym (changed_seen K g e id f follows)))
    (λ (apart : other ≢ id). ap (option_map K) (cell_at-changed_other d id f other apart) ∙ agree ∙ sym (ap (option_map K) (cell_at-changed_other e id f other apart)))
    (cases_cell other id)

-- what a change keeps of the cell is kept of each cell
changed_keeps : {Y : Type 0} (K : CellBody → Y) (d : Design) (id : CellId) (f : CellBody → CellBody) → ((body : CellBody) → K (f body) ≡ K body) → (other : CellId) → option_map K (cell_at (with_changed_cell d id f) other) ≡ option_map K (cell_at d other)
changed_keeps K d id f keeps other =
    cells_kept d id f (λ cells. option_map K (slice_get cells other.slot)) (λ cells. kept_at f (option_map K) (λ body. ap (λ y. Some y) (keeps body)) id.slot cells other.slot) other.lib

-- other contents leave the mark whether there are any
abbrev nothing_in : CellContents
nothing_in = record { insts = []; nets = [] }

mark_kept : (contents : CellContents) (o : Option CellContents) → option_map (λ _. nothing_in) (option_map (λ _. contents) o) ≡ option_map (λ _. nothing_in) o
mark_kept contents None = refl
mark_kept contents (Some old) = refl

face_kept : (contents : CellContents) (body : CellBody) → face_of (with_contents contents body) ≡ face_of body
face_kept contents body = ap (λ (o : Option CellContents). record body { contents = o }) (mark_kept contents body.contents)

abbrev inside_of : CellBody → Option CellContents
inside_of body = body.contents

-- a new cell
pub more_same : (d : Design) (lib : LibId) (body : CellBody) (other : LibId) → other.0 ≡ lib.0 → lib_at (with_more_cell d lib body) other ≡ option_map (lib_with_more body) (lib_at d other)
more_same d lib body other same = subst (λ (k : ℕ). slice_get (changed_at (lib_with_more body) lib.0 d.libs) k ≡ option_map (lib_with_more body) (slice_get d.libs k)) (sym same) (slice_get-changed_same (lib_with_more body) lib.0 d.libs)

pub more_other : (d : Design) (lib : LibId) (body : CellBody) (other : LibId) → other.0 ≢ lib.0 → lib_at (with_more_cell d lib body) other ≡ lib_at d other
more_other d lib body other apart = slice_get-changed_other (lib_with_more body) lib.0 d.libs other.0 apart

abbrev pub directory_of : Option Lib → Option (List (List ℕ))
directory_of o = option_map (λ (l : Lib). cell_names l.cells) o

directory_more : (body : CellBody) (o : Option Lib) → directory_of (option_map (lib_with_more body) o) ≡ option_map (λ names. names ++ body.name.id ∷ []) (directory_of o)
directory_more body None = refl
directory_more body (Some lib) = ap (λ (names : List (List ℕ)). Some names) (map-append (λ (c : CellBody). c.name.id) lib.cells (body ∷ []))

names_of : (o : Option Lib) → cell_names (cells_of o) ≡ option_map_or (λ (names : List (List ℕ)). names) (directory_of o) []
names_of None = refl
names_of (Some lib) = refl

pub more_directory : (d e : Design) (lib : LibId) (body : CellBody) (other : LibId) → Agrees d e (Directory other) → Agrees (with_more_cell d lib body) (with_more_cell e lib body) (Directory other)
more_directory d e lib body other agree =
    ⊎_elim
    (λ (same : other.0 ≡ lib.0).
    ap directory_of (more_same d lib body other same) ∙ directory_more body (lib_at d other) ∙ ap (option_map (λ (names : List (List ℕ)). names ++ body.name.id ∷ [])) agree ∙ sym (ap directory_of (more_same e lib body other same) ∙ directory_more body (lib_at e other)))
    (λ (apart : other.0 ≢ lib.0). ap directory_of (more_other d lib body other apart) ∙ agree ∙ sym (ap directory_of (more_other e lib body other apart)))
    (cases_eq other.0 lib.0)

pub last_of : {X : Type 0} (xs : List X) (x : X) (k : ℕ) → k ≡ length xs → slice_get (xs ++ x ∷ []) k ≡ Some x
last_of [] x zero is = refl
last_of [] x (suc k) is = absurd (omega arith)
last_of (y ∷ ys) x zero is = absurd (omega arith)
last_of (y ∷ ys) x (suc k) is = last_of ys x k (omega arith)

not_last : {X : Type 0} (xs : List X) (x : X) (k : ℕ) → k ≢ length xs → slice_get (xs ++ x ∷ []) k ≡ slice_get xs k
not_last [] x zero apart = absurd (apart refl)
not_last [] x (suc k) apart = refl
not_last (y ∷ ys) x zero apart = refl
not_last (y ∷ ys) x (suc k) apart = not_last ys x k (λ same. apart (ap suc same))

new_in : (body : CellBody) (o : Option Lib) (slot : ℕ) → slot ≡ length (cells_of o) → slice_get (cells_of (option_map (lib_with_more body) o)) slot ≡ option_map (λ (_ : List (List ℕ)). body) (directory_of o)
new_in body None slot is = refl
new_in body (Some lib) slot is = last_of lib.cells body slot is

old_in : (body : CellBody) (o : Option Lib) (slot : ℕ) → slot ≢ length (cells_of o) → slice_get (cells_of (option_map (lib_with_more body) o)) slot ≡ slice_get (cells_of o) slot
old_in body None slot apart = refl
old_in body (Some lib) slot apart = not_last lib.cells body slot apart

-- the new cell gets the place after the last
abbrev pub IsNext : Design → CellId → Type 0
IsNext d id = id.slot ≡ length (cells_in d id.lib)

pub new_cell_at : (d : Design) (id : CellId) (body : CellBody) → IsNext d id → cell_at (with_more_cell d id.lib body) id ≡ option_map (λ (_ : List (List ℕ)). body) (directory_of (lib_at d id.lib))
new_cell_at d id body next = ap (λ (o : Option Lib). slice_get (cells_of o) id.slot) (more_same d id.lib body id.lib refl) ∙ new_in body (lib_at d id.lib) id.slot next

pub other_cell_at : (d : Design) (id : CellId) (body : CellBody) (other : CellId) → IsNext d id → other ≢ id → cell_at (with_more_cell d id.lib body) other ≡ cell_at d other
other_cell_at d id body other next apart =
    ⊎_elim
    (λ (same : other.lib.0 ≡ id.lib.0).
    let past : other.slot ≢ length (cells_of (lib_at d other.lib)) = λ slot. apart (same_id other id same (slot ∙ ap (λ (k : ℕ). length (cells_of (slice_get d.libs k))) same ∙ sym next)) in
    ap (λ (o : Option Lib). slice_get (cells_of o) other.slot) (more_same d id.lib body other.lib same) ∙ old_in body (lib_at d other.lib) other.slot past)
    (λ (other_lib : other.lib.0 ≢ id.lib.0). ap (λ (o : Option Lib). slice_get (cells_of o) other.slot) (more_other d id.lib body other.lib other_lib))
    (cases_eq other.lib.0 id.lib.0)

pub new_written : (d e : Design) (id : CellId) (body : CellBody) → IsNext d id → IsNext e id → Agrees d e (Directory id.lib) → cell_at (with_more_cell d id.lib body) id ≡ cell_at (with_more_cell e id.lib body) id
new_written d e id body left right directory = new_cell_at d id body left ∙ ap (option_map (λ (_ : List (List ℕ)). body)) directory ∙ sym (new_cell_at e id body right)

more_seen : {Y : Type 0} (K : CellBody → Y) (d e : Design) (id : CellId) (body : CellBody) (other : CellId) → IsNext d id → IsNext e id → Agrees d e (Directory id.lib) → option_map K (cell_at d other) ≡ option_map K (cell_at e other) → option_map K (cell_at (with_more_cell d id.lib body) other) ≡ option_map K (cell_at (with_more_cell e id.lib body) other)
more_seen K d e id body other left right directory agree =
    ⊎_elim
    (λ (at : other ≡ id).
    subst (λ (c : CellId). option_map K (cell_at (with_more_cell d id.lib body) c) ≡ option_map K (cell_at (with_more_cell e id.lib body) c)) (sym at) (ap (option_map K) (new_written d e id body left right directory)))
    (λ (apart : other ≢ id). ap (option_map K) (other_cell_at d id body other left apart) ∙ agree ∙ sym (ap (option_map K) (other_cell_at e id body other right apart)))
    (cases_cell other id)

-- both designs can take the change
abbrev pub Takes : Design → Design → Edit → Type 0
Takes d e (fresh id body) = IsNext d id × IsNext e id × Agrees d e (Directory id.lib)
Takes d e (inner id contents) = Unit {0}
Takes d e (own id properties) = Unit {0}
Takes d e (noted notes) = Unit {0}

abbrev pub TakesAll : Design → Design → List Edit → Type 0
TakesAll d e [] = Unit {0}
TakesAll d e (edit ∷ edits) = Takes d e edit × TakesAll (edited_once d edit) (edited_once e edit) edits

pub once_agrees : (edit : Edit) (d e : Design) (o : Object) → Takes d e edit → Agrees d e o → Agrees (edited_once d edit) (edited_once e edit) o
once_agrees (fresh id body) d e (Directory lib) takes agree = more_directory d e id.lib body lib agree
once_agrees (inner id contents) d e (Directory lib) takes agree = (once_alike d (inner id contents) tt).directory lib ∙ agree ∙ sym ((once_alike e (inner id contents) tt).directory lib)
once_agrees (own id properties) d e (Directory lib) takes agree = (once_alike d (own id properties) tt).directory lib ∙ agree ∙ sym ((once_alike e (own id properties) tt).directory lib)
once_agrees (noted notes) d e (Directory lib) takes agree = agree
once_agrees (fresh id body) d e (Interface other) takes agree = more_seen face_of d e id body other takes.0 takes.1 takes.2 agree
once_agrees (inner id contents) d e (Interface other) takes agree = changed_agrees face_of (λ face. face) d e id (with_contents contents) (face_kept contents) other agree
once_agrees (own id properties) d e (Interface other) takes agree = changed_agrees face_of (with_properties properties) d e id (with_properties properties) (λ body. refl) other agree
once_agrees (noted notes) d e (Interface other) takes agree = agree
once_agrees (fresh id body) d e (Contents other) takes agree = more_seen inside_of d e id body other takes.0 takes.1 takes.2 agree
once_agrees (inner id contents) d e (Contents other) takes agree = changed_agrees inside_of (option_map (λ _. contents)) d e id (with_contents contents) (λ body. refl) other agree
once_agrees (own id properties) d e (Contents other) takes agree = changed_agrees inside_of (λ o. o) d e id (with_properties properties) (λ body. refl) other agree
once_agrees (noted notes) d e (Contents other) takes agree = agree
once_agrees (fresh id body) d e Notes takes agree = agree
once_agrees (inner id contents) d e Notes takes agree = agree
once_agrees (own id properties) d e Notes takes agree = agree
once_agrees (noted notes) d e Notes takes agree = refl

-- the same changes of two designs keep that they agree on an object
pub edited_agrees : (edits : List Edit) (d e : Design) (o : Object) → TakesAll d e edits → Agrees d e o → Agrees (edited d edits) (edited e edits) o
edited_agrees [] d e o takes agree = agree
edited_agrees (edit ∷ edits) d e o takes agree = edited_agrees edits (edited_once d edit) (edited_once e edit) o takes.1 (once_agrees edit d e o takes.0 agree)

-- a new cell leaves the second design the later one
names_more : (d : Design) (lib : LibId) (body : CellBody) (other : LibId) → cell_names (cells_in (with_more_cell d lib body) other) ≡ option_map_or (λ (names : List (List ℕ)). names) (directory_of (lib_at (with_more_cell d lib body) other)) []
names_more d lib body other = names_of (lib_at (with_more_cell d lib body) other)

more_prefix : (d e : Design) (lib : LibId) (body : CellBody) (other : LibId) → Agrees d e (Directory lib) → IsPrefix (cell_names (cells_in d other)) (cell_names (cells_in e other)) → IsPrefix (cell_names (cells_in (with_more_cell d lib body) other)) (cell_names (cells_in (with_more_cell e lib body) other))
more_prefix d e lib body other agree prefix =
    ⊎_elim
    (λ (same : other.0 ≡ lib.0).
    let here : Agrees d e (Directory other) = subst (λ (k : ℕ). directory_of (slice_get d.libs k) ≡ directory_of (slice_get e.libs k)) (sym same) agree in
    let after : directory_of (lib_at (with_more_cell d lib body) other) ≡ directory_of (lib_at (with_more_cell e lib body) other) = more_directory d e lib body other here in
    ([], names_more e lib body other ∙ ap (λ (o : Option (List (List ℕ))). option_map_or (λ names. names) o []) (sym after) ∙ sym (names_more d lib body other) ∙ sym (append-nil (cell_names (cells_in (with_more_cell d lib body) other)))))
    (λ (apart : other.0 ≢ lib.0).
    (prefix.0, ap (λ (o : Option Lib). cell_names (cells_of o)) (more_other e lib body other apart) ∙ prefix.1 ∙ ap (λ (o : Option Lib). cell_names (cells_of o) ++ prefix.0) (sym (more_other d lib body other apart))))
    (cases_eq other.0 lib.0)

more_grown : (d e : Design) (id : CellId) (body : CellBody) → IsNext d id → IsNext e id → Agrees d e (Directory id.lib) → Grown d e → Grown (with_more_cell d id.lib body) (with_more_cell e id.lib body)
more_grown d e id body left right agree grown = record {
  title = grown.title;
  libs = map-changed_at (lib_with_more body) (λ (lib : Lib). lib.head) (λ _. refl) id.lib.0 d.libs ∙ grown.libs ∙ sym (map-changed_at (lib_with_more body) (λ (lib : Lib). lib.head) (λ _. refl) id.lib.0 e.libs);
  top = grown.top;
  directories = λ lib. more_prefix d e id.lib body lib agree (grown.directories lib);
  cells = λ other outside is. ⊎_elim
      (λ (at : other ≡ id).
      let same : cell_at (with_more_cell d id.lib body) other ≡ cell_at (with_more_cell e id.lib body) other = subst (λ (c : CellId). cell_at (with_more_cell d id.lib body) c ≡ cell_at (with_more_cell e id.lib body) c) (sym at) (new_written d e id body left right agree) in
      ap (option_map outside_of) (sym same) ∙ is)
      (λ (apart : other ≢ id). ap (option_map outside_of) (other_cell_at e id body other right apart) ∙ grown.cells other outside (sym (ap (option_map outside_of) (other_cell_at d id body other left apart)) ∙ is))
      (cases_cell other id);
}

once_grown : (edit : Edit) (d e : Design) → Takes d e edit → Grown d e → Grown (edited_once d edit) (edited_once e edit)
once_grown (fresh id body) d e takes grown = more_grown d e id body takes.0 takes.1 takes.2 grown
once_grown (inner id contents) d e takes grown = alike_grown d (edited_once d (inner id contents)) e (edited_once e (inner id contents)) (once_alike d (inner id contents) tt) (once_alike e (inner id contents) tt) grown
once_grown (own id properties) d e takes grown = alike_grown d (edited_once d (own id properties)) e (edited_once e (own id properties)) (once_alike d (own id properties) tt) (once_alike e (own id properties) tt) grown
once_grown (noted notes) d e takes grown = alike_grown d (edited_once d (noted notes)) e (edited_once e (noted notes)) (once_alike d (noted notes) tt) (once_alike e (noted notes) tt) grown

pub edited_grown : (edits : List Edit) (d e : Design) → TakesAll d e edits → Grown d e → Grown (edited d edits) (edited e edits)
edited_grown [] d e takes grown = grown
edited_grown (edit ∷ edits) d e takes grown = edited_grown edits (edited_once d edit) (edited_once e edit) takes.1 (once_grown edit d e takes.0 grown)

-- changes that both designs can take: new cells go last in both, and the directories that they write agree
takes_once : (edit : Edit) (d e : Design) → GoesLast d edit → GoesLast e edit → ((lib : LibId) → IsChangedBy edit (Directory lib) → Agrees d e (Directory lib)) → Takes d e edit
takes_once (fresh id body) d e left right same = (left, right, same id.lib (inl refl))
takes_once (inner id contents) d e left right same = tt
takes_once (own id properties) d e left right same = tt
takes_once (noted notes) d e left right same = tt

pub takes_all : (edits : List Edit) (d e : Design) → AllGoLast d edits → AllGoLast e edits → ((lib : LibId) → IsChanged edits (Directory lib) → Agrees d e (Directory lib)) → TakesAll d e edits
takes_all [] d e left right same = tt
takes_all (edit ∷ edits) d e left right same =
    let takes : Takes d e edit = takes_once edit d e left.0 right.0 (λ lib is. same lib (inl is)) in
    (takes, takes_all edits (edited_once d edit) (edited_once e edit) left.1 right.1 (λ lib is. once_agrees edit d e (Directory lib) takes (same lib (inr is))))

-- an object that is not written stays, where new cells go last
once_stays : (edit : Edit) (d : Design) (o : Object) → GoesLast d edit → ¬ IsChangedBy edit o → Agrees d (edited_once d edit) o
once_stays (fresh id body) d (Directory lib) last not = sym (ap directory_of (more_other d id.lib body lib (λ same. not (inl (λ i. Directory (record { 0 = same i }))))))
once_stays (inner id contents) d (Directory lib) last not = sym ((once_alike d (inner id contents) tt).directory lib)
once_stays (own id properties) d (Directory lib) last not = sym ((once_alike d (own id properties) tt).directory lib)
once_stays (noted notes) d (Directory lib) last not = refl
once_stays (fresh id body) d (Interface other) last not = sym (ap (option_map face_of) (other_cell_at d id body other last (λ same. not (inr (inl (ap (λ (c : CellId). Interface c) same))))))
once_stays (inner id contents) d (Interface other) last not = sym (changed_keeps face_of d id (with_contents contents) (face_kept contents) other)
once_stays (own id properties) d (Interface other) last not = sym (ap (option_map face_of) (cell_at-changed_other d id (with_properties properties) other (λ same. not (ap (λ (c : CellId). Interface c) same))))
once_stays (noted notes) d (Interface other) last not = refl
once_stays (fresh id body) d (Contents other) last not = sym (ap (option_map inside_of) (other_cell_at d id body other last (λ same. not (inr (inr (ap (λ (c : CellId). Contents c) same))))))
once_stays (inner id contents) d (Contents other) last not = sym (ap (option_map inside_of) (cell_at-changed_other d id (with_contents contents) other (λ same. not (ap (λ (c : CellId). Contents c) same))))
once_stays (own id properties) d (Contents other) last not = sym (changed_keeps inside_of d id (with_properties properties) (λ body. refl) other)
once_stays (noted notes) d (Contents other) last not = refl
once_stays (fresh id body) d Notes last not = refl
once_stays (inner id contents) d Notes last not = refl
once_stays (own id properties) d Notes last not = refl
once_stays (noted notes) d Notes last not = absurd (not refl)

pub Agrees-trans : (d e f : Design) (o : Object) → Agrees d e o → Agrees e f o → Agrees d f o
Agrees-trans d e f (Directory lib) first second = first ∙ second
Agrees-trans d e f (Interface id) first second = first ∙ second
Agrees-trans d e f (Contents id) first second = first ∙ second
Agrees-trans d e f Notes first second = first ∙ second

pub Agrees-refl : (d : Design) (o : Object) → Agrees d d o
Agrees-refl d (Directory lib) = refl
Agrees-refl d (Interface id) = refl
Agrees-refl d (Contents id) = refl
Agrees-refl d Notes = refl

pub edited_stays : (edits : List Edit) (d : Design) (o : Object) → AllGoLast d edits → ¬ IsChanged edits o → Agrees d (edited d edits) o
edited_stays [] d o last not = Agrees-refl d o
edited_stays (edit ∷ edits) d o last not =
    Agrees-trans d (edited_once d edit) (edited (edited_once d edit) edits) o (once_stays edit d o last.0 (λ is. not (inl is))) (edited_stays edits (edited_once d edit) o last.1 (λ is. not (inr is)))

-- what edits behind others change
pub changed-cases : (xs ys : List Edit) (o : Object) → IsChanged (xs ++ ys) o → IsChanged xs o ⊎ IsChanged ys o
changed-cases [] ys o is = inr is
changed-cases (x ∷ xs) ys o is = elim is [
  | inl here ↦ inl (inl here)
  | inr rest ↦ elim (changed-cases xs ys o rest) [ inl left ↦ inl (inr left) | inr right ↦ inr right ]
]
