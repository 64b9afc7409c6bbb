-- What stands at a place of a design with layers over it.
use Rattle.std.proofs.Common.{◌≡◌, ℕ, zero, suc, ◌+◌, List, [], ◌∷◌, map, length, Option, Some, None, refl, sym, ap, ◌∙◌, slice_get, option_map}
use Rattle.std.specs.Option.{option_map_or}
use Rattle.std.proofs.lemmas.Option.{slice_get-map}
use Rattle.netlist_schema.specs.Design.{Design, cell_at, cells_in, lib_at}
use Rattle.netlist_schema.specs.Names.{lib_names}
use Rattle.netlist_schema.specs.Types.{CellBody, CellId, Lib, LibId, Note}
use Rattle.edit_rules_spec.specs.Find.{place_of, lib_named}
use Rattle.db_draft.specs.Laid.{Over, cells_laid, libs_laid, laid}
use Rattle.db_draft.specs.Layers.{over_of}
use Rattle.db_draft.specs.declared.layer.Layer.{Layer}
use Rattle.db_draft.proofs.Layers.{length_laid}

abbrev pub cell_id : LibId → ℕ → CellId
cell_id lib slot = record { lib = lib; slot = slot }

abbrev lib_id : ℕ → LibId
lib_id place = record { 0 = place }

abbrev pub lib_laid : Over → Lib → Lib
lib_laid over lib = record lib { cells = cells_laid over lib.cells }

pub lib_here : (overs : List Over) (libs : List Lib) (k : ℕ) (lib : Lib) (over : Over) → slice_get libs k ≡ Some lib → slice_get overs k ≡ Some over → slice_get (libs_laid overs libs) k ≡ Some (lib_laid over lib)
lib_here [] libs k lib over there has = cc
lib_here (o ∷ overs) [] k lib over there has = cc
lib_here (o ∷ overs) (l ∷ libs) zero lib over there has =
    let same : l ≡ lib = cc in
    let like : o ≡ over = cc in
    λ i. Some (lib_laid (like i) (same i))
lib_here (o ∷ overs) (l ∷ libs) (suc k) lib over there has = lib_here overs libs k lib over there has

pub lib_none : (overs : List Over) (libs : List Lib) (k : ℕ) → slice_get libs k ≡ None → slice_get (libs_laid overs libs) k ≡ None
lib_none [] libs k none = none
lib_none (o ∷ overs) [] k none = refl
lib_none (o ∷ overs) (l ∷ libs) zero none = cc
lib_none (o ∷ overs) (l ∷ libs) (suc k) none = lib_none overs libs k none

module _ (d : Design) (layers : List Layer) (notes : Option (List Note)) where
  over_here : (k : ℕ) (layer : Layer) → slice_get layers k ≡ Some layer → slice_get (map over_of layers) k ≡ Some (over_of layer)
  over_here k layer has = slice_get-map over_of layers k ∙ ap (option_map over_of) has

  cells_here : (lib : LibId) (old : Lib) (layer : Layer) → lib_at d lib ≡ Some old → slice_get layers lib.0 ≡ Some layer → cells_in (laid d (map over_of layers) notes) lib ≡ cells_laid (over_of layer) old.cells
  cells_here lib old layer there has = ap (λ (o : Option Lib). option_map_or (λ l. l.cells) o []) (lib_here (map over_of layers) d.libs lib.0 old (over_of layer) there (over_here lib.0 layer has))

  pub cell_here : (id : CellId) (old : Lib) (layer : Layer) (given : Option CellBody) → Some old ≡ lib_at d id.lib → Some layer ≡ slice_get layers id.lib.0 → given ≡ slice_get (cells_laid (over_of layer) old.cells) id.slot → given ≡ cell_at (laid d (map over_of layers) notes) id
  cell_here id old layer given there has is = is ∙ sym (ap (λ (cs : List CellBody). slice_get cs id.slot) (cells_here id.lib old layer (sym there) (sym has)))

  pub no_lib_here : (id : CellId) → None ≡ lib_at d id.lib → None ≡ cell_at (laid d (map over_of layers) notes) id
  no_lib_here id none = sym (ap (λ (o : Option Lib). slice_get (option_map_or (λ l. l.cells) o []) id.slot) (lib_none (map over_of layers) d.libs id.lib.0 (sym none)))

-- ---- what layers leave

pub names_of_libs : (overs : List Over) (libs : List Lib) → lib_names (libs_laid overs libs) ≡ lib_names libs
names_of_libs [] libs = refl
names_of_libs (o ∷ overs) [] = refl
names_of_libs (o ∷ overs) (l ∷ libs) = ap (λ ns. l.head.name.id ∷ ns) (names_of_libs overs libs)

pub lib_named_laid : (d : Design) (overs : List Over) (notes : Option (List Note)) (name : List ℕ) → lib_named d name ≡ lib_named (laid d overs notes) name
lib_named_laid d overs notes name = ap (λ ns. option_map (λ place. lib_id place) (place_of name ns)) (sym (names_of_libs overs d.libs))

pub head_laid : (overs : List Over) (libs : List Lib) (k : ℕ) → option_map (λ (l : Lib). l.head) (slice_get libs k) ≡ option_map (λ (l : Lib). l.head) (slice_get (libs_laid overs libs) k)
head_laid [] libs k = refl
head_laid (o ∷ overs) [] k = refl
head_laid (o ∷ overs) (l ∷ libs) zero = refl
head_laid (o ∷ overs) (l ∷ libs) (suc k) = head_laid overs libs k

module _ (d : Design) (layers : List Layer) (notes : Option (List Note)) where
  pub count_here : (lib : LibId) (old : Lib) (layer : Layer) → Some old ≡ lib_at d lib → Some layer ≡ slice_get layers lib.0 → length (cells_in (laid d (map over_of layers) notes) lib) ≡ length old.cells + length (over_of layer).added
  count_here lib old layer there has = ap length (cells_here d layers notes lib old layer (sym there) (sym has)) ∙ length_laid (over_of layer) old.cells

  pub no_cells_here : (lib : LibId) → None ≡ lib_at d lib → [] ≡ cells_in (laid d (map over_of layers) notes) lib
  no_cells_here lib none = sym (ap (λ (o : Option Lib). option_map_or (λ l. l.cells) o []) (lib_none (map over_of layers) d.libs lib.0 (sym none)))

  pub cells_at : (lib : LibId) (old : Lib) (layer : Layer) → Some old ≡ lib_at d lib → Some layer ≡ slice_get layers lib.0 → cells_laid (over_of layer) old.cells ≡ cells_in (laid d (map over_of layers) notes) lib
  cells_at lib old layer there has = sym (cells_here d layers notes lib old layer (sym there) (sym has))
