-- Layers that go over their libraries.
use Rattle.std.proofs.Common.{◌≡◌, ℕ, zero, suc, List, [], ◌∷◌, map, length, Some, None, refl, sym, ap, ◌∙◌, slice_get, arith}
use Rattle.std.specs.Prelude.{slice_set}
use Rattle.std.specs.List.{All}
use Rattle.std.proofs.lemmas.List.Elements.{All-head, All-tail}
use Rattle.netlist_schema.specs.Types.{CellBody, Lib}
use Rattle.edit_rules_spec.specs.Edit.{changed_at}
use Rattle.db_draft.specs.Drafts.{Suits, AllSuit}
use Rattle.db_draft.specs.Laid.{Over, cells_laid, libs_laid}
use Rattle.db_draft.specs.Layers.{IsEmpty, over_of}
use Rattle.db_draft.specs.declared.layer.Layer.{Layer}

pub suits_at : (libs : List Lib) (layers : List Layer) (k : ℕ) (lib : Lib) (layer : Layer) → AllSuit libs layers → slice_get libs k ≡ Some lib → slice_get layers k ≡ Some layer → Suits lib layer
suits_at [] layers k lib layer all there has = cc
suits_at (l ∷ libs) [] k lib layer all there has = cc
suits_at (l ∷ libs) (o ∷ layers) zero lib layer all there has =
    let same : l ≡ lib = cc in
    let like : o ≡ layer = cc in
    rw (← same, ← like) all.0
suits_at (l ∷ libs) (o ∷ layers) (suc k) lib layer all there has = suits_at libs layers k lib layer all.1 there has

pub layer_there : (libs : List Lib) (layers : List Layer) (k : ℕ) (lib : Lib) → AllSuit libs layers → slice_get libs k ≡ Some lib → (layer : Layer) × (slice_get layers k ≡ Some layer)
layer_there [] layers k lib all there = cc
layer_there (l ∷ libs) [] k lib all there = absurd all
layer_there (l ∷ libs) (o ∷ layers) zero lib all there = (o, refl)
layer_there (l ∷ libs) (o ∷ layers) (suc k) lib all there = layer_there libs layers k lib all.1 there

pub no_layer : {P : Type 0} (libs : List Lib) (layers : List Layer) (k : ℕ) (lib : Lib) → AllSuit libs layers → slice_get libs k ≡ Some lib → slice_get layers k ≡ None → P
no_layer libs layers k lib all there none =
    let found = layer_there libs layers k lib all there in
    let never : None ≡ Some found.0 = sym none ∙ found.1 in
    cc

pub no_lib : (libs : List Lib) (layers : List Layer) (k : ℕ) → AllSuit libs layers → slice_get layers k ≡ None → slice_get libs k ≡ None
no_lib [] layers k all none = refl
no_lib (l ∷ libs) [] k all none = absurd all
no_lib (l ∷ libs) (o ∷ layers) zero all none = cc
no_lib (l ∷ libs) (o ∷ layers) (suc k) all none = no_lib libs layers k all.1 none

pub suits_set : (libs : List Lib) (layers : List Layer) (k : ℕ) (lib : Lib) (old new : Layer) → AllSuit libs layers → slice_get libs k ≡ Some lib → slice_get layers k ≡ Some old → (Suits lib old → Suits lib new) → AllSuit libs (slice_set layers k new)
suits_set [] layers k lib old new all there has step = cc
suits_set (l ∷ libs) [] k lib old new all there has step = absurd all
suits_set (l ∷ libs) (o ∷ layers) zero lib old new all there has step =
    let same : l ≡ lib = cc in
    let like : o ≡ old = cc in
    let first : Suits l o = all.0 in
    let before : Suits lib old = rw (← same, ← like) first in
    let after : Suits lib new = step before in
    (rw same after, all.1)
suits_set (l ∷ libs) (o ∷ layers) (suc k) lib old new all there has step = (all.0, suits_set libs layers k lib old new all.1 there has step)

pub all_empty : (libs : List Lib) (layers : List Layer) → length layers ≡ length libs → ((layer : Layer) (lib : Lib) → IsEmpty layer → Suits lib layer) → All IsEmpty layers → AllSuit libs layers
all_empty [] [] long each all = tt
all_empty [] (o ∷ layers) long each all = absurd (omega arith)
all_empty (l ∷ libs) [] long each all = absurd (omega arith)
all_empty (l ∷ libs) (o ∷ layers) long each all = (each o l (All-head IsEmpty o layers all), all_empty libs layers (omega arith) each (All-tail IsEmpty o layers all))

-- another layer over one library
pub libs_set : (libs : List Lib) (layers : List Layer) (k : ℕ) (lib : Lib) (old new : Layer) (g : List CellBody → List CellBody) → slice_get libs k ≡ Some lib → slice_get layers k ≡ Some old → cells_laid (over_of new) lib.cells ≡ g (cells_laid (over_of old) lib.cells)
    → libs_laid (map over_of (slice_set layers k new)) libs ≡ changed_at (λ l. record l { cells = g l.cells }) k (libs_laid (map over_of layers) libs)
libs_set [] layers k lib old new g there has is = cc
libs_set (l ∷ libs) [] k lib old new g there has is = cc
libs_set (l ∷ libs) (o ∷ layers) zero lib old new g there has is =
    let same : l ≡ lib = cc in
    let like : o ≡ old = cc in
    let here : cells_laid (over_of new) l.cells ≡ g (cells_laid (over_of o) l.cells) = rw (same, like) is in
    λ i. record { head = l.head; cells = here i } ∷ libs_laid (map over_of layers) libs
libs_set (l ∷ libs) (o ∷ layers) (suc k) lib old new g there has is =
    ap (λ rest. record { head = l.head; cells = cells_laid (over_of o) l.cells } ∷ rest) (libs_set libs layers k lib old new g there has is)

pub libs_same : (libs : List Lib) (layers : List Layer) (k : ℕ) (old new : Layer) → slice_get layers k ≡ Some old → over_of new ≡ over_of old → libs_laid (map over_of (slice_set layers k new)) libs ≡ libs_laid (map over_of layers) libs
libs_same libs layers k old new has is = ap (λ (os : List Over). libs_laid os libs) (overs layers k has)
  where
    overs : (ls : List Layer) (i : ℕ) → slice_get ls i ≡ Some old → map over_of (slice_set ls i new) ≡ map over_of ls
    overs [] i found = cc
    overs (o ∷ ls) zero found = let like : o ≡ old = cc in ap (λ (over : Over). over ∷ map over_of ls) (is ∙ ap over_of (sym like))
    overs (o ∷ ls) (suc i) found = ap (λ rest. over_of o ∷ rest) (overs ls i found)
