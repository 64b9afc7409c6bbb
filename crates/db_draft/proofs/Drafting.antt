-- Drafts with another body for a cell, and with one more cell.
use Rattle.std.proofs.Common.{◌≡◌, ℕ, zero, suc, arith, ◌+◌, ◌<◌, List, [], ◌∷◌, ◌++◌, false, map, length, Option, Some, Result, Ok, Err, OnOk, OnErr, refl, sym, ap, subst, ◌∙◌, slice_get}
use Rattle.std.specs.Prelude.{slice_index_or, IsSome, IsSomeAnd}
use Rattle.std.specs.List.{list_any}
use Rattle.std.proofs.lemmas.List.{length-map}
use Rattle.std.proofs.lemmas.Option.{slice_get_within}
use Rattle.netlist_schema.specs.Design.{Design, cells_in, lib_at}
use Rattle.netlist_schema.specs.Names.{AreDistinct, cell_names}
use Rattle.netlist_schema.specs.Types.{CellBody, CellId, Lib, LibId, Note}
use Rattle.netlist_schema.proofs.Lists.{some_of}
use Rattle.edit_rules_spec.specs.Edit.{changed_at, with_changed_cell, with_more_cell}
use Rattle.edit_rules_spec.specs.Find.{is_name}
use Rattle.db_draft.specs.Drafts.{AllSuit, HasNewLayer}
use Rattle.db_draft.specs.Laid.{cells_laid, libs_laid, laid}
use Rattle.db_draft.specs.Layers.{over_of, HasAdded, IsPut, IsSameLayer}
use Rattle.db_draft.specs.declared.layer.Layer.{Layer}
use Rattle.db_draft.proofs.Layers.{length_laid}
use Rattle.db_draft.proofs.Putting.{is_free_name, put_is, pushed_is, same_over, suits_put, suits_pushed, suits_same}
use Rattle.db_draft.proofs.Suiting.{layer_there, libs_same, libs_set, suits_at, suits_set}
use Rattle.db_draft.proofs.Works.{cells_at}

pub on_ok : {T E : Type 0} (r : Result T E) (P Q : Type 0) → (P → Q) → OnOk r P → OnOk r Q
on_ok (Ok x) P Q f p = f p
on_ok (Err e) P Q f p = tt

pub on_err : {T E : Type 0} (r : Result T E) (P Q : Type 0) → (P → Q) → OnErr r P → OnErr r Q
on_err (Ok x) P Q f p = tt
on_err (Err e) P Q f p = f p

pub either_way : {T E : Type 0} (r : Result T E) (P Q G : Type 0) → (P → G) → (Q → G) → OnOk r P → OnErr r Q → G
either_way (Ok x) P Q G f g p q = f p
either_way (Err e) P Q G f g p q = g q

module _ (b : Design) (layers new : List Layer) (notes : Option (List Note)) (all : AllSuit b.libs layers) where
  cells_are : (lib : LibId) (old : Lib) (layer : Layer) → lib_at b lib ≡ Some old → slice_get layers lib.0 ≡ Some layer → cells_in (laid b (map over_of layers) notes) lib ≡ cells_laid (over_of layer) old.cells
  cells_are lib old layer there has = sym (cells_at b layers notes lib old layer (sym there) (sym has))

  -- ---- nothing changed

  pub same_suits : (k : ℕ) (lib : Lib) → slice_get b.libs k ≡ Some lib → HasNewLayer layers new k IsSameLayer → AllSuit b.libs new
  same_suits k lib there has = subst (λ (ls : List Layer). AllSuit b.libs ls) (sym has.set) (suits_set b.libs layers k lib has.before has.after all there has.found (suits_same lib has.before has.after has.changed))

  pub same_laid : (k : ℕ) → HasNewLayer layers new k IsSameLayer → laid b (map over_of new) notes ≡ laid b (map over_of layers) notes
  same_laid k has =
      ap (λ (ls : List Layer). laid b (map over_of ls) notes) has.set
      ∙ ap (λ (libs : List Lib). record (laid b (map over_of layers) notes) { libs = libs }) (libs_same b.libs layers k has.before has.after has.found (same_over has.before has.after has.changed))

  -- ---- another body

  module _ (id : CellId) (lib : Lib) (count : ℕ) (body : CellBody) (there : lib_at b id.lib ≡ Some lib) (long : count ≡ length lib.cells)
      (named : slice_get (cell_names (cells_in (laid b (map over_of layers) notes) id.lib)) id.slot ≡ Some body.name.id) where
    pub can_put : IsSomeAnd (slice_get layers id.lib.0) (λ layer. id.slot < count + length (over_of layer).added)
    can_put =
        let found = layer_there b.libs layers id.lib.0 lib all there in
        let here = cells_are id.lib lib found.0 there found.1 in
        let within = slice_get_within (cell_names (cells_in (laid b (map over_of layers) notes) id.lib)) id.slot body.name.id named in
        let names = length-map (cells_in (laid b (map over_of layers) notes) id.lib) (λ (c : CellBody). c.name.id) in
        let laid_long = length_laid (over_of found.0) lib.cells in
        let same = ap (λ (cs : List CellBody). length cs) here in
        let less : id.slot < count + length (over_of found.0).added = omega arith in
        subst (λ (o : Option Layer). IsSomeAnd o (λ layer. id.slot < count + length (over_of layer).added)) (sym found.1) less

    pub put_suits : HasNewLayer layers new id.lib.0 (λ old new. IsPut old new count id.slot body) → AllSuit b.libs new
    put_suits has =
        let name = subst (λ (cs : List CellBody). slice_get (cell_names cs) id.slot ≡ Some body.name.id) (cells_are id.lib lib has.before there has.found) named in
        subst (λ (ls : List Layer). AllSuit b.libs ls) (sym has.set) (suits_set b.libs layers id.lib.0 lib has.before has.after all there has.found (suits_put lib has.before has.after count id.slot body long name has.changed))

    pub put_laid : HasNewLayer layers new id.lib.0 (λ old new. IsPut old new count id.slot body) → laid b (map over_of new) notes ≡ with_changed_cell (laid b (map over_of layers) notes) id (λ _. body)
    put_laid has =
        ap (λ (ls : List Layer). laid b (map over_of ls) notes) has.set
        ∙ ap (λ (libs : List Lib). record (laid b (map over_of layers) notes) { libs = libs }) (libs_set b.libs layers id.lib.0 lib has.before has.after (changed_at (λ _. body) id.slot) there has.found (put_is has.before has.after lib.cells count id.slot body long has.changed))

  -- ---- one more cell

  module _ (lib : LibId) (old : Lib) (body : CellBody) (there : lib_at b lib ≡ Some old) where
    pub can_push : AreDistinct (cell_names (cells_in (laid b (map over_of layers) notes) lib ++ body ∷ [])) → IsSomeAnd (slice_get layers lib.0) (λ layer. list_any (is_name body.name.id) layer.names ≡ false)
    can_push distinct =
        let found = layer_there b.libs layers lib.0 old all there in
        let apart = subst (λ (cs : List CellBody). AreDistinct (cell_names (cs ++ body ∷ []))) (cells_are lib old found.0 there found.1) distinct in
        let free = is_free_name old found.0 body (suits_at b.libs layers lib.0 old found.0 all there found.1) apart in
        subst (λ (o : Option Layer). IsSomeAnd o (λ layer. list_any (is_name body.name.id) layer.names ≡ false)) (sym found.1) free

    pub push_suits : HasNewLayer layers new lib.0 (λ o n. HasAdded o n ((over_of o).added ++ body ∷ []) (o.names ++ body.name.id ∷ [])) → AllSuit b.libs new
    push_suits has = subst (λ (ls : List Layer). AllSuit b.libs ls) (sym has.set) (suits_set b.libs layers lib.0 old has.before has.after all there has.found (suits_pushed old has.before has.after body has.changed))

    pub push_laid : HasNewLayer layers new lib.0 (λ o n. HasAdded o n ((over_of o).added ++ body ∷ []) (o.names ++ body.name.id ∷ [])) → laid b (map over_of new) notes ≡ with_more_cell (laid b (map over_of layers) notes) lib body
    push_laid has =
        ap (λ (ls : List Layer). laid b (map over_of ls) notes) has.set
        ∙ ap (λ (libs : List Lib). record (laid b (map over_of layers) notes) { libs = libs }) (libs_set b.libs layers lib.0 old has.before has.after (λ cs. cs ++ body ∷ []) there has.found (pushed_is has.before has.after old.cells body _ has.changed))

-- a library with its layer is a library without it
pub base_lib : (b : Design) (layers : List Layer) (notes : Option (List Note)) (lib : LibId) → IsSome (lib_at (laid b (map over_of layers) notes) lib) → (old : Lib) × (lib_at b lib ≡ Some old)
base_lib b layers notes lib is = under layers b.libs lib.0 is
  where
    under : (ls : List Layer) (libs : List Lib) (k : ℕ) → IsSome (slice_get (libs_laid (map over_of ls) libs) k) → (old : Lib) × (slice_get libs k ≡ Some old)
    under [] libs k some = some_of (slice_get libs k) some
    under (l ∷ ls) [] k some = cc
    under (l ∷ ls) (x ∷ libs) zero some = (x, refl)
    under (l ∷ ls) (x ∷ libs) (suc k) some = under ls libs k some

-- the item at a place where there is one
pub item_there : {X : Type 0} (xs : List X) (k : ℕ) (x : X) (P : X → Type 0) → IsSomeAnd (slice_get xs k) P → x ≡ slice_index_or xs k x → slice_get xs k ≡ Some x
item_there [] k x P there is = absurd there
item_there (y ∷ xs) zero x P there is = ap (λ z. Some z) (sym is)
item_there (y ∷ xs) (suc k) x P there is = item_there xs k x P there is
