-- Changes of bodies in place.
use Rattle.std.proofs.Common.{◌≡◌, inl, inr, ℕ, zero, suc, arith, ◌+◌, ◌-◌, ◌<◌, Bool, true, false, cond, nat_eq, List, [], ◌∷◌, map, length, Option, Some, Global, refl, sym, ap, subst, ◌∙◌, slice_get, option_map}
use Rattle.std.specs.Prelude.{IsSomeAnd, slice_index_or, slice_set}
use Rattle.std.specs.Arc.{arc_value}
use Rattle.std.specs.BTreeMap.{BTreeMap, get}
use Rattle.std.specs.Ordering.{nat_cmp}
use Rattle.std.specs.declared.sync.Arc.{Arc}
use Rattle.std.proofs.lemmas.Bool.{cases_lt, eqb-true}
use Rattle.netlist_schema.specs.Design.{Design, cell_at, cells_in, lib_at}
use Rattle.netlist_schema.specs.Names.{cell_names}
use Rattle.netlist_schema.specs.Types.{CellBody, CellId, Lib, Note}
use Rattle.edit_rules_spec.specs.Edit.{with_changed_cell}
use Rattle.edit_cells.specs.Patch.{body_after}
use Rattle.edit_cells.specs.declared.change.CellChange.{CellChange}
use Rattle.edit_cells.specs.declared.change.CellChange.TheVariants.{Fresh, Face, Inner, Net, Inst}
use Rattle.edit_cells.proofs.Patches.{cell_changed_same}
use Rattle.db_version.proofs.Places.{got_name}
use Rattle.db_draft.specs.Drafts.{AllSuit, Drafted, HasNewLayer}
use Rattle.db_draft.specs.Laid.{laid}
use Rattle.db_draft.specs.Layers.{over_of, IsPut, IsSameLayer}
use Rattle.db_draft.specs.Make.{CanFit}
use Rattle.db_draft.specs.Place.{body_at, HasBody, IsTried, IsTriedAt, IsTriedCell, IsTriedIn, IsTriedSlot}
use Rattle.db_draft.specs.declared.layer.Layer.{Layer}
use Rattle.db_draft.specs.declared.place.Tried.{Tried}
use Rattle.db_draft.specs.declared.place.Tried.TheVariants.{Made, Refused, NotHere}
use Rattle.db_draft.proofs.Drafting.{item_there, put_laid, put_suits, same_laid, same_suits}
use Rattle.db_draft.proofs.Layers.{changed_cell, new_cell}
use Rattle.db_draft.proofs.Suiting.{layer_there}
use Rattle.db_draft.proofs.Works.{cells_at}

abbrev Shared : Type 0
Shared = Arc CellBody Global

-- ---- at a place of a list

map_set : (xs : List Shared) (k : ℕ) (x : Shared) → map arc_value (slice_set xs k x) ≡ slice_set (map arc_value xs) k (arc_value x)
map_set [] k x = refl
map_set (y ∷ xs) zero x = refl
map_set (y ∷ xs) (suc k) x = ap (λ rest. arc_value y ∷ rest) (map_set xs k x)

set_here : (xs : List CellBody) (k : ℕ) (x y : CellBody) → slice_get xs k ≡ Some x → y ≡ x → slice_set xs k y ≡ xs
set_here [] k x y has is = refl
set_here (z ∷ xs) zero x y has is = let same : z ≡ x = cc in ap (λ w. w ∷ xs) (is ∙ sym same)
set_here (z ∷ xs) (suc k) x y has is = ap (λ rest. z ∷ rest) (set_here xs k x y has is)

pub got_body : (xs : List Shared) (k : ℕ) (x : Shared) → k < length xs → x ≡ slice_index_or xs k x → slice_get (map arc_value xs) k ≡ Some (arc_value x)
got_body [] k x within is = absurd (omega arith)
got_body (y ∷ xs) zero x within is = ap (λ (z : Shared). Some (arc_value z)) (sym is)
got_body (y ∷ xs) (suc k) x within is = got_body xs k x (omega arith) is

pub tried_place : (xs : List Shared) (k : ℕ) (x y : Shared) (change : CellChange) (r : Tried) → slice_get (map arc_value xs) k ≡ Some (arc_value x) → IsTried (arc_value x) (arc_value y) change r → IsTriedAt (map arc_value xs) (map arc_value (slice_set xs k y)) k change r
tried_place xs k x y change Made has tried = (arc_value x, has, map_set xs k y ∙ ap (slice_set (map arc_value xs) k) tried)
tried_place xs k x y change Refused has tried = map_set xs k y ∙ set_here (map arc_value xs) k (arc_value x) (arc_value y) has tried
tried_place xs k x y change (NotHere back) has tried = (map_set xs k y ∙ set_here (map arc_value xs) k (arc_value x) (arc_value y) has tried.0, tried.1)

-- ---- at a slot

shared_cond : (b : Bool) (y : Shared) (o : Option Shared) → option_map arc_value (cond b (Some y) o) ≡ cond b (Some (arc_value y)) (option_map arc_value o)
shared_cond true y o = refl
shared_cond false y o = refl

module _ (old new : BTreeMap ℕ Shared) (slot : ℕ) (x y : Shared) (change : CellChange) (has : Some x ≡ get nat_cmp old slot) (put : (at : ℕ) → get nat_cmp new at ≡ cond (nat_eq slot at) (Some y) (get nat_cmp old at)) where
  put_body : (at : ℕ) → body_at new at ≡ cond (nat_eq slot at) (Some (arc_value y)) (body_at old at)
  put_body at = ap (option_map arc_value) (put at) ∙ shared_cond (nat_eq slot at) y (get nat_cmp old at)

  same_bodies : arc_value y ≡ arc_value x → (at : ℕ) → body_at new at ≡ body_at old at
  same_bodies is at = put_body at ∙ one (nat_eq slot at) refl
    where
      one : (b : Bool) → nat_eq slot at ≡ b → cond b (Some (arc_value y)) (body_at old at) ≡ body_at old at
      one true hit =
          let here : slot ≡ at = eqb-true slot at hit in
          ap (λ (z : CellBody). Some z) is ∙ ap (option_map arc_value) has ∙ ap (body_at old) here
      one false miss = refl

  pub tried_slot : (r : Tried) → IsTried (arc_value x) (arc_value y) change r → IsTriedSlot old new slot change r
  tried_slot Made tried = (arc_value x, sym (ap (option_map arc_value) has), λ at. put_body at ∙ ap (λ (z : CellBody). cond (nat_eq slot at) (Some z) (body_at old at)) tried)
  tried_slot Refused tried = same_bodies tried
  tried_slot (NotHere back) tried = (same_bodies tried.0, tried.1)

-- ---- in a layer

pub tried_added : (old new : Layer) (count slot place : ℕ) (change : CellChange) (r : Tried) → slot ≡ count + place → ((s : ℕ) → (over_of new).changed s ≡ (over_of old).changed s) → new.names ≡ old.names
    → IsTriedAt (over_of old).added (over_of new).added place change r → IsTriedIn old new count slot change r
tried_added old new count slot place change Made at same names tried = (
  tried.0,
  record {
    before = λ less. absurd (omega arith);
    behind = λ p here. let is : place ≡ p = omega arith in ap (slice_get (over_of old).added) (sym is) ∙ tried.1;
  },
  record {
    before = λ less. absurd (omega arith);
    behind = λ p here. let is : place ≡ p = omega arith in record {
      changed = same;
      added_are = tried.2 ∙ ap (λ n. slice_set (over_of old).added n (body_after change tried.0)) is;
      names_are = names;
    };
  },
)
tried_added old new count slot place change Refused at same names tried = record { changed = same; added = tried; names = names }
tried_added old new count slot place change (NotHere back) at same names tried = (record { changed = same; added = tried.0; names = names }, tried.1)

pub tried_changed : (old new : Layer) (count slot : ℕ) (change : CellChange) (r : Tried) → slot < count → (over_of new).added ≡ (over_of old).added → new.names ≡ old.names
    → IsTriedSlot old.changed new.changed slot change r → IsTriedIn old new count slot change r
tried_changed old new count slot change Made less same names tried = (
  tried.0,
  record { before = λ _. tried.1; behind = λ p here. absurd (omega arith) },
  record { before = λ _. record { changed = tried.2; added = same; names = names }; behind = λ p here. absurd (omega arith) },
)
tried_changed old new count slot change Refused less same names tried = record { changed = tried; added = same; names = names }
tried_changed old new count slot change (NotHere back) less same names tried = (record { changed = tried.0; added = same; names = names }, tried.1)

pub added_body : (layer : Layer) (count slot place : ℕ) (body : CellBody) → slot ≡ count + place → slice_get (over_of layer).added place ≡ Some body → HasBody layer count slot body
added_body layer count slot place body at has = record {
  before = λ less. absurd (omega arith);
  behind = λ p here. let is : place ≡ p = omega arith in ap (slice_get (over_of layer).added) (sym is) ∙ has;
}

pub changed_body : (layer : Layer) (count slot : ℕ) (body : CellBody) → slot < count → (over_of layer).changed slot ≡ Some body → HasBody layer count slot body
changed_body layer count slot body less has = record { before = λ _. has; behind = λ p here. absurd (omega arith) }

-- what holds of the item at a place where there is one
pub item_holds : {X : Type 0} (xs : List X) (k : ℕ) (x : X) (P : X → Type 0) → IsSomeAnd (slice_get xs k) P → x ≡ slice_index_or xs k x → P x
item_holds {X} xs k x P there is = subst (λ (o : Option X). IsSomeAnd o P) (item_there xs k x P there is) there

-- ---- in a draft

name_kept : (change : CellChange) (body : CellBody) → (body_after change body).name.id ≡ body.name.id
name_kept (Fresh id new) body = refl
name_kept (Face id properties) body = refl
name_kept (Inner id contents) body = refl
name_kept (Net id place net) body = refl
name_kept (Inst id place inst) body = refl

module _ (b : Design) (layers : List Layer) (notes : Option (List Note)) (all : AllSuit b.libs layers) (id : CellId) (lib : Lib) (count : ℕ) (change : CellChange) (there : lib_at b id.lib ≡ Some lib) (long : count ≡ length lib.cells) where
  abbrev pub now : Design
  now = laid b (map over_of layers) notes

  cell_is : (layer : Layer) (body : CellBody) → slice_get layers id.lib.0 ≡ Some layer → HasBody layer count id.slot body → cell_at now id ≡ Some body
  cell_is layer body has of =
      ap (λ (cs : List CellBody). slice_get cs id.slot) (sym (cells_at b layers notes id.lib lib layer (sym there) (sym has)))
      ∙ elim (cases_lt id.slot count) [
        | inl less ↦ sym (changed_cell (over_of layer) lib.cells id.slot body (omega arith) (sym (of.before less)))
        | inr past ↦
            let at : id.slot ≡ count + (id.slot - count) = omega arith in
            sym (new_cell (over_of layer) lib.cells id.slot (Some body) (omega arith) (sym (of.behind (id.slot - count) at) ∙ ap (λ n. slice_get (over_of layer).added (id.slot - n)) long))
      ]

  pub can_try : IsSomeAnd (cell_at now id) (CanFit change) → IsSomeAnd (slice_get layers id.lib.0) (λ layer. (body : CellBody) → HasBody layer count id.slot body → CanFit change body)
  can_try fits =
      let found = layer_there b.libs layers id.lib.0 lib all there in
      subst (λ (o : Option Layer). IsSomeAnd o (λ layer. (body : CellBody) → HasBody layer count id.slot body → CanFit change body)) (sym found.1)
      (λ body of. subst (λ (o : Option CellBody). IsSomeAnd o (CanFit change)) (cell_is found.0 body found.1 of) fits)

  module _ (new : List Layer) where
    named : (layer : Layer) (body : CellBody) → slice_get layers id.lib.0 ≡ Some layer → HasBody layer count id.slot body → slice_get (cell_names (cells_in now id.lib)) id.slot ≡ Some (body_after change body).name.id
    named layer body has of = got_name (cells_in now id.lib) id.slot body (cell_is layer body has of) ∙ ap (λ n. Some n) (sym (name_kept change body))

    same : (P : Layer → Layer → Type 0) → ((o n : Layer) → P o n → IsSameLayer o n) → HasNewLayer layers new id.lib.0 P → HasNewLayer layers new id.lib.0 IsSameLayer
    same P is has = record { before = has.before; after = has.after; found = has.found; set = has.set; changed = is has.before has.after has.changed }

    put : (P : Layer → Layer → Type 0) (body : CellBody) (has : HasNewLayer layers new id.lib.0 P) → IsPut has.before has.after count id.slot body → HasNewLayer layers new id.lib.0 (λ o n. IsPut o n count id.slot body)
    put P body has is = record { before = has.before; after = has.after; found = has.found; set = has.set; changed = is }

    pub tried_suits : (r : Tried) → HasNewLayer layers new id.lib.0 (λ o n. IsTriedIn o n count id.slot change r) → AllSuit b.libs new
    tried_suits Made has =
        let x : CellBody = body_after change has.changed.0 in
        put_suits b layers new notes all id lib count x there long (named has.before has.changed.0 has.found has.changed.1) (put (λ o n. IsTriedIn o n count id.slot change Made) x has has.changed.2)
    tried_suits Refused has = same_suits b layers new notes all id.lib.0 lib there has
    tried_suits (NotHere back) has = same_suits b layers new notes all id.lib.0 lib there (same (λ o n. IsTriedIn o n count id.slot change (NotHere back)) (λ o n is. is.0) has)

    abbrev pub drafted : List Layer → Drafted
    drafted ls = record { base = b; design = laid b (map over_of ls) notes }

    pub tried_laid : (r : Tried) → HasNewLayer layers new id.lib.0 (λ o n. IsTriedIn o n count id.slot change r) → IsTriedCell (drafted layers) (drafted new) id change r
    tried_laid Made has =
        let body = has.changed.0 in
        let x : CellBody = body_after change body in
        let whole : laid b (map over_of new) notes ≡ with_changed_cell now id (body_after change) =
        put_laid b layers new notes all id lib count x there long (named has.before body has.found has.changed.1) (put (λ o n. IsTriedIn o n count id.slot change Made) x has has.changed.2)
        ∙ cell_changed_same now id (λ _. x) (body_after change) (λ other found.
        let both : Some body ≡ Some other = sym (cell_is has.before body has.found has.changed.1) ∙ found in
        let is : body ≡ other = cc in
        ap (body_after change) is) in
        λ i. record { base = b; design = whole i }
    tried_laid Refused has = λ i. record { base = b; design = same_laid b layers new notes all id.lib.0 has i }
    tried_laid (NotHere back) has = (
      λ i. record { base = b; design = same_laid b layers new notes all id.lib.0 (same (λ o n. IsTriedIn o n count id.slot change (NotHere back)) (λ o n is. is.0) has) i },
      has.changed.1,
    )
