-- Other bodies and more cells in a layer.
use Rattle.std.proofs.Common.{◌≡◌, ◌⊎◌, inl, inr, ℕ, zero, suc, arith, ◌+◌, ◌-◌, ◌<◌, true, false, cond, ◌||◌, List, [], ◌∷◌, ◌++◌, length, take, Option, Some, refl, sym, ap, subst, ◌∙◌, slice_get, unwrap_or, append_assoc, nat_eq, eq-eqb}
use Rattle.std.specs.Prelude.{slice_set, IsSomeAnd}
use Rattle.std.specs.List.{list_any}
use Rattle.std.proofs.lemmas.Bool.{cases_lt, cases_eq, or_parts}
use Rattle.std.proofs.lemmas.Bool.Decides.{nat_tests}
use Rattle.std.proofs.lemmas.List.{length-map, map-append}
use Rattle.std.proofs.lemmas.List.Folds.{list_any-append}
use Rattle.netlist_schema.specs.Names.{AreDistinct, cell_names}
use Rattle.netlist_schema.specs.Types.{CellBody, Lib}
use Rattle.edit_rules_spec.specs.Edit.{changed_at}
use Rattle.edit_rules_spec.specs.Find.{is_name}
use Rattle.db_version.proofs.Places.{is_new}
use Rattle.db_version.proofs.Setting.{one_name_kept}
use Rattle.db_draft.specs.Drafts.{Suits}
use Rattle.db_draft.specs.Laid.{cells_changed, cells_laid}
use Rattle.db_draft.specs.Layers.{over_of, HasAdded, HasChanged, IsPut, IsSameLayer}
use Rattle.db_draft.specs.declared.layer.Layer.{Layer}
use Rattle.db_draft.proofs.Layers.{length_changed, names_laid}

same_eq : (n m : ℕ) → n ≡ m → nat_eq n m ≡ true
same_eq n m is = eq-eqb n m is

other_eq : (n m : ℕ) → (n ≡ m → ⊥) → nat_eq n m ≡ false
other_eq n m other = grind (arith, nat_tests)

-- the same other bodies from a place on
same_from : (f g : ℕ → Option CellBody) (from : ℕ) (cells : List CellBody) → ((k at : ℕ) → at ≡ from + k → f at ≡ g at) → cells_changed f from cells ≡ cells_changed g from cells
same_from f g from [] same = refl
same_from f g from (c ∷ cells) same =
    let here : f from ≡ g from = same 0 from (omega arith) in
    let rest = same_from f g (suc from) cells (λ k at is. same (suc k) at (omega arith)) in
    λ i. unwrap_or (here i) c ∷ rest i

put_before : (f g : ℕ → Option CellBody) (from slot at : ℕ) (cells : List CellBody) (body : CellBody) → at ≡ from + slot → slot < length cells → ((k : ℕ) → g k ≡ cond (nat_eq at k) (Some body) (f k))
    → cells_changed g from cells ≡ changed_at (λ _. body) slot (cells_changed f from cells)
put_before f g from slot at [] body is within put = absurd (omega arith)
put_before f g from zero at (c ∷ cells) body is within put =
    let hit : nat_eq at from ≡ true = same_eq at from (omega arith) in
    let here : g from ≡ Some body = put from ∙ ap (λ b. cond b (Some body) (f from)) hit in
    let rest = same_from g f (suc from) cells (λ k n same. put n ∙ ap (λ b. cond b (Some body) (f n)) (other_eq at n (λ e. omega arith))) in
    λ i. unwrap_or (here i) c ∷ rest i
put_before f g from (suc slot) at (c ∷ cells) body is within put =
    let here : g from ≡ f from = put from ∙ ap (λ b. cond b (Some body) (f from)) (other_eq at from (λ e. omega arith)) in
    let rest = put_before f g (suc from) slot at cells body (omega arith) (omega arith) put in
    λ i. unwrap_or (here i) c ∷ rest i

changed_left : (x : CellBody) (xs ys : List CellBody) (i : ℕ) → i < length xs → changed_at (λ _. x) i xs ++ ys ≡ changed_at (λ _. x) i (xs ++ ys)
changed_left x [] ys i within = absurd (omega arith)
changed_left x (z ∷ xs) ys zero within = refl
changed_left x (z ∷ xs) ys (suc i) within = ap (λ rest. z ∷ rest) (changed_left x xs ys i (omega arith))

changed_right : (x : CellBody) (xs ys : List CellBody) (i k : ℕ) → i ≡ length xs + k → xs ++ slice_set ys k x ≡ changed_at (λ _. x) i (xs ++ ys)
changed_right x [] ys i k is = let same : i ≡ k = omega arith in set_is ys k ∙ ap (λ n. changed_at (λ _. x) n ys) (sym same)
  where
    set_is : (zs : List CellBody) (n : ℕ) → slice_set zs n x ≡ changed_at (λ _. x) n zs
    set_is [] n = refl
    set_is (z ∷ zs) zero = refl
    set_is (z ∷ zs) (suc n) = ap (λ rest. z ∷ rest) (set_is zs n)
changed_right x (z ∷ xs) ys zero k is = absurd (omega arith)
changed_right x (z ∷ xs) ys (suc i) k is = ap (λ rest. z ∷ rest) (changed_right x xs ys i k (omega arith))

same_changed : (old new : Layer) (cells : List CellBody) → ((slot : ℕ) → (over_of new).changed slot ≡ (over_of old).changed slot) → cells_changed (over_of new).changed 0 cells ≡ cells_changed (over_of old).changed 0 cells
same_changed old new cells same = same_from (over_of new).changed (over_of old).changed 0 cells (λ k at is. same at)

pub changed_is : (old new : Layer) (cells : List CellBody) (slot : ℕ) (body : CellBody) → slot < length cells → HasChanged old new slot body → cells_laid (over_of new) cells ≡ changed_at (λ _. body) slot (cells_laid (over_of old) cells)
changed_is old new cells slot body within has =
    ap (λ (added : List CellBody). cells_changed (over_of new).changed 0 cells ++ added) has.added
    ∙ ap (λ (cs : List CellBody). cs ++ (over_of old).added) (put_before (over_of old).changed (over_of new).changed 0 slot slot cells body (omega arith) within has.changed)
    ∙ changed_left body (cells_changed (over_of old).changed 0 cells) (over_of old).added slot (omega (arith, length_changed (over_of old).changed 0 cells))

pub added_is : (old new : Layer) (cells added : List CellBody) (names : List (List ℕ)) → HasAdded old new added names → cells_laid (over_of new) cells ≡ cells_changed (over_of old).changed 0 cells ++ added
added_is old new cells added names has =
    ap (λ (more : List CellBody). cells_changed (over_of new).changed 0 cells ++ more) has.added_are
    ∙ ap (λ (cs : List CellBody). cs ++ added) (same_changed old new cells has.changed)

pub put_is : (old new : Layer) (cells : List CellBody) (count slot : ℕ) (body : CellBody) → count ≡ length cells → IsPut old new count slot body → cells_laid (over_of new) cells ≡ changed_at (λ _. body) slot (cells_laid (over_of old) cells)
put_is old new cells count slot body long put = elim (cases_lt slot count) [
  | inl before ↦ changed_is old new cells slot body (omega arith) (put.before before)
  | inr behind ↦
      let at : slot ≡ count + (slot - count) = omega arith in
      added_is old new cells _ _ (put.behind (slot - count) at)
      ∙ changed_right body (cells_changed (over_of old).changed 0 cells) (over_of old).added slot (slot - count) (omega (arith, length_changed (over_of old).changed 0 cells))
]

pub pushed_is : (old new : Layer) (cells : List CellBody) (body : CellBody) (names : List (List ℕ)) → HasAdded old new ((over_of old).added ++ body ∷ []) names → cells_laid (over_of new) cells ≡ cells_laid (over_of old) cells ++ body ∷ []
pushed_is old new cells body names has =
    added_is old new cells _ names has ∙ sym (append_assoc (cells_changed (over_of old).changed 0 cells) (over_of old).added (body ∷ []))

pub same_over : (old new : Layer) → IsSameLayer old new → over_of new ≡ over_of old
same_over old new same = λ i. record { changed = λ slot. same.changed slot i; added = same.added i }

-- ---- the layers still go over their libraries

pub suits_same : (lib : Lib) (old new : Layer) → IsSameLayer old new → Suits lib old → Suits lib new
suits_same lib old new same suits = record {
  named = same.names ∙ (suits.named ∙ ap cell_names (sym same.added));
  fits = λ slot body is. suits.fits slot body (sym (same.changed slot) ∙ is);
}

get_left : (xs ys : List (List ℕ)) (i : ℕ) (n : List ℕ) → i < length xs → slice_get (xs ++ ys) i ≡ Some n → slice_get xs i ≡ Some n
get_left [] ys i n within is = absurd (omega arith)
get_left (x ∷ xs) ys zero n within is = is
get_left (x ∷ xs) ys (suc i) n within is = get_left xs ys i n (omega arith) is

get_right : (xs ys : List (List ℕ)) (i k : ℕ) (n : List ℕ) → i ≡ length xs + k → slice_get (xs ++ ys) i ≡ Some n → slice_get ys k ≡ Some n
get_right [] ys i k n at is = let same : i ≡ k = omega arith in ap (slice_get ys) (sym same) ∙ is
get_right (x ∷ xs) ys zero k n at is = absurd (omega arith)
get_right (x ∷ xs) ys (suc i) k n at is = get_right xs ys i k n (omega arith) is

named_at : (cells : List CellBody) (i : ℕ) (id : List ℕ) → slice_get (cell_names cells) i ≡ Some id → IsSomeAnd (slice_get cells i) (λ old. id ≡ old.name.id)
named_at [] i id is = cc
named_at (c ∷ cells) zero id is = let same : c.name.id ≡ id = cc in sym same
named_at (c ∷ cells) (suc i) id is = named_at cells i id is

pub suits_put : (lib : Lib) (old new : Layer) (count slot : ℕ) (body : CellBody) → count ≡ length lib.cells → slice_get (cell_names (cells_laid (over_of old) lib.cells)) slot ≡ Some body.name.id → IsPut old new count slot body → Suits lib old → Suits lib new
suits_put lib old new count slot body long there put suits = elim (cases_lt slot count) [
  | inl before ↦
      let has = put.before before in
      let here : slice_get (cell_names lib.cells) slot ≡ Some body.name.id = get_left (cell_names lib.cells) (cell_names (over_of old).added) slot body.name.id (omega (arith, length-map lib.cells (λ (c : CellBody). c.name.id))) names in
      record {
        named = has.names ∙ (suits.named ∙ ap cell_names (sym has.added));
        fits = λ at other is. fit has here at other is (cases_eq slot at);
      }
  | inr behind ↦
      let at : slot ≡ count + (slot - count) = omega arith in
      let has = put.behind (slot - count) at in
      let here : slice_get (cell_names (over_of old).added) (slot - count) ≡ Some body.name.id = get_right (cell_names lib.cells) (cell_names (over_of old).added) slot (slot - count) body.name.id (omega (arith, length-map lib.cells (λ (c : CellBody). c.name.id))) names in
      record {
        named = has.names_are ∙ (suits.named ∙ (sym (one_name_kept (over_of old).added (slot - count) body here) ∙ ap cell_names (sym has.added_are)));
        fits = λ at other is. suits.fits at other (sym (has.changed at) ∙ is);
      }
]
  where
    names : slice_get (cell_names lib.cells ++ cell_names (over_of old).added) slot ≡ Some body.name.id
    names = ap (λ (ns : List (List ℕ)). slice_get ns slot) (sym (names_laid (over_of old) lib.cells suits.fits)) ∙ there

    fit : HasChanged old new slot body → slice_get (cell_names lib.cells) slot ≡ Some body.name.id → (at : ℕ) (other : CellBody) → (over_of new).changed at ≡ Some other → (slot ≡ at) ⊎ (slot ≡ at → ⊥) → IsSomeAnd (slice_get lib.cells at) (λ c. other.name.id ≡ c.name.id)
    fit has here at other is (inl same) =
        let hit : Some body ≡ Some other = sym (has.changed at ∙ ap (λ b. cond b (Some body) ((over_of old).changed at)) (same_eq slot at same)) ∙ is in
        let is_it : body ≡ other = cc in
        subst (λ (b : CellBody). IsSomeAnd (slice_get lib.cells at) (λ c. b.name.id ≡ c.name.id)) is_it
        (subst (λ n. IsSomeAnd (slice_get lib.cells n) (λ c. body.name.id ≡ c.name.id)) same (named_at lib.cells slot body.name.id here))
    fit has here at other is (inr differ) =
        suits.fits at other (sym (has.changed at ∙ ap (λ b. cond b (Some body) ((over_of old).changed at)) (other_eq slot at differ)) ∙ is)

pub suits_pushed : (lib : Lib) (old new : Layer) (body : CellBody) → HasAdded old new ((over_of old).added ++ body ∷ []) (old.names ++ body.name.id ∷ []) → Suits lib old → Suits lib new
suits_pushed lib old new body has suits = record {
  named = has.names_are ∙ (ap (λ ns. ns ++ body.name.id ∷ []) suits.named ∙ (sym (map-append (λ (c : CellBody). c.name.id) (over_of old).added (body ∷ [])) ∙ ap cell_names (sym has.added_are)));
  fits = λ at other is. suits.fits at other (sym (has.changed at) ∙ is);
}

-- a name that is none of those there is none of those added
pub is_free_name : (lib : Lib) (layer : Layer) (body : CellBody) → Suits lib layer → AreDistinct (cell_names (cells_laid (over_of layer) lib.cells ++ body ∷ [])) → list_any (is_name body.name.id) layer.names ≡ false
is_free_name lib layer body suits distinct =
    let names = cell_names (cells_laid (over_of layer) lib.cells) in
    let all : cell_names (cells_laid (over_of layer) lib.cells ++ body ∷ []) ≡ names ++ body.name.id ∷ [] = map-append (λ (c : CellBody). c.name.id) (cells_laid (over_of layer) lib.cells) (body ∷ []) in
    let none = is_new (names ++ body.name.id ∷ []) (length names) body.name.id (subst AreDistinct all distinct) (last names) in
    let here : list_any (is_name body.name.id) names ≡ false = ap (list_any (is_name body.name.id)) (sym (front names)) ∙ none in
    let parts : (list_any (is_name body.name.id) (cell_names lib.cells) || list_any (is_name body.name.id) (cell_names (over_of layer).added)) ≡ false =
    sym (list_any-append (is_name body.name.id) (cell_names lib.cells) (cell_names (over_of layer).added)) ∙ (ap (list_any (is_name body.name.id)) (sym (names_laid (over_of layer) lib.cells suits.fits)) ∙ here) in
    ap (list_any (is_name body.name.id)) suits.named ∙ (or_parts _ _ parts).1
  where
    last : (xs : List (List ℕ)) → slice_get (xs ++ body.name.id ∷ []) (length xs) ≡ Some body.name.id
    last [] = refl
    last (x ∷ xs) = last xs

    front : (xs : List (List ℕ)) → take (length xs) (xs ++ body.name.id ∷ []) ≡ xs
    front [] = refl
    front (x ∷ xs) = ap (λ rest. x ∷ rest) (front xs)
