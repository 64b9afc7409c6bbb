-- Lists of objects that go on.
use Rattle.std.proofs.Common.{◌≡◌, ◌⊎◌, inl, inr, ⊎_elim, ◌↔◌, zero, suc, lit<, arith, List, [], ◌∷◌, ◌++◌, length, take, Option, Some, None, refl, sym, ap, subst, ◌∙◌, append_assoc, append-nil}
use Rattle.std.specs.List.{Contains}
use Rattle.std.proofs.lemmas.List.Elements.{Contains-append_left, Contains-append_right, Contains-append_cases}
use Rattle.std.specs.Prelude.{Result, Ok, Err, MatchResult}
use Rattle.netlist_schema.specs.Types.{CellBody, CellId, Note, Object}
use Rattle.netlist_schema.specs.declared.ids.Object.TheVariants.{Directory, Notes}
use Rattle.std.specs.Prelude.{option_to_list}
use Rattle.std.specs.Option.{option_map}
use Rattle.edit_rules_spec.specs.Edit.{Edit, noted}
use Rattle.edit_rules_spec.specs.Edit.{IsChanged, IsChangedBy}
use Rattle.edit_rules_spec.specs.Objects.{IsPrefix}
use Rattle.netlist_schema.specs.Design.{Design}
use Rattle.edit_cells.specs.Change.{cell_edits, edit_of}
use Rattle.edit_rules_spec.specs.Objects.{contents_object, face_object}
use Rattle.edit_cells.specs.State.{GrowsBy}
use Rattle.edit_cells.specs.declared.change.CellChange.{CellChange}
use Rattle.edit_cells.specs.declared.change.CellChange.TheVariants.{Fresh}

pub prefix_refl : (a : List Object) → IsPrefix a a
prefix_refl a = ([], sym (append-nil a))

pub prefix_twice : (a b c : List Object) → IsPrefix a b → IsPrefix b c → IsPrefix a c
prefix_twice a b c first second =
    (first.0 ++ second.0, second.1 ∙ ap (λ (xs : List Object). xs ++ second.0) first.1 ∙ append_assoc a first.0 second.0)

-- a list that went on, cut back to its old length
take_front : (a more : List Object) → take (length a) (a ++ more) ≡ a
take_front [] more = refl
take_front (x ∷ a) more = ap (λ (xs : List Object). x ∷ xs) (take_front a more)

pub cut_back : (a b : List Object) → IsPrefix a b → take (length a) b ≡ a
cut_back a b prefix = ap (take (length a)) prefix.1 ∙ take_front a prefix.0

only_one : (x o : Object) → Contains (x ∷ []) o → o ≡ x
only_one x o (zero, lt, is) = sym is
only_one x o (suc k, lt, is) = absurd (omega arith)

-- an object that was there already, and one that was added
pub grows_by_held : (a : List Object) (x : Object) → Contains a x → GrowsBy a a (λ o. o ≡ x)
grows_by_held a x has = record {
  prefix = prefix_refl a;
  objects = λ o. (λ old. inl old, λ is. ⊎_elim (λ (old : Contains a o). old) (λ (same : o ≡ x). subst (λ (y : Object). Contains a y) (sym same) has) is);
}

pub grows_by_pushed : (a b : List Object) (x : Object) → b ≡ a ++ x ∷ [] → GrowsBy a b (λ o. o ≡ x)
grows_by_pushed a b x is = record {
  prefix = (x ∷ [], is);
  objects = λ o. (
    λ has. ⊎_elim (λ (old : Contains a o). inl old) (λ (new : Contains (x ∷ []) o). inr (only_one x o new)) (Contains-append_cases a (x ∷ []) o (subst (λ (xs : List Object). Contains xs o) is has)),
    λ has. subst (λ (xs : List Object). Contains xs o) (sym is) (⊎_elim
        (λ (old : Contains a o). Contains-append_left a (x ∷ []) o old)
        (λ (same : o ≡ x). Contains-append_right a (x ∷ []) o (0, lit< tt, sym same)) has),
  );
}

-- one after the other
pub grows_then : (a b c : List Object) (P Q R : Object → Type 0) → GrowsBy a b P → GrowsBy b c Q → ((o : Object) → (P o ⊎ Q o) ↔ R o) → GrowsBy a c R
grows_then a b c P Q R first second same = record {
  prefix = prefix_twice a b c first.prefix second.prefix;
  objects = λ o. (
    λ has. ⊎_elim
        (λ (early : Contains b o). ⊎_elim (λ (old : Contains a o). inl old) (λ (is : P o). inr ((same o).0 (inl is))) ((first.objects o).0 early))
        (λ (is : Q o). inr ((same o).0 (inr is)))
        ((second.objects o).0 has),
    λ has. ⊎_elim
        (λ (old : Contains a o). (second.objects o).1 (inl ((first.objects o).1 (inl old))))
        (λ (is : R o). ⊎_elim (λ (p : P o). (second.objects o).1 (inl ((first.objects o).1 (inr p)))) (λ (q : Q o). (second.objects o).1 (inr q)) ((same o).1 is))
        has,
  );
}

pub grows_twice : (a b c : List Object) (P Q : Object → Type 0) → GrowsBy a b P → GrowsBy b c Q → GrowsBy a c (λ o. P o ⊎ Q o)
grows_twice a b c P Q first second = grows_then a b c P Q (λ o. P o ⊎ Q o) first second (λ o. (λ is. is, λ is. is))

pub grows_by_none : (a : List Object) (P : Object → Type 0) → ((o : Object) → ¬ P o) → GrowsBy a a P
grows_by_none a P none = record {
  prefix = prefix_refl a;
  objects = λ o. (λ has. inl has, λ has. ⊎_elim (λ (old : Contains a o). old) (λ (is : P o). absurd (none o is)) has);
}

pub grows_by_same : (a b : List Object) (P Q : Object → Type 0) → GrowsBy a b P → ((o : Object) → P o ↔ Q o) → GrowsBy a b Q
grows_by_same a b P Q grows same = record {
  prefix = grows.prefix;
  objects = λ o. (
    λ has. ⊎_elim (λ (old : Contains a o). inl old) (λ (is : P o). inr ((same o).0 is)) ((grows.objects o).0 has),
    λ has. ⊎_elim (λ (old : Contains a o). (grows.objects o).1 (inl old)) (λ (is : Q o). (grows.objects o).1 (inr ((same o).1 is))) has,
  );
}

-- the objects of edits, where there is one more, and where two lists of them are joined
pub is_changed_joined : (edits more : List Edit) (o : Object) → (IsChanged edits o ⊎ IsChanged more o) ↔ IsChanged (edits ++ more) o
is_changed_joined [] more o = (λ is. ⊎_elim (λ (never : ⊥). absurd never) (λ (m : IsChanged more o). m) is, λ is. inr is)
is_changed_joined (edit ∷ edits) more o =
    let rest = is_changed_joined edits more o in (
      λ is. ⊎_elim
          (λ (one : IsChangedBy edit o ⊎ IsChanged edits o). ⊎_elim (λ (e : IsChangedBy edit o). inl e) (λ (es : IsChanged edits o). inr (rest.0 (inl es))) one)
          (λ (m : IsChanged more o). inr (rest.0 (inr m))) is,
      λ is. ⊎_elim
          (λ (e : IsChangedBy edit o). inl (inl e))
          (λ (es : IsChanged (edits ++ more) o). ⊎_elim (λ (x : IsChanged edits o). inl (inr x)) (λ (m : IsChanged more o). inr m) (rest.1 es)) is,
    )

pub grows_by_more : (a b c : List Object) (edits : List Edit) (edit : Edit) → GrowsBy a b (IsChanged edits) → GrowsBy b c (IsChangedBy edit) → GrowsBy a c (IsChanged (edits ++ edit ∷ []))
grows_by_more a b c edits edit first second =
    grows_then a b c (IsChanged edits) (IsChangedBy edit) (IsChanged (edits ++ edit ∷ [])) first second (λ o.
    let joined = is_changed_joined edits (edit ∷ []) o in (
      λ is. joined.0 (⊎_elim (λ (es : IsChanged edits o). inl es) (λ (e : IsChangedBy edit o). inr (inl e)) is),
      λ is. ⊎_elim (λ (es : IsChanged edits o). inl es) (λ (m : IsChanged (edit ∷ []) o). ⊎_elim (λ (e : IsChangedBy edit o). inr e) (λ (never : ⊥). absurd never) m) (joined.1 is),
    ))

prefix_of_same : (a b : List Object) → b ≡ a → IsPrefix a b
prefix_of_same a b is = ([], is ∙ sym (append-nil a))

-- some design
pub no_design : Design
no_design = record { title = record { id = []; shown = None }; libs = []; top = None; notes = [] }

-- what a change of a cell adds: one object, or those of a new cell
pub one_added : {T E : Type 0} (result : Result T E) (a b : List Object) (x y : Object) (change : CellChange) → x ≡ y → ((d : Design) (o : Object) → (o ≡ y) ↔ IsChangedBy (edit_of d change) o) → MatchResult result (λ _. GrowsBy a b (λ o. o ≡ x)) (λ _. b ≡ a) → MatchResult result (λ _. (d : Design) → GrowsBy a b (IsChangedBy (edit_of d change))) (λ _. IsPrefix a b)
one_added (Ok ok) a b x y change same is added =
    λ d. grows_by_same a b (λ o. o ≡ x) (IsChangedBy (edit_of d change)) added (λ o. (λ at. (is d o).0 (at ∙ same), λ at. (is d o).1 at ∙ sym same))
one_added (Err err) a b x y change same is added = prefix_of_same a b added

pub fresh_added : {T E : Type 0} (result : Result T E) (a b c : List Object) (change : CellChange) (id : CellId) (body : CellBody) (x y : Object) → change ≡ Fresh id body → x ≡ face_object id → y ≡ contents_object id → GrowsBy a b (λ o. o ≡ Directory id.lib) → MatchResult result (λ _. GrowsBy b c (λ o. (o ≡ x) ⊎ (o ≡ y))) (λ _. c ≡ b) → MatchResult result (λ _. (d : Design) → GrowsBy a c (IsChangedBy (edit_of d change))) (λ _. IsPrefix a c)
fresh_added (Ok ok) a b c change id body x y is first second dir added = λ d.
    subst (λ (ch : CellChange). GrowsBy a c (IsChangedBy (edit_of d ch))) (sym is)
    (grows_then a b c (λ o. o ≡ Directory id.lib) (λ o. (o ≡ x) ⊎ (o ≡ y)) (IsChangedBy (edit_of d (Fresh id body))) dir added (λ o. (
      λ cases. ⊎_elim (λ (d : o ≡ Directory id.lib). inl d) (λ (e : (o ≡ x) ⊎ (o ≡ y)). inr (⊎_elim (λ (f : o ≡ x). inl (f ∙ first)) (λ (g : o ≡ y). inr (g ∙ second)) e)) cases,
      λ cases. ⊎_elim (λ (d : o ≡ Directory id.lib). inl d) (λ (e : (o ≡ face_object id) ⊎ (o ≡ contents_object id)). inr (⊎_elim (λ (f : o ≡ face_object id). inl (f ∙ sym first)) (λ (g : o ≡ contents_object id). inr (g ∙ sym second)) e)) cases,
    )))
fresh_added (Err err) a b c change id body x y is first second dir added = prefix_twice a b c dir.prefix (prefix_of_same b c added)

pub notes_added : {T E : Type 0} (result : Result T E) (a b c : List Object) (changes : List CellChange) (notes : Option (List Note)) (given : List Note) → notes ≡ Some given → ((d : Design) → GrowsBy a b (IsChanged (cell_edits d changes))) → MatchResult result (λ _. GrowsBy b c (λ o. o ≡ Notes)) (λ _. IsPrefix b c) → MatchResult result (λ _. (d : Design) → GrowsBy a c (IsChanged (cell_edits d changes ++ option_to_list (option_map noted notes)))) (λ _. IsPrefix a c)
notes_added (Ok ok) a b c changes notes given is cells added = λ d.
    subst (λ (ns : Option (List Note)). GrowsBy a c (IsChanged (cell_edits d changes ++ option_to_list (option_map noted ns)))) (sym is) (grows_by_more a b c (cell_edits d changes) (noted given) (cells d) added)
notes_added (Err err) a b c changes notes given is cells added = prefix_twice a b c (cells no_design).prefix added
