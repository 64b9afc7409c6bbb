-- Whether a change writes an object is told.
use Rattle.std.proofs.Common.{◌⊎◌, inl, inr, List, [], ◌∷◌}
use Rattle.netlist_schema.proofs.Objects.{one_or_two}
use Rattle.netlist_schema.specs.Types.{Object}
use Rattle.netlist_schema.specs.declared.ids.Object.TheVariants.{Directory, Notes}
use Rattle.edit_rules_spec.specs.Edit.{Edit, fresh, inner, own, noted, IsChangedBy, IsChanged}
use Rattle.edit_rules_spec.specs.Objects.{face_object, contents_object}

pub either_told : {A B : Type 0} → (A ⊎ (¬ A)) → (B ⊎ (¬ B)) → (A ⊎ B) ⊎ (¬ (A ⊎ B))
either_told (inl a) b = inl (inl a)
either_told (inr not) (inl b) = inl (inr b)
either_told (inr not) (inr never) = inr (λ is. elim is [ inl a ↦ not a | inr b ↦ never b ])

changed_told : (edit : Edit) (o : Object) → IsChangedBy edit o ⊎ (¬ IsChangedBy edit o)
changed_told (fresh id body) o = either_told (one_or_two o (Directory id.lib)) (either_told (one_or_two o (face_object id)) (one_or_two o (contents_object id)))
changed_told (inner id contents) o = one_or_two o (contents_object id)
changed_told (own id properties) o = one_or_two o (face_object id)
changed_told (noted notes) o = one_or_two o Notes

pub edits_told : (edits : List Edit) (o : Object) → IsChanged edits o ⊎ (¬ IsChanged edits o)
edits_told [] o = inr (λ is. is)
edits_told (edit ∷ edits) o = either_told (changed_told edit o) (edits_told edits o)
