use Rattle.std.proofs.Common.{◌≡◌, ◌↔◌, sym, subst}
use Rattle.edit_rules_spec.specs.Edit.{IsChangedBy}
use Rattle.edit_cells.specs.Change.{edit_of}
use Rattle.edit_rules_spec.specs.Objects.{contents_object, face_object}
use Rattle.edit_cells.specs.declared.change.CellChange.{CellChange}
use Rattle.edit_cells.proofs.Growing.{fresh_added, one_added}
use Rattle.edit_cells.proofs.marks.Marks.add_change.Goals as goal

pub returns-in_ok-add-in-Fresh : goal.returns-in_ok-add-in-Fresh
returns-in_ok-add-in-Fresh c = fresh_added _ _ _ _ _ _ _ _ _ c.in-Fresh.is c.face_object.ensures c.contents_object.ensures c.in_ok-add-in-Fresh.ensures c.add_two.ensures

pub returns-in-Face : goal.returns-in-Face
returns-in-Face c = one_added _ _ _ _ _ _ c.face_object-in-Face.ensures (λ d o. subst (λ (ch : CellChange). (o ≡ face_object c.in-Face.id) ↔ IsChangedBy (edit_of d ch) o) (sym c.in-Face.is) (λ is. is, λ is. is)) c.add-in-Face.ensures

pub returns-in-Inner : goal.returns-in-Inner
returns-in-Inner c = one_added _ _ _ _ _ _ c.contents_object-in-Inner.ensures (λ d o. subst (λ (ch : CellChange). (o ≡ contents_object c.in-Inner.id) ↔ IsChangedBy (edit_of d ch) o) (sym c.in-Inner.is) (λ is. is, λ is. is)) c.add-in-Inner.ensures

pub returns-in-Net : goal.returns-in-Net
returns-in-Net c = one_added _ _ _ _ _ _ c.contents_object-in-Net.ensures (λ d o. subst (λ (ch : CellChange). (o ≡ contents_object c.in-Net.id) ↔ IsChangedBy (edit_of d ch) o) (sym c.in-Net.is) (λ is. is, λ is. is)) c.add-in-Net.ensures

pub returns-in-Inst : goal.returns-in-Inst
returns-in-Inst c = one_added _ _ _ _ _ _ c.contents_object-in-Inst.ensures (λ d o. subst (λ (ch : CellChange). (o ≡ contents_object c.in-Inst.id) ↔ IsChangedBy (edit_of d ch) o) (sym c.in-Inst.is) (λ is. is, λ is. is)) c.add-in-Inst.ensures
