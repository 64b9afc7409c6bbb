use Rattle.std.proofs.Common.{◌≡◌, refl, ap, map, ◌∙◌, ◌++◌, ◌∷◌, [], cond, List, ℕ}
use Rattle.std.specs.List.{list_any}
use Rattle.edit_rules_spec.specs.Find.{is_name}
use Rattle.std.specs.Arc.{arc_value}
use Rattle.std.proofs.lemmas.List.{map-append}
use Rattle.netlist_schema.specs.Types.{CellBody}
use Rattle.db_draft.proofs.layer.Layer.push.Goals as goal

pub returns-clause-ok : goal.returns-clause-ok
returns-clause-ok c =
    let old = c.args.self.now in
    let id : c.deref.result.now.name.id ≡ (arc_value c.args.body).name.id = ap (λ (b : CellBody). b.name.id) c.deref.ensures in
    let none = ap (λ (n : List ℕ). list_any (is_name n) old.names) id ∙ c.requires in
    record {
      changed = λ slot. refl;
      added_are = ap (map arc_value) (c.push_reserved.ensures.items ∙ ap (λ xs. xs ++ c.args.body ∷ []) c.in_ok-reserve.ensures.items) ∙ map-append arc_value old.cells.items (c.args.body ∷ []);
      names_are = c.in_ok-add.ensures.ok ∙ (ap (λ b. cond b old.names (old.names ++ c.deref.result.now.name.id ∷ [])) none ∙ ap (λ (n : List ℕ). old.names ++ n ∷ []) id);
    }
