-- Tests of paths; what several operations keep.
use Rattle.std.proofs.Common.{List, [], ◌∷◌}
use Rattle.std.specs.List.{All, AllByRecursion}
use Rattle.std.proofs.lemmas.List.Elements.{recursion_from_All}
use Rattle.netlist_schema.specs.Design.{Design}
use Rattle.netlist_schema.specs.Valid.{IsValid}
use Rattle.edit_rules_spec.specs.Objects.{Grown}
use Rattle.edit_spec.specs.Step.{step, run}
use Rattle.edit_spec.specs.Typed.{IsTypedOp}
use Rattle.edit_spec.specs.declared.ops.Op.{Op}
use Rattle.edit_rules_spec.proofs.Growing.{Grown-refl, Grown-trans}
use Rattle.edit_spec.proofs.Framed.{step_is_grown, step_is_valid}

-- several operations
pub run_is_valid : (ops : List Op) (d : Design) → AllByRecursion IsTypedOp ops → IsValid d → IsValid (run d ops).design
run_is_valid [] d typed valid = valid
run_is_valid (op ∷ ops) d typed valid = run_is_valid ops (step d op).design typed.1 (step_is_valid d op typed.0 valid)

pub run_keeps_valid : (d : Design) (ops : List Op) → All IsTypedOp ops → IsValid d → IsValid (run d ops).design
run_keeps_valid d ops typed valid = run_is_valid ops d (recursion_from_All IsTypedOp ops typed) valid

grown_by : (ops : List Op) (d : Design) → Grown d (run d ops).design
grown_by [] d = Grown-refl d
grown_by (op ∷ ops) d = Grown-trans d (step d op).design (run (step d op).design ops).design (step_is_grown d op) (grown_by ops (step d op).design)

pub run_is_grown : (d : Design) (ops : List Op) → Grown d (run d ops).design
run_is_grown d ops = grown_by ops d
