use Rattle.std.specs.Prelude.{Contains}
use Rattle.netlist_schema.proofs.Objects.{is_listed}
use Rattle.edit_rules_spec.proofs.Overlaid as lemma
use Rattle.edit_rules_spec.proofs.laws.one_overlay.Goals as goal

pub returns : goal.returns
returns c = λ base over a b objects first second. lemma.one_overlay base over a b (Contains objects) (is_listed objects) first second
