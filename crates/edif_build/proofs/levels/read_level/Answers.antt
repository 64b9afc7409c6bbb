use Rattle.std.proofs.Common.{◌≡◌, pos, arith}
use Rattle.edif_spelling_spec.specs.Tree.{bare, integer}
use Rattle.edif_spec.specs.Means.{IsLevel}
use Rattle.edif_spec.specs.Stands.{LevelFault}
use Rattle.edif_spec.specs.declared.fault.Kind.TheVariants.{BadLevel}
use Rattle.edif_tree.specs.Handles.{here}
use Rattle.edif_build.specs.Levels.{IsOther}
use Rattle.edif_parts.proofs.Answering.{answers_more}
use Rattle.edif_build.proofs.LevelLemmas.{level_node}
use Rattle.edif_build.proofs.levels.read_level.Goals as goal

pub at-requires : goal.at-requires
at-requires c = omega (arith, (level_node c.args.keyword (here c.args.node) c.in_ok-parts.parts c.requires.level c.in_ok-parts.ensures).count)

pub returns : goal.returns
returns c =
    let t = here c.args.node in
    let u = here c.at.result in
    let n = level_node c.args.keyword t c.in_ok-parts.parts c.requires.level c.in_ok-parts.ensures in
    answers_more (λ _. bare u ≡ integer (pos 0)) (λ _. IsLevel c.args.keyword (bare t)) (IsOther (pos 0) BadLevel u) (LevelFault c.args.keyword t) c.check_number.result (λ _ e. n.means u c.at.ensures e) (λ f o. n.fails u f c.at.ensures o) c.check_number.ensures
