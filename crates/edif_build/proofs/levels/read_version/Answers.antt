use Rattle.std.proofs.Common.{◌≡◌, pos, [], ◌∷◌, arith}
use Rattle.edif_spelling_spec.specs.Tree.{bare, integer}
use Rattle.edif_spec.specs.Rows.{IsFormOf}
use Rattle.edif_spec.specs.Stands.{VersionFault}
use Rattle.edif_spec.specs.declared.fault.Kind.TheVariants.{BadVersion}
use Rattle.edif_spec.specs.declared.keyword.Keyword.TheVariants.{EdifVersion}
use Rattle.edif_tree.specs.Handles.{here}
use Rattle.edif_build.specs.Levels.{IsOther}
use Rattle.edif_parts.proofs.Answering.{answers_more, hand_on}
use Rattle.edif_build.proofs.LevelLemmas.{version_nodes}
use Rattle.edif_build.proofs.levels.read_version.Goals as goal

pub at-requires : goal.at-requires
at-requires c = omega (arith, (version_nodes (here c.args.node) c.in_ok-parts.parts c.in_ok-parts.ensures).count)

pub at-requires-2 : goal.at-requires-2
at-requires-2 c = omega (arith, (version_nodes (here c.args.node) c.in_ok-parts.parts c.in_ok-parts.ensures).count)

pub at-requires-3 : goal.at-requires-3
at-requires-3 c = omega (arith, (version_nodes (here c.args.node) c.in_ok-parts.parts c.in_ok-parts.ensures).count)

pub returns-in_err-check_number : goal.returns-in_err-check_number
returns-in_err-check_number c =
    let t = here c.args.node in
    let u = here c.at.result in
    let n = version_nodes t c.in_ok-parts.parts c.in_ok-parts.ensures in
    hand_on (λ _. IsFormOf EdifVersion (bare t) (integer (pos 2) ∷ integer (pos 0) ∷ integer (pos 0) ∷ []) []) (IsOther (pos 2) BadVersion u) (VersionFault t) c.from_residual-in_err-check_number.result c.in_err-check_number.field-0.0
    c.from_residual-in_err-check_number.ensures.1 (λ f o. n.first u f c.at.ensures o) c.in_err-check_number.ensures

pub returns-in_err-check_number-2 : goal.returns-in_err-check_number-2
returns-in_err-check_number-2 c =
    let t = here c.args.node in
    let u = here c.at-2.result in
    let n = version_nodes t c.in_ok-parts.parts c.in_ok-parts.ensures in
    hand_on (λ _. IsFormOf EdifVersion (bare t) (integer (pos 2) ∷ integer (pos 0) ∷ integer (pos 0) ∷ []) []) (IsOther (pos 0) BadVersion u) (VersionFault t) c.from_residual-in_err-check_number-2.result c.in_err-check_number-2.field-0.0
    c.from_residual-in_err-check_number-2.ensures.1 (λ f o. n.second u f c.at-2.ensures o) c.in_err-check_number-2.ensures

pub returns : goal.returns
returns c =
    let t = here c.args.node in
    let w = here c.at-3.result in
    let n = version_nodes t c.in_ok-parts.parts c.in_ok-parts.ensures in
    answers_more (λ _. bare w ≡ integer (pos 0)) (λ _. IsFormOf EdifVersion (bare t) (integer (pos 2) ∷ integer (pos 0) ∷ integer (pos 0) ∷ []) []) (IsOther (pos 0) BadVersion w) (VersionFault t) c.check_number-3.result
    (λ _ e. n.means (here c.at.result) (here c.at-2.result) w c.at.ensures c.at-2.ensures c.at-3.ensures c.in_ok-check_number.ensures c.in_ok-check_number-2.ensures e) (λ f o. n.third w f c.at-3.ensures o) c.check_number-3.ensures
