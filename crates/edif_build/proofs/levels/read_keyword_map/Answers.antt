use Rattle.edif_spec.proofs.KnownForms.{form_choice}
use Rattle.std.proofs.Common.{[], ◌∷◌, map, refl, arith}
use Rattle.edif_spelling_spec.specs.Tree.{Placed, bare}
use Rattle.edif_spec.specs.Faults.{followers}
use Rattle.edif_spec.specs.Keyword.{Many, the}
use Rattle.edif_spec.specs.Means.{IsLevel}
use Rattle.edif_spec.specs.Stands.{LevelFault, MapFault}
use Rattle.edif_spec.specs.Stands as stands
use Rattle.edif_spec.specs.declared.keyword.Keyword.TheVariants.{Comment, KeywordLevel, KeywordMap}
use Rattle.edif_tree.specs.Handles.{here}
use Rattle.edif_grammar.specs.Forms.{ArePartsOf}
use Rattle.edif_grammar.specs.declared.lent.Form.{Form}
use Rattle.edif_build.specs.Levels.{IsKeywordMap}
use Rattle.edif_parts.proofs.Answering.{answers_more}
use Rattle.edif_parts.proofs.PartLemmas.{OneNode, one_node}
use Rattle.edif_build.proofs.levels.read_keyword_map.Goals as goal

nodes : (t : Placed) (p : Form) → ArePartsOf KeywordMap t p → OneNode KeywordMap (the KeywordLevel) t p
nodes t p a = one_node KeywordMap (the KeywordLevel) (Many Comment ∷ []) t p refl refl refl a

pub at-requires : goal.at-requires
at-requires c = omega (arith, (nodes (here c.args.node) c.in_ok-parts.parts c.in_ok-parts.ensures).count)

pub read_level-requires-clause-keyword : goal.read_level-requires-clause-keyword
read_level-requires-clause-keyword c =
    let u = here c.at.result in
    form_choice KeywordLevel u ((nodes (here c.args.node) c.in_ok-parts.parts c.in_ok-parts.ensures).a u c.at.ensures).is

pub returns : goal.returns
returns c =
    let t = here c.args.node in
    let u = here c.at.result in
    let n = nodes t c.in_ok-parts.parts c.in_ok-parts.ensures in
    let a = n.a u c.at.ensures in
    answers_more (λ _. IsLevel KeywordLevel (bare u)) (λ _. IsKeywordMap (bare t)) (LevelFault KeywordLevel u) (MapFault t) c.read_level.result
    (λ _ e. record { level_part = bare u; inner = map bare (followers KeywordMap t); form = n.form u c.at.ensures; level = e }) (λ f b. stands.map_level (u, a.at, form_choice KeywordLevel u a.is, b)) c.read_level.ensures
