use Rattle.edif_spec.proofs.KnownForms.{form_choice}
use Rattle.std.proofs.Common.{◌≡◌, List, sym, subst, true, arith}
use Rattle.edif_spelling_spec.specs.Tree.{bare}
use Rattle.edif_spec.specs.Design as design
use Rattle.edif_spec.specs.Faults.{RowFault}
use Rattle.edif_spec.specs.Rows.{has_keyword}
use Rattle.edif_spec.specs.Stands.{LevelFault, LibraryFault, NameFault}
use Rattle.edif_spec.specs.Stands as stands
use Rattle.edif_spec.specs.declared.keyword.Keyword.{Keyword}
use Rattle.edif_spec.specs.declared.keyword.Keyword.TheVariants as keywords
use Rattle.edif_spec.specs.declared.fault.MeaningFault.{MeaningFault}
use Rattle.edif_spec.proofs.FaultsApart.{defined_first}
use Rattle.edif_tree.specs.Handles.{here}
use Rattle.edif_build.specs.Libraries.{ReadHead}
use Rattle.edif_parts.proofs.Answering.{hand_on}
use Rattle.edif_build.proofs.LibraryLemmas.{head_nodes, its_keyword, its_rows_fault}
use Rattle.edif_build.proofs.libraries.read_head.Goals as goal

pub read_parts-requires : goal.read_parts-requires
read_parts-requires c =
    let t = here c.args.node in
    let P : Keyword → Type 0 = λ v. has_keyword v (bare t) ≡ true in
    subst P (sym c.library_keyword-keyword.ensures) (its_keyword c.is_form_of-external.result (bare t) c.requires c.is_form_of-external.ensures)

pub returns-in_err-parts : goal.returns-in_err-parts
returns-in_err-parts c =
    let t = here c.args.node in
    let e = c.is_form_of-external.result in
    let P : Keyword → MeaningFault → Type 0 = λ v f. RowFault v t f in
    hand_on (ReadHead t) (RowFault c.library_keyword-keyword.result t) (λ f. (before : List design.Lib) → LibraryFault before t f) c.from_residual.result c.in_err-parts.field-0.0 c.from_residual.ensures.1
    (λ f b before. its_rows_fault e before t f (its_keyword e (bare t) c.requires c.is_form_of-external.ensures) (subst (λ v. P v f) c.library_keyword-keyword.ensures b))
    c.in_err-parts.ensures

pub at-requires : goal.at-requires
at-requires c = omega (arith, (head_nodes c.is_form_of-external.result c.library_keyword-keyword.result (here c.args.node) c.in_ok-parts.parts c.library_keyword-keyword.ensures c.in_ok-parts.ensures).three.count)

pub at-requires-2 : goal.at-requires-2
at-requires-2 c = omega (arith, (head_nodes c.is_form_of-external.result c.library_keyword-keyword.result (here c.args.node) c.in_ok-parts.parts c.library_keyword-keyword.ensures c.in_ok-parts.ensures).three.count)

pub read_level-requires-clause-keyword : goal.read_level-requires-clause-keyword
read_level-requires-clause-keyword c =
    let v = here c.at.result in
    let n = head_nodes c.is_form_of-external.result c.library_keyword-keyword.result (here c.args.node) c.in_ok-parts.parts c.library_keyword-keyword.ensures c.in_ok-parts.ensures in
    form_choice keywords.EdifLevel v (n.three.b v c.at.ensures).is

pub returns-in_err-read_level : goal.returns-in_err-read_level
returns-in_err-read_level c =
    let t = here c.args.node in
    let v = here c.at.result in
    let n = head_nodes c.is_form_of-external.result c.library_keyword-keyword.result t c.in_ok-parts.parts c.library_keyword-keyword.ensures c.in_ok-parts.ensures in
    let a = n.three.b v c.at.ensures in
    hand_on (ReadHead t) (LevelFault keywords.EdifLevel v) (λ f. (before : List design.Lib) → LibraryFault before t f) c.from_residual-in_err-read_level.result c.in_err-read_level.field-0.0 c.from_residual-in_err-read_level.ensures.1
    (λ f b before. stands.library_level (v, a.at, form_choice keywords.EdifLevel v a.is, b)) c.in_err-read_level.ensures

pub read_name-requires : goal.read_name-requires
read_name-requires c =
    let u = here c.at-2.result in
    let n = head_nodes c.is_form_of-external.result c.library_keyword-keyword.result (here c.args.node) c.in_ok-parts.parts c.library_keyword-keyword.ensures c.in_ok-parts.ensures in
    (n.three.a u c.at-2.ensures).is

pub returns-in_err-name : goal.returns-in_err-name
returns-in_err-name c =
    let t = here c.args.node in
    let u = here c.at-2.result in
    let n = head_nodes c.is_form_of-external.result c.library_keyword-keyword.result t c.in_ok-parts.parts c.library_keyword-keyword.ensures c.in_ok-parts.ensures in
    hand_on (ReadHead t) (NameFault u) (λ f. (before : List design.Lib) → LibraryFault before t f) c.from_residual-in_err-name.result c.in_err-name.field-0.0 c.from_residual-in_err-name.ensures.1
    (λ f b before. stands.library_name (u, (n.three.a u c.at-2.ensures).at, b)) c.in_err-name.ensures

pub returns : goal.returns
returns c =
    let t = here c.args.node in
    let u = here c.at-2.result in
    let v = here c.at.result in
    let n = head_nodes c.is_form_of-external.result c.library_keyword-keyword.result t c.in_ok-parts.parts c.library_keyword-keyword.ensures c.in_ok-parts.ensures in
    let m = c.in_ok-name.ensures in
    record {
      name_part = u;
      level_part = v;
      technology_part = n.three.third;
      at_name = (n.three.a u c.at-2.ensures).at;
      form = n.form u v n.three.third c.at-2.ensures c.at.ensures n.three.at_third;
      name = m.0;
      typed = m.1;
      level = c.in_ok-read_level.ensures;
      external = c.is_form_of-external.ensures;
      place = defined_first t u _ (n.three.a u c.at-2.ensures).at m.2;
      inner = n.inner;
    }
