use Rattle.std.proofs.Common.{◌≡◌, ◌≤◌, length, ◌∙◌, true, false, arith}
use Rattle.edif_spelling_spec.specs.Tree.{bare}
use Rattle.edif_spec.specs.Rows.{has_keyword}
use Rattle.edif_spec.specs.declared.keyword.Keyword.TheVariants.{Path, Property}
use Rattle.edif_tree.specs.Handles.{here, all}
use Rattle.edif_grammar.proofs.Misplaced.{place_is}
use Rattle.edif_build.proofs.NoteLemmas.{too_few, wrong_path, wrong_property, too_many, parts_are}
use Rattle.edif_build.proofs.notes.note_parts.Goals as goal

pub returns-in_default : goal.returns-in_default
returns-in_default c = (let t = here c.args.node in rw c.bad_form.ensures (too_few t c.place.result c.in_default.ensures.none (c.place.ensures ∙ place_is t)))

pub returns-then-not-is_form_of : goal.returns-then-not-is_form_of
returns-then-not-is_form_of c =
    let t = here c.args.node in
    let u = here c.at-path.result in
    let e = c.is_form_of.ensures in
    let n : has_keyword Path (bare u) ≡ false = cc in
    rw c.bad_form-then-not-is_form_of.ensures (wrong_path t u (all c.in-Some.inner) c.place-then-not-is_form_of.result c.in-Some.ensures.some.0 c.at-path.ensures n c.place-then-not-is_form_of.ensures)

pub returns-then-not-is_form_of-2 : goal.returns-then-not-is_form_of-2
returns-then-not-is_form_of-2 c =
    let t = here c.args.node in
    let v = here c.at-property.result in
    let e = c.is_form_of-2.ensures in
    let n : has_keyword Property (bare v) ≡ false = cc in
    rw c.bad_form-then-not-is_form_of-2.ensures (wrong_property t (here c.at-path.result) v (all c.in-Some.inner) c.place-then-not-is_form_of-2.result c.in-Some.ensures.some.0 c.at-path.ensures c.at-property.ensures n c.place-then-not-is_form_of-2.ensures)

pub returns-then-len-gt3 : goal.returns-then-len-gt3
returns-then-len-gt3 c = rw c.bad_form-then-len-gt3.ensures (too_many (here c.args.node) (here c.at.result) (all c.in-Some.inner) c.place-then-len-gt3.result c.in-Some.ensures.some.0 c.at.ensures c.place-then-len-gt3.ensures)

pub returns : goal.returns
returns c =
    let e = c.is_form_of.ensures in
    let f = c.is_form_of-2.ensures in
    let p : has_keyword Path (bare (here c.at-path.result)) ≡ true = cc in
    let q : has_keyword Property (bare (here c.at-property.result)) ≡ true = cc in
    let l : length (all c.in-Some.inner) ≤ 3 = omega arith in
    parts_are (here c.args.node) _ (all c.in-Some.inner) c.in-Some.ensures.some.0 l c.at-path.ensures c.at-property.ensures p q
