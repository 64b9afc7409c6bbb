use Rattle.std.proofs.Common.{◌≡◌, ◌≤◌, ℕ, length, subst, Option, true, false, arith}
use Rattle.std.proofs.Math.Numerals.{add-one}
use Rattle.std.proofs.lemmas.List.{take_all}
use Rattle.edif_spelling_spec.specs.Tree.{bare}
use Rattle.edif_spec.specs.Rows.{has_keyword}
use Rattle.edif_spec.specs.declared.keyword.Keyword.TheVariants.{Design}
use Rattle.edif_tree.specs.Handles.{here, all}
use Rattle.edif_build.proofs.FileLemmas.{FoundSo, design_skipped, design_here, design_again, design_at, found_below}
use Rattle.edif_build.proofs.file.find_design.Goals as goal

pub loop-i-preserved-then-not-is_form_of : goal.loop-i-preserved-then-not-is_form_of
loop-i-preserved-then-not-is_form_of c =
    let t = here c.at-node.result in
    let e = c.is_form_of.ensures in
    let h : has_keyword Design (bare t) ≡ false = cc in
    rw (add-one c.loop-i.i) (design_skipped (all c.args.inner) c.loop-i.i t c.loop-i.found c.at-node.ensures h c.loop-i.invariant)

pub at-requires : goal.at-requires
at-requires c =
    let ts = all c.args.inner in
    let P : Option ℕ → Type 0 = λ v. FoundSo ts c.loop-i.i v in
    found_below ts c.loop-i.i c.in-Some.first (subst P c.in-Some.is c.loop-i.invariant)

pub returns-in-Some : goal.returns-in-Some
returns-in-Some c =
    let ts = all c.args.inner in
    let t = here c.at-node.result in
    let e = c.is_form_of.ensures in
    let k : has_keyword Design (bare t) ≡ true = cc in
    let P : Option ℕ → Type 0 = λ v. FoundSo ts c.loop-i.i v in
    rw c.clash.ensures (design_again ts c.loop-i.i c.in-Some.first c.place.result c.place-earlier.result t (here c.at.result) c.at-node.ensures k (subst P c.in-Some.is c.loop-i.invariant) c.at.ensures c.place.ensures c.place-earlier.ensures)

pub loop-i-preserved : goal.loop-i-preserved
loop-i-preserved c =
    let ts = all c.args.inner in
    let t = here c.at-node.result in
    let e = c.is_form_of.ensures in
    let k : has_keyword Design (bare t) ≡ true = cc in
    let P : Option ℕ → Type 0 = λ v. FoundSo ts c.loop-i.i v in
    rw (add-one c.loop-i.i) (design_here ts c.loop-i.i t c.at-node.ensures k (subst P c.in_default.is c.loop-i.invariant))

pub returns : goal.returns
returns c =
    let ts = all c.args.inner in
    let l : length ts ≤ c.loop-i.i = omega arith in
    design_at ts c.loop-i.i c.loop-i.found (take_all c.loop-i.i ts l) c.loop-i.invariant
