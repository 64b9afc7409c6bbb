use Rattle.std.proofs.Common.{◌≡◌, ◌-◌, ◌<◌, ℕ, List, [], ◌++◌, length, take, sym, ◌∙◌, subst, Option, Some, true, inl, arith}
use Rattle.std.specs.Prelude.{slice_get}
use Rattle.std.proofs.lemmas.List.{length-map}
use Rattle.std.proofs.lemmas.Option.{slice_get_within}
use Rattle.edif_spelling_spec.specs.Tree.{Placed, bare}
use Rattle.edif_spec.specs.Rows.{has_keyword}
use Rattle.edif_spec.specs.Stands.{DesignFault, libraries}
use Rattle.edif_spec.specs.declared.keyword.Keyword.TheVariants.{Design}
use Rattle.edif_tree.specs.Handles.{here, all}
use Rattle.edif_tree.specs.Here.{tree_at}
use Rattle.edif_tree.specs.Ranges.{ids_of}
use Rattle.edif_tree.proofs.RangeLemmas.{length_ids}
use Rattle.edif_contents.specs.Known.{KnownLibs}
use Rattle.edif_build.specs.Files.{DesignAt, FollowersFail, ReadFollowers}
use Rattle.edif_build.specs.Libraries.{FailsIn, LibsAre, LibsFail}
use Rattle.edif_build.specs.Notes.{ReadTop}
use Rattle.edif_parts.proofs.Answering.{hand_on}
use Rattle.edif_build.proofs.FileLemmas.{fails_all, fails_front, fails_back, fails_design, followers_read, is_design}
use Rattle.edif_build.proofs.file.read_followers.Goals as goal

-- the place of the design
found : (ts : List Placed) (o : Option ℕ) (i : ℕ) → o ≡ Some i → DesignAt ts o → DesignAt ts (Some i)
found ts o i e d = let P : Option ℕ → Type 0 = λ v. DesignAt ts v in subst P e d

below : (ts : List Placed) (o : Option ℕ) (i : ℕ) → o ≡ Some i → DesignAt ts o → i < length ts
below ts o i e d = let f = found ts o i e d in slice_get_within ts i f.0 f.1

-- the form at the place of the design
design_there : (ts : List Placed) (i : ℕ) (t : Placed) (d : DesignAt ts (Some i)) → slice_get ts i ≡ Some t → d.0 ≡ t
design_there ts i t d g = let w : Some d.0 ≡ Some t = sym d.1 ∙ g in cc w

-- the libraries before the design
front_are : (ts front : List Placed) (known : KnownLibs) (i : ℕ) → front ≡ take i ts → LibsAre (libraries front) known → LibsAre (libraries (take i ts)) known
front_are ts front known i e h = let P : List Placed → Type 0 = λ v. LibsAre (libraries v) known in subst P e h

pub returns-in_err-add_libraries : goal.returns-in_err-add_libraries
returns-in_err-add_libraries c =
    let ts = all c.args.inner in
    hand_on (ReadFollowers ts c.add_libraries.new.libs) (FailsIn LibsFail (libraries ts)) (FollowersFail ts) c.from_residual.result c.in_err-add_libraries.field-0.0 c.from_residual.ensures.1
    (λ f b. inl (fails_all (libraries ts) f b)) (c.in_err-add_libraries.ensures [] c.requires.known)

pub returns-in_default : goal.returns-in_default
returns-in_default c =
    let P : Option ℕ → Type 0 = λ v. DesignAt (all c.args.inner) v in
    record { libs = c.in_ok-add_libraries.ensures [] c.requires.known; top = subst P c.in_default.is c.requires.design }

pub split_at-requires : goal.split_at-requires
split_at-requires c = let l = below (all c.args.inner) c.args.design c.in-Some.at c.in-Some.is c.requires.design in omega (arith, l)

pub split_at-requires-2 : goal.split_at-requires-2
split_at-requires-2 c = let l = below (all c.args.inner) c.args.design c.in-Some.at c.in-Some.is c.requires.design in omega (arith, l)

-- the followers stand side by side, at numbers of 32 bits
pub overflow_add-at : goal.overflow_add-at
overflow_add-at c =
    let range = c.args.inner.ids in
    omega (arith, below (all c.args.inner) c.args.design c.in-Some.at c.in-Some.is c.requires.design, length-map (ids_of range) (tree_at c.args.inner.tree.now.rows), length_ids range.first (range.end - range.first))

pub at-requires : goal.at-requires
at-requires c = below (all c.args.inner) c.args.design c.in-Some.at c.in-Some.is c.requires.design

pub returns-in_err-add_libraries-2 : goal.returns-in_err-add_libraries-2
returns-in_err-add_libraries-2 c =
    let ts = all c.args.inner in
    let at = c.in-Some.at in
    let e = found ts c.args.design at c.in-Some.is c.requires.design in
    hand_on (ReadFollowers ts c.add_libraries-2.new.libs) (FailsIn LibsFail (libraries (all c.split_at.result.0))) (FollowersFail ts) c.from_residual-in_err-add_libraries-2.result c.in_err-add_libraries-2.field-0.0 c.from_residual-in_err-add_libraries-2.ensures.1
    (λ f b. (let F : List Placed → Type 0 = λ v. FailsIn LibsFail (libraries v) f in fails_front ts at f e (subst F c.split_at.ensures.front b))) (c.in_err-add_libraries-2.ensures [] c.requires.known)

pub read_top-requires : goal.read_top-requires
read_top-requires c =
    let ts = all c.args.inner in
    let e = found ts c.args.design c.in-Some.at c.in-Some.is c.requires.design in
    let P : Placed → Type 0 = λ v. has_keyword Design (bare v) ≡ true in
    subst P (design_there ts c.in-Some.at (here c.at.result) e c.at.ensures) (is_design ts c.in-Some.at e)

pub returns-in_err-top : goal.returns-in_err-top
returns-in_err-top c =
    let ts = all c.args.inner in
    let at = c.in-Some.at in
    let e = found ts c.args.design at c.in-Some.is c.requires.design in
    let mid = c.add_libraries-2.new.libs in
    let u = here c.at.result in
    let h = front_are ts (all c.split_at.result.0) mid at c.split_at.ensures.front (c.in_ok-add_libraries-2.ensures [] c.requires.known) in
    hand_on (ReadFollowers ts mid) (DesignFault mid.libs u) (FollowersFail ts) c.from_residual-in_err-top.result c.in_err-top.field-0.0 c.from_residual-in_err-top.ensures.1
    (λ f b. (let F : Placed → Type 0 = λ v. DesignFault mid.libs v f in fails_design ts at mid f e h (subst F (sym (design_there ts at u e c.at.ensures)) b))) c.in_err-top.ensures

pub add_libraries-requires-3 : goal.add_libraries-requires-3
add_libraries-requires-3 c = (libraries (all c.split_at.result.0), c.in_ok-add_libraries-2.ensures [] c.requires.known)

pub returns-in_err-add_libraries-3 : goal.returns-in_err-add_libraries-3
returns-in_err-add_libraries-3 c =
    let ts = all c.args.inner in
    let at = c.in-Some.at in
    let e = found ts c.args.design at c.in-Some.is c.requires.design in
    let front = all c.split_at.result.0 in
    let back = all c.split_at-2.result.1 in
    hand_on (ReadFollowers ts c.add_libraries-3.new.libs) (FailsIn LibsFail (libraries front ++ libraries back)) (FollowersFail ts) c.from_residual-in_err-add_libraries-3.result c.in_err-add_libraries-3.field-0.0 c.from_residual-in_err-add_libraries-3.ensures.1
    (λ f b. (let F : List Placed → List Placed → Type 0 = λ v w. FailsIn LibsFail (libraries v ++ libraries w) f in
    fails_back ts at f e (subst (λ w. F (take at ts) w) c.split_at-2.ensures.back (subst (λ v. F v back) c.split_at.ensures.front b))))
    (c.in_err-add_libraries-3.ensures (libraries front) (c.in_ok-add_libraries-2.ensures [] c.requires.known))

pub returns : goal.returns
returns c =
    let ts = all c.args.inner in
    let at = c.in-Some.at in
    let e = found ts c.args.design at c.in-Some.is c.requires.design in
    let front = all c.split_at.result.0 in
    let back = all c.split_at-2.result.1 in
    let mid = c.add_libraries-2.new.libs in
    let known = c.add_libraries-3.new.libs in
    let k = c.in_ok-add_libraries-2.ensures [] c.requires.known in
    let F : List Placed → List Placed → Type 0 = λ v w. LibsAre (libraries v ++ libraries w) known in
    let T : Placed → Type 0 = λ v. ReadTop mid.libs v c.in_ok-top.top in
    followers_read ts at mid known c.in_ok-top.top e (front_are ts front mid at c.split_at.ensures.front k) (subst T (sym (design_there ts at (here c.at.result) e c.at.ensures)) c.in_ok-top.ensures)
    (subst (λ w. F (take at ts) w) c.split_at-2.ensures.back (subst (λ v. F v back) c.split_at.ensures.front (c.in_ok-add_libraries-3.ensures (libraries front) k)))
