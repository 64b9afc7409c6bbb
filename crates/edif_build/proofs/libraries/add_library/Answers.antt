use Rattle.std.proofs.Common.{◌<◌, ◌≤◌, ℕ, List, [], ◌∷◌, ◌++◌, length, Option, ◌∙◌, subst, arith}
use Rattle.edif_spec.specs.Design as design
use Rattle.edif_spec.specs.Faults.{those_of}
use Rattle.edif_spec.specs.Stands.{LibraryFault}
use Rattle.edif_spec.specs.declared.keyword.Keyword.TheVariants.{Cell}
use Rattle.edif_spelling_spec.specs.Tree.{Placed}
use Rattle.edif_tree.specs.Handles.{here, all}
use Rattle.edif_contents.specs.Known.{OpensLib}
use Rattle.edif_build.specs.Libraries.{CellsAre, CellsFail, FailsAt, LibsAre, LibsFail}
use Rattle.edif_parts.proofs.Answering.{answers_more, hand_on}
use Rattle.edif_build.proofs.LibraryLemmas.{opened, library_added, library_fault, library_repeats, library_beyond, library_cells}
use Rattle.edif_grammar.proofs.Misplaced.{place_is}
use Rattle.edif_build.proofs.libraries.add_library.Goals as goal

pub returns-then-own-ge-MOST_LIBS : goal.returns-then-own-ge-MOST_LIBS
returns-then-own-ge-MOST_LIBS c = λ ts k.
    let t = here c.args.node in
    let l : 1024 ≤ length c.args.libs.now.libs = omega arith in
    rw c.over_limit.ensures (library_beyond ts t c.args.libs.now c.place.result k l (c.place.ensures ∙ place_is t))

pub returns-in_err-head : goal.returns-in_err-head
returns-in_err-head c = λ ts k.
    let t = here c.args.node in
    hand_on (λ _. LibsAre (ts ++ t ∷ []) c.args.libs.now) (λ f. (before : List design.Lib) → LibraryFault before t f) (FailsAt LibsFail ts t) c.from_residual.result c.in_err-head.field-0.0
    c.from_residual.ensures.1 (λ f b. library_fault ts t c.args.libs.now f k (b c.args.libs.now.libs)) c.in_err-head.ensures

pub returns-in-Some : goal.returns-in-Some
returns-in-Some c = λ ts k.
    let t = here c.args.node in
    let P : Option ℕ → Type 0 = λ v. OpensLib c.args.libs.now c.in_ok-head.head.head c.in_ok-head.head.place c.«open».new.self v in
    rw c.clash.ensures (library_repeats ts t c.args.libs.now c.«open».new.self c.in_ok-head.head c.in-Some.earlier k c.in_ok-head.ensures (subst P c.in-Some.is c.in_ok-earlier.ensures.ok))

pub fill_library-requires : goal.fill_library-requires
fill_library-requires c =
    let P : Option ℕ → Type 0 = λ v. OpensLib c.args.libs.now c.in_ok-head.head.head c.in_ok-head.head.place c.«open».new.self v in
    let h = c.in_ok-head.head in
    (c.args.libs.now.libs, h.head, c.args.libs.now.lib_names ++ (h.head.name.id, h.place) ∷ [], opened c.args.libs.now c.«open».new.self h.head h.place (subst P c.in-None.is c.in_ok-earlier.ensures.ok), c.len-own.ensures)

pub returns-in-None : goal.returns-in-None
returns-in-None c = λ ts k.
    let t = here c.args.node in
    let P : Option ℕ → Type 0 = λ v. OpensLib c.args.libs.now c.in_ok-head.head.head c.in_ok-head.head.place c.«open».new.self v in
    let h = c.in_ok-head.head in
    let r = c.in_ok-head.ensures in
    let old = c.args.libs.now in
    let o = subst P c.in-None.is c.in_ok-earlier.ensures.ok in
    let names : List (List ℕ × ℕ) = old.lib_names ++ (h.head.name.id, h.place) ∷ [] in
    let l : length old.libs < 1024 = omega arith in
    let i = all h.inner in
    answers_more (λ _. CellsAre old.libs h.head names (those_of Cell i) c.fill_library.new.libs) (λ _. LibsAre (ts ++ t ∷ []) c.fill_library.new.libs)
    (CellsFail old.libs h.head (those_of Cell i)) (FailsAt LibsFail ts t) c.fill_library.result
    (λ _ m. (let Q : List Placed → Type 0 = λ v. CellsAre old.libs h.head names (those_of Cell v) c.fill_library.new.libs in library_added ts t old c.«open».new.self c.fill_library.new.libs h k r l o (subst Q r.inner m)))
    (λ f b. (let Q : List Placed → Type 0 = λ v. CellsFail old.libs h.head (those_of Cell v) f in library_fault ts t old f k (library_cells old.libs t h f r (subst Q r.inner b))))
    (c.fill_library.ensures old.libs h.head names (opened old c.«open».new.self h.head h.place o) c.len-own.ensures)
