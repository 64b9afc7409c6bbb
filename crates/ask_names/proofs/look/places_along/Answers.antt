use Rattle.std.proofs.Common.{◌≡◌, ◌+◌, ℕ, List, None, Some, Option, Bor, [], drop, get_or, map, sym, ap, ◌∙◌, slice_get}
use Rattle.std.specs.Option.{option_copied}
use Rattle.netlist_schema.specs.Hierarchy.{insts_at}
use Rattle.netlist_schema.specs.Types.{CellId, Inst}
use Rattle.edit_rules_spec.specs.Find.{inst_place}
use Rattle.ask_names.specs.Places.{places_along}
use Rattle.ask_names.proofs.AlongLemmas.{ahead, ends_here, ends_there, goes_on, last_name, next_name, none_so_far, one_step_more}
use Rattle.ask_names.proofs.look.places_along.Goals as goal

abbrev no_ref : Bor (List ℕ)
no_ref = record { ref_ptr = (0, 0); now = [] }

pub loop-name-init : goal.loop-name-init
loop-name-init g c =
    let all : Option (List ℕ) = places_along (g.S.Shown.design c.args.design.now) c.args.root (map (λ (x : Bor (List ℕ)). x.now) c.args.names.now) in
    sym (ap (λ (v : List ℕ). ahead v all) c.new-steps.ensures.items ∙ none_so_far all)

pub returns-in_default : goal.returns-in_default
returns-in_default g c =
    let d = g.S.Shown.design c.args.design.now in
    let i : ℕ = c.loop-name.name-index in
    let cell : CellId = c.loop-name.cell in
    let names : List (Bor (List ℕ)) = c.args.names.now in
    let name : List ℕ = (get_or names i no_ref).now in
    let none : inst_place name (insts_at d cell) ≡ None = sym c.inst_in.ensures ∙ c.in_default.is in
    sym (c.loop-name.invariant
    ∙ ap (ahead c.loop-name.steps.items) (ap (places_along d cell) (next_name names i no_ref c.loop-name-test.true) ∙ ends_here d cell name (map (λ (x : Bor (List ℕ)). x.now) (drop (i + 1) names)) none))

pub returns-in_default-inst_at : goal.returns-in_default-inst_at
returns-in_default-inst_at g c =
    let d = g.S.Shown.design c.args.design.now in
    let i : ℕ = c.loop-name.name-index in
    let cell : CellId = c.loop-name.cell in
    let names : List (Bor (List ℕ)) = c.args.names.now in
    let name : List ℕ = (get_or names i no_ref).now in
    let at : inst_place name (insts_at d cell) ≡ Some c.in-Some.place = sym c.inst_in.ensures ∙ c.in-Some.is in
    let none : slice_get (insts_at d cell) c.in-Some.place ≡ None = sym c.inst_at.ensures ∙ ap option_copied c.in_default-inst_at.is in
    sym (c.loop-name.invariant
    ∙ ap (ahead c.loop-name.steps.items)
    (ap (places_along d cell) (next_name names i no_ref c.loop-name-test.true) ∙ ends_there d cell name (map (λ (x : Bor (List ℕ)). x.now) (drop (i + 1) names)) c.in-Some.place at none))

pub loop-name-preserved : goal.loop-name-preserved
loop-name-preserved g c =
    let d = g.S.Shown.design c.args.design.now in
    let i : ℕ = c.loop-name.name-index in
    let cell : CellId = c.loop-name.cell in
    let steps : List ℕ = c.loop-name.steps.items in
    let names : List (Bor (List ℕ)) = c.args.names.now in
    let name : List ℕ = (get_or names i no_ref).now in
    let left : List (List ℕ) = map (λ (x : Bor (List ℕ)). x.now) (drop (i + 1) names) in
    let place : ℕ = c.in-Some.place in
    let inst : Inst = c.in-Some-inst_at.inst.now in
    let at : inst_place name (insts_at d cell) ≡ Some place = sym c.inst_in.ensures ∙ c.in-Some.is in
    let got : slice_get (insts_at d cell) place ≡ Some inst = sym c.inst_at.ensures ∙ ap option_copied c.in-Some-inst_at.is in
    c.loop-name.invariant
    ∙ ap (ahead steps) (ap (places_along d cell) (next_name names i no_ref c.loop-name-test.true) ∙ goes_on d cell name left place inst at got)
    ∙ one_step_more steps place (places_along d inst.of left)
    ∙ ap (λ (v : List ℕ). ahead v (places_along d inst.of left)) (sym c.in_ok-push.ensures.items)

pub returns : goal.returns
returns g c =
    let d = g.S.Shown.design c.args.design.now in
    sym (c.loop-name.invariant ∙ last_name d c.loop-name.cell c.args.names.now c.loop-name.name-index c.loop-name.steps.items c.loop-name-test.false)
