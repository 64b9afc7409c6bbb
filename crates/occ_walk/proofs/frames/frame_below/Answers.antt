use Rattle.std.proofs.Common.{◌≡◌, ◌+◌, ℕ, List, length, arith, refl, sym, ap, subst, ◌∙◌}
use Rattle.std.specs.Prelude.{◌↔◌, IsSome}
use Rattle.std.specs.List.{All, AllPairs, Contains}
use Rattle.netlist_schema.specs.Types.{Inst}
use Rattle.flat_spec.specs.Paths.{nets_at}
use Rattle.net_classes.specs.Joints.{IsNotBehind}
use Rattle.net_classes.specs.declared.joints.Joint.{Joint}
use Rattle.net_names.specs.Names.{AreHanded, first_of, name_in}
use Rattle.net_names.specs.declared.names.NetName.{NetName}
use Rattle.flat_items.specs.Stand.{top_of}
use Rattle.flat_items.specs.declared.place.Frame.{Frame}
use Rattle.occ_walk.proofs.BelowLemmas.{firsts_in, frame_is_below, joints_are_named, joints_in_order, next_is_small, path_is_short}
use Rattle.occ_walk.proofs.frames.frame_below.Goals as goal

pub joints_on-run-requires-clause-order : goal.joints_on-run-requires-clause-order
joints_on-run-requires-clause-order g c =
    subst (AllPairs IsNotBehind) (sym c.joints.ensures)
    (joints_in_order (g.S.Shown.design c.args.ground.now.design) c.args.ground.now.classes c.args.ground.now.notes c.requires.ground c.args.path.now c.args.here.now c.requires.frame)

pub joints_on-run-requires-clause-room : goal.joints_on-run-requires-clause-room
joints_on-run-requires-clause-room g c =
    let small = next_is_small (g.S.Shown.design c.args.ground.now.design) c.requires.ground.valid c.args.here.now.cell c.args.step c.args.inst.now c.requires.inst in
    omega (arith, small)

pub overflow_cast-path : goal.overflow_cast-path
overflow_cast-path g c =
    let d = g.S.Shown.design c.args.ground.now.design in
    let short = path_is_short d c.requires.ground.valid (top_of d).cell c.args.here.now.cell c.args.path.now c.requires.frame.reached in
    omega (arith, short)

pub overflow_add-path : goal.overflow_add-path
overflow_add-path g c =
    let d = g.S.Shown.design c.args.ground.now.design in
    let short = path_is_short d c.requires.ground.valid (top_of d).cell c.args.here.now.cell c.args.path.now c.requires.frame.reached in
    omega (arith, short)

pub names_below-requires : goal.names_below-requires
names_below-requires g c =
    let d = g.S.Shown.design c.args.ground.now.design in
    let facts = c.args.ground.now.classes in
    let on : List Joint = c.joints_on-run.result.joints.now in
    let here : Frame = c.args.here.now in
    let are = subst (λ js. (j : Joint) → Contains on j ↔ (Contains js j × (j.inst ≡ c.args.step))) c.joints.ensures c.joints_on-run.ensures in
    let named = joints_are_named d facts c.args.ground.now.notes c.requires.ground c.args.path.now here c.requires.frame c.args.step on are in
    let with_names = subst (λ (v : List NetName). All (λ (j : Joint). IsSome (name_in v (firsts_in facts here.cell) j.net)) on) (sym c.as_slice.ensures.value) named in
    subst (λ v. All (λ (j : Joint). IsSome (name_in c.as_slice.result.now v j.net)) on) (sym c.firsts.ensures) with_names

pub returns-clause-frame : goal.returns-clause-frame
returns-clause-frame g c =
    let d = g.S.Shown.design c.args.ground.now.design in
    let facts = c.args.ground.now.classes in
    let on : List Joint = c.joints_on-run.result.joints.now in
    let here : Frame = c.args.here.now in
    let inst : Inst = c.args.inst.now in
    let are = subst (λ js. (j : Joint) → Contains on j ↔ (Contains js j × (j.inst ≡ c.args.step))) c.joints.ensures c.joints_on-run.ensures in
    let names : List NetName = c.in_ok-names.names.items in
    let end_is = c.in-Some.ensures ∙ ap (λ (v : List ℕ). here.end + 1 + length v) c.as_slice-2.ensures.value in
    let deep : ℕ = length c.args.path.now + 1 in
    let with_names = subst (λ (v : List NetName). AreHanded (first_of facts inst.of) (name_in v c.firsts.result.now) deep on (length (nets_at d inst.of)) names) c.as_slice.ensures.value c.in_ok-names.ensures in
    let with_firsts = subst (λ v. AreHanded (first_of facts inst.of) (name_in here.names.items v) deep on (length (nets_at d inst.of)) names) c.firsts.ensures with_names in
    frame_is_below d facts c.args.ground.now.notes c.requires.ground c.args.path.now here c.requires.frame inst c.args.step c.requires.inst on are deep
    (record { cell = inst.of; next = 0; from = c.joints_on-run.result.from; upto = c.joints_on-run.result.upto; near = 0; end = c.in-Some.end; names = c.in_ok-names.names }) refl (omega arith) end_is with_firsts
