use Rattle.std.proofs.Common.{◌≤◌, ◌++◌, ◌∷◌, [], arith, length, sym, ap, ◌∙◌}
use Rattle.std.proofs.lemmas.List.{take_all}
use Rattle.std.specs.Option.{option_copied}
use Rattle.netlist_schema.specs.Types.{Lib}
use Rattle.used_keep.specs.Places.{libs_by}
use Rattle.used_keep.proofs.Placing.{lib_next, libs_long, no_lib}
use Rattle.used_keep.proofs.cells.new_libs.Goals as goal
use Rattle.used_keep.proofs.cells.new_libs.Goals.{in-Some+in_ok-new_lib+in_ok-push, in_default}

pub loop-lib-preserved : goal.loop-lib-preserved
loop-lib-preserved g c =
    let d = g.S.Shown.design c.args.design.now in
    let places = c.args.places.now in
    let lib = c.loop-lib.lib in
    elim c.match-lib.branch [
      | in-Some+in_ok-new_lib+in_ok-push w ↦
          ap (λ v. v.items) w.made-is
          ∙ w.in_ok-push.ensures.items
          ∙ ap (λ (l : Lib). c.loop-lib.made.items ++ l ∷ []) w.in_ok-new_lib.ensures
          ∙ lib_next d places lib w.in-Some.head.now c.loop-lib.made.items (sym (ap option_copied w.in-Some.is) ∙ c.lib.ensures) c.loop-lib.invariant
      | in_default w ↦ absurd (no_lib d lib (let count = c.lib_count-lib-end.ensures.value in let within = c.loop-lib-test.true in omega (arith, count, within)) (sym (ap option_copied w.in_default.is) ∙ c.lib.ensures))
    ]

pub returns : goal.returns
returns g c =
    let d = g.S.Shown.design c.args.design.now in
    let places = c.args.places.now in
    let long = libs_long d places in
    let count = c.lib_count-lib-end.ensures.value in
    let past : length (libs_by d places) ≤ c.loop-lib.lib = omega (arith, long, count, c.loop-lib-test.false) in
    c.of.ensures ∙ c.loop-lib.invariant ∙ take_all c.loop-lib.lib (libs_by d places) past
