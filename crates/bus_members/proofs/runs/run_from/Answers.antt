use Rattle.std.proofs.Common.{◌≡◌, ◌≤◌, ◌<◌, ℕ, List, [], Option, Some, length, true, false, ap, sym, ◌∙◌, subst, nat_eq}
use Rattle.std.specs.Prelude.{slice_get}
use Rattle.netlist_schema.specs.Types.{End, Port}
use Rattle.bus_members.specs.Widths.{ports_among}
use Rattle.netlist_bus_spec.specs.Runs.{stem}
use Rattle.bus_members.proofs.Greatest.{array_not_full, array_run, endless_none, endless_run, is_empty, no_array, no_byte, no_first, not_empty}
use Rattle.bus_members.proofs.runs.run_from.Goals as goal

pub returns-then-is_empty : goal.returns-then-is_empty
returns-then-is_empty g c =
    let ports : Option ℕ → List Port = ports_among (g.S.Shown.design c.args.design.now) c.args.own.now c.args.insts.now in
    let stemmed : c.stem.result.now ≡ stem c.in-Some.first.now.name.id = c.stem.ensures ∙ ap stem c.as_slice.ensures.value in
    let empty : nat_eq (length c.stem.result.now) 0 ≡ true = sym c.is_empty.ensures ∙ c.if-is_empty.true in
    no_byte ports c.in-Some.first.now c.args.nets.now (sym c.in-Some.ensures.value) (subst (λ t. length t < 1) stemmed (is_empty (length c.stem.result.now) empty))

pub returns-then-count-lt2 : goal.returns-then-count-lt2
returns-then-count-lt2 g c =
    let ports : Option ℕ → List Port = ports_among (g.S.Shown.design c.args.design.now) c.args.own.now c.args.insts.now in
    let endless : c.in-Some.first.now.ends ≡ [] = no_first c.in-Some.first.now.ends (ap (λ (xs : List End). slice_get xs 0) (sym c.as_slice-2.ensures) ∙ sym c.in_default-first.ensures.value) in
    let members = c.members-count.ensures in
    endless_none ports c.in-Some.first.now c.args.nets.now c.members-count.result (sym c.in-Some.ensures.value) endless (record { most = members.most; within = members.within; members = members.members; greatest = members.greatest }) c.if-count-lt2.true

pub returns-else-count-lt2 : goal.returns-else-count-lt2
returns-else-count-lt2 g c =
    let ports : Option ℕ → List Port = ports_among (g.S.Shown.design c.args.design.now) c.args.own.now c.args.insts.now in
    let stemmed : c.stem.result.now ≡ stem c.in-Some.first.now.name.id = c.stem.ensures ∙ ap stem c.as_slice.ensures.value in
    let some : nat_eq (length c.stem.result.now) 0 ≡ false = sym c.is_empty.ensures ∙ c.if-is_empty.false in
    let endless : c.in-Some.first.now.ends ≡ [] = no_first c.in-Some.first.now.ends (ap (λ (xs : List End). slice_get xs 0) (sym c.as_slice-2.ensures) ∙ sym c.in_default-first.ensures.value) in
    let members = c.members-count.ensures in
    endless_run ports c.in-Some.first.now c.args.nets.now c.members-count.result (sym c.in-Some.ensures.value) endless (record { most = members.most; within = members.within; members = members.members; greatest = members.greatest })
    (subst (λ t. 1 ≤ length t) stemmed (not_empty (length c.stem.result.now) some)) c.if-count-lt2.false

pub returns-in_default-array_width : goal.returns-in_default-array_width
returns-in_default-array_width g c =
    let ports : Option ℕ → List Port = ports_among (g.S.Shown.design c.args.design.now) c.args.own.now c.args.insts.now in
    let end : slice_get c.in-Some.first.now.ends 0 ≡ Some c.in-Some-first.end.now = ap (λ (xs : List End). slice_get xs 0) (sym c.as_slice-2.ensures) ∙ sym c.in-Some-first.ensures.value in
    no_array ports c.in-Some.first.now c.args.nets.now c.in-Some-first.end.now (sym c.in-Some.ensures.value) end (sym c.in_default-array_width.ensures.value)

pub returns-then-members-width : goal.returns-then-members-width
returns-then-members-width g c =
    let ports : Option ℕ → List Port = ports_among (g.S.Shown.design c.args.design.now) c.args.own.now c.args.insts.now in
    let end : slice_get c.in-Some.first.now.ends 0 ≡ Some c.in-Some-first.end.now = ap (λ (xs : List End). slice_get xs 0) (sym c.as_slice-2.ensures) ∙ sym c.in-Some-first.ensures.value in
    let members = c.members.ensures in
    array_not_full ports c.in-Some.first.now c.args.nets.now c.in-Some-first.end.now c.in-Some-array_width.width c.members.result (sym c.in-Some.ensures.value) end (sym c.in-Some-array_width.ensures.value)
    (record { most = members.most; within = members.within; members = members.members; greatest = members.greatest }) c.if-members-width.true

pub returns : goal.returns
returns g c =
    let ports : Option ℕ → List Port = ports_among (g.S.Shown.design c.args.design.now) c.args.own.now c.args.insts.now in
    let stemmed : c.stem.result.now ≡ stem c.in-Some.first.now.name.id = c.stem.ensures ∙ ap stem c.as_slice.ensures.value in
    let some : nat_eq (length c.stem.result.now) 0 ≡ false = sym c.is_empty.ensures ∙ c.if-is_empty.false in
    let end : slice_get c.in-Some.first.now.ends 0 ≡ Some c.in-Some-first.end.now = ap (λ (xs : List End). slice_get xs 0) (sym c.as_slice-2.ensures) ∙ sym c.in-Some-first.ensures.value in
    let members = c.members.ensures in
    let wide = c.in-Some-array_width.ensures.width in
    array_run ports c.in-Some.first.now c.args.nets.now c.in-Some-first.end.now c.in-Some-array_width.width c.members.result (sym c.in-Some.ensures.value) end (sym c.in-Some-array_width.ensures.value)
    (record { most = members.most; within = members.within; members = members.members; greatest = members.greatest }) (subst (λ t. 1 ≤ length t) stemmed (not_empty (length c.stem.result.now) some)) wide.0 wide.1 c.if-members-width.false
