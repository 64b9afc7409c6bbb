use Rattle.std.proofs.Common.{◌≡◌, ◌∙◌, arith, get_or, subst, sym, true}
use Rattle.std.specs.List.{All}
use Rattle.std.proofs.lemmas.List.{take_all}
use Rattle.std.proofs.lemmas.List.Elements.{All-more}
use Rattle.netlist_schema.specs.Types.{Inst}
use Rattle.flat_cells.specs.Marks.{is_marked}
use Rattle.par_classes.proofs.ready.is_ready.Goals as goal

pub loop-place-preserved : goal.loop-place-preserved
loop-place-preserved g c =
    let insts = c.insts_at-insts.result in
    let inst : Inst = c.deref.result.now in
    let is : inst ≡ get_or insts c.loop-place.place inst = subst (λ (i : Inst). i ≡ get_or insts c.loop-place.place i) (sym c.deref.ensures) c.at.ensures.is in
    let marked : is_marked c.args.marks.now inst.of ≡ true = sym c.has.ensures ∙ c.if-not-has.false in
    All-more (λ (i : Inst). is_marked c.args.marks.now i.of ≡ true) insts c.loop-place.place inst (omega arith) c.loop-place.invariant
    (subst (λ (i : Inst). is_marked c.args.marks.now i.of ≡ true) is marked)

pub returns : goal.returns
returns g c = λ yes.
    let all = subst (λ v. All (λ (i : Inst). is_marked c.args.marks.now i.of ≡ true) v) (take_all c.loop-place.place c.insts_at-insts.result (omega (arith, c.loop-place-test.false)))
    c.loop-place.invariant in
    subst (λ v. All (λ (i : Inst). is_marked c.args.marks.now i.of ≡ true) v) c.insts_at-insts.ensures.value all
