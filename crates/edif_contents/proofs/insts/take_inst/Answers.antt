use Rattle.std.proofs.Common.{◌≡◌, ◌≤◌, ap, ◌∙◌, inl, inr, arith}
use Rattle.edif_spec.specs.Stands.{InstFault}
use Rattle.edif_spec.specs.declared.fault.MeaningFault.{MeaningFault}
use Rattle.edif_spec.specs.declared.fault.MeaningFault.TheVariants.{OverLimit}
use Rattle.edif_tree.specs.Handles.{here}
use Rattle.edif_grammar.proofs.Misplaced.{place_is}
use Rattle.edif_parts.specs.Names.{IsAgain}
use Rattle.edif_parts.proofs.Answering.{answers_more, hand_on}
use Rattle.edif_contents.specs.Inners.{InstAdded, InstTaken, InstTakenFault}
use Rattle.edif_contents.proofs.insts.take_inst.Goals as goal

pub returns-in_err-room : goal.returns-in_err-room
returns-in_err-room c =
    let t = here c.args.node in
    let F : MeaningFault → Type 0 = λ f. (1048576 ≤ c.len.result) × (f ≡ OverLimit 1048576 c.place.result) in
    hand_on _ F (InstTakenFault c.args.libs.now.libs c.args.own t c.args.names.now c.args.list.now.items) c.from_residual.result c.in_err-room.field-0.0 c.from_residual.ensures.1
    (λ f h. inr (inr (omega (arith, h.0, c.args.list.now.ok.0), h.1 ∙ ap (λ v. OverLimit 1048576 v) (c.place.ensures ∙ place_is t)))) c.in_err-room.ensures

pub returns-in_err-read : goal.returns-in_err-read
returns-in_err-read c =
    let t = here c.args.node in
    let libs = c.args.libs.now.libs in
    hand_on _ (InstFault libs c.args.own t) (InstTakenFault libs c.args.own t c.args.names.now c.args.list.now.items) c.from_residual-in_err-read.result c.in_err-read.field-0.0 c.from_residual-in_err-read.ensures.1 (λ f h. inl h) c.in_err-read.ensures

pub returns : goal.returns
returns c =
    let t = here c.args.node in
    let libs = c.args.libs.now.libs in
    let read = c.in_ok-read.read in
    let ns = c.args.names.now in
    let xs = c.args.list.now.items in
    answers_more (λ _. InstAdded read ns xs c.add_inst.new.names c.add_inst.new.list.items) (λ _. InstTaken libs c.args.own t ns xs c.add_inst.new.names c.add_inst.new.list.items) (IsAgain ns read.inst.name.id read.place) (InstTakenFault libs c.args.own t ns xs) c.add_inst.result
    (λ u h. record { inst = read; read = c.in_ok-read.ensures; added = h; room = omega (arith, c.in_ok-room.ensures, c.args.list.now.ok.0) })
    (λ f b. inr (inl (record { name = read.inst.name.id; place = read.place; defines = c.in_ok-read.ensures.named; again = b }))) c.add_inst.ensures
