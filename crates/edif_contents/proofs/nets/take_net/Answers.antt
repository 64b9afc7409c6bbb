use Rattle.std.proofs.Common.{◌∷◌, ◌++◌, refl, inl, ap, ◌∙◌}
use Rattle.edif_spec.specs.Nets.{row_size}
use Rattle.edif_spec.specs.declared.keyword.Keyword.TheVariants.{Net}
use Rattle.edif_tree.specs.Handles.{here, all}
use Rattle.edif_parts.proofs.Answering.{hand_on}
use Rattle.edif_parts.proofs.Steps.{fault_here}
use Rattle.edif_nets.specs.Joins.{places_of, row_of}
use Rattle.edif_contents.specs.Nets.{NetFaultIn, NextNetFault, form_in}
use Rattle.edif_contents.proofs.InsideLoops.{net_ends_fit, nets_push, row_small}
use Rattle.edif_contents.proofs.nets.take_net.Goals as goal

pub returns-in_err-read : goal.returns-in_err-read
returns-in_err-read c = λ before g.
    let t = here c.args.node in
    let s = c.args.around.now in
    hand_on _ (NetFaultIn s t) (NextNetFault s before t) c.from_residual.result c.in_err-read.field-0.0 c.from_residual.ensures.1
    (λ f h rest. inl (fault_here (NetFaultIn s) Net (before ++ t ∷ rest) before (t ∷ rest) rest t f refl refl c.requires.keyword h)) c.in_err-read.ensures

pub returns-in_err-form_room : goal.returns-in_err-form_room
returns-in_err-form_room c = λ before g.
    let t = here c.args.node in
    let s = c.args.around.now in
    hand_on _ (NextNetFault s before t) (NextNetFault s before t) c.from_residual-in_err-form_room.result c.in_err-form_room.field-0.0 c.from_residual-in_err-form_room.ensures.1
    (λ f h. h) (c.in_err-form_room.ensures s before c.in_ok-read.ensures g)

pub add_written-requires : goal.add_written-requires
add_written-requires c =
    let read = c.in_ok-read.read in
    let r = c.in_ok-read.ensures in
    net_ends_fit c.args.around.now (here c.args.node) read (form_in read.net).joined (row_size (form_in read.net).array) refl refl (row_small (form_in read.net).array r.fine.array) r

pub returns : goal.returns
returns c = λ before g.
    let t = here c.args.node in
    let s = c.args.around.now in
    let read = c.in_ok-read.read in
    let r = c.in_ok-read.ensures in
    let old = c.args.list.now in
    let h = c.in_ok-add_written.ensures in
    let e = h.ends ∙ (c.in_ok-row_places.ensures ∙ ap (λ v. old.ends.items ++ places_of (row_of v (all read.ends))) c.written_size.ensures) in
    nets_push s before t old c.add_written.new.list read c.requires.keyword r (c.in_ok-form_room.ensures s before r g) h.nets h.places e g
