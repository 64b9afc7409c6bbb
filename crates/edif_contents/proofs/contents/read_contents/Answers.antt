use Rattle.std.proofs.Common.{List, sym, ap, subst, ◌∙◌}
use Rattle.edif_spelling_spec.specs.Tree.{Placed}
use Rattle.edif_spec.specs.Design as design
use Rattle.edif_spec.specs.Faults.{those_of}
use Rattle.edif_spec.specs.Stands.{ContentsFault}
use Rattle.edif_spec.specs.declared.keyword.Keyword.TheVariants.{Instance, Net}
use Rattle.edif_tree.specs.Handles.{here, all}
use Rattle.edif_parts.proofs.Answering.{hand_on}
use Rattle.edif_contents.specs.Inners.{InstsFault, ReadInsts}
use Rattle.edif_contents.specs.Insides.{ReadContents}
use Rattle.edif_contents.specs.Nets.{NetsFaultIn, ReadNets}
use Rattle.edif_contents.specs.declared.ends.Surroundings.{Surroundings}
use Rattle.edif_contents.proofs.ContentsLemmas.{contents_read, insts_fail, nets_fail}
use Rattle.edif_contents.proofs.contents.read_contents.Goals as goal

pub returns-in_err-insts : goal.returns-in_err-insts
returns-in_err-insts c =
    let t = here c.args.node in
    let libs = c.args.libs.now.libs in
    let ports = c.args.ports.now in
    hand_on (ReadContents libs c.args.own ports t) (InstsFault libs c.args.own (those_of Instance (all c.in_ok-parts.parts.inner))) (ContentsFault libs c.args.own ports t) c.from_residual-in_err-insts.result c.in_err-insts.field-0.0 c.from_residual-in_err-insts.ensures.1
    (λ f b. insts_fail libs c.args.own ports t f (subst (λ v. InstsFault libs c.args.own (those_of Instance v) f) c.in_ok-parts.ensures.inner b)) c.in_err-insts.ensures

pub read_nets-requires : goal.read_nets-requires
read_nets-requires c = record { ports = c.requires.names; insts = c.in_ok-insts.ensures.names ∙ ap design.inst_ids (sym c.as_slice.ensures.value) }

-- the surroundings, by what nets are judged by alone
pub returns-in_err-nets : goal.returns-in_err-nets
returns-in_err-nets c =
    let t = here c.args.node in
    let libs = c.args.libs.now.libs in
    let ports = c.args.ports.now in
    let inner = c.in_ok-parts.ensures.inner in
    let s : Surroundings = record { libs = c.args.libs; ports = c.args.ports; port_names = c.args.names; insts = c.as_slice.result; inst_names = c.args.names } in
    let I : List Placed → Type 0 = λ v. ReadInsts libs c.args.own v c.in_ok-insts.insts in
    hand_on (ReadContents libs c.args.own ports t) (NetsFaultIn s (those_of Net (all c.in_ok-parts.parts.inner))) (ContentsFault libs c.args.own ports t) c.from_residual-in_err-nets.result c.in_err-nets.field-0.0 c.from_residual-in_err-nets.ensures.1
    (λ f b. nets_fail s c.args.own t c.in_ok-insts.insts f (subst I inner c.in_ok-insts.ensures) c.as_slice.ensures.value (subst (λ v. NetsFaultIn s (those_of Net v) f) inner b)) c.in_err-nets.ensures

pub returns : goal.returns
returns c =
    let t = here c.args.node in
    let a = c.in_ok-parts.ensures in
    let s : Surroundings = record { libs = c.args.libs; ports = c.args.ports; port_names = c.args.names; insts = c.as_slice.result; inst_names = c.args.names } in
    let y = c.in_ok-nets.ensures in
    let z : ReadNets s (all c.in_ok-parts.parts.inner) c.in_ok-nets.nets = record { rows = y.rows; mean = y.mean; nets = y.nets; fine = y.fine; names = y.names; count = y.count; ends = y.ends; joined_once = y.joined_once } in
    let I : List Placed → Type 0 = λ v. ReadInsts s.libs.now.libs c.args.own v c.in_ok-insts.insts in
    let N : List Placed → Type 0 = λ v. ReadNets s v c.in_ok-nets.nets in
    contents_read s c.args.own t c.in_ok-parts.parts c.in_ok-insts.insts c.in_ok-nets.nets _ a (subst I a.inner c.in_ok-insts.ensures) c.as_slice.ensures.value (subst N a.inner z)
    (ap (λ (v : design.Contents). v.insts) c.in_ok-of.ensures ∙ c.in_ok-placed.ensures) (ap (λ (v : design.Contents). v.nets) c.in_ok-of.ensures)
