use Rattle.std.proofs.Common.{◌≡◌, ◌≤◌, ◌∙◌, List, length, map, subst, sym, true, arith}
use Rattle.std.specs.List.{AllByRecursion}
use Rattle.edif_spelling_spec.specs.Tree.{Placed, bare}
use Rattle.edif_spec.specs.Faults.{Among}
use Rattle.edif_spec.specs.Means.{MeansInstRef}
use Rattle.edif_spec.specs.Rows.{Perhaps, has_keyword}
use Rattle.edif_spec.specs.Stands.{BitFault, InstRefFault}
use Rattle.edif_spec.specs.declared.keyword.Keyword.TheVariants.{InstanceRef}
use Rattle.edif_tree.specs.Handles.{here, all}
use Rattle.edif_grammar.proofs.Misplaced.{place_is}
use Rattle.edif_parts.proofs.Answering.{hand_on}
use Rattle.edif_contents.specs.Ends.{EndFaultIn, ReadEnd, ports_for}
use Rattle.edif_contents.proofs.EndLemmas.{end_bit_fails, end_inst_fails, end_means, end_node, inst_follows}
use Rattle.edif_contents.proofs.ends.read_end.Goals as goal

pub read_inst_among-requires : goal.read_inst_among-requires
read_inst_among-requires c =
    let a = c.in_ok-parts.ensures in
    let l = inst_follows (here c.args.node) a.fits in
    subst (λ v. AllByRecursion (λ u. has_keyword InstanceRef (bare u) ≡ true) v × (length v ≤ 1)) (sym a.inner) (l.0, l.1)

pub returns-in_err-inst : goal.returns-in_err-inst
returns-in_err-inst c =
    let t = here c.args.node in
    let a = c.in_ok-parts.ensures in
    let s = c.args.around.now in
    let insts = s.insts.now in
    hand_on (ReadEnd s t) (Among (InstRefFault insts) (all c.in_ok-parts.parts.inner)) (EndFaultIn s t) c.from_residual-in_err-inst.result c.in_err-inst.field-0.0 c.from_residual-in_err-inst.ensures.1
    (λ f b. end_inst_fails s.libs.now.libs s.ports.now insts t f (inst_follows t a.fits).2 (subst (λ v. Among (InstRefFault insts) v f) a.inner b)) (c.in_err-inst.ensures insts c.requires.names.insts)

pub at-named-requires : goal.at-named-requires
at-named-requires c = omega (arith, (end_node (here c.args.node) c.in_ok-parts.parts c.in_ok-parts.ensures).count)

pub read_bits-requires-clause-choice : goal.read_bits-requires-clause-choice
read_bits-requires-clause-choice c = ((end_node (here c.args.node) c.in_ok-parts.parts c.in_ok-parts.ensures).a (here c.at-named.result) c.at-named.ensures).is

pub returns-in_err-found : goal.returns-in_err-found
returns-in_err-found c =
    let t = here c.args.node in
    let u = here c.at-named.result in
    let a = c.in_ok-parts.ensures in
    let s = c.args.around.now in
    let o = c.in_ok-inst.inst in
    let insts = s.insts.now in
    let I : List Placed → Type 0 = λ v. Perhaps (MeansInstRef insts) (map bare v) o in
    hand_on (ReadEnd s t) (BitFault (ports_for s o) u) (EndFaultIn s t) c.from_residual-in_err-found.result c.in_err-found.field-0.0 c.from_residual-in_err-found.ensures.1
    (λ f b. end_bit_fails s.libs.now.libs s.ports.now insts t u o f ((end_node t c.in_ok-parts.parts a).a u c.at-named.ensures).at (inst_follows t a.fits).2 (subst I a.inner (c.in_ok-inst.ensures insts c.requires.names.insts)) b) c.in_err-found.ensures

pub returns : goal.returns
returns c =
    let t = here c.args.node in
    let u = here c.at-named.result in
    let a = c.in_ok-parts.ensures in
    let n = end_node t c.in_ok-parts.parts a in
    let s = c.args.around.now in
    let insts = s.insts.now in
    let found = c.in_ok-found.found in
    let I : List Placed → Type 0 = λ v. Perhaps (MeansInstRef insts) (map bare v) c.in_ok-inst.inst in
    record {
      mean = end_means s.libs.now.libs s.ports.now insts t u (record { inst = c.in_ok-inst.inst; port = found.port; first = found.first; width = found.width }) (n.form u c.at-named.ensures) (inst_follows t a.fits).2 (subst I a.inner (c.in_ok-inst.ensures insts c.requires.names.insts)) c.in_ok-found.ensures;
      named = u;
      there = (n.a u c.at-named.ensures).at;
      place = c.place.ensures ∙ place_is u;
    }
