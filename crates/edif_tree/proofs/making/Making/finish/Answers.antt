use Rattle.std.proofs.Common.{◌≡◌, ◌<◌, sym, subst, length, arith}
use Rattle.std.proofs.lemmas.Bool.{eqb-true, eqb-false}
use Rattle.std.specs.Prelude.{vec_len}
use Rattle.edif_spelling_spec.specs.Tree.{Placed}
use Rattle.edif_spelling_spec.specs.TreeFaults.{Lists, tree_fault}
use Rattle.edif_tree.specs.Nodes.{Table, IsAt}
use Rattle.edif_tree.specs.TreeError.{Names}
use Rattle.edif_tree.specs.declared.errors.TreeError.{TreeError}
use Rattle.edif_tree.proofs.OrderLemmas.{root_is}
use Rattle.edif_tree.proofs.ReadFaults.{ends_open, ends_empty, ends_closed}
use Rattle.edif_tree.proofs.making.Making.finish.Goals as goal

pub returns-then-not-is_empty-clause-at : goal.returns-then-not-is_empty-clause-at
returns-then-not-is_empty-clause-at c ts h =
    let forms = c.args.self.forms.ok.0 in
    let some = eqb-false (vec_len c.args.self.forms) 0 (sym c.if-not-is_empty.ensures) in
    let full : 0 < length c.args.self.forms.items = omega arith in
    let N : TreeError → Type 0 = λ e. Names e (tree_fault ts c.args.end) in
    subst N (sym c.unended.ensures) (ends_open c.args.self ts c.args.end full h)

pub returns-then-loose_len-eq0-clause-at : goal.returns-then-loose_len-eq0-clause-at
returns-then-loose_len-eq0-clause-at c ts h =
    let nothing : length c.args.self.nodes.loose ≡ 0 = omega arith in
    let N : TreeError → Type 0 = λ e. Names e (tree_fault ts c.args.end) in
    subst N (sym c.unended-then-loose_len-eq0.ensures) (ends_empty c.args.self ts c.args.end nothing h)

pub of-requires : goal.of-requires
of-requires c =
    let forms = c.args.self.forms.ok.0 in
    let none = eqb-true (vec_len c.args.self.forms) 0 (sym c.if-not-is_empty.ensures) in
    let empty : length c.args.self.forms.items ≡ 0 = omega arith in
    let some : 0 < length c.args.self.nodes.loose = omega arith in
    let found = ends_closed c.args.self c.requires.0 c.args.end c.in_ok-root.root empty some c.in_ok-root.ensures c.requires.1 in
    root_is _ c.in_ok-root.root found.1.0 found.2 found.1.1

pub returns-clause-ok : goal.returns-clause-ok
returns-clause-ok c ts h =
    let forms = c.args.self.forms.ok.0 in
    let none = eqb-true (vec_len c.args.self.forms) 0 (sym c.if-not-is_empty.ensures) in
    let empty : length c.args.self.forms.items ≡ 0 = omega arith in
    let some : 0 < length c.args.self.nodes.loose = omega arith in
    let found = ends_closed c.args.self ts c.args.end c.in_ok-root.root empty some c.in_ok-root.ensures h in
    let T : Table → Type 0 = λ v. (t : Placed) × IsAt v.rows v.root t × Lists ts t in
    (found.0, subst T (sym c.in_ok-of.ensures) found.1)
