use Rattle.std.proofs.Common.{◌≡◌, List, Some, None, not, subst}
use Rattle.edit_rules_spec.specs.Rule.{first}
use Rattle.edit_spec.specs.AddCell.{new_cell, no_new_cell}
use Rattle.edit_spec.specs.declared.ops.PortDecl.{PortDecl}
use Rattle.eco_plans.proofs.AddOps.{add_done, add_good, add_refused, lib_read, no_lib_there}
use Rattle.edit_spec.specs.declared.ops.Op.TheVariants.{AddCell}
use Rattle.eco_plans.proofs.Refusing.{cell_refused}
use Rattle.eco_reads.proofs.Reading.{read_some}
use Rattle.eco_plans.proofs.add.add_cell.Goals as goal

pub returns-in_default : goal.returns-in_default
returns-in_default g c = no_lib_there (g.C.Cells.state c.args.cells.now) c.args.name.now c.args.leaf c.args.ports.now (rw c.in_default.is at c.lib_named.ensures.value)

pub returns-in_err-body : goal.returns-in_err-body
returns-in_err-body g c =
    let s = (g.C.Cells.state c.args.cells.now) in
    let u = g.C.Cells.state c.count.new.self in
    let has = lib_read (g.C.Cells.state c.args.cells.now) (g.C.Cells.state c.name_free.new.self) (g.C.Cells.state c.count.new.self) c.args.name.now c.in-Some.lib c.in_ok-free.free c.in_ok-count.count c.in-Some.ensures.value c.in_ok-free.ensures.value c.in_ok-free.ensures.reads c.in_ok-count.ensures.value c.in_ok-count.ensures.reads in
    cell_refused s u (AddCell c.args.name.now c.args.leaf c.args.ports.now) _ (new_cell c.args.name.now.cell c.args.leaf c.as_slice.result.now) c.from_residual-in_err-body.result c.in_err-body.field-0.0 c.from_residual-in_err-body.ensures.1 c.in_err-body.ensures (read_some s u _ has.read)
    (λ reply planned. add_refused s u c.args.name.now c.args.leaf c.args.ports.now c.in-Some.lib c.in_ok-free.free c.in_ok-count.count reply has
    (subst (λ (ports : List PortDecl). first (no_new_cell (not c.in_ok-free.free) c.in_ok-count.count ports) ≡ Some reply) c.as_slice.ensures planned))

pub write_one-requires : goal.write_one-requires
write_one-requires g c =
    add_good (g.C.Cells.state c.args.cells.now) (g.C.Cells.state c.count.new.self) c.args.name.now c.args.leaf c.args.ports.now c.in-Some.lib c.in_ok-free.free c.in_ok-count.count c.in_ok-body.body c.requires c.in-Some.ensures.valid
    (lib_read (g.C.Cells.state c.args.cells.now) (g.C.Cells.state c.name_free.new.self) (g.C.Cells.state c.count.new.self) c.args.name.now c.in-Some.lib c.in_ok-free.free c.in_ok-count.count c.in-Some.ensures.value c.in_ok-free.ensures.value c.in_ok-free.ensures.reads c.in_ok-count.ensures.value c.in_ok-count.ensures.reads)
    (subst (λ (ports : List PortDecl). (first (no_new_cell (not c.in_ok-free.free) c.in_ok-count.count ports) ≡ None) × (c.in_ok-body.body ≡ new_cell c.args.name.now.cell c.args.leaf ports)) c.as_slice.ensures c.in_ok-body.ensures)

pub returns : goal.returns
returns g c =
    add_done (g.C.Cells.state c.args.cells.now) (g.C.Cells.state c.count.new.self) (g.C.Cells.state c.write_one.new.cells) c.args.name.now c.args.leaf c.args.ports.now c.in-Some.lib c.in_ok-free.free c.in_ok-count.count c.in_ok-body.body
    (lib_read (g.C.Cells.state c.args.cells.now) (g.C.Cells.state c.name_free.new.self) (g.C.Cells.state c.count.new.self) c.args.name.now c.in-Some.lib c.in_ok-free.free c.in_ok-count.count c.in-Some.ensures.value c.in_ok-free.ensures.value c.in_ok-free.ensures.reads c.in_ok-count.ensures.value c.in_ok-count.ensures.reads)
    (subst (λ (ports : List PortDecl). (first (no_new_cell (not c.in_ok-free.free) c.in_ok-count.count ports) ≡ None) × (c.in_ok-body.body ≡ new_cell c.args.name.now.cell c.args.leaf ports)) c.as_slice.ensures c.in_ok-body.ensures) c.in_ok-write_one.ensures.ok
