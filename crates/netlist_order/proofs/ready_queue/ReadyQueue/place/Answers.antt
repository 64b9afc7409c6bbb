use Rattle.std.proofs.Common.{◌≡◌, ◌∙◌, ◌∷◌, ◌++◌, [], List, false, length, get_or, ap, sym, subst}
use Rattle.std.specs.Prelude.{OnOk, Result, Ok, Err, unwrap_or, slice_get, cond, nat_eq}
use Rattle.std.specs.Option.{option_map_or}
use Rattle.std.specs.BTreeSet.{contains}
use Rattle.std.specs.Ordering.{nat_cmp}
use Rattle.std.proofs.lemmas.Option.{get_or_from_slice_get}
use Rattle.netlist_schema.specs.Design.{cells_in, insts_of}
use Rattle.netlist_schema.specs.Types.{Inst}
use Rattle.netlist_order.specs.ReadyQueue.{flag, has, waits, AllPast, IsFirstUnwritten}
use Rattle.netlist_order.proofs.Steps.{made_ready, made_wait}
use Rattle.netlist_order.proofs.ready_queue.ReadyQueue.place.Goals as goal

when_ok : {A E : Type 0} {P Q : Type 0} (r : Result A E) → OnOk r P → (P → Q) → OnOk r Q
when_ok (Ok x) h f = f h
when_ok (Err e) h f = tt

pub returns-in-Some-first_unwritten-clause-placed : goal.returns-in-Some-first_unwritten-clause-placed
returns-in-Some-first_unwritten-clause-placed g c =
    let cells = cells_in (g.S.Shown.design c.args.design.now) c.args.lib in
    let old = c.args.self.now in
    let new = c.park.new.self in
    let from = c.in-Some-first_unwritten.from in
    let found : IsFirstUnwritten c.args.lib.0 (flag old) (insts_of c.in-Some.body.now) c.args.cell.from from =
    subst (λ (is : List Inst). IsFirstUnwritten c.args.lib.0 (flag old) is c.args.cell.from from) c.insts_of-insts.ensures c.in-Some-first_unwritten.ensures.some in
    let inst : c.deref.result.now ≡ found.inst =
    c.deref.ensures ∙ c.at.ensures.is ∙ ap (λ (is : List Inst). get_or is from c.at.result.now) c.insts_of-insts.ensures
    ∙ get_or_from_slice_get (insts_of c.in-Some.body.now) from found.inst c.at.result.now found.there in
    when_ok c.park.result c.park.ensures.waiting (λ moved done pending h.
    made_wait c.args.lib.0 cells done c.args.cell pending c.in-Some.body.now found.inst from (flag old) (has old) (flag new) (has new) (waits old) (waits new)
    (sym c.in-Some.ensures.value) found.there found.missing found.earlier
    (λ s. ap (λ v. unwrap_or (slice_get v.items s) false) c.park.ensures.written) (λ s. ap (λ r. contains nat_cmp r s) c.park.ensures.ready)
    (λ t. moved t ∙ ap (λ (i : Inst). cond (nat_eq t i.of.slot) (waits old i.of.slot ++ record { slot = c.args.cell.slot; from = from } ∷ []) (waits old t)) inst) h)

pub returns-in-None-clause-placed : goal.returns-in-None-clause-placed
returns-in-None-clause-placed g c =
    let cells = cells_in (g.S.Shown.design c.args.design.now) c.args.lib in
    let old = c.args.self.now in
    let new = c.make_ready.new.self in
    let past : AllPast c.args.lib.0 (flag old) (insts_of c.in-Some.body.now) c.args.cell.from (length (insts_of c.in-Some.body.now)) =
    subst (λ (is : List Inst). AllPast c.args.lib.0 (flag old) is c.args.cell.from (length is)) c.insts_of-insts.ensures c.in-None.ensures.none in
    when_ok c.make_ready.result c.make_ready.ensures.ready (λ marked done pending h.
    made_ready c.args.lib.0 cells done c.args.cell pending c.in-Some.body.now (flag old) (has old) (flag new) (has new) (waits old) (waits new)
    (sym c.in-Some.ensures.value) past
    (λ s. ap (λ v. unwrap_or (slice_get v.items s) false) c.make_ready.ensures.written) marked
    (λ t. ap (λ v. option_map_or (λ cells. cells.items) (slice_get v.items t) []) c.make_ready.ensures.waiting) h)
