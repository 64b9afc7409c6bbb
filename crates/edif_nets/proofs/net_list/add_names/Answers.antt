use Rattle.std.proofs.Common.{ℕ, List, add-one, get_or, refl, subst, arith}
use Rattle.netlist_schema.specs.Names.{AreDistinct}
use Rattle.edif_spec.specs.Design as design
use Rattle.edif_spec.specs.Faults.{AtTwo, SameOfTwo}
use Rattle.edif_parts.specs.Names.{IsAgain, ids}
use Rattle.edif_parts.proofs.Answering.{hand_on}
use Rattle.edif_parts.proofs.NameLists.{none_distinct}
use Rattle.edif_nets.specs.NetLists.{named}
use Rattle.edif_nets.proofs.NetListing.{named_after, named_again, named_all, names_differ}
use Rattle.edif_nets.proofs.net_list.add_names.Goals as goal

pub loop-index-init : goal.loop-index-init
loop-index-init c = rw c.requires.names (record { names = refl; distinct = none_distinct })

pub returns-in_err-add_name : goal.returns-in_err-add_name
returns-in_err-add_name c =
    let xs = c.args.nets.now in
    let ps = c.args.places.now in
    let i = c.loop-index.index in
    let p : ℕ = get_or ps i 0 in
    let x : design.Net = c.index-nets-index.result in
    hand_on _ (IsAgain c.loop-index.names x.name.id p) (λ f. AtTwo (SameOfTwo f) (named xs ps)) c.from_residual.result c.in_err-add_name.field-0.0 c.from_residual.ensures.1
    (λ f b. named_again (named xs ps) c.loop-index.names xs ps i p x x f c.loop-index.invariant.names c.loop-index-test.true c.requires.places c.index-nets-index.is refl b) c.in_err-add_name.ensures

pub loop-index-preserved : goal.loop-index-preserved
loop-index-preserved c =
    let xs = c.args.nets.now in
    let ps = c.args.places.now in
    let i = c.loop-index.index in
    let p : ℕ = get_or ps i 0 in
    let x : design.Net = c.index-nets-index.result in
    rw (add-one i) (record {
      names = named_after (named xs ps) c.loop-index.names c.add_name.new.names xs ps i p x x c.loop-index.invariant.names c.loop-index-test.true c.requires.places c.index-nets-index.is refl c.in_ok-add_name.ensures;
      distinct = names_differ c.loop-index.names c.add_name.new.names x.name.id p c.loop-index.invariant.distinct c.in_ok-add_name.ensures;
    })

pub returns : goal.returns
returns c =
    let xs = c.args.nets.now in
    let ps = c.args.places.now in
    let D : List (List ℕ × ℕ) → Type 0 = λ v. AreDistinct (ids v) in
    subst D (named_all (named xs ps) c.loop-index.names xs ps c.loop-index.index c.loop-index.invariant.names (omega arith)) c.loop-index.invariant.distinct
