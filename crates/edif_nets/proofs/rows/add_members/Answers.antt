use Rattle.std.proofs.Common.{refl, ◌∙◌}
use Rattle.edif_spec.specs.Nets.{net_at}
use Rattle.edif_nets.proofs.NetListing.{row_more}
use Rattle.edif_nets.proofs.rows.add_members.Goals as goal

pub loop-k-preserved : goal.loop-k-preserved
loop-k-preserved c =
    let old = c.args.list.now in
    let now = c.loop-k.list in
    let new = c.add.new.self in
    let v = c.loop-k.invariant in
    let a = c.in_ok-add.ensures in
    record {
      nets = row_more (net_at c.args.form.now) c.loop-k.k old.nets.items now.nets.items new.nets.items c.in_ok-net.net v.nets c.in_ok-net.ensures a.nets;
      places = row_more (λ k. c.args.place) c.loop-k.k old.places.items now.places.items new.places.items c.args.place v.places refl a.places;
      ends = a.ends ∙ v.ends;
    }
