use Rattle.std.proofs.Common.{rules, ◌≡◌, ◌++◌, ◌∷◌, [], ap}
use Rattle.std.specs.BTreeMap.{get, get_by}
use Rattle.std.specs.Cmp.Lexicographic.{slice_cmp}
use Rattle.std.specs.Ordering.{nat_cmp}
use Rattle.flat_items.specs.Placed.{places_in, steps_cmp}
use Rattle.flat_items.proofs.AddLemmas.{added_here, added_others}
use Rattle.flat_items.proofs.notes.PlacedNotes.add.Goals as goal
use Rattle.flat_items.proofs.notes.PlacedNotes.add.Goals.{in-Some, in-None}

pub returns : goal.returns
returns c =
    let s = c.args.steps in
    let before = get steps_cmp c.args.self.now.table in
    let base : c.match-remove.places.items ≡ places_in c.args.self.now s = elim c.match-remove.branch [ in-Some w ↦ search rules | in-None w ↦ search rules ] in
    let more : c.push.new.self.items ≡ places_in c.args.self.now s ++ c.args.place ∷ [] = search rules in
    record {
      here = added_here (λ v. v.items) before (get steps_cmp c.remove.new.self) (get steps_cmp c.insert.new.self) s c.args.place c.push.new.self c.remove.ensures.updates.0 c.in_ok-insert.ensures.updates.0
          (λ q e. ap (λ xs. get_by (λ k. slice_cmp nat_cmp xs k.steps.items) c.args.self.now.table) e) more;
      others = added_others (λ v. v.items) before (get steps_cmp c.remove.new.self) (get steps_cmp c.insert.new.self) s c.args.place c.push.new.self c.remove.ensures.updates.0 c.in_ok-insert.ensures.updates.0
          (λ q e. ap (λ xs. get_by (λ k. slice_cmp nat_cmp xs k.steps.items) c.args.self.now.table) e) more;
    }
