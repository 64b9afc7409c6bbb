-- A commit inside a cell leaves what joins its ports free, and one on its interface does not.
use Rattle.std.proofs.Common.{◌≡◌, ℕ, [], ◌∷◌, inl, inr, refl, sym, subst, arith, ap, ◌∙◌}
use Rattle.std.specs.Prelude.{IsTrue}
use Rattle.std.specs.Ordering.{is_le}
use Rattle.netlist_schema.specs.Order.{object_cmp}
use Rattle.netlist_schema.specs.Types.{CellId, Object}
use Rattle.netlist_schema.specs.declared.ids.Object.TheVariants.{Interface, Contents}
use Rattle.edit_rules_spec.specs.declared.reply.Reply.TheVariants.{Done}
use Rattle.edit_spec.specs.Needs.{Reads}
use Rattle.db_spec.specs.declared.event.Answer.TheVariants.{Pinned, Committed, Conflict}
use Rattle.db_spec.specs.declared.event.Call.TheVariants.{Pin, Commit}
use Rattle.db_spec.specs.Answers.{Admits, IsConflict, HasNoConflict}
use Rattle.db_spec.specs.Example.{event, at_place}
use Rattle.db_spec.specs.ExampleFaces.{one_in_another, inside_a, property_of_a, joins_a, AreFacesApart}
use Rattle.db_spec.specs.State.{State, opening, after, IsWritten}

abbrev both_pinned : State
both_pinned = after (after (opening one_in_another) (event 0 Pin (Pinned 0 0))) (event 1 Pin (Pinned 1 0))

pinned_once : Admits (opening one_in_another) (event 0 Pin (Pinned 0 0))
pinned_once = record { room = omega arith; callers = tt; answers = (refl, refl) }

pinned_twice : Admits (after (opening one_in_another) (event 0 Pin (Pinned 0 0))) (event 1 Pin (Pinned 1 0))
pinned_twice = record { room = omega arith; callers = tt; answers = (refl, refl) }

-- ---- a net inside A

abbrev net_done : State
net_done = after both_pinned (event 0 (Commit 0 inside_a) (Committed 1 (Done ∷ [])))

net_free : HasNoConflict both_pinned 0 inside_a
net_free object w c = let later = c.later in let there = c.there in omega arith

net_accepted : Admits both_pinned (event 0 (Commit 0 inside_a) (Committed 1 (Done ∷ [])))
net_accepted = record { room = omega arith; callers = (0, (0, omega arith, refl)); answers = (0, (0, omega arith, refl), net_free, refl, refl) }

writes_inside : (object : Object) → IsWritten net_done 1 object → object ≡ Contents (at_place 0)
writes_inside object (inl (inl e)) = e
writes_inside object (inl (inr none)) = absurd none
writes_inside object (inr none) = absurd none

-- the contents of A are none of what joining reads
joining_reads : (object : Object) → Reads one_in_another joins_a object → ¬ (object ≡ Contents (at_place 0))
joining_reads object (inl (inl (inl e))) same = let never : Interface (at_place 1) ≡ Contents (at_place 0) = sym e ∙ same in cc
joining_reads object (inl (inl (inr e))) same =
    let both : Contents (at_place 1) ≡ Contents (at_place 0) = sym e ∙ same in
    let ids : at_place 1 ≡ at_place 0 = cc in
    let slots : 1 ≡ 0 = ap (λ (id : CellId). id.slot) ids in
    absurd (omega (arith, slots))
joining_reads object (inl (inr e)) same = let never : Interface (at_place 0) ≡ Contents (at_place 0) = sym e ∙ same in cc
joining_reads object (inr none) same = none

joining_free : HasNoConflict net_done 0 joins_a
joining_free object w c =
    let later = c.later in
    let there = c.there in
    let at : w ≡ 1 = omega arith in
    joining_reads object c.read (writes_inside object (subst (λ (u : ℕ). IsWritten net_done u object) at c.written))

joining_accepted : Admits net_done (event 1 (Commit 1 joins_a) (Committed 2 (Done ∷ [])))
joining_accepted = record { room = omega arith; callers = (0, (1, omega arith, refl)); answers = (0, (1, omega arith, refl), joining_free, refl, refl) }

-- ---- a property of A's own

abbrev property_done : State
property_done = after both_pinned (event 0 (Commit 0 (property_of_a 1)) (Committed 1 (Done ∷ [])))

property_free : HasNoConflict both_pinned 0 (property_of_a 1)
property_free object w c = let later = c.later in let there = c.there in omega arith

property_accepted : Admits both_pinned (event 0 (Commit 0 (property_of_a 1)) (Committed 1 (Done ∷ [])))
property_accepted = record { room = omega arith; callers = (0, (0, omega arith, refl)); answers = (0, (0, omega arith, refl), property_free, refl, refl) }

writes_interface : (object : Object) → IsWritten property_done 1 object → object ≡ Interface (at_place 0)
writes_interface object (inl (inl e)) = e
writes_interface object (inl (inr none)) = absurd none
writes_interface object (inr none) = absurd none

interface_least : (other : Object) → other ≡ Interface (at_place 0) → IsTrue (is_le (object_cmp (Interface (at_place 0)) other))
interface_least other e = subst (λ (o : Object). IsTrue (is_le (object_cmp (Interface (at_place 0)) o))) (sym e) refl

join_conflicts : IsConflict property_done 0 joins_a (Interface (at_place 0)) 1
join_conflicts = record {
  clashes = record { read = inl (inr refl); later = omega arith; there = omega arith; written = inl (inl refl) };
  least = λ other u c. let later = c.later in let there = c.there in let at : u ≡ 1 = omega arith in interface_least other (writes_interface other (subst (λ (w : ℕ). IsWritten property_done w other) at c.written));
  greatest = λ u c. c.there;
}

join_refused : Admits property_done (event 1 (Commit 1 joins_a) (Conflict (Interface (at_place 0)) 1))
join_refused = record { room = omega arith; callers = (0, (1, omega arith, refl)); answers = (0, (1, omega arith, refl), join_conflicts) }

abbrev join_tried : State
join_tried = after property_done (event 1 (Commit 1 joins_a) (Conflict (Interface (at_place 0)) 1))

property_refused : Admits join_tried (event 1 (Commit 1 (property_of_a 2)) (Conflict (Interface (at_place 0)) 1))
property_refused = record {
  room = omega arith;
  callers = (0, (1, omega arith, refl));
  answers = (
    0,
    (1, omega arith, refl),
    record {
      clashes = record { read = inl refl; later = omega arith; there = omega arith; written = inl (inl refl) };
      least = λ other u c. let later = c.later in let there = c.there in let at : u ≡ 1 = omega arith in interface_least other (writes_interface other (subst (λ (w : ℕ). IsWritten property_done w other) at c.written));
      greatest = λ u c. c.there;
    },
  );
}

pub are_faces_apart : AreFacesApart
are_faces_apart = record {
  inside_stays_apart = (pinned_once, (pinned_twice, (net_accepted, (joining_accepted, tt))));
  interface_is_shared = (pinned_once, (pinned_twice, (property_accepted, (join_refused, (property_refused, tt)))));
}
