-- The second of two commits is refused.
use Rattle.std.proofs.Common.{◌≡◌, ℕ, [], ◌∷◌, inl, inr, refl, sym, subst, arith}
use Rattle.std.specs.Prelude.{IsTrue}
use Rattle.std.specs.Ordering.{is_le}
use Rattle.netlist_schema.specs.Order.{object_cmp}
use Rattle.netlist_schema.specs.Types.{Object}
use Rattle.netlist_schema.specs.declared.ids.Object.TheVariants.{Contents}
use Rattle.edit_spec.specs.Needs.{Reads}
use Rattle.edit_rules_spec.specs.Paths.{most_cells}
use Rattle.edit_rules_spec.specs.declared.reply.Reply.TheVariants.{Done, IsCyclic}
use Rattle.db_spec.specs.declared.event.Answer.TheVariants.{Pinned, Released, Committed, Conflict}
use Rattle.db_spec.specs.declared.event.Call.TheVariants.{Pin, Release, Commit}
use Rattle.db_spec.specs.Answers.{Admits, Clashes, IsConflict, HasNoConflict}
use Rattle.db_spec.specs.Example.{event, at_place}
use Rattle.db_spec.specs.ExampleConflict.{a_in_b, b_in_a, two_cells, refused_commit, last_releases, tried, IsRefusedCommit}
use Rattle.db_spec.specs.History.{IsLegalFrom, Legal, state_after}
use Rattle.db_spec.specs.State.{State, opening, after, IsWritten}
use Rattle.db_spec.proofs.Histories.{legal-join}

-- the state after both pins, and after the first commit
abbrev both_pinned : State
both_pinned = after (after (opening two_cells) (event 0 Pin (Pinned 0 0))) (event 1 Pin (Pinned 1 0))

abbrev first_done : State
first_done = after both_pinned (event 0 (Commit 0 b_in_a) (Committed 1 (Done ∷ [])))

first_free : HasNoConflict both_pinned 0 b_in_a
first_free object w c = let later = c.later in let there = c.there in omega arith

reads_a : Reads two_cells a_in_b (Contents (at_place 0))
unfolding most_cells
reads_a = inl (inr (inr (inr (inl refl))))

writes_a : IsWritten first_done 1 (Contents (at_place 0))
unfolding most_cells
writes_a = inl (inl refl)

writes_only_a : (object : Object) → IsWritten first_done 1 object → object ≡ Contents (at_place 0)
unfolding most_cells
writes_only_a object (inl (inl e)) = e
writes_only_a object (inl (inr none)) = absurd none
writes_only_a object (inr none) = absurd none

clash_is_a : (object : Object) (u : ℕ) → Clashes first_done 0 a_in_b object u → object ≡ Contents (at_place 0)
clash_is_a object u c =
    let later = c.later in
    let there = c.there in
    let at : u ≡ 1 = omega arith in
    writes_only_a object (subst (λ (w : ℕ). IsWritten first_done w object) at c.written)

a_least : (other : Object) → other ≡ Contents (at_place 0) → IsTrue (is_le (object_cmp (Contents (at_place 0)) other))
a_least other e = subst (λ (o : Object). IsTrue (is_le (object_cmp (Contents (at_place 0)) o))) (sym e) refl

second_conflicts : IsConflict first_done 0 a_in_b (Contents (at_place 0)) 1
second_conflicts = record {
  clashes = record { read = reads_a; later = omega arith; there = omega arith; written = writes_a };
  least = λ other u c. a_least other (clash_is_a other u c);
  greatest = λ u c. c.there;
}

first_alone : tried 0 b_in_a ≡ Done ∷ []
unfolding most_cells
first_alone = refl

second_alone : tried 0 a_in_b ≡ Done ∷ []
unfolding most_cells
second_alone = refl

second_again : tried 1 a_in_b ≡ IsCyclic ∷ []
unfolding most_cells
second_again = refl

-- the events up to the releases of the last pins, one by one
pinned_once : Admits (opening two_cells) (event 0 Pin (Pinned 0 0))
pinned_once = record { room = omega arith; callers = tt; answers = (refl, refl) }

pinned_twice : Admits (after (opening two_cells) (event 0 Pin (Pinned 0 0))) (event 1 Pin (Pinned 1 0))
pinned_twice = record { room = omega arith; callers = tt; answers = (refl, refl) }

first_accepted : Admits both_pinned (event 0 (Commit 0 b_in_a) (Committed 1 (Done ∷ [])))
first_accepted = record { room = omega arith; callers = (0, (0, omega arith, refl)); answers = (0, (0, omega arith, refl), first_free, refl, sym first_alone) }

second_refused : Admits first_done (event 1 (Commit 1 a_in_b) (Conflict (Contents (at_place 0)) 1))
second_refused = record { room = omega arith; callers = (0, (1, omega arith, refl)); answers = (0, (1, omega arith, refl), second_conflicts) }

abbrev second_done : State
second_done = after first_done (event 1 (Commit 1 a_in_b) (Conflict (Contents (at_place 0)) 1))

pin_released : Admits second_done (event 1 (Release 1) Released)
pin_released = record { room = tt; callers = (0, (1, omega arith, refl)); answers = tt }

pinned_again : Admits (after second_done (event 1 (Release 1) Released)) (event 1 Pin (Pinned 2 1))
pinned_again = record { room = omega arith; callers = tt; answers = (refl, refl) }

ends : IsLegalFrom (state_after two_cells refused_commit) last_releases
ends = (record { room = tt; callers = (0, (0, omega arith, refl)); answers = tt }, (record { room = tt; callers = (1, (0, omega arith, refl)); answers = tt }, tt))

six_legal : Legal two_cells refused_commit
six_legal = (pinned_once, (pinned_twice, (first_accepted, (second_refused, (pin_released, (pinned_again, tt))))))

pub is_refused_commit : IsRefusedCommit
is_refused_commit = record {
  legal = six_legal;
  first_alone = first_alone;
  second_alone = second_alone;
  second_again = second_again;
  six = refl;
  live = refl;
  ends = legal-join (opening two_cells) refused_commit last_releases six_legal ends;
  eight = refl;
  none_live = refl;
}
