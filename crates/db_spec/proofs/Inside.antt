-- Commits inside two cells: a refusal names the least object, and the last commit that wrote it.
use Rattle.std.proofs.Common.{◌≡◌, ◌⊎◌, ℕ, zero, suc, ◌<◌, ◌≤◌, [], ◌∷◌, codes, inl, inr, refl, sym, subst, arith, ap, ◌∙◌}
use Rattle.std.specs.Prelude.{IsTrue}
use Rattle.std.specs.Ordering.{is_le}
use Rattle.netlist_schema.specs.Order.{object_cmp}
use Rattle.netlist_schema.specs.Types.{CellId, Object}
use Rattle.netlist_schema.specs.declared.ids.Object.TheVariants.{Interface, Contents}
use Rattle.edit_rules_spec.specs.Paths.{most_cells}
use Rattle.edit_rules_spec.specs.declared.reply.Reply.TheVariants.{Done}
use Rattle.edit_spec.specs.Needs.{Reads}
use Rattle.db_spec.specs.declared.event.Answer.TheVariants.{Pinned, Committed, Conflict}
use Rattle.db_spec.specs.declared.event.Call.TheVariants.{Pin, Commit}
use Rattle.db_spec.specs.Answers.{Admits, Clashes, IsConflict, HasNoConflict}
use Rattle.db_spec.specs.Example.{event, at_place}
use Rattle.db_spec.specs.ExampleConflict.{two_cells}
use Rattle.db_spec.specs.ExampleInside.{adds, b_in_a, inside_commits}
use Rattle.db_spec.specs.History.{Legal}
use Rattle.db_spec.specs.State.{State, opening, after, IsWritten}

abbrev in_a : Object
in_a = Contents (at_place 0)

abbrev in_b : Object
in_b = Contents (at_place 1)

abbrev both_pinned : State
both_pinned = after (after (opening two_cells) (event 0 Pin (Pinned 0 0))) (event 1 Pin (Pinned 1 0))

abbrev one_done : State
one_done = after both_pinned (event 0 (Commit 0 (adds (codes "n") (codes "B"))) (Committed 1 (Done ∷ [])))

abbrev one_refused : State
one_refused = after one_done (event 1 (Commit 1 b_in_a) (Conflict in_b 1))

abbrev two_done : State
two_done = after one_refused (event 1 (Commit 1 (adds (codes "n") (codes "A"))) (Committed 2 (Done ∷ [])))

abbrev pinned_again : State
pinned_again = after two_done (event 0 Pin (Pinned 2 2))

abbrev three_done : State
three_done = after pinned_again (event 0 (Commit 2 (adds (codes "m") (codes "B"))) (Committed 3 (Done ∷ [])))

abbrev two_refused : State
two_refused = after three_done (event 1 (Commit 1 b_in_a) (Conflict in_a 2))

-- ---- what the commits wrote

first_writes : (object : Object) → IsWritten three_done 1 object → object ≡ in_b
first_writes object (inl (inl e)) = e
first_writes object (inl (inr none)) = absurd none
first_writes object (inr none) = absurd none

second_writes : (object : Object) → IsWritten three_done 2 object → object ≡ in_a
second_writes object (inl (inl e)) = e
second_writes object (inl (inr none)) = absurd none
second_writes object (inr none) = absurd none

third_writes : (object : Object) → IsWritten three_done 3 object → object ≡ in_b
third_writes object (inl (inl e)) = e
third_writes object (inl (inr none)) = absurd none
third_writes object (inr none) = absurd none

-- the second commit wrote the contents of A, and the others those of B
writes_of : (u : ℕ) (object : Object) → 0 < u → u ≤ 3 → IsWritten three_done u object → ((object ≡ in_a) × (u ≡ 2)) ⊎ (object ≡ in_b)
writes_of zero object later there is = absurd (omega arith)
writes_of (suc zero) object later there is = inr (first_writes object is)
writes_of (suc (suc zero)) object later there is = inl (second_writes object is, refl)
writes_of (suc (suc (suc zero))) object later there is = inr (third_writes object is)
writes_of (suc (suc (suc (suc u)))) object later there is = absurd (omega arith)

apart : ¬ (in_b ≡ in_a)
apart same =
    let ids : at_place 1 ≡ at_place 0 = cc in
    let slots : 1 ≡ 0 = ap (λ (id : CellId). id.slot) ids in
    absurd (omega (arith, slots))

least_itself : (object other : Object) → IsTrue (is_le (object_cmp object object)) → other ≡ object → IsTrue (is_le (object_cmp object other))
least_itself object other le e = subst (λ (o : Object). IsTrue (is_le (object_cmp object o))) (sym e) le

-- ---- what is read

reads_b : Reads two_cells b_in_a in_b
unfolding most_cells
reads_b = inl (inr (inr (inr (inl refl))))

reads_a : Reads two_cells b_in_a in_a
unfolding most_cells
reads_a = inl (inr (inr (inl refl)))

net_in_a_reads : (object : Object) → Reads two_cells (adds (codes "n") (codes "A")) object → ¬ (object ≡ in_b)
net_in_a_reads object (inl (inl e)) same = let never : Interface (at_place 0) ≡ in_b = sym e ∙ same in cc
net_in_a_reads object (inl (inr e)) same = apart (sym same ∙ e)
net_in_a_reads object (inr none) same = none

net_in_b_reads : (object : Object) → Reads two_cells (adds (codes "k") (codes "B")) object → ¬ (object ≡ in_a)
net_in_b_reads object (inl (inl e)) same = let never : Interface (at_place 1) ≡ in_a = sym e ∙ same in cc
net_in_b_reads object (inl (inr e)) same = apart (sym e ∙ same)
net_in_b_reads object (inr none) same = none

-- ---- the commits

first_free : HasNoConflict both_pinned 0 (adds (codes "n") (codes "B"))
first_free object w c = let later = c.later in let there = c.there in omega arith

writes_b : (object : Object) (u : ℕ) → 0 < u → u ≤ 1 → IsWritten one_done u object → object ≡ in_b
writes_b object u later there is = let at : u ≡ 1 = omega arith in here object (subst (λ (w : ℕ). IsWritten one_done w object) at is)
  where
    here : (o : Object) → IsWritten one_done 1 o → o ≡ in_b
    here o (inl (inl e)) = e
    here o (inl (inr none)) = absurd none
    here o (inr none) = absurd none

placing_conflicts : IsConflict one_done 0 b_in_a in_b 1
placing_conflicts = record {
  clashes = record { read = reads_b; later = omega arith; there = omega arith; written = inl (inl refl) };
  least = λ other u c. least_itself in_b other refl (writes_b other u c.later c.there c.written);
  greatest = λ u c. c.there;
}

second_free : HasNoConflict one_refused 0 (adds (codes "n") (codes "A"))
second_free object w c = net_in_a_reads object c.read (writes_b object w c.later c.there c.written)

third_free : HasNoConflict pinned_again 2 (adds (codes "m") (codes "B"))
third_free object w c = let later = c.later in let there = c.there in omega arith

a_before_b : (other : Object) (u : ℕ) → Clashes three_done 0 b_in_a other u → IsTrue (is_le (object_cmp in_a other))
a_before_b other u c = elim (writes_of u other c.later c.there c.written) [
  | inl a ↦ least_itself in_a other refl a.0
  | inr b ↦ subst (λ (o : Object). IsTrue (is_le (object_cmp in_a o))) (sym b) refl
]

only_second : (u : ℕ) → Clashes three_done 0 b_in_a in_a u → u ≤ 2
only_second u c = elim (writes_of u in_a c.later c.there c.written) [
  | inl a ↦ let at = a.1 in omega arith
  | inr b ↦ absurd (apart (sym b))
]

least_conflicts : IsConflict three_done 0 b_in_a in_a 2
least_conflicts = record {
  clashes = record { read = reads_a; later = omega arith; there = omega arith; written = inl (inl refl) };
  least = a_before_b;
  greatest = only_second;
}

b_alone : (other : Object) (u : ℕ) → Clashes two_refused 0 (adds (codes "k") (codes "B")) other u → IsTrue (is_le (object_cmp in_b other))
b_alone other u c = elim (writes_of u other c.later c.there c.written) [
  | inl a ↦ absurd (net_in_b_reads other c.read a.0)
  | inr b ↦ least_itself in_b other refl b
]

last_conflicts : IsConflict two_refused 0 (adds (codes "k") (codes "B")) in_b 3
last_conflicts = record {
  clashes = record { read = inl (inr refl); later = omega arith; there = omega arith; written = inl (inl refl) };
  least = b_alone;
  greatest = λ u c. c.there;
}

-- ---- the events, one by one

pinned_once : Admits (opening two_cells) (event 0 Pin (Pinned 0 0))
pinned_once = record { room = omega arith; callers = tt; answers = (refl, refl) }

pinned_twice : Admits (after (opening two_cells) (event 0 Pin (Pinned 0 0))) (event 1 Pin (Pinned 1 0))
pinned_twice = record { room = omega arith; callers = tt; answers = (refl, refl) }

first_accepted : Admits both_pinned (event 0 (Commit 0 (adds (codes "n") (codes "B"))) (Committed 1 (Done ∷ [])))
first_accepted = record { room = omega arith; callers = (0, (0, omega arith, refl)); answers = (0, (0, omega arith, refl), first_free, refl, refl) }

placing_refused : Admits one_done (event 1 (Commit 1 b_in_a) (Conflict in_b 1))
placing_refused = record { room = omega arith; callers = (0, (1, omega arith, refl)); answers = (0, (1, omega arith, refl), placing_conflicts) }

second_accepted : Admits one_refused (event 1 (Commit 1 (adds (codes "n") (codes "A"))) (Committed 2 (Done ∷ [])))
second_accepted = record { room = omega arith; callers = (0, (1, omega arith, refl)); answers = (0, (1, omega arith, refl), second_free, refl, refl) }

pinned_third : Admits two_done (event 0 Pin (Pinned 2 2))
pinned_third = record { room = omega arith; callers = tt; answers = (refl, refl) }

third_accepted : Admits pinned_again (event 0 (Commit 2 (adds (codes "m") (codes "B"))) (Committed 3 (Done ∷ [])))
third_accepted = record { room = omega arith; callers = (2, (2, omega arith, refl)); answers = (2, (2, omega arith, refl), third_free, refl, refl) }

least_refused : Admits three_done (event 1 (Commit 1 b_in_a) (Conflict in_a 2))
least_refused = record { room = omega arith; callers = (0, (1, omega arith, refl)); answers = (0, (1, omega arith, refl), least_conflicts) }

last_refused : Admits two_refused (event 1 (Commit 1 (adds (codes "k") (codes "B"))) (Conflict in_b 3))
last_refused = record { room = omega arith; callers = (0, (1, omega arith, refl)); answers = (0, (1, omega arith, refl), last_conflicts) }

pub inside_is_legal : Legal two_cells inside_commits
inside_is_legal = (pinned_once, (pinned_twice, (first_accepted, (placing_refused, (second_accepted, (pinned_third, (third_accepted, (least_refused, (last_refused, tt)))))))))
