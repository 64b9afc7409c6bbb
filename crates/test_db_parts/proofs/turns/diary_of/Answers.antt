use Rattle.std.proofs.Common.{rules, ◌<◌, ℕ, ap, ◌∙◌, subst}
use Rattle.turn_cell.proofs.Rows.{got_at, has_each}
use Rattle.test_db_parts.proofs.turns.diary_of.Goals as goal

pub close-requires-clause-all : goal.close-requires-clause-all
close-requires-clause-all g c =
    let known = c.in_ok-turn.ensures.seats in
    λ n less. has_each c.in_ok-seats.seats.items c.args.threads (
      search rules,
      λ k d low. let each = c.in_ok-seats.ensures.each k d (search rules) in each.1.1 ∙ ap (λ s. s.number) (got_at c.in_ok-turn.seats.items k _ d (known.1 k low)),
    ) n (subst (λ (k : ℕ). n < k) c.in_ok-turn.ensures.turn.0 less)
