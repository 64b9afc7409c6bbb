use Rattle.std.proofs.Common.{arith, ap, ◌∙◌}
use Rattle.atomic_table.specs.Table.{rest}
use Rattle.turn_cell.proofs.Facts.{same_turn}
use Rattle.turn_cell.proofs.Calls.{counts_entry, serves_counted, serves_unchanged, counted_then, served_then, served_after}
use Rattle.turn_cell.proofs.turn.Turn.hand_on.Goals as goal
use Rattle.turn_cell.proofs.turn.Turn.hand_on.Goals.{then-added, else-added}

pub fetch_add-requires : goal.fetch_add-requires
fetch_add-requires g c = let out = c.exchange-hollow.ensures in let adds = rw c.if-added.true at c.requires.added in (
  same_turn _ _ _ (out.0 ∙ c.requires.own) c.self.view_is,
  omega arith,
  counts_entry g.V.Logged.base g.V.Logged.entries g.V.Logged.made_by _ _ _ _ _ c.args.seat.now.me.0 _ _ _ c.args.value adds.0 out.3 c.requires.turn.0 c.requires.value.0 adds.1 adds.2 c.requires.value.1,
)

pub fetch_add-requires-2 : goal.fetch_add-requires-2
fetch_add-requires-2 g c = let out = c.exchange-hollow.ensures in elim c.if-added.branch [
  | then-added w ↦ let adds = rw w.if-added.true at c.requires.added in
      let then = counted_then g.V.Logged.entries g.V.Logged.made_by _ w.fetch_add.new.seat.me c.args.seat.now.me.0 _ _ _ c.args.value adds.0 out.3 c.requires.turn.0 adds.1 w.fetch_add.ensures.2 in (
        same_turn _ _ _ (ap (λ s. s.table_id) w.seat-is ∙ (w.fetch_add.ensures.0 ∙ (out.0 ∙ c.requires.own))) c.self.view_is,
        omega arith,
        serves_counted g.V.Logged.base g.V.Logged.entries g.V.Logged.made_by _ _ _ _ _ c.args.seat.now.me.0 _ _ _ adds.0 (ap (λ s. s.me) w.seat-is ∙ then.0) c.requires.turn.0,
      )
  | else-added w ↦ let same = rw w.if-added.false at c.requires.added in (
    same_turn _ _ _ (ap (λ s. s.table_id) w.seat-is ∙ (out.0 ∙ c.requires.own)) c.self.view_is,
    omega arith,
    serves_unchanged g.V.Logged.base g.V.Logged.entries g.V.Logged.made_by _ _ _ _ _ c.args.seat.now.me.0 _ _ _ c.args.value (ap (λ s. s.me) w.seat-is ∙ out.3) c.requires.turn.0 c.requires.value.0 same,
  )
]

pub returns-clause-own : goal.returns-clause-own
returns-clause-own g c = let out = c.exchange-hollow.ensures in elim c.if-added.branch [
  | then-added w ↦ let adds = rw w.if-added.true at c.requires.added in
      let then = counted_then g.V.Logged.entries g.V.Logged.made_by _ w.fetch_add.new.seat.me c.args.seat.now.me.0 _ _ _ c.args.value adds.0 out.3 c.requires.turn.0 adds.1 w.fetch_add.ensures.2 in
      let last = served_after g.V.Logged.entries g.V.Logged.made_by _ c.fetch_add-2.new.seat.me c.args.seat.now.me.0 _ _ _ adds.0 (ap (λ s. s.me) w.seat-is ∙ then.0) c.requires.turn.0 c.fetch_add-2.ensures.2 in (
        c.fetch_add-2.ensures.0 ∙ (ap (λ s. s.table_id) w.seat-is ∙ (w.fetch_add.ensures.0 ∙ out.0)),
        c.fetch_add-2.ensures.1 ∙ (ap (λ s. s.id) w.seat-is ∙ (w.fetch_add.ensures.1 ∙ out.1)),
        ap (λ m. m.1) last ∙ ap rest c.requires.turn.1,
      )
  | else-added w ↦ let last = served_then g.V.Logged.entries g.V.Logged.made_by _ c.fetch_add-2.new.seat.me c.args.seat.now.me.0 _ _ _ c.args.value (ap (λ s. s.me) w.seat-is ∙ out.3) c.requires.turn.0 c.fetch_add-2.ensures.2 in (
    c.fetch_add-2.ensures.0 ∙ (ap (λ s. s.table_id) w.seat-is ∙ out.0),
    c.fetch_add-2.ensures.1 ∙ (ap (λ s. s.id) w.seat-is ∙ out.1),
    ap (λ m. m.1) last.0 ∙ ap rest c.requires.turn.1,
  )
]

pub returns-clause-left : goal.returns-clause-left
returns-clause-left g c = let out = c.exchange-hollow.ensures in elim c.if-added.branch [
  | then-added w ↦ let adds = rw w.if-added.true at c.requires.added in
      let then = counted_then g.V.Logged.entries g.V.Logged.made_by _ w.fetch_add.new.seat.me c.args.seat.now.me.0 _ _ _ c.args.value adds.0 out.3 c.requires.turn.0 adds.1 w.fetch_add.ensures.2 in
      let last = served_after g.V.Logged.entries g.V.Logged.made_by _ c.fetch_add-2.new.seat.me c.args.seat.now.me.0 _ _ _ adds.0 (ap (λ s. s.me) w.seat-is ∙ then.0) c.requires.turn.0 c.fetch_add-2.ensures.2 in
      rw w.if-added.true (adds.0, adds.1, adds.2, ap (λ m. m.0) last, then.1)
  | else-added w ↦ let same = rw w.if-added.false at c.requires.added in
      let last = served_then g.V.Logged.entries g.V.Logged.made_by _ c.fetch_add-2.new.seat.me c.args.seat.now.me.0 _ _ _ c.args.value (ap (λ s. s.me) w.seat-is ∙ out.3) c.requires.turn.0 c.fetch_add-2.ensures.2 in
      rw w.if-added.false (same, ap (λ m. m.0) last.0, last.1)
]
