use Rattle.std.proofs.Common.{sym, arith}
use Rattle.db_work.proofs.Becoming.{fuller_none, fuller_twice, is_full, no_longer}
use Rattle.db_work.proofs.work.Work.add_behind.Goals as goal

pub overflow_cast-first : goal.overflow_cast-first
overflow_cast-first c =
    let few = no_longer c.args.self.now c.requires.behind.0 c.args.moved.now.design c.requires.behind.1 c.args.lib c.requires.written in
    omega (arith, few, c.count-first.ensures, c.cell_count-count.ensures.value, c.cell_count-count.ensures.limit)

pub loop-slot-init : goal.loop-slot-init
loop-slot-init c = (λ target behind. fuller_none c.args.self.now target c.args.moved.now.design behind, c.count-first.ensures)

pub add_next-requires-clause-behind : goal.add_next-requires-clause-behind
add_next-requires-clause-behind c = (c.requires.behind.0, (c.loop-slot.invariant.0 c.requires.behind.0 c.requires.behind.1).behind)

pub loop-slot-preserved : goal.loop-slot-preserved
loop-slot-preserved c = (
  λ target behind.
      let before = c.loop-slot.invariant.0 target behind in
      fuller_twice c.args.self.now target c.args.moved.now.design c.loop-slot.moved.design c.add_next.new.moved.design before (c.in_ok-add_next.ensures.fuller target before.behind),
  sym c.in_ok-add_next.ensures.count,
)

pub returns : goal.returns
returns c = λ target behind.
    let after = c.loop-slot.invariant.0 target behind in (
      after,
      is_full c.args.self.now target c.loop-slot.moved.design after.behind c.args.lib c.requires.written (omega (arith, c.loop-slot.invariant.1, c.cell_count-count.ensures.value)),
    )
