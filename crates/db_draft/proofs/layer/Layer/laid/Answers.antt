use Rattle.std.proofs.Common.{ap, arith, ◌∙◌}
use Rattle.std.specs.Arc.{arc_value}
use Rattle.ver_table.specs.Entries.{pairs_of}
use Rattle.db_draft.proofs.Applying.{blank_laid, changed_laid, in_order, keep_names, more_distinct, more_few, more_laid}
use Rattle.db_draft.proofs.layer.Layer.laid.Goals as goal

pub returns-then-is_blank : goal.returns-then-is_blank
returns-then-is_blank c = blank_laid c.args.self.now (arc_value c.args.shelf) (c.is_blank.ensures c.if-is_blank.true)

pub with_changed-requires-clause-rising : goal.with_changed-requires-clause-rising
with_changed-requires-clause-rising c =
    in_order c.args.self.now (arc_value c.args.shelf) c.deref.result.now (pairs_of c.as_slice.result.now) c.deref.ensures c.entries.ensures.ordered (ap pairs_of c.as_slice.ensures.value ∙ c.in_ok-entries.ensures.pairs)

pub with_changed-requires-clause-named : goal.with_changed-requires-clause-named
with_changed-requires-clause-named c =
    keep_names c.args.self.now (arc_value c.args.shelf) c.deref.result.now (pairs_of c.as_slice.result.now) c.deref.ensures c.entries.ensures.ordered (ap pairs_of c.as_slice.ensures.value ∙ c.in_ok-entries.ensures.pairs) c.requires.fits

pub returns-then-count-eq0 : goal.returns-then-count-eq0
returns-then-count-eq0 c =
    c.in_ok-new.ensures.ok
    ∙ changed_laid c.args.self.now (arc_value c.args.shelf) c.deref.result.now (pairs_of c.as_slice.result.now) c.deref.ensures c.entries.ensures.ordered (ap pairs_of c.as_slice.ensures.value ∙ c.in_ok-entries.ensures.pairs) c.in_ok-changed.changed c.in_ok-changed.ensures (omega (arith, c.count.ensures.value, c.if-count-eq0.true))

pub with_more-requires-clause-few : goal.with_more-requires-clause-few
with_more-requires-clause-few c =
    more_few c.args.self.now (arc_value c.args.shelf) c.deref.result.now (pairs_of c.as_slice.result.now) c.deref.ensures c.entries.ensures.ordered (ap pairs_of c.as_slice.ensures.value ∙ c.in_ok-entries.ensures.pairs) c.in_ok-changed.changed c.in_ok-changed.ensures c.as_slice-2.result.now c.as_slice-2.ensures.value c.requires.few

pub with_more-requires-clause-distinct : goal.with_more-requires-clause-distinct
with_more-requires-clause-distinct c =
    more_distinct c.args.self.now (arc_value c.args.shelf) c.deref.result.now (pairs_of c.as_slice.result.now) c.deref.ensures c.entries.ensures.ordered (ap pairs_of c.as_slice.ensures.value ∙ c.in_ok-entries.ensures.pairs) c.in_ok-changed.changed c.in_ok-changed.ensures c.as_slice-2.result.now c.as_slice-2.ensures.value c.requires.distinct

pub returns : goal.returns
returns c =
    c.in_ok-new-2.ensures.ok
    ∙ more_laid c.args.self.now (arc_value c.args.shelf) c.deref.result.now (pairs_of c.as_slice.result.now) c.deref.ensures c.entries.ensures.ordered (ap pairs_of c.as_slice.ensures.value ∙ c.in_ok-entries.ensures.pairs) c.in_ok-changed.changed c.in_ok-changed.ensures c.as_slice-2.result.now c.as_slice-2.ensures.value c.in_ok-with_more.field-0 c.in_ok-with_more.ensures
