use Rattle.std.proofs.Common.{◌≤◌, ap, ◌∙◌, arith}
use Rattle.ver_table.specs.declared.directory.TheConstants.{GROUP}
use Rattle.ver_table.specs.Entries.{pairs_of}
use Rattle.ver_table.specs.Pages.{map_of, sheets_of}
use Rattle.ver_table.specs.Rows.{set_all}
use Rattle.ver_table.proofs.Sheets.{AreSheets-revise_all}
use Rattle.ver_table.proofs.Values.{groups_revised, order_of_pages, revised_map}
use Rattle.ver_table.proofs.directory.Directory.put_all.Goals as goal

pub changed_entries-requires-clause-ordered : goal.changed_entries-requires-clause-ordered
changed_entries-requires-clause-ordered g c = rw c.as_slice-old.ensures.value (order_of_pages c.self.inside.groups.items c.self.invariant.rising)

pub changed_entries-requires-clause-rising : goal.changed_entries-requires-clause-rising
changed_entries-requires-clause-rising g c = rw c.as_slice.ensures.value (order_of_pages c.in_ok-changed.changed.items c.in_ok-changed.ensures.rising)

pub invariant_of-result : goal.invariant_of-result
invariant_of-result g c =
    let some : 1 ≤ GROUP = omega arith in
    rw (groups_revised GROUP c.self.inside.groups.items c.as_slice-old.result.now c.in_ok-changed.changed.items c.as_slice.result.now c.in_ok-groups.groups.items (pairs_of c.args.changes.now) c.as_slice-old.ensures.value c.as_slice.ensures.value c.in_ok-groups.ensures c.in_ok-changed.ensures.same) (AreSheets-revise_all GROUP some (pairs_of c.args.changes.now) (sheets_of c.self.inside.groups.items) c.self.invariant)

pub returns : goal.returns
returns g c =
    let some : 1 ≤ GROUP = omega arith in
    let changes = pairs_of c.args.changes.now in
    ap map_of (groups_revised GROUP c.self.inside.groups.items c.as_slice-old.result.now c.in_ok-changed.changed.items c.as_slice.result.now c.in_ok-groups.groups.items (pairs_of c.args.changes.now) c.as_slice-old.ensures.value c.as_slice.ensures.value c.in_ok-groups.ensures c.in_ok-changed.ensures.same) ∙ revised_map GROUP some (sheets_of c.self.inside.groups.items) c.self.invariant changes ∙ ap (λ m. set_all m changes) c.self.view_is
