use Rattle.std.proofs.Common.{◌≡◌, ◌≤◌, ◌++◌, ◌∷◌, [], ap, ◌∙◌, arith}
use Rattle.std.proofs.lemmas.List.{map-append}
use Rattle.ver_table.specs.declared.directory.TheConstants.{GROUP}
use Rattle.ver_table.specs.Entries.{pairs_of, with_all}
use Rattle.ver_table.specs.Pages.{sheet_of, sheets_of, sheet_at}
use Rattle.ver_table.proofs.Revisions.{goes_on}
use Rattle.ver_table.proofs.Sheets.{sheet_in_order}
use Rattle.ver_table.proofs.directory.changed_groups.Goals as goal

pub changed_page-requires-clause-ordered : goal.changed_page-requires-clause-ordered
changed_page-requires-clause-ordered g c =
    let some : 1 ≤ GROUP = omega arith in
    rw c.entries_of-old.ensures (sheet_in_order GROUP some c.in-Some.run'.number (sheets_of c.args.groups.now) c.requires.groups)

pub loop-run-preserved : goal.loop-run-preserved
loop-run-preserved g c =
    let some : 1 ≤ GROUP = omega arith in
    let sheets = sheets_of c.args.groups.now in
    let made = c.loop-run.changed.items in
    let page = c.in_ok-changed_page.field-0 in
    let run = c.in-Some.run' in
    let sheet : sheet_of page ≡ (run.number, with_all (sheet_at sheets run.number) (pairs_of run.changes.now)) =
    c.in_ok-changed_page.ensures ∙ ap (λ ps. (run.number, with_all ps (pairs_of run.changes.now))) c.entries_of-old.ensures in
    let pushed = ap sheets_of c.in_ok-push.ensures.items ∙ map-append sheet_of made (page ∷ []) ∙ ap (λ s. sheets_of made ++ s ∷ []) sheet in
    rw pushed (goes_on GROUP some sheets (pairs_of c.args.changes.now) (pairs_of c.loop-run.left.now) (sheets_of made) run.number (pairs_of run.changes.now) (pairs_of run.rest.now) c.loop-run.invariant c.in-Some.ensures.some)
