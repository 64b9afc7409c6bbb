use Rattle.std.proofs.Common.{◌++◌, length, sym, ap, ◌∙◌}
use Rattle.std.specs.List.{flat_map}
use Rattle.std.specs.Option.{option_copied}
use Rattle.netdb_outside.proofs.BufferedLemmas.{writes_then, writes_same}
use Rattle.used_spec.specs.Lines.{cell_line, use_line}
use Rattle.used_lines.specs.Told.{told}
use Rattle.used_lines.proofs.lines.put_cell.Goals as goal

pub returns : goal.returns
returns g c =
    let d = g.S.Shown.design c.args.design.now in
    let cell = c.args.cell in
    writes_same
    ((λ i. cell_line d cell (length (c.as_slice.ensures i)) ++ flat_map (use_line d) (c.as_slice-2.ensures i)) ∙ ap (told d cell) (sym (ap option_copied c.in-Some.is) ∙ c.users.ensures))
    (writes_then c.put_head.ensures c.put_uses.ensures)
