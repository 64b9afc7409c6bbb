use Rattle.std.proofs.Common.{◌≡◌, ◌∙◌, List, Some, ap, length, map, subst, sym}
use Rattle.std.specs.Option.{option_copied}
use Rattle.netlist_schema.specs.Design.{cell_at}
use Rattle.netlist_schema.specs.Types.{CellBody, CellId}
use Rattle.flat_items.specs.Stand.{top_of}
use Rattle.net_rows.specs.Lists.{AreParted}
use Rattle.net_rows.specs.Tops.{AreTops, TopTable, bit_is_in}
use Rattle.net_rows.specs.declared.tops.OwnBit.{OwnBit}
use Rattle.net_rows.proofs.TopLemmas.{no_tops, tops_are}
use Rattle.net_ways.specs.Ways.{firsts_in}
use Rattle.net_rows.proofs.tops.TopRows.of.Goals as goal

pub returns-in_default : goal.returns-in_default
returns-in_default g c =
    let d = g.S.Shown.design c.args.ground.now.design in
    subst (λ v. AreTops c.args.role d c.args.ground.now.classes c.args.top (map (λ bits. bits.items) v)) (sym c.new.ensures.items)
    (no_tops c.args.role d c.args.ground.now.classes c.args.top (sym c.cell.ensures.value ∙ ap option_copied c.in_default.is))

pub returns : goal.returns
returns g c =
    let d = g.S.Shown.design c.args.ground.now.design in
    let facts = c.args.ground.now.classes in
    let body : CellBody = c.in-Some.body.now in
    let lists : TopTable = map (λ bits. bits.items) c.in_ok-by_first.by_first.items in
    let is : cell_at d (top_of d).cell ≡ Some body = ap (cell_at d) c.requires.is_top ∙ sym c.cell.ensures.value ∙ ap option_copied c.in-Some.is in
    let parted = subst (λ (t : CellId). AreParted (bit_is_in c.args.role facts t body) (length (firsts_in facts t)) c.in_ok-bits.bits.items lists) (sym c.requires.is_top)
    (subst (λ (bits : List OwnBit). AreParted (bit_is_in c.args.role facts c.args.top body) (length (firsts_in facts c.args.top)) bits lists) c.as_slice.ensures.value c.in_ok-by_first.ensures) in
    subst (λ (t : CellId). AreTops c.args.role d facts t lists) c.requires.is_top
    (tops_are c.args.role d facts c.args.ground.now.notes c.requires.ground body is c.in_ok-bits.bits.items c.in_ok-bits.ensures lists parted)
