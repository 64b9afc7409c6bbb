use Rattle.std.proofs.Common.{◌≡◌, List, []}
use Rattle.std.proofs.lemmas.Result.{IfOk-weaker}
use Rattle.netlist_schema.specs.Design.{Design}
use Rattle.flat_spec.specs.Types.{Item}
use Rattle.erc_spec.specs.Findings.{findings_in}
use Rattle.erc_spec.specs.Types.{Finding}
use Rattle.erc_check.specs.Front.{IsFront}
use Rattle.erc_check.specs.Tally.{IsTally}
use Rattle.erc_check.proofs.check.check_left.Goals as goal

pub returns : goal.returns
returns g c =
    let d = g.S.Shown.design c.args.design.now in
    IfOk-weaker c.found.result
    (λ (found : List Finding). (d : Design) (items : List Item) → IsTally d items c.add_left.new.tally → found ≡ findings_in d items)
    (λ (found : List Finding). IsFront d c.args.walk.now.left → found ≡ findings_in d c.args.walk.now.left)
    (λ found of_tally front. of_tally d c.args.walk.now.left (c.in_ok-add_left.ensures [] front (c.new-tally.ensures d)))
    c.found.ensures
