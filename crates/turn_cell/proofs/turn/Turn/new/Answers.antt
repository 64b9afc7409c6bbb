use Rattle.std.proofs.Common.{rules, ◌≡◌, ◌∷◌, [], List, Option, Some, sym, subst}
use Rattle.atomic_table.specs.Table.{opening}
use Rattle.turn_cell.specs.Rule.{IsKept}
use Rattle.turn_cell.specs.Steps.{newcomer}
use Rattle.turn_cell.proofs.Calls.{opens_turn}
use Rattle.turn_cell.proofs.turn.Turn.new.Goals as goal

pub new-requires : goal.new-requires
new-requires g c = let slots : c.push.new.self.items ≡ Some c.args.value ∷ [] = search rules in let count = c.requires.count in
    subst (λ (xs : List (Option g.row.V.Denot)). IsKept g.V.Logged.base g.V.Logged.entries g.V.Logged.made_by (g.V.Logged.base c.of.result.value) c.from.result (opening (0 ∷ 0 ∷ 0 ∷ []) xs (newcomer 0 1 (g.V.Logged.base c.of.result.value)))) (sym slots)
    (opens_turn g.V.Logged.base g.V.Logged.entries g.V.Logged.made_by _ _ c.args.value (search rules) c.requires.empty (search rules) (search rules))
