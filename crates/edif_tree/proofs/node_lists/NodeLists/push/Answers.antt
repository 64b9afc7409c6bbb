use Rattle.std.proofs.Common.{◌≡◌, ◌++◌, ◌∷◌, [], ◌∙◌, ℕ, List, ap}
use Rattle.std.proofs.lemmas.Result.{on_ok_weaker}
use Rattle.edif_tree.specs.NodeLists.{EndedLists, last_end, lists_from, with_end}
use Rattle.edif_tree.proofs.NodeListLemmas.{end_pushed, list_pushed}
use Rattle.edif_tree.proofs.node_lists.NodeLists.push.Goals as goal

pub returns-clause-ok : goal.returns-clause-ok
returns-clause-ok c =
    let ends : List ℕ = c.self.inside.ends.items in
    let seen : List ℕ → EndedLists = λ v. record { lists = lists_from 0 v; end = last_end 0 v } in
    on_ok_weaker c.add_end.result (λ (e : c.add_end.new.ends.items ≡ ends ++ c.args.end ∷ []).
    ap seen e ∙ ((λ j. record { lists = list_pushed 0 c.args.end ends j; end = end_pushed 0 c.args.end ends j }) ∙ ap (λ l. with_end l c.args.end) c.self.view_is)) c.add_end.ensures.ok
