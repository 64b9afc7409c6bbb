use Rattle.std.proofs.Common.{◌≡◌, ◌+◌, ◌∙◌, ◌∷◌, ◌++◌, [], List, take, drop, ap, sym, subst, arith, append_assoc}
use Rattle.std.proofs.lemmas.List.{take-append-drop, take_all}
use Rattle.std.proofs.lemmas.Grind.{take_at_read}
use Rattle.std.proofs.lemmas.Result.{err_from_is_err_and, IfOk-weaker, IfErr-weaker}
use Rattle.edif_spelling_spec.specs.declared.token.Token.{Token}
use Rattle.edif_spelling_spec.specs.TreeFaults.{tree_fault}
use Rattle.edif_tree.specs.Making.{HasRead}
use Rattle.edif_tree.specs.TreeError.{Names}
use Rattle.edif_tree.proofs.ReadFaults.{is_file}
use Rattle.edif_tree.proofs.read.read_tree.Goals as goal

pub loop-token-preserved : goal.loop-token-preserved
loop-token-preserved c =
    let i = c.loop-token.token-index in
    let more : take (i + 1) c.args.tokens.now ≡ take i c.args.tokens.now ++ c.token-item.result ∷ [] = (take_at_read c.args.tokens.now i c.token-item.result c.loop-token-test.true).1 ∙ ap (λ x. take i c.args.tokens.now ++ x ∷ []) (sym c.token-item.is) in
    let R : List Token → Type 0 = HasRead c.add_token.new.self in
    let same = c.in_ok-copied.ensures in
    subst R (ap (λ t. take i c.args.tokens.now ++ t ∷ []) same ∙ sym more) (c.in_ok-add_token.ensures.ok (take i c.args.tokens.now) c.loop-token.invariant)

pub returns-in_err-add_token-clause-at : goal.returns-in_err-add_token-clause-at
returns-in_err-add_token-clause-at c =
    let i = c.loop-token.token-index in
    let tokens = c.args.tokens.now in
    let more : take (i + 1) tokens ≡ take i tokens ++ c.token-item.result ∷ [] = (take_at_read tokens i c.token-item.result c.loop-token-test.true).1 ∙ ap (λ x. take i tokens ++ x ∷ []) (sym c.token-item.is) in
    let whole : take i tokens ++ c.token-item.result ∷ drop (i + 1) tokens ≡ tokens =
    sym (append_assoc (take i tokens) (c.token-item.result ∷ []) (drop (i + 1) tokens)) ∙ (ap (λ v. v ++ drop (i + 1) tokens) (sym more) ∙ take-append-drop (i + 1) tokens) in
    let N : List Token → Type 0 = λ v. Names c.in_err-add_token.field-0.0 (tree_fault v c.args.end) in
    let p = err_from_is_err_and c.from_residual-in_err-add_token.result c.from_residual-in_err-add_token.ensures.1 in
    rw (p.1, p.2) (subst N (ap (λ t. take i tokens ++ t ∷ drop (i + 1) tokens) c.in_ok-copied.ensures ∙ whole) (c.in_err-add_token.ensures.at (take i tokens) (drop (i + 1) tokens) c.args.end c.loop-token.invariant))

pub returns-clause-none : goal.returns-clause-none
returns-clause-none c =
    let R : List Token → Type 0 = HasRead c.loop-token.making in
    let read = subst R (take_all c.loop-token.token-index c.args.tokens.now (omega arith)) c.loop-token.invariant in
    IfOk-weaker c.finish.result _ _ (λ made h. (h c.args.tokens.now read).0) c.finish.ensures.ok

pub returns-clause-tree : goal.returns-clause-tree
returns-clause-tree c =
    let R : List Token → Type 0 = HasRead c.loop-token.making in
    let read = subst R (take_all c.loop-token.token-index c.args.tokens.now (omega arith)) c.loop-token.invariant in
    IfOk-weaker c.finish.result _ _ (λ made h. let all = h c.args.tokens.now read in (all.1.0, all.1.1, is_file c.args.tokens.now c.args.end all.1.0 all.0 all.1.2)) c.finish.ensures.ok

pub returns-clause-at : goal.returns-clause-at
returns-clause-at c =
    let R : List Token → Type 0 = HasRead c.loop-token.making in
    let read = subst R (take_all c.loop-token.token-index c.args.tokens.now (omega arith)) c.loop-token.invariant in
    IfErr-weaker c.finish.result _ _ (λ e h. h c.args.tokens.now read) c.finish.ensures.at
