use Rattle.std.proofs.Common.{◌≡◌, ◌<◌, length, ◌∷◌, [], sym, ◌∙◌, ap, arith, append-nil, ◌++◌}
use Rattle.std.proofs.lemmas.Bool.{eqb-true, eqb-false}
use Rattle.std.proofs.lemmas.Option.{cond_some}
use Rattle.edif_spelling_spec.specs.Strings.{is_code}
use Rattle.edif_spelling_spec.proofs.EscapeLemmas.{are_codes_empty, codes_of_empty, are_codes_one, codes_of_one}
use Rattle.edif_lexer.proofs.CutLemmas.{cond_none}
use Rattle.edif_lexer.proofs.strings.push_code.Goals as goal

empty : (c : goal.Then-is_empty) → length c.args.part.now ≡ 0
empty c = eqb-true (length c.args.part.now) 0 (sym c.is_empty.ensures ∙ c.if-is_empty.true)

pub returns-then-is_empty-clause-exact : goal.returns-then-is_empty-clause-exact
returns-then-is_empty-clause-exact c = sym (are_codes_empty c.args.part.now (empty c))

pub returns-then-is_empty-clause-codes : goal.returns-then-is_empty-clause-codes
returns-then-is_empty-clause-codes c t = sym (ap (λ l. c.args.text.now.items ++ l) (codes_of_empty c.args.part.now (empty c)) ∙ append-nil c.args.text.now.items)

filled : (c : goal.In_ok-push-in-Some) → 0 < length c.args.part.now
filled c = let apart = eqb-false (length c.args.part.now) 0 (sym c.is_empty.ensures ∙ c.if-is_empty.false) in omega (arith, apart)

pub returns-in_ok-push-in-Some-clause-exact : goal.returns-in_ok-push-in-Some-clause-exact
returns-in_ok-push-in-Some-clause-exact c = sym (are_codes_one c.args.part.now (filled c) ∙ (cond_some (is_code c.args.part.now) _ _ (sym c.in-Some.ensures)).0)

pub returns-in_ok-push-in-Some-clause-codes : goal.returns-in_ok-push-in-Some-clause-codes
returns-in_ok-push-in-Some-clause-codes c t =
    c.in_ok-push-in-Some.ensures.items ∙ ap (λ l. c.args.text.now.items ++ l) (sym (codes_of_one c.args.part.now (filled c) ∙ ap (λ n. n ∷ []) (cond_some (is_code c.args.part.now) _ _ (sym c.in-Some.ensures)).1))

pub returns-in-None-clause-exact : goal.returns-in-None-clause-exact
returns-in-None-clause-exact c =
    let apart = eqb-false (length c.args.part.now) 0 (sym c.is_empty.ensures ∙ c.if-is_empty.false) in
    let long : 0 < length c.args.part.now = omega (arith, apart) in
    sym (are_codes_one c.args.part.now long ∙ cond_none (is_code c.args.part.now) _ (sym c.in-None.ensures))
