use Rattle.std.proofs.Common.{◌≡◌, ◌∷◌, [], sym, ◌∙◌, ap, append_assoc, ◌++◌}
use Rattle.std.specs.Option.{option_map_or}
use Rattle.std.specs.List.{slice_split}
use Rattle.edif_spelling_spec.specs.Bytes.{is_space}
use Rattle.edif_spelling_spec.specs.Strings.{codes_of, codes}
use Rattle.edif_lexer.proofs.CutLemmas.{are_codes_more, are_codes_stop, codes_of_more}
use Rattle.edif_lexer.proofs.strings.push_codes.Goals as goal

pub returns-then-not-branch-clause-exact : goal.returns-then-not-branch-clause-exact
returns-then-not-branch-clause-exact c =
    sym (sym c.loop-rest.invariant.fault ∙ are_codes_stop c.loop-rest.left.now c.cut_at_space.result.0.now _ c.cut_at_space.ensures.parts (sym c.in_ok-push_code.ensures.exact ∙ c.if-not-branch.true))

cut : (c : goal.In-Some) → slice_split is_space c.loop-rest.left.now ≡ c.cut_at_space.result.0.now ∷ slice_split is_space c.in-Some.rest.now
cut c = c.cut_at_space.ensures.parts ∙ ap (λ o. c.cut_at_space.result.0.now ∷ option_map_or (λ rest. slice_split is_space rest.now) o []) c.in-Some.is

pub loop-rest-preserved : goal.loop-rest-preserved
loop-rest-preserved c = record {
  fault = sym (are_codes_more c.loop-rest.left.now c.cut_at_space.result.0.now (slice_split is_space c.in-Some.rest.now) (cut c) (sym c.in_ok-push_code.ensures.exact ∙ c.if-not-branch.false)) ∙ c.loop-rest.invariant.fault;
  codes = ap (λ l. l ++ codes c.in-Some.rest.now) (c.in_ok-push_code.ensures.codes c.if-not-branch.false) ∙ append_assoc c.loop-rest.text.items (codes_of (c.cut_at_space.result.0.now ∷ [])) (codes c.in-Some.rest.now)
      ∙ ap (λ l. c.loop-rest.text.items ++ l) (sym (codes_of_more c.loop-rest.left.now c.cut_at_space.result.0.now (slice_split is_space c.in-Some.rest.now) (cut c))) ∙ c.loop-rest.invariant.codes;
}
