use Rattle.std.proofs.Common.{◌≡◌, ℕ, List, ◌∷◌, [], sym, ◌∙◌, ap, arith, append_assoc, ◌++◌}
use Rattle.std.specs.Option.{option_map_or}
use Rattle.edif_spelling_spec.specs.Strings.{segments, codes, value}
use Rattle.edif_spelling_spec.proofs.EscapeLemmas.{escape_fault_more, value_more}
use Rattle.edif_lexer.proofs.strings.decode.Goals as goal

regrouped : (t p e v : List ℕ) → ((t ++ p) ++ e) ++ v ≡ t ++ ((p ++ e) ++ v)
regrouped t p e v = simp append_assoc

plain : (c : goal.In-Some-rest) → segments c.loop-text.left.now ≡ c.cut_at_percent.result.0.now ∷ segments c.in-Some.escape.now
plain c = c.cut_at_percent.ensures.parts ∙ ap (λ o. c.cut_at_percent.result.0.now ∷ option_map_or (λ rest. segments rest.now) o []) c.in-Some.is

escape : (c : goal.In-Some-rest) → segments c.in-Some.escape.now ≡ c.cut_at_percent-in-loop-text.result.0.now ∷ segments c.in-Some-rest.rest.now
escape c = c.cut_at_percent-in-loop-text.ensures.parts ∙ ap (λ o. c.cut_at_percent-in-loop-text.result.0.now ∷ option_map_or (λ rest. segments rest.now) o []) c.in-Some-rest.is

pub loop-text-preserved : goal.loop-text-preserved
loop-text-preserved c = record {
  fault = sym (escape_fault_more c.args.closed c.loop-text.at c.loop-text.left.now c.cut_at_percent.result.0.now c.in-Some.escape.now c.cut_at_percent-in-loop-text.result.0.now c.in-Some-rest.rest.now (plain c) (escape c) (sym c.in_ok-push_codes.ensures.exact ∙ c.if-not-branch.false))
      ∙ c.loop-text.invariant.fault;
  value = ap (λ l. l ++ value (segments c.in-Some-rest.rest.now)) (c.in_ok-push_codes.ensures.codes c.if-not-branch.false ∙ ap (λ l. l ++ codes c.cut_at_percent-in-loop-text.result.0.now) c.in_ok-extend_from_slice.ensures.items)
      ∙ regrouped c.loop-text.text.items c.cut_at_percent.result.0.now (codes c.cut_at_percent-in-loop-text.result.0.now) (value (segments c.in-Some-rest.rest.now))
      ∙ ap (λ l. c.loop-text.text.items ++ l) (sym (value_more c.loop-text.left.now c.cut_at_percent.result.0.now c.in-Some.escape.now c.cut_at_percent-in-loop-text.result.0.now c.in-Some-rest.rest.now (plain c) (escape c)))
      ∙ c.loop-text.invariant.value;
  count = let first = rw c.in-Some.is at c.cut_at_percent.ensures.shorter in let second = rw c.in-Some-rest.is at c.cut_at_percent-in-loop-text.ensures.shorter in omega arith;
}
