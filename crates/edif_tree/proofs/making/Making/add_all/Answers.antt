use Rattle.std.proofs.Common.{◌≡◌, ◌∷◌, ◌++◌, ◌∙◌, [], List, ap, sym, subst, length, arith, append_assoc, append-nil}
use Rattle.std.proofs.lemmas.Result.{err_from_is_err_and}
use Rattle.edif_spelling_spec.specs.declared.token.Token.{Token}
use Rattle.edif_spelling_spec.specs.TreeFaults.{tree_fault}
use Rattle.edif_tree.specs.Making.{HasRead}
use Rattle.edif_tree.specs.TreeError.{Names}
use Rattle.edif_tree.proofs.MakerLemmas.{none_left}
use Rattle.edif_tree.proofs.making.Making.add_all.Goals as goal

pub loop-token-init : goal.loop-token-init
loop-token-init c = record {
  rest = sym c.into_iter-token-iterator.ensures.into_iter_gives.0;
  read = λ ts h. (let R : List Token → Type 0 = HasRead c.args.self.now in subst R (sym (append-nil ts)) h);
}

pub add_token-requires : goal.add_token-requires
add_token-requires c = (c.requires.0 ++ c.loop-token.yielded, c.loop-token.invariant.read c.requires.0 c.requires.1)

pub loop-token-preserved : goal.loop-token-preserved
loop-token-preserved c =
    let before = c.loop-token.invariant in
    let front = c.loop-token.yielded in
    record {
      rest = before.rest ∙ (ap (λ (ts : List Token). front ++ ts) c.in-Some.ensures.steps.0 ∙ sym (append_assoc front (c.in-Some.token ∷ []) c.next.new.self.rest.items));
      read = λ ts h. (let R : List Token → Type 0 = HasRead c.add_token.new.self in subst R (append_assoc ts front (c.in-Some.token ∷ [])) (c.in_ok-add_token.ensures.ok (ts ++ front) (before.read ts h)));
    }

pub returns-in_err-add_token-clause-at : goal.returns-in_err-add_token-clause-at
returns-in_err-add_token-clause-at c =
    let front = c.loop-token.yielded in
    let token = c.in-Some.token in
    let left = c.next.new.self.rest.items in
    let all : c.args.tokens.items ≡ front ++ token ∷ left = c.loop-token.invariant.rest ∙ ap (λ (ts : List Token). front ++ ts) c.in-Some.ensures.steps.0 in
    let p = err_from_is_err_and c.from_residual.result c.from_residual.ensures.1 in
    rw (p.1, p.2) (λ ts rest end h.
    let N : List Token → Type 0 = λ v. Names c.in_err-add_token.field-0.0 (tree_fault v end) in
    let inner : (front ++ token ∷ left) ++ rest ≡ front ++ (token ∷ (left ++ rest)) = append_assoc front (token ∷ left) rest in
    let same : c.args.tokens.items ++ rest ≡ front ++ (token ∷ (left ++ rest)) = ap (λ (v : List Token). v ++ rest) all ∙ inner in
    let whole : (ts ++ front) ++ (token ∷ (left ++ rest)) ≡ (ts ++ c.args.tokens.items) ++ rest = append_assoc ts front (token ∷ (left ++ rest)) ∙ ap (λ (v : List Token). ts ++ v) (sym same) ∙ sym (append_assoc ts c.args.tokens.items rest) in
    subst N whole (c.in_err-add_token.ensures.at (ts ++ front) (left ++ rest) end (c.loop-token.invariant.read ts h)))

pub returns-clause-ok : goal.returns-clause-ok
returns-clause-ok c ts h =
    let R : List Token → Type 0 = HasRead c.loop-token.self in
    let front = c.loop-token.yielded in
    let left = c.loop-token.token-iterator.rest in
    let ok = left.ok.0 in
    let none : length left.items ≡ 0 = (let l = c.in-None.ensures.steps.0 in omega arith) in
    subst R (ap (λ (v : List Token). ts ++ v) (sym (c.loop-token.invariant.rest ∙ ap (λ (v : List Token). front ++ v) (none_left left.items none) ∙ append-nil front))) (c.loop-token.invariant.read ts h)
