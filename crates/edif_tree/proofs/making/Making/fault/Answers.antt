use Rattle.std.proofs.Common.{◌≡◌, ◌≤◌, ◌<◌, ◌∷◌, ◌++◌, ◌∙◌, ap, sym, subst, length, arith}
use Rattle.std.proofs.lemmas.Bool.{eqb-true}
use Rattle.std.specs.Prelude.{vec_len}
use Rattle.edif_spelling_spec.specs.TreeFaults.{token_at, fault_at, tree_fault}
use Rattle.edif_spelling_spec.specs.declared.token.TokenKind.{TokenKind}
use Rattle.edif_spelling_spec.specs.declared.tree_fault.TreeKind.TheVariants.{ExtraClose, TooDeep}
use Rattle.edif_spelling_spec.specs.Lent.{kind_of}
use Rattle.edif_tree.proofs.LentLemmas.{not_left, not_right}
use Rattle.edif_tree.proofs.ReadFaults.{deep_at, close_at, trailing_at, form_at}
use Rattle.edif_tree.proofs.making.Making.fault.Goals as goal

pub returns-in-LeftParen-clause-some : goal.returns-in-LeftParen-clause-some
returns-in-LeftParen-clause-some c ts rest place end h =
    let K : TokenKind → Type 0 = λ k. tree_fault (ts ++ token_at k place ∷ rest) end ≡ fault_at TooDeep place in
    let forms = c.args.self.now.forms.ok.0 in
    let many : 256 ≤ length c.args.self.now.forms.items = omega (arith, c.len.ensures, c.if-len-ge-MOST_LEVELS.true) in
    subst K (sym (ap kind_of c.in-LeftParen.is)) (deep_at c.args.self.now ts rest place end many h)

pub returns-in-LeftParen-2-clause-some : goal.returns-in-LeftParen-2-clause-some
returns-in-LeftParen-2-clause-some c ts rest place end h =
    let forms = c.args.self.now.forms.ok.0 in
    let none = eqb-true (vec_len c.args.self.now.forms) 0 (sym c.if-is_empty.ensures) in
    let empty : length c.args.self.now.forms.items ≡ 0 = omega arith in
    let full : 0 < length c.args.self.now.nodes.loose = omega arith in
    trailing_at c.args.self.now ts rest (kind_of c.args.kind.now) place end empty full (λ e. let both = sym (ap kind_of c.in-LeftParen.is) ∙ e in cc) h

pub returns-in-RightParen : goal.returns-in-RightParen
returns-in-RightParen c = record {
  some = λ ts rest place end h.
      (let K : TokenKind → Type 0 = λ k. tree_fault (ts ++ token_at k place ∷ rest) end ≡ fault_at ExtraClose place in
      let forms = c.args.self.now.forms.ok.0 in
      let none = eqb-true (vec_len c.args.self.now.forms) 0 (sym c.if-is_empty-2.ensures) in
      let empty : length c.args.self.now.forms.items ≡ 0 = omega arith in
      subst K (sym (ap kind_of c.in-RightParen.is)) (close_at c.args.self.now ts rest place end empty h));
  none = tt;
}

pub returns-in_default-2 : goal.returns-in_default-2
returns-in_default-2 c = record {
  some = λ ts rest place end h.
      (let forms = c.args.self.now.forms.ok.0 in
      let none = eqb-true (vec_len c.args.self.now.forms) 0 (sym c.if-not-is_empty.ensures) in
      let empty : length c.args.self.now.forms.items ≡ 0 = omega arith in
      let nothing : length c.args.self.now.nodes.loose ≡ 0 = omega arith in
      form_at c.args.self.now ts rest (kind_of c.args.kind.now) place end empty nothing (not_left c.args.kind.now c.in_default.not-LeftParen) (not_right c.args.kind.now c.in_default.not-RightParen) h);
  none = tt;
}

pub returns-in_default-3 : goal.returns-in_default-3
returns-in_default-3 c = record {
  some = λ ts rest place end h.
      (let forms = c.args.self.now.forms.ok.0 in
      let none = eqb-true (vec_len c.args.self.now.forms) 0 (sym c.if-not-is_empty.ensures) in
      let empty : length c.args.self.now.forms.items ≡ 0 = omega arith in
      let full : 0 < length c.args.self.now.nodes.loose = omega arith in
      trailing_at c.args.self.now ts rest (kind_of c.args.kind.now) place end empty full (not_right c.args.kind.now c.in_default.not-RightParen) h);
  none = tt;
}
