-- The tokens of a tree make that tree alone.
use Rattle.std.proofs.Common.{◌≡◌, List, [], ◌∷◌, ◌++◌, refl, ap, sym, ◌∙◌, append_assoc, append-nil}
use Rattle.edif_spelling_spec.specs.declared.token.TokenKind.{TokenKind}
use Rattle.edif_spelling_spec.specs.declared.token.TokenKind.TheVariants.{RightParen}
use Rattle.edif_spelling_spec.specs.Tree.{Bare, Trees, Form', Word', Integer', String', End, More, listing, listings}

mutual
  pub tree_in_front : (s t : Bare) (x y : List TokenKind) → listing s ++ x ≡ listing t ++ y → (s ≡ t) × (x ≡ y)
  tree_in_front (Form' p ts) (Form' q us) x y e =
      let f : (ts ≡ us) × (x ≡ y) = trees_in_front ts us x y (sym (append_assoc (listings ts) (RightParen ∷ []) x) ∙ (cc e ∙ append_assoc (listings us) (RightParen ∷ []) y)) in
      (ap (λ vs. Form' tt vs) f.0, f.1)
  tree_in_front (Word' p a) (Word' q b) x y e = (let same : a ≡ b = cc e in ap (λ v. Word' tt v) same, cc e)
  tree_in_front (Integer' p a) (Integer' q b) x y e = (let same : a ≡ b = cc e in ap (λ v. Integer' tt v) same, cc e)
  tree_in_front (String' p a) (String' q b) x y e = (let same : a ≡ b = cc e in ap (λ v. String' tt v) same, cc e)
  tree_in_front (Form' p ts) (Word' q b) x y e = absurd (cc e)
  tree_in_front (Form' p ts) (Integer' q b) x y e = absurd (cc e)
  tree_in_front (Form' p ts) (String' q b) x y e = absurd (cc e)
  tree_in_front (Word' p a) (Form' q us) x y e = absurd (cc e)
  tree_in_front (Word' p a) (Integer' q us) x y e = absurd (cc e)
  tree_in_front (Word' p a) (String' q us) x y e = absurd (cc e)
  tree_in_front (Integer' p a) (Form' q us) x y e = absurd (cc e)
  tree_in_front (Integer' p a) (Word' q us) x y e = absurd (cc e)
  tree_in_front (Integer' p a) (String' q us) x y e = absurd (cc e)
  tree_in_front (String' p a) (Form' q us) x y e = absurd (cc e)
  tree_in_front (String' p a) (Word' q us) x y e = absurd (cc e)
  tree_in_front (String' p a) (Integer' q us) x y e = absurd (cc e)

  pub trees_in_front : (s t : Trees (Unit {0})) (x y : List TokenKind) → listings s ++ RightParen ∷ x ≡ listings t ++ RightParen ∷ y → (s ≡ t) × (x ≡ y)
  trees_in_front End End x y e = (refl, cc e)
  trees_in_front (More a ts) (More b us) x y e =
      let f : (a ≡ b) × (listings ts ++ RightParen ∷ x ≡ listings us ++ RightParen ∷ y) =
      tree_in_front a b _ _ (sym (append_assoc (listing a) (listings ts) (RightParen ∷ x)) ∙ (e ∙ append_assoc (listing b) (listings us) (RightParen ∷ y))) in
      let g : (ts ≡ us) × (x ≡ y) = trees_in_front ts us x y f.1 in
      ((cc), g.1)
  trees_in_front End (More (Form' p vs) us) x y e = absurd (cc e)
  trees_in_front End (More (Word' p vs) us) x y e = absurd (cc e)
  trees_in_front End (More (Integer' p vs) us) x y e = absurd (cc e)
  trees_in_front End (More (String' p vs) us) x y e = absurd (cc e)
  trees_in_front (More (Form' p vs) us) End x y e = absurd (cc e)
  trees_in_front (More (Word' p vs) us) End x y e = absurd (cc e)
  trees_in_front (More (Integer' p vs) us) End x y e = absurd (cc e)
  trees_in_front (More (String' p vs) us) End x y e = absurd (cc e)

pub one_listing : (s t : Bare) → listing s ≡ listing t → s ≡ t
one_listing s t e = (tree_in_front s t [] [] (append-nil (listing s) ∙ (e ∙ sym (append-nil (listing t))))).0
