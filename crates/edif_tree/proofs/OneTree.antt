-- One tree at most stands at a node.
use Rattle.std.proofs.Common.{◌≡◌, ℕ, List, [], ◌∷◌, Option, Some, refl, sym, ap, ◌∙◌, subst}
use Rattle.std.specs.Prelude.{slice_get}
use Rattle.edif_spelling_spec.specs.Tree.{Placed, Trees, Form', Word', Integer', String', End, More}
use Rattle.edif_tree.specs.Nodes.{Seen, FormOf, WordOf, IntegerOf, StringOf, NodeRow, IsAt, AreAt}
use Rattle.edif_tree.specs.declared.stored.NodeId.{NodeId}

abbrev row_at : ℕ → Seen → Option NodeRow
row_at place shape = Some (record { place = place; shape = shape })

same_row : (o : Option NodeRow) (p q : ℕ) (a b : Seen) → o ≡ row_at p a → o ≡ row_at q b → (p ≡ q) × (a ≡ b)
same_row o p q a b h k =
    let one : NodeRow = record { place = p; shape = a } in
    let other : NodeRow = record { place = q; shape = b } in
    let both : Some one ≡ Some other = sym h ∙ k in
    let same : one ≡ other = cc both in
    (ap (λ r. r.place) same, ap (λ r. r.shape) same)

mutual
  pub one_at : (s t : Placed) (rows : List NodeRow) (id : NodeId) → IsAt rows id s → IsAt rows id t → s ≡ t
  one_at (Form' p ts) (Form' q us) rows id h k =
      let both = same_row (slice_get rows id.0) p q (FormOf h.0) (FormOf k.0) h.1 k.1 in
      let place : p ≡ q = both.0 in
      let shape : FormOf h.0 ≡ FormOf k.0 = both.1 in
      let ids : h.0 ≡ k.0 = cc shape in
      let A : List NodeId → Type 0 = λ v. AreAt rows v ts in
      let same : ts ≡ us = all_at ts us rows k.0 (subst A ids h.2) k.2 in
      (cc)
  one_at (Word' p x) (Word' q y) rows id h k =
      let both = same_row (slice_get rows id.0) p q (WordOf x) (WordOf y) h k in
      let place : p ≡ q = both.0 in
      let shape : WordOf x ≡ WordOf y = both.1 in
      let same : x ≡ y = cc shape in
      (cc)
  one_at (Integer' p x) (Integer' q y) rows id h k =
      let both = same_row (slice_get rows id.0) p q (IntegerOf x) (IntegerOf y) h k in
      let place : p ≡ q = both.0 in
      let shape : IntegerOf x ≡ IntegerOf y = both.1 in
      let same : x ≡ y = cc shape in
      (cc)
  one_at (String' p x) (String' q y) rows id h k =
      let both = same_row (slice_get rows id.0) p q (StringOf x) (StringOf y) h k in
      let place : p ≡ q = both.0 in
      let shape : StringOf x ≡ StringOf y = both.1 in
      let same : x ≡ y = cc shape in
      (cc)
  one_at (Form' p x) (Word' q y) rows id h k = (let shape = (same_row (slice_get rows id.0) p q (FormOf h.0) (WordOf y) h.1 k).1 in absurd (cc shape))
  one_at (Form' p x) (Integer' q y) rows id h k = (let shape = (same_row (slice_get rows id.0) p q (FormOf h.0) (IntegerOf y) h.1 k).1 in absurd (cc shape))
  one_at (Form' p x) (String' q y) rows id h k = (let shape = (same_row (slice_get rows id.0) p q (FormOf h.0) (StringOf y) h.1 k).1 in absurd (cc shape))
  one_at (Word' p x) (Form' q y) rows id h k = (let shape = (same_row (slice_get rows id.0) p q (WordOf x) (FormOf k.0) h k.1).1 in absurd (cc shape))
  one_at (Word' p x) (Integer' q y) rows id h k = (let shape = (same_row (slice_get rows id.0) p q (WordOf x) (IntegerOf y) h k).1 in absurd (cc shape))
  one_at (Word' p x) (String' q y) rows id h k = (let shape = (same_row (slice_get rows id.0) p q (WordOf x) (StringOf y) h k).1 in absurd (cc shape))
  one_at (Integer' p x) (Form' q y) rows id h k = (let shape = (same_row (slice_get rows id.0) p q (IntegerOf x) (FormOf k.0) h k.1).1 in absurd (cc shape))
  one_at (Integer' p x) (Word' q y) rows id h k = (let shape = (same_row (slice_get rows id.0) p q (IntegerOf x) (WordOf y) h k).1 in absurd (cc shape))
  one_at (Integer' p x) (String' q y) rows id h k = (let shape = (same_row (slice_get rows id.0) p q (IntegerOf x) (StringOf y) h k).1 in absurd (cc shape))
  one_at (String' p x) (Form' q y) rows id h k = (let shape = (same_row (slice_get rows id.0) p q (StringOf x) (FormOf k.0) h k.1).1 in absurd (cc shape))
  one_at (String' p x) (Word' q y) rows id h k = (let shape = (same_row (slice_get rows id.0) p q (StringOf x) (WordOf y) h k).1 in absurd (cc shape))
  one_at (String' p x) (Integer' q y) rows id h k = (let shape = (same_row (slice_get rows id.0) p q (StringOf x) (IntegerOf y) h k).1 in absurd (cc shape))

  pub all_at : (ts us : Trees ℕ) (rows : List NodeRow) (ids : List NodeId) → AreAt rows ids ts → AreAt rows ids us → ts ≡ us
  all_at End End rows ids h k = refl
  all_at (More s ts) (More t us) rows (id ∷ ids) h k =
      let first : s ≡ t = one_at s t rows id h.0 k.0 in
      let rest : ts ≡ us = all_at ts us rows ids h.1 k.1 in
      (cc)
  all_at (More s ts) (More t us) rows [] h k = absurd h
  all_at End (More t us) rows [] h k = absurd k
  all_at End (More t us) rows (id ∷ ids) h k = absurd h
  all_at (More s ts) End rows [] h k = absurd h
  all_at (More s ts) End rows (id ∷ ids) h k = absurd k
