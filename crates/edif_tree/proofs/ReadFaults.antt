-- What a maker that has read tokens says of the next one, and of an end.
use Rattle.std.proofs.Common.{true, ◌≡◌, ℕ, ◌<◌, ◌≤◌, ⊎_elim, List, [], ◌∷◌, ◌++◌, length, None, refl, sym, ap, ◌∙◌, subst, arith, append-nil}
use Rattle.edif_spelling_spec.specs.Tree.{Placed}
use Rattle.edif_spelling_spec.specs.TreeFaults.{token_at, Lists, IsFile, fault_at, tree_fault}
use Rattle.edif_spelling_spec.specs.declared.token.Token.{Token}
use Rattle.edif_spelling_spec.specs.declared.token.TokenKind.{TokenKind}
use Rattle.edif_spelling_spec.specs.declared.token.TokenKind.TheVariants.{LeftParen, RightParen}
use Rattle.edif_spelling_spec.specs.declared.tree_fault.TreeKind.TheVariants.{NotForm, ExtraClose, TooDeep, Trailing, Unended}
use Rattle.edif_spelling_spec.proofs.TreeFaultLemmas.{tree_of_none}
use Rattle.edif_spelling_spec.proofs.PlacedListings.{one_placed}
use Rattle.edif_tree.specs.Nodes.{NodeRow, IsAt}
use Rattle.edif_tree.specs.Order.{in_order_from}
use Rattle.edif_tree.specs.Making.{Level, InForms, HasRead, fault_from}
use Rattle.edif_tree.specs.declared.stored.NodeId.{NodeId}
use Rattle.edif_tree.specs.declared.making.OpenForm.{OpenForm}
use Rattle.edif_tree.specs.declared.making.Making.{Making}
use Rattle.edif_tree.proofs.FaultSteps.{deep_fault, close_fault, trailing_fault, form_fault, end_fault, empty_fault, no_fault}
use Rattle.edif_tree.proofs.MakingLemmas.{forms_count, row_is_still, row_last, row_placed}
use Rattle.edif_tree.proofs.OrderLemmas.{pushed, row_before}

-- nothing was read where no form is open and none is closed
nothing_read : (levels : List Level) (rows : List NodeRow) (forms : List OpenForm) (loose : List NodeRow) (read : List Token) → length forms ≡ 0 → InForms rows levels forms loose read → (levels ≡ []) × (loose ≡ []) × (read ≡ [])
nothing_read [] rows forms loose read l h = (refl, h.1, h.2)
nothing_read (level ∷ levels) rows forms loose read l h = (let count = forms_count (level ∷ levels) rows forms loose read h in absurd (omega arith))

-- the faults of what follows nothing
from_nothing : (levels : List Level) (ts rest : List Token) (end : ℕ) → levels ≡ [] → ((rest : List Token) (end : ℕ) → tree_fault (ts ++ rest) end ≡ fault_from (length levels) rest end) → tree_fault (ts ++ rest) end ≡ tree_fault rest end
from_nothing levels ts rest end e faults = faults rest end ∙ ap (λ l. fault_from (length l) rest end) e

pub deep_at : (maker : Making) (ts rest : List Token) (place end : ℕ) → 256 ≤ length maker.forms.items → HasRead maker ts → tree_fault (ts ++ token_at LeftParen place ∷ rest) end ≡ fault_at TooDeep place
deep_at maker ts rest place end l h = ⊎_elim
    (λ o.
    let count = forms_count o.levels maker.nodes.rows maker.forms.items maker.nodes.loose ts o.forms in
    let many : 256 ≤ length o.levels = omega arith in
    o.faults (token_at LeftParen place ∷ rest) end ∙ deep_fault (length o.levels) place rest end many)
    (λ k. (let none = ap length k.forms in absurd (omega arith)))
    h

pub close_at : (maker : Making) (ts rest : List Token) (place end : ℕ) → length maker.forms.items ≡ 0 → HasRead maker ts → tree_fault (ts ++ token_at RightParen place ∷ rest) end ≡ fault_at ExtraClose place
close_at maker ts rest place end l h = ⊎_elim
    (λ o.
    let none = nothing_read o.levels maker.nodes.rows maker.forms.items maker.nodes.loose ts l o.forms in
    from_nothing o.levels ts (token_at RightParen place ∷ rest) end none.0 o.faults ∙ (close_fault place rest end).0)
    (λ k. k.faults (token_at RightParen place ∷ rest) end ∙ (close_fault place rest end).1)
    h

pub trailing_at : (maker : Making) (ts rest : List Token) (kind : TokenKind) (place end : ℕ) → length maker.forms.items ≡ 0 → 0 < length maker.nodes.loose → (kind ≡ RightParen → ⊥) → HasRead maker ts
    → tree_fault (ts ++ token_at kind place ∷ rest) end ≡ fault_at Trailing place
trailing_at maker ts rest kind place end l some right h = ⊎_elim
    (λ o. (let none = nothing_read o.levels maker.nodes.rows maker.forms.items maker.nodes.loose ts l o.forms in let empty = ap length none.1 in absurd (omega arith)))
    (λ k. k.faults (token_at kind place ∷ rest) end ∙ trailing_fault kind place rest end right)
    h

pub form_at : (maker : Making) (ts rest : List Token) (kind : TokenKind) (place end : ℕ) → length maker.forms.items ≡ 0 → length maker.nodes.loose ≡ 0 → (kind ≡ LeftParen → ⊥) → (kind ≡ RightParen → ⊥) → HasRead maker ts
    → tree_fault (ts ++ token_at kind place ∷ rest) end ≡ fault_at NotForm place
form_at maker ts rest kind place end l empty left right h = ⊎_elim
    (λ o.
    let none = nothing_read o.levels maker.nodes.rows maker.forms.items maker.nodes.loose ts l o.forms in
    from_nothing o.levels ts (token_at kind place ∷ rest) end none.0 o.faults ∙ form_fault kind place rest end left right)
    (λ k. (let one = ap length k.loose in absurd (omega arith)))
    h

-- an end
whole : (ts : List Token) (end : ℕ) → tree_fault ts end ≡ tree_fault (ts ++ []) end
whole ts end = ap (λ v. tree_fault v end) (sym (append-nil ts))

open_end : (levels : List Level) (ts : List Token) (end : ℕ) → ((rest : List Token) (end : ℕ) → tree_fault (ts ++ rest) end ≡ fault_from (length levels) rest end) → tree_fault ts end ≡ fault_at Unended end
open_end [] ts end faults = whole ts end ∙ (faults [] end ∙ empty_fault end)
open_end (level ∷ levels) ts end faults = whole ts end ∙ (faults [] end ∙ end_fault (length levels) end)

pub ends_open : (maker : Making) (ts : List Token) (end : ℕ) → 0 < length maker.forms.items → HasRead maker ts → tree_fault ts end ≡ fault_at Unended end
ends_open maker ts end l h = ⊎_elim (λ o. open_end o.levels ts end o.faults) (λ k. (let none = ap length k.forms in absurd (omega arith))) h

pub ends_empty : (maker : Making) (ts : List Token) (end : ℕ) → length maker.nodes.loose ≡ 0 → HasRead maker ts → tree_fault ts end ≡ fault_at Unended end
ends_empty maker ts end l h = ⊎_elim (λ o. open_end o.levels ts end o.faults) (λ k. (let one = ap length k.loose in absurd (omega arith))) h

pub ends_closed : (maker : Making) (ts : List Token) (end : ℕ) (root : NodeId) → length maker.forms.items ≡ 0 → 0 < length maker.nodes.loose → root.0 ≡ length maker.nodes.rows → HasRead maker ts
    → (tree_fault ts end ≡ None) × ((t : Placed) × IsAt (maker.nodes.rows ++ maker.nodes.loose) root t × Lists ts t) × (in_order_from 0 (maker.nodes.rows ++ maker.nodes.loose) ≡ true)
ends_closed maker ts end root l some at h = ⊎_elim
    (λ o.
    (let none = nothing_read o.levels maker.nodes.rows maker.forms.items maker.nodes.loose ts l o.forms in
    let empty = ap length none.1 in absurd (omega arith)))
    (λ k.
    let rows : List NodeRow = maker.nodes.rows in
    let R : List NodeRow → Type 0 = λ v. IsAt (rows ++ v) root k.tree in
    let Q : List NodeRow → Type 0 = λ v. in_order_from 0 (rows ++ v) ≡ true in
    let placed : IsAt (rows ++ k.row ∷ []) root k.tree = row_placed k.tree (rows ++ k.row ∷ []) root k.row (row_last rows k.row root.0 at) (row_is_still k.tree rows (k.row ∷ []) k.row k.standing) in
    let order : in_order_from 0 (rows ++ k.row ∷ []) ≡ true = pushed rows (rows ++ k.row ∷ []) k.row refl k.order (row_before rows k.row k.tree k.standing) in
    (whole ts end ∙ (k.faults [] end ∙ no_fault end), (k.tree, subst R (sym k.loose) placed, k.listed), subst Q (sym k.loose) order))
    h

-- the tree without a fault is a file's
pub is_file : (ts : List Token) (end : ℕ) (t : Placed) → tree_fault ts end ≡ None → Lists ts t → IsFile ts t
is_file ts end t none l =
    let other = tree_of_none ts end none in
    let F : Placed → Type 0 = IsFile ts in
    subst F (one_placed ts other.0 t other.1.listed l) other.1
