-- The order of rows as they grow.
use Rattle.std.proofs.Common.{◌≡◌, ◌+◌, ℕ, zero, suc, true, List, [], ◌∷◌, ◌++◌, length, refl, sym, subst, arith}
use Rattle.std.specs.Prelude.{nat_lt}
use Rattle.std.specs.List.{list_all}
use Rattle.std.proofs.lemmas.Bool.{lt-ltb, and_parts, and_from}
use Rattle.edif_spelling_spec.specs.Tree.{Placed, Trees, Form', Word', Integer', String', End, More}
use Rattle.edif_tree.specs.Nodes.{NodeRow, IsAt, AreAt}
use Rattle.edif_tree.specs.Making.{IsRow}
use Rattle.edif_tree.specs.Order.{in_order_at, in_order_from, is_node}
use Rattle.edif_tree.specs.declared.stored.NodeId.{NodeId}
use Rattle.edif_tree.proofs.NodeLemmas.{node_in_rows}

-- one more row, where the first has this place
order_push : (k : ℕ) (rows : List NodeRow) (row : NodeRow) → in_order_from k rows ≡ true → in_order_at (length rows + k) row.shape ≡ true → in_order_from k (rows ++ row ∷ []) ≡ true
order_push k [] row h o =
    let z : zero + k ≡ k = omega arith in
    let P : ℕ → Type 0 = λ n. in_order_at n row.shape ≡ true in
    and_from (in_order_at k row.shape) true (subst P z o) refl
order_push k (r ∷ rows) row h o =
    let b = and_parts (in_order_at k r.shape) (in_order_from (suc k) rows) h in
    let z : suc (length rows) + k ≡ length rows + suc k = omega arith in
    let P : ℕ → Type 0 = λ n. in_order_at n row.shape ≡ true in
    and_from (in_order_at k r.shape) (in_order_from (suc k) (rows ++ row ∷ [])) b.0 (order_push (suc k) rows row b.1 (subst P z o))

-- a row behind the others
pub pushed : (rows new : List NodeRow) (row : NodeRow) → new ≡ rows ++ row ∷ [] → in_order_from 0 rows ≡ true → in_order_at (length rows) row.shape ≡ true → in_order_from 0 new ≡ true
pushed rows new row e h o =
    let z : length rows ≡ length rows + 0 = omega arith in
    let P : ℕ → Type 0 = λ n. in_order_at n row.shape ≡ true in
    let Q : List NodeRow → Type 0 = λ v. in_order_from 0 v ≡ true in
    subst Q (sym e) (order_push 0 rows row h (subst P z o))

-- nodes where trees stand are rows that were there before
pub all_before : (rows : List NodeRow) (ids : List NodeId) (ts : Trees ℕ) → AreAt rows ids ts → list_all (λ (id : NodeId). nat_lt id.0 (length rows)) ids ≡ true
all_before rows [] ts h = refl
all_before rows (id ∷ ids) End h = absurd h
all_before rows (id ∷ ids) (More t ts) h = and_from (nat_lt id.0 (length rows)) (list_all (λ (j : NodeId). nat_lt j.0 (length rows)) ids) (lt-ltb id.0 (length rows) (node_in_rows rows id t h.0)) (all_before rows ids ts h.1)

-- a row of a tree has arguments that were there before
pub row_before : (rows : List NodeRow) (row : NodeRow) (t : Placed) → IsRow rows row t → in_order_at (length rows) row.shape ≡ true
row_before rows row (Form' p ts) h = let P : NodeRow → Type 0 = λ r. in_order_at (length rows) r.shape ≡ true in subst P (sym h.1) (all_before rows h.0 ts h.2)
row_before rows row (Word' p x) h = let P : NodeRow → Type 0 = λ r. in_order_at (length rows) r.shape ≡ true in subst P (sym h) refl
row_before rows row (Integer' p x) h = let P : NodeRow → Type 0 = λ r. in_order_at (length rows) r.shape ≡ true in subst P (sym h) refl
row_before rows row (String' p x) h = let P : NodeRow → Type 0 = λ r. in_order_at (length rows) r.shape ≡ true in subst P (sym h) refl

-- the node of a tree is one of those rows
pub root_is : (rows : List NodeRow) (id : NodeId) (t : Placed) → in_order_from 0 rows ≡ true → IsAt rows id t → is_node rows id ≡ true
root_is rows id t o a = and_from (in_order_from 0 rows) (nat_lt id.0 (length rows)) o (lt-ltb id.0 (length rows) (node_in_rows rows id t a))
