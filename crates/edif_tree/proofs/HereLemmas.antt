-- The tree at a node stands there.
use Rattle.std.proofs.Common.{◌≡◌, ◌<◌, ◌+◌, ℕ, zero, suc, true, List, [], ◌∷◌, length, map, take, drop, Option, Some, refl, sym, ap, ◌∙◌, subst, arith}
use Rattle.std.specs.Prelude.{slice_get, option_map, nat_lt}
use Rattle.std.specs.List.{list_all}
use Rattle.std.proofs.lemmas.Bool.{ltb-true, lt-ltb, and_parts, and_from}
use Rattle.std.proofs.lemmas.Option.{slice_get-map}
use Rattle.edif_spelling_spec.specs.Tree.{Placed, Trees, Form', Word', Integer', String', End, More, trees}
use Rattle.edif_tree.specs.Nodes.{Seen, FormOf, WordOf, IntegerOf, StringOf, NodeRow, IsAt, AreAt, place_of}
use Rattle.edif_tree.specs.Order.{in_order_at, in_order_from, is_node, are_nodes}
use Rattle.edif_tree.specs.Here.{each, seen_tree, row_tree, tree_within, tree_at}
use Rattle.edif_tree.specs.declared.stored.NodeId.{NodeId}
use Rattle.edif_tree.proofs.OneTree.{one_at}
use Rattle.edif_tree.proofs.NodeLemmas.{node_in_rows}

order_at : (rows : List NodeRow) (k i : ℕ) (row : NodeRow) → in_order_from k rows ≡ true → slice_get rows i ≡ Some row → in_order_at (i + k) row.shape ≡ true
order_at [] k i row h e = absurd (cc e)
order_at (r ∷ rows) k zero row h e =
    let w : r ≡ row = cc e in
    let P : NodeRow → Type 0 = λ v. in_order_at k v.shape ≡ true in
    let z : k ≡ zero + k = omega arith in
    let Q : ℕ → Type 0 = λ v. in_order_at v row.shape ≡ true in
    subst Q z (subst P w (and_parts (in_order_at k r.shape) (in_order_from (suc k) rows) h).0)
order_at (r ∷ rows) k (suc i) row h e =
    let z : i + suc k ≡ suc i + k = omega arith in
    let Q : ℕ → Type 0 = λ v. in_order_at v row.shape ≡ true in
    subst Q z (order_at rows (suc k) i row (and_parts (in_order_at k r.shape) (in_order_from (suc k) rows) h).1 e)

pub some_at : (rows : List NodeRow) (i : ℕ) → i < length rows → (row : NodeRow) × (slice_get rows i ≡ Some row)
some_at [] i l = absurd (omega arith)
some_at (r ∷ rows) zero l = (r, refl)
some_at (r ∷ rows) (suc i) l = some_at rows i (omega arith)

each_stand : (f : ℕ → Placed) (rows : List NodeRow) (i : ℕ) (ids : List NodeId) → ((id : NodeId) → id.0 < i → IsAt rows id (f id.0)) → list_all (λ (id : NodeId). nat_lt id.0 i) ids ≡ true → AreAt rows ids (each f ids)
each_stand f rows i [] h o = tt
each_stand f rows i (id ∷ ids) h o =
    let b = and_parts (nat_lt id.0 i) (list_all (λ (j : NodeId). nat_lt j.0 i) ids) o in
    (h id (ltb-true id.0 i b.0), each_stand f rows i ids h b.1)

row_stands : (f : ℕ → Placed) (rows : List NodeRow) (id : NodeId) (p : ℕ) (s : Seen) → ((j : NodeId) → j.0 < id.0 → IsAt rows j (f j.0)) → in_order_at id.0 s ≡ true → slice_get rows id.0 ≡ Some (record { place = p; shape = s }) → IsAt rows id (seen_tree f p s)
row_stands f rows id p (FormOf ids) h o e = (ids, e, each_stand f rows id.0 ids h o)
row_stands f rows id p (WordOf x) h o e = e
row_stands f rows id p (IntegerOf x) h o e = e
row_stands f rows id p (StringOf x) h o e = e

stands : (n : ℕ) (rows : List NodeRow) (id : NodeId) → in_order_from 0 rows ≡ true → id.0 < n → id.0 < length rows → IsAt rows id (tree_within n rows id.0)
stands zero rows id h l m = absurd (omega arith)
stands (suc n) rows id h l m =
    let found = some_at rows id.0 m in
    let P : Option NodeRow → Type 0 = λ v. IsAt rows id (row_tree (tree_within n rows) v) in
    let z : id.0 + 0 ≡ id.0 = omega arith in
    let Q : ℕ → Type 0 = λ v. in_order_at v found.0.shape ≡ true in
    subst P (sym found.1) (row_stands (tree_within n rows) rows id found.0.place found.0.shape (λ j k. stands n rows j h (omega arith) (omega arith)) (subst Q z (order_at rows 0 id.0 found.0 h found.1)) found.1)

pub node_stands : (rows : List NodeRow) (id : NodeId) → is_node rows id ≡ true → IsAt rows id (tree_at rows id)
unfolding tree_at
node_stands rows id h =
    let b = and_parts (in_order_from 0 rows) (nat_lt id.0 (length rows)) h in
    let l = ltb-true id.0 (length rows) b.1 in
    stands (length rows) rows id b.0 l l

-- what stands at a node is a node, and its tree
pub stands_is : (rows : List NodeRow) (id : NodeId) (t : Placed) → in_order_from 0 rows ≡ true → IsAt rows id t → (is_node rows id ≡ true) × (tree_at rows id ≡ t)
stands_is rows id t o a =
    let n = and_from (in_order_from 0 rows) (nat_lt id.0 (length rows)) o (lt-ltb id.0 (length rows) (node_in_rows rows id t a)) in
    (n, one_at (tree_at rows id) t rows id (node_stands rows id n) a)

pub stand_are : (rows : List NodeRow) (ids : List NodeId) (ts : Trees ℕ) → in_order_from 0 rows ≡ true → AreAt rows ids ts → (are_nodes rows ids ≡ true) × (ts ≡ trees (map (tree_at rows) ids))
stand_are rows [] End o h = (refl, refl)
stand_are rows [] (More t ts) o h = absurd h
stand_are rows (id ∷ ids) End o h = absurd h
stand_are rows (id ∷ ids) (More t ts) o h =
    let f = stands_is rows id t o h.0 in
    let r = stand_are rows ids ts o h.1 in
    (and_from (is_node rows id) (are_nodes rows ids) f.0 r.0, ap (λ v. More v ts) (sym f.1) ∙ ap (More (tree_at rows id)) r.1)

-- What is seen at a node says which tree stands there.
abbrev pub SeenIs : List NodeRow → Seen → Placed → Type 0
SeenIs rows (FormOf ids) t = (are_nodes rows ids ≡ true) × (t ≡ Form' (place_of t) (trees (map (tree_at rows) ids)))
SeenIs rows (WordOf name) t = t ≡ Word' (place_of t) name
SeenIs rows (IntegerOf value) t = t ≡ Integer' (place_of t) value
SeenIs rows (StringOf value) t = t ≡ String' (place_of t) value

seen_shown : (rows : List NodeRow) (id : NodeId) (t : Placed) (s : Seen) → in_order_from 0 rows ≡ true → IsAt rows id t → option_map (λ (r : NodeRow). r.shape) (slice_get rows id.0) ≡ Some s → SeenIs rows s t
seen_shown rows id (Form' p ts) s o h e =
    let both = sym (ap (option_map (λ (r : NodeRow). r.shape)) h.1) ∙ e in
    let same : FormOf h.0 ≡ s = cc both in
    let r = stand_are rows h.0 ts o h.2 in
    let P : Seen → Type 0 = λ v. SeenIs rows v (Form' p ts) in
    subst P same (r.0, ap (Form' p) r.1)
seen_shown rows id (Word' p x) s o h e =
    let both = sym (ap (option_map (λ (r : NodeRow). r.shape)) h) ∙ e in
    let same : WordOf x ≡ s = cc both in
    let P : Seen → Type 0 = λ v. SeenIs rows v (Word' p x) in
    subst P same refl
seen_shown rows id (Integer' p x) s o h e =
    let both = sym (ap (option_map (λ (r : NodeRow). r.shape)) h) ∙ e in
    let same : IntegerOf x ≡ s = cc both in
    let P : Seen → Type 0 = λ v. SeenIs rows v (Integer' p x) in
    subst P same refl
seen_shown rows id (String' p x) s o h e =
    let both = sym (ap (option_map (λ (r : NodeRow). r.shape)) h) ∙ e in
    let same : StringOf x ≡ s = cc both in
    let P : Seen → Type 0 = λ v. SeenIs rows v (String' p x) in
    subst P same refl

-- the same of the tree at a node
pub shown : (rows : List NodeRow) (id : NodeId) (s : Seen) → is_node rows id ≡ true → option_map (λ (r : NodeRow). r.shape) (slice_get rows id.0) ≡ Some s → SeenIs rows s (tree_at rows id)
shown rows id s h e = seen_shown rows id (tree_at rows id) s (and_parts (in_order_from 0 rows) (nat_lt id.0 (length rows)) h).0 (node_stands rows id h) e

-- a node is one of the rows
pub within : (rows : List NodeRow) (id : NodeId) → is_node rows id ≡ true → id.0 < length rows
within rows id h = ltb-true id.0 (length rows) (and_parts (in_order_from 0 rows) (nat_lt id.0 (length rows)) h).1

-- one of nodes, and parts of them
pub node_of : (rows : List NodeRow) (ids : List NodeId) (i : ℕ) (id : NodeId) → are_nodes rows ids ≡ true → slice_get ids i ≡ Some id → is_node rows id ≡ true
node_of rows [] i id h e = absurd (cc e)
node_of rows (x ∷ ids) zero id h e =
    let same : x ≡ id = cc e in
    let P : NodeId → Type 0 = λ v. is_node rows v ≡ true in
    subst P same (and_parts (is_node rows x) (are_nodes rows ids) h).0
node_of rows (x ∷ ids) (suc i) id h e = node_of rows ids i id (and_parts (is_node rows x) (are_nodes rows ids) h).1 e

pub tree_of : (rows : List NodeRow) (ids : List NodeId) (i : ℕ) (id : NodeId) → slice_get ids i ≡ Some id → slice_get (map (tree_at rows) ids) i ≡ Some (tree_at rows id)
tree_of rows ids i id e = slice_get-map (tree_at rows) ids i ∙ ap (option_map (tree_at rows)) e

pub taken : (rows : List NodeRow) (n : ℕ) (ids : List NodeId) → are_nodes rows ids ≡ true → are_nodes rows (take n ids) ≡ true
taken rows zero ids h = refl
taken rows (suc n) [] h = refl
taken rows (suc n) (id ∷ ids) h =
    let b = and_parts (is_node rows id) (are_nodes rows ids) h in
    and_from (is_node rows id) (are_nodes rows (take n ids)) b.0 (taken rows n ids b.1)

pub dropped : (rows : List NodeRow) (n : ℕ) (ids : List NodeId) → are_nodes rows ids ≡ true → are_nodes rows (drop n ids) ≡ true
dropped rows zero ids h = h
dropped rows (suc n) [] h = refl
dropped rows (suc n) (id ∷ ids) h = dropped rows n ids (and_parts (is_node rows id) (are_nodes rows ids) h).1
