-- Facts on the nodes of a list.
use Rattle.std.proofs.Common.{◌≡◌, ℕ, ℤ, pos, Bool, true, false, if◌then◌else◌, nat_eq, zero, suc, ◌+◌, ◌-◌, ◌<◌, ◌≤◌, List, [], ◌∷◌, ◌++◌, length, map, take, drop, Some, refl, sym, ap, ◌∙◌, subst, arith, append-nil, length-append, get_or, Result, Ok, Err}
use Rattle.std.specs.Int.{w64}
use Rattle.std.specs.Prelude.{FitsSigned, slice_get, option_map, OnOk, OnErr}
use Rattle.netlist_pages.specs.declared.memory.NoMemory.{NoMemory}
use Rattle.std.specs.List.{list_any}
use Rattle.std.specs.Cmp.Lexicographic.{pointwise, same_text}
use Rattle.std.proofs.lemmas.List.{map-append, length-map, get_or_append_left, drop-map, take-map}
use Rattle.std.proofs.lemmas.Option.{slice_get_within, slice_get-map, slice_get_read}
use Rattle.indexmap.specs.IndexSet.{insert_key}
use Rattle.edif_spelling_spec.specs.Tree.{Placed, Form', Word', Integer', String'}
use Rattle.edif_tree.specs.Nodes.{FormOf, WordOf, IntegerOf, StringOf, Seen, NodeRow, Made, Stores, shape_of, row_of, IsWithin, AreWithin, AreMade, made_of, with_form, with_loose, IsAt, place_of}
use Rattle.edif_tree.specs.NodeLists.{EndedLists, with_end}
use Rattle.edif_tree.specs.Ranges.{ids_from}
use Rattle.edif_tree.specs.declared.stored.NodeId.{NodeId}
use Rattle.edif_tree.specs.declared.stored.StoredNode.{StoredNode}
use Rattle.edif_tree.specs.declared.stored.StoredKind.{StoredKind}
use Rattle.edif_tree.specs.declared.stored.StoredKind.TheVariants as kinds

-- a node is one of the list
pub node_in_rows : (rows : List NodeRow) (id : NodeId) (t : Placed) → IsAt rows id t → id.0 < length rows
node_in_rows rows id (Form' p ts) h = slice_get_within rows id.0 _ h.1
node_in_rows rows id (Word' p x) h = slice_get_within rows id.0 _ h
node_in_rows rows id (Integer' p x) h = slice_get_within rows id.0 _ h
node_in_rows rows id (String' p x) h = slice_get_within rows id.0 _ h

-- what is read at a node is the tree's
some_same : (p q : ℕ) → Some p ≡ Some q → p ≡ q
some_same p q e = cc

pub place_read : (rows : List NodeRow) (id : NodeId) (t : Placed) (place : ℕ) → option_map (λ (r : NodeRow). r.place) (slice_get rows id.0) ≡ Some place → IsAt rows id t → place ≡ place_of t
place_read rows id (Form' p ts) place e h = some_same place p (sym e ∙ ap (option_map (λ (r : NodeRow). r.place)) h.1)
place_read rows id (Word' p x) place e h = some_same place p (sym e ∙ ap (option_map (λ (r : NodeRow). r.place)) h)
place_read rows id (Integer' p x) place e h = some_same place p (sym e ∙ ap (option_map (λ (r : NodeRow). r.place)) h)
place_read rows id (String' p x) place e h = some_same place p (sym e ∙ ap (option_map (λ (r : NodeRow). r.place)) h)

-- each of the lists goes on
pub record Grow (old new : Stores) : Type 0 where
  pub arguments : (more : List (List NodeId)) × (new.arguments ≡ old.arguments ++ more)
  pub words : (more : List (List ℕ)) × (new.words ≡ old.words ++ more)
  pub integers : (more : List ℤ) × (new.integers ≡ old.integers ++ more)
  pub strings : (more : List (List ℕ)) × (new.strings ≡ old.strings ++ more)

module _ {A : Type 0} where
  -- a list that goes on is as long
  pub longer : (xs ys more : List A) → ys ≡ xs ++ more → length xs ≤ length ys
  longer xs ys more e = (let count = length-append xs more in let same = ap length e in omega arith)

  -- what is read of a list that goes on
  read_more : (d : A) (xs ys more : List A) (i : ℕ) → ys ≡ xs ++ more → i < length xs → get_or ys i d ≡ get_or xs i d
  read_more d xs ys more i e l = ap (λ v. get_or v i d) e ∙ get_or_append_left xs more d i l

  -- what is read within a list does not go by the default
  pub read_within : (d x : A) (xs : List A) (i : ℕ) → i < length xs → get_or xs i x ≡ get_or xs i d
  read_within d x [] i l = absurd (omega arith)
  read_within d x (y ∷ ys) zero l = refl
  read_within d x (y ∷ ys) (suc i) l = read_within d x ys i (omega arith)

  -- what is got is read
  pub read_got : (d x : A) (xs : List A) (i : ℕ) → slice_get xs i ≡ Some x → get_or xs i d ≡ x
  read_got d x [] i e = absurd (cc e)
  read_got d x (y ∷ ys) zero e = cc e
  read_got d x (y ∷ ys) (suc i) e = read_got d x ys i e

  -- the last of a list is read
  pub read_last : (d x : A) (xs ys : List A) (i : ℕ) → ys ≡ xs ++ x ∷ [] → i ≡ length xs → (i < length ys) × (get_or ys i d ≡ x)
  read_last d x xs ys i e at = (let count = length-append xs (x ∷ []) in let same = ap length e in omega arith, ap (λ v. get_or v i d) e ∙ ap (λ n. get_or (xs ++ x ∷ []) n d) at ∙ last xs)
    where
      last : (zs : List A) → get_or (zs ++ x ∷ []) (length zs) d ≡ x
      last [] = refl
      last (z ∷ zs) = last zs

-- what a node names stays within lists that go on, and stays the same
within_more : (s t : Stores) (kind : StoredKind) → Grow s t → IsWithin s kind → IsWithin t kind
within_more s t (kinds.Form i) g h = (let c = longer s.arguments t.arguments g.arguments.0 g.arguments.1 in omega arith)
within_more s t (kinds.Word i) g h = (let c = longer s.words t.words g.words.0 g.words.1 in omega arith)
within_more s t (kinds.Integer i) g h =
    let c = longer s.integers t.integers g.integers.0 g.integers.1 in
    let l = h.0 in
    let F : ℤ → Type 0 = FitsSigned w64 in
    (omega arith, subst F (sym (read_more (pos 0) s.integers t.integers g.integers.0 i g.integers.1 l)) h.1)
within_more s t (kinds.String i) g h = (let c = longer s.strings t.strings g.strings.0 g.strings.1 in omega arith)

pub are_within_more : (s t : Stores) (nodes : List StoredNode) → Grow s t → AreWithin s nodes → AreWithin t nodes
are_within_more s t [] g h = tt
are_within_more s t (node ∷ nodes) g h = (within_more s t node.kind g h.0, are_within_more s t nodes g h.1)

shape_more : (s t : Stores) (kind : StoredKind) → Grow s t → IsWithin s kind → shape_of t kind ≡ shape_of s kind
shape_more s t (kinds.Form i) g h = ap FormOf (read_more [] s.arguments t.arguments g.arguments.0 i g.arguments.1 h)
shape_more s t (kinds.Word i) g h = ap WordOf (read_more [] s.words t.words g.words.0 i g.words.1 h)
shape_more s t (kinds.Integer i) g h = ap IntegerOf (read_more (pos 0) s.integers t.integers g.integers.0 i g.integers.1 h.0)
shape_more s t (kinds.String i) g h = ap StringOf (read_more [] s.strings t.strings g.strings.0 i g.strings.1 h)

rows_more : (s t : Stores) (nodes : List StoredNode) → Grow s t → AreWithin s nodes → map (row_of t) nodes ≡ map (row_of s) nodes
rows_more s t [] g h = refl
rows_more s t (node ∷ nodes) g h =
    let row : row_of t node ≡ row_of s node = ap (λ v. let r : NodeRow = record { place = node.place; shape = v } in r) (shape_more s t node.kind g h.0) in
    ap (λ v. v ∷ map (row_of t) nodes) row ∙ ap (λ v. row_of s node ∷ v) (rows_more s t nodes g h.1)

are_within_push : (s : Stores) (nodes : List StoredNode) (node : StoredNode) → AreWithin s nodes → IsWithin s node.kind → AreWithin s (nodes ++ node ∷ [])
are_within_push s [] node h k = (k, tt)
are_within_push s (first ∷ nodes) node h k = (h.0, are_within_push s nodes node h.1 k)

-- a node behind the others, where the lists went on
pub node_pushed : (s t : Stores) (nodes all : List StoredNode) (node : StoredNode) (shape : Seen) → Grow s t → all ≡ nodes ++ node ∷ [] → IsWithin t node.kind → shape_of t node.kind ≡ shape → AreWithin s nodes
    → AreWithin t all × (map (row_of t) all ≡ map (row_of s) nodes ++ record { place = node.place; shape = shape } ∷ [])
node_pushed s t nodes all node shape g pushed within is h =
    let W : List StoredNode → Type 0 = AreWithin t in (
      subst W (sym pushed) (are_within_push t nodes node (are_within_more s t nodes g h) within),
      ap (map (row_of t)) pushed ∙ map-append (row_of t) nodes (node ∷ [])
          ∙ ap (λ v. v ++ row_of t node ∷ []) (rows_more s t nodes g h)
          ∙ ap (λ v. map (row_of s) nodes ++ record { place = node.place; shape = v } ∷ []) is,
    )

-- a list that stays goes on
pub stays : {A : Type 0} (xs : List A) → (more : List A) × (xs ≡ xs ++ more)
stays xs = ([], sym (append-nil xs))

-- what stands beside the nodes goes on
pub made_more : (s t : Stores) (end : ℕ) (nodes loose : List StoredNode) → Grow s t → AreMade s end nodes loose → AreMade t end nodes loose
made_more s t end nodes loose g h = record { held = are_within_more s t nodes g h.held; free = are_within_more s t loose g h.free; ended = h.ended }

-- what an answer says of a loose node behind the others
pub record Added (t : Stores) (end : ℕ) (nodes all : List StoredNode) (made : Made) (row : NodeRow) (result : Result (Unit {0}) NoMemory) : Type 0 where
  pub within : AreMade t end nodes all
  pub ok : OnOk result (made_of t nodes all ≡ with_loose made row)

pub added : (s t : Stores) (end : ℕ) (nodes loose all : List StoredNode) (made : Made) (place : ℕ) (kind : StoredKind) (shape : Seen) (result : Result (Unit {0}) NoMemory) → made_of s nodes loose ≡ made → AreMade s end nodes loose → Grow s t → IsWithin t kind → shape_of t kind ≡ shape
    → OnOk result (all ≡ loose ++ record { place = place; kind = kind } ∷ []) → OnErr result (all ≡ loose) → Added t end nodes all made (record { place = place; shape = shape }) result
added s t end nodes loose all made place kind shape (Ok u) view h g within is pushed same =
    let node : StoredNode = record { place = place; kind = kind } in
    let row : NodeRow = record { place = place; shape = shape } in
    let done = node_pushed s t loose all node shape g pushed within is h.free in
    let rows = rows_more s t nodes g h.held in
    let one : made_of t nodes all ≡ with_loose (made_of s nodes loose) row = λ j. record { rows = rows j; loose = done.1 j } in
    record {
      within = record { held = are_within_more s t nodes g h.held; free = done.0; ended = h.ended };
      ok = one ∙ ap (λ m. with_loose m row) view;
    }
added s t end nodes loose all made place kind shape (Err e) view h g within is pushed same =
    let W : List StoredNode → Type 0 = AreWithin t in
    record { within = record { held = are_within_more s t nodes g h.held; free = subst W (sym same) (are_within_more s t loose g h.free); ended = h.ended }; ok = tt }

-- nodes within lists, some of them and more
within_append : (s : Stores) (xs ys : List StoredNode) → AreWithin s xs → AreWithin s ys → AreWithin s (xs ++ ys)
within_append s [] ys h k = k
within_append s (x ∷ xs) ys h k = (h.0, within_append s xs ys h.1 k)

within_drop : (s : Stores) (n : ℕ) (xs : List StoredNode) → AreWithin s xs → AreWithin s (drop n xs)
within_drop s zero xs h = h
within_drop s (suc n) [] h = h
within_drop s (suc n) (x ∷ xs) h = within_drop s n xs h.1

within_take : (s : Stores) (n : ℕ) (xs : List StoredNode) → AreWithin s xs → AreWithin s (take n xs)
within_take s zero xs h = tt
within_take s (suc n) [] h = tt
within_take s (suc n) (x ∷ xs) h = (h.0, within_take s n xs h.1)

-- The loose nodes from a place on come behind the others: what stands then.
pub record Moved (s t : Stores) (end : ℕ) (nodes loose all : List StoredNode) (made : Made) (start : ℕ) : Type 0 where
  pub within : AreMade t end all (take start loose)
  pub is : made_of t all (take start loose) ≡ record { rows = made.rows ++ drop start made.loose; loose = take start made.loose }
  pub first : length nodes ≡ length made.rows
  pub count : length (drop start loose) ≡ length (drop start made.loose)

pub moved : (s t : Stores) (was end : ℕ) (nodes loose all : List StoredNode) (made : Made) (start : ℕ) → made_of s nodes loose ≡ made → AreMade s was nodes loose → Grow s t → all ≡ nodes ++ drop start loose → end ≡ length all → Moved s t end nodes loose all made start
moved s t was end nodes loose all made start view h g pushed e =
    let W : List StoredNode → Type 0 = AreWithin t in
    let held = are_within_more s t nodes g h.held in
    let free = are_within_more s t loose g h.free in
    let R : List StoredNode → List NodeRow = map (row_of t) in
    let nodes_are : R nodes ≡ made.rows = rows_more s t nodes g h.held ∙ ap (λ m. m.rows) view in
    let loose_are : R loose ≡ made.loose = rows_more s t loose g h.free ∙ ap (λ m. m.loose) view in
    let rest_are : R (drop start loose) ≡ drop start made.loose = sym (drop-map (row_of t) start loose) ∙ ap (drop start) loose_are in
    let rows : R all ≡ made.rows ++ drop start made.loose =
    ap R pushed ∙ (map-append (row_of t) nodes (drop start loose) ∙ (ap (λ v. v ++ R (drop start loose)) nodes_are ∙ ap (λ v. made.rows ++ v) rest_are)) in
    let front : R (take start loose) ≡ take start made.loose = sym (take-map (row_of t) start loose) ∙ ap (take start) loose_are in
    record {
      within = record { held = subst W (sym pushed) (within_append t nodes (drop start loose) held (within_drop t start loose free)); free = within_take t start loose free; ended = e };
      is = λ j. record { rows = rows j; loose = front j };
      first = sym (length-map nodes (row_of t)) ∙ ap length nodes_are;
      count = sym (length-map (drop start loose) (row_of t)) ∙ ap length rest_are;
    }

-- all nodes, the loose ones last
pub all_made : (s : Stores) (end : ℕ) (nodes loose all : List StoredNode) (made : Made) → made_of s nodes loose ≡ made → AreMade s end nodes loose → all ≡ nodes ++ loose → AreWithin s all × (map (row_of s) all ≡ made.rows ++ made.loose)
all_made s end nodes loose all made view h e =
    let W : List StoredNode → Type 0 = AreWithin s in (
      subst W (sym e) (within_append s nodes loose h.held h.free),
      ap (map (row_of s)) e ∙ (map-append (row_of s) nodes loose ∙ ap (λ m. m.rows ++ m.loose) view),
    )

-- the loose node of a form whose arguments were moved
pub record FormAdded (t : Stores) (end : ℕ) (all last : List StoredNode) (made : Made) (place start : ℕ) (result : Result (Unit {0}) NoMemory) : Type 0 where
  pub within : AreMade t end all last
  pub ok : OnOk result (made_of t all last ≡ with_form made place start)

pub form_added : (old : EndedLists) (words : List (List ℕ)) (integers : List ℤ) (strings : List (List ℕ)) (nodes loose all left last : List StoredNode) (made : Made) (place start at : ℕ) (new : EndedLists) (result : Result (Unit {0}) NoMemory)
    → made_of (record { arguments = old.lists; words = words; integers = integers; strings = strings }) nodes loose ≡ made → AreMade (record { arguments = old.lists; words = words; integers = integers; strings = strings }) old.end nodes loose → at ≡ length old.lists
    → all ≡ nodes ++ drop start loose → new ≡ with_end old (length all) → left ≡ take start loose → OnOk result (last ≡ left ++ record { place = place; kind = kinds.Form at } ∷ []) → OnErr result (last ≡ left)
    → FormAdded (record { arguments = new.lists; words = words; integers = integers; strings = strings }) new.end all last made place start result
form_added old words integers strings nodes loose all left last made place start at new result view h number pushed grown kept ok err =
    let beside : List (List NodeId) → Stores = λ v. record { arguments = v; words = words; integers = integers; strings = strings } in
    let s : Stores = beside old.lists in
    let t : Stores = beside new.lists in
    let ids : List NodeId = ids_from old.end (length all - old.end) in
    let lists : new.lists ≡ old.lists ++ ids ∷ [] = ap (λ l. l.lists) grown in
    let end : new.end ≡ length all = ap (λ l. l.end) grown in
    let g : Grow s t = record { arguments = (ids ∷ [], lists); words = stays words; integers = stays integers; strings = stays strings } in
    let m = moved s t old.end new.end nodes loose all made start view h g pushed end in
    let P : List StoredNode → Type 0 = λ v. AreMade t new.end all v in
    let last_list = read_last [] ids old.lists new.lists at lists number in
    let first : old.end ≡ length made.rows = h.ended ∙ m.first in
    let long : length all ≡ length nodes + length (drop start loose) = ap length pushed ∙ length-append nodes (drop start loose) in
    let start_is = h.ended in
    let count : length all - old.end ≡ length (drop start made.loose) = omega (arith, long, start_is, m.count) in
    let same : ids ≡ ids_from (length made.rows) (length (drop start made.loose)) = ap (λ v. ids_from v (length all - old.end)) first ∙ ap (ids_from (length made.rows)) count in
    let shape : shape_of t (kinds.Form at) ≡ FormOf (ids_from (length made.rows) (length (drop start made.loose))) = ap FormOf (last_list.1 ∙ same) in
    let now : Made = record { rows = made.rows ++ drop start made.loose; loose = take start made.loose } in
    let is : made_of t all left ≡ now = ap (made_of t all) kept ∙ m.is in
    let none : Grow t t = record { arguments = stays new.lists; words = stays words; integers = stays integers; strings = stays strings } in
    let a = added t t new.end all left last now place (kinds.Form at) (FormOf (ids_from (length made.rows) (length (drop start made.loose)))) result is (subst P (sym kept) m.within) none last_list.0 shape ok err in
    record { within = a.within; ok = a.ok }

-- the words after one more, and where it stands
pub words_grow : (name : List ℕ) (old new : List (List ℕ)) → new ≡ insert_key (pointwise nat_eq) old name → (more : List (List ℕ)) × (new ≡ old ++ more)
words_grow name old new e = by (list_any (pointwise nat_eq name) old) refl
  where
    by : (b : Bool) → list_any (pointwise nat_eq name) old ≡ b → (more : List (List ℕ)) × (new ≡ old ++ more)
    by true is = ([], e ∙ ap (λ b. if b then old else old ++ name ∷ []) is ∙ sym (append-nil old))
    by false is = (name ∷ [], e ∙ ap (λ b. if b then old else old ++ name ∷ []) is)

pub word_read_back : (name : List ℕ) (words : List (List ℕ)) (i j : ℕ) → j ≡ i → (k : List ℕ) × (slice_get words i ≡ Some k) × (pointwise nat_eq name k ≡ true) → (j < length words) × (get_or words j [] ≡ name)
word_read_back name words i j same h =
    let within = slice_get_within words i h.0 h.1 in
    (omega arith, ap (λ n. get_or words n []) same ∙ read_got [] h.0 words i h.1 ∙ sym (same_text name h.0 (sym h.2)))

-- what is read of a node in the list
at_node : (s : Stores) (nodes : List StoredNode) (i : ℕ) (x : StoredNode) → i < length nodes → x ≡ get_or nodes i x → slice_get (map (row_of s) nodes) i ≡ Some (row_of s x)
at_node s nodes i x l e = slice_get-map (row_of s) nodes i ∙ ap (option_map (row_of s)) (slice_get_read nodes (length nodes) i x refl l e)

pub within_at : (s : Stores) (nodes : List StoredNode) (i : ℕ) (x : StoredNode) → i < length nodes → AreWithin s nodes → IsWithin s (get_or nodes i x).kind
within_at s [] i x l h = absurd (omega arith)
within_at s (node ∷ nodes) zero x l h = h.0
within_at s (node ∷ nodes) (suc i) x l h = within_at s nodes i x (omega arith) h.1

-- the node that is looked at: its place, its shape, and that what it names lies within the lists
pub record Looked (s : Stores) (rows : List NodeRow) (i : ℕ) (x : StoredNode) (kind : StoredKind) : Type 0 where
  pub place : option_map (λ (r : NodeRow). r.place) (slice_get rows i) ≡ Some x.place
  pub shape : option_map (λ (r : NodeRow). r.shape) (slice_get rows i) ≡ Some (shape_of s kind)
  pub within : IsWithin s kind

pub looked : (s : Stores) (nodes : List StoredNode) (rows : List NodeRow) (i : ℕ) (x : StoredNode) (kind : StoredKind) → map (row_of s) nodes ≡ rows → i < length rows → x ≡ get_or nodes i x → x.kind ≡ kind → AreWithin s nodes → Looked s rows i x kind
looked s nodes rows i x kind view l e k h =
    let count : i < length nodes = (let same = ap length view in omega (arith, length-map nodes (row_of s))) in
    let W : StoredKind → Type 0 = IsWithin s in
    record {
      place = ap (λ v. option_map (λ (r : NodeRow). r.place) (slice_get v i)) (sym view) ∙ ap (option_map (λ (r : NodeRow). r.place)) (at_node s nodes i x count e);
      shape = ap (λ v. option_map (λ (r : NodeRow). r.shape) (slice_get v i)) (sym view) ∙ (ap (option_map (λ (r : NodeRow). r.shape)) (at_node s nodes i x count e) ∙ ap (λ v. Some (shape_of s v)) k);
      within = subst W (ap (λ n. n.kind) (sym e) ∙ k) (within_at s nodes i x count h);
    }
