-- What stands after one more token.
use Rattle.std.proofs.Common.{true, ◌≡◌, ℕ, zero, suc, ◌<◌, ◌≤◌, inl, inr, ⊎_elim, List, [], ◌∷◌, ◌++◌, length, take, drop, Some, refl, sym, ap, ◌∙◌, subst, arith, append_assoc, append-nil, length-append}
use Rattle.std.specs.Prelude.{slice_get}
use Rattle.netlist_schema.proofs.Lists.{drop_front, take_front}
use Rattle.edif_spelling_spec.specs.Tree.{Placed, Trees, Form', Word', Integer', String', End, More}
use Rattle.edif_spelling_spec.specs.TreeFaults.{token_at, Lists, ListsAll, tree_fault}
use Rattle.edif_spelling_spec.specs.declared.token.Token.{Token}
use Rattle.edif_spelling_spec.specs.declared.token.TokenKind.{TokenKind}
use Rattle.edif_spelling_spec.specs.declared.token.TokenKind.TheVariants.{LeftParen, RightParen, Word, Integer, String}
use Rattle.edif_tree.specs.Nodes.{FormOf, Made, NodeRow, IsAt, AreAt, with_form, with_loose}
use Rattle.edif_tree.specs.Order.{in_order_from}
use Rattle.edif_tree.proofs.OrderLemmas.{pushed, row_before}
use Rattle.edif_tree.specs.Making.{IsLeaf, leaf_of, Level, AreRows, IsRow, InForms, fault_from, HasRead, CanCome}
use Rattle.edif_tree.specs.Ranges.{ids_from}
use Rattle.edif_tree.specs.declared.stored.NodeId.{NodeId}
use Rattle.edif_tree.specs.declared.making.OpenForm.{OpenForm}
use Rattle.edif_tree.specs.declared.making.Making.{Making}
use Rattle.edif_tree.proofs.FaultSteps.{next_fault, left_next, token_next, right_next}

-- rows stay at their places
pub row_stays : (rows more : List NodeRow) (i : ℕ) (r : NodeRow) → slice_get rows i ≡ Some r → slice_get (rows ++ more) i ≡ Some r
row_stays [] more i r e = absurd (cc e)
row_stays (x ∷ rows) more zero r e = e
row_stays (x ∷ rows) more (suc i) r e = row_stays rows more i r e

pub row_last : (rows : List NodeRow) (r : NodeRow) (i : ℕ) → i ≡ length rows → slice_get (rows ++ r ∷ []) i ≡ Some r
row_last rows r i e = ap (slice_get (rows ++ r ∷ [])) e ∙ go rows
  where
    go : (rows : List NodeRow) → slice_get (rows ++ r ∷ []) (length rows) ≡ Some r
    go [] = refl
    go (x ∷ rows) = go rows

mutual
  pub at_stays : (t : Placed) (rows more : List NodeRow) (id : NodeId) → IsAt rows id t → IsAt (rows ++ more) id t
  at_stays (Form' p ts) rows more id h = (h.0, row_stays rows more id.0 _ h.1, all_stay ts rows more h.0 h.2)
  at_stays (Word' p x) rows more id h = row_stays rows more id.0 _ h
  at_stays (Integer' p x) rows more id h = row_stays rows more id.0 _ h
  at_stays (String' p x) rows more id h = row_stays rows more id.0 _ h

  pub all_stay : (ts : Trees ℕ) (rows more : List NodeRow) (ids : List NodeId) → AreAt rows ids ts → AreAt (rows ++ more) ids ts
  all_stay End rows more [] h = tt
  all_stay End rows more (id ∷ ids) h = absurd h
  all_stay (More t ts) rows more [] h = absurd h
  all_stay (More t ts) rows more (id ∷ ids) h = (at_stays t rows more id h.0, all_stay ts rows more ids h.1)

-- a row of a tree: it stays one, and stands at the node where it comes to stand
pub row_is_still : (t : Placed) (rows more : List NodeRow) (row : NodeRow) → IsRow rows row t → IsRow (rows ++ more) row t
row_is_still (Form' p ts) rows more row h = (h.0, h.1, all_stay ts rows more h.0 h.2)
row_is_still (Word' p x) rows more row h = h
row_is_still (Integer' p x) rows more row h = h
row_is_still (String' p x) rows more row h = h

rows_are_still : (ts : Trees ℕ) (rows more loose : List NodeRow) → AreRows rows loose ts → AreRows (rows ++ more) loose ts
rows_are_still End rows more [] h = tt
rows_are_still End rows more (row ∷ loose) h = absurd h
rows_are_still (More t ts) rows more [] h = absurd h
rows_are_still (More t ts) rows more (row ∷ loose) h = (row_is_still t rows more row h.0, rows_are_still ts rows more loose h.1)

pub row_placed : (t : Placed) (rows : List NodeRow) (id : NodeId) (row : NodeRow) → slice_get rows id.0 ≡ Some row → IsRow rows row t → IsAt rows id t
row_placed (Form' p ts) rows id row e h = (h.0, e ∙ ap Some h.1, h.2)
row_placed (Word' p x) rows id row e h = e ∙ ap Some h
row_placed (Integer' p x) rows id row e h = e ∙ ap Some h
row_placed (String' p x) rows id row e h = e ∙ ap Some h

row_there : (front rest : List NodeRow) (row : NodeRow) → slice_get (front ++ row ∷ rest) (length front) ≡ Some row
row_there [] rest row = refl
row_there (x ∷ front) rest row = row_there front rest row

-- rows side by side stand at nodes side by side
side_by_side : (ts : Trees ℕ) (front loose all : List NodeRow) (n : ℕ) → all ≡ front ++ loose → n ≡ length front → AreRows all loose ts → AreAt all (ids_from n (length loose)) ts
side_by_side End front [] all n e l h = tt
side_by_side End front (row ∷ loose) all n e l h = absurd h
side_by_side (More t ts) front [] all n e l h = absurd h
side_by_side (More t ts) front (row ∷ loose) all n e l h =
    let at : slice_get all n ≡ Some row = ap (λ v. slice_get v n) e ∙ (ap (slice_get (front ++ row ∷ loose)) l ∙ row_there front loose row) in
    let whole : all ≡ (front ++ row ∷ []) ++ loose = e ∙ sym (append_assoc front (row ∷ []) loose) in
    let next : suc n ≡ length (front ++ row ∷ []) = (let c = length-append front (row ∷ []) in omega (arith, c, l)) in
    (row_placed t all (record { 0 = n }) row at h.0, side_by_side ts (front ++ row ∷ []) loose all (suc n) whole next h.1)

moved_rows : (ts : Trees ℕ) (rows loose : List NodeRow) → AreRows rows loose ts → AreAt (rows ++ loose) (ids_from (length rows) (length loose)) ts
moved_rows ts rows loose h = side_by_side ts rows loose (rows ++ loose) (length rows) refl refl (rows_are_still ts rows loose loose h)

-- and they are in order behind the others
moved_order : (ts : Trees ℕ) (rows loose : List NodeRow) → in_order_from 0 rows ≡ true → AreRows rows loose ts → in_order_from 0 (rows ++ loose) ≡ true
moved_order End rows [] o h = let P : List NodeRow → Type 0 = λ v. in_order_from 0 v ≡ true in subst P (sym (append-nil rows)) o
moved_order End rows (row ∷ loose) o h = absurd h
moved_order (More t ts) rows [] o h = absurd h
moved_order (More t ts) rows (row ∷ loose) o h =
    let P : List NodeRow → Type 0 = λ v. in_order_from 0 v ≡ true in
    subst P (append_assoc rows (row ∷ []) loose)
    (moved_order ts (rows ++ row ∷ []) loose (pushed rows (rows ++ row ∷ []) row refl o (row_before rows row t h.0)) (rows_are_still ts rows (row ∷ []) loose h.1))

-- one more argument
abbrev pub with_last : Trees ℕ → Placed → Trees ℕ
with_last End t = More t End
with_last (More first rest) t = More first (with_last rest t)

all_rows_last : (rows : List NodeRow) (ts : Trees ℕ) (loose : List NodeRow) (t : Placed) (row : NodeRow) → AreRows rows loose ts → IsRow rows row t → AreRows rows (loose ++ row ∷ []) (with_last ts t)
all_rows_last rows End [] t row h k = (k, tt)
all_rows_last rows End (x ∷ loose) t row h k = absurd h
all_rows_last rows (More first rest) [] t row h k = absurd h
all_rows_last rows (More first rest) (x ∷ loose) t row h k = (h.0, all_rows_last rows rest loose t row h.1 k)

lists_last : (ts : Trees ℕ) (a b : List Token) (t : Placed) → ListsAll a ts → Lists b t → ListsAll (a ++ b) (with_last ts t)
lists_last End a b t h k = (b, [], ap (λ v. v ++ b) h ∙ sym (append-nil b), k, refl)
lists_last (More first rest) a b t h k = (h.0, h.1 ++ b, ap (λ v. v ++ b) h.2 ∙ append_assoc h.0 h.1 b, h.3, lists_last rest h.1 b t h.4 k)

pub forms_stay : (levels : List Level) (rows more : List NodeRow) (forms : List OpenForm) (loose : List NodeRow) (read : List Token) → InForms rows levels forms loose read → InForms (rows ++ more) levels forms loose read
forms_stay [] rows more forms loose read h = h
forms_stay (level ∷ levels) rows more forms loose read h = record {
  outer = h.outer;
  others = h.others;
  inside = h.inside;
  before = h.before;
  inner = h.inner;
  opened = h.opened;
  nodes = h.nodes;
  parts = h.parts;
  standing = rows_are_still level.arguments rows more h.inside h.standing;
  listed = h.listed;
  round = forms_stay levels rows more h.outer h.others h.before h.round;
}

pub forms_count : (levels : List Level) (rows : List NodeRow) (forms : List OpenForm) (loose : List NodeRow) (read : List Token) → InForms rows levels forms loose read → length forms ≡ length levels
forms_count [] rows forms loose read h = ap length h.0
forms_count (level ∷ levels) rows forms loose read h =
    let outer = forms_count levels rows h.outer h.others h.before h.round in
    let last : OpenForm = record { place = level.place; start = length h.others } in
    let opened = ap length h.opened in
    let whole = length-append h.outer (last ∷ []) in
    omega arith

-- a form begins
begun : (levels : List Level) (rows : List NodeRow) (forms : List OpenForm) (loose : List NodeRow) (read : List Token) (place : ℕ) → InForms rows levels forms loose read
    → InForms rows (record { place = place; arguments = End } ∷ levels) (forms ++ record { place = place; start = length loose } ∷ []) loose (read ++ token_at LeftParen place ∷ [])
begun levels rows forms loose read place h = record {
  outer = forms;
  others = loose;
  inside = [];
  before = read;
  inner = [];
  opened = refl;
  nodes = sym (append-nil loose);
  parts = refl;
  standing = tt;
  listed = refl;
  round = h;
}

-- a node is added to the innermost form
added : (level : Level) (levels : List Level) (rows : List NodeRow) (forms : List OpenForm) (loose : List NodeRow) (read : List Token) (row : NodeRow) (t : Placed) (b : List Token) → InForms rows (level ∷ levels) forms loose read → IsRow rows row t → Lists b t
    → InForms rows (record { place = level.place; arguments = with_last level.arguments t } ∷ levels) forms (loose ++ row ∷ []) (read ++ b)
added level levels rows forms loose read row t b h at l = record {
  outer = h.outer;
  others = h.others;
  inside = h.inside ++ row ∷ [];
  before = h.before;
  inner = h.inner ++ b;
  opened = h.opened;
  nodes = ap (λ v. v ++ row ∷ []) h.nodes ∙ append_assoc h.others h.inside (row ∷ []);
  parts = ap (λ v. v ++ b) h.parts ∙ append_assoc h.before (token_at LeftParen level.place ∷ h.inner) b;
  standing = all_rows_last rows level.arguments h.inside t row h.standing at;
  listed = lists_last level.arguments h.inner b t h.listed l;
  round = h.round;
}

-- the last of a list that isn't empty
pub same_last : (xs ys : List OpenForm) (x y : OpenForm) → xs ++ x ∷ [] ≡ ys ++ y ∷ [] → (xs ≡ ys) × (x ≡ y)
same_last [] [] x y e = (let same : x ≡ y = cc e in (refl, same))
same_last [] (b ∷ []) x y e = absurd (cc e)
same_last [] (b ∷ c ∷ ys) x y e = absurd (cc e)
same_last (a ∷ []) [] x y e = absurd (cc e)
same_last (a ∷ c ∷ xs) [] x y e = absurd (cc e)
same_last (a ∷ xs) (b ∷ ys) x y e =
    let head : a ≡ b = cc e in
    let rest : xs ++ x ∷ [] ≡ ys ++ y ∷ [] = cc e in
    let inner = same_last xs ys x y rest in
    (ap (λ v. v ∷ xs) head ∙ ap (λ v. b ∷ v) inner.0, inner.1)

pub last_not_empty : (xs ys : List OpenForm) (x : OpenForm) → ys ≡ [] → ys ≡ xs ++ x ∷ [] → ⊥
last_not_empty [] ys x e f = (let both = sym e ∙ f in cc)
last_not_empty (a ∷ xs) ys x e f = (let both = sym e ∙ f in cc)

-- nothing is open behind the file's form, and one node stands there
pub none_loose : (forms : List OpenForm) (loose : List NodeRow) (row : NodeRow) → (length forms ≡ 0 → length loose ≡ 0) → forms ≡ [] → loose ≡ row ∷ [] → ⊥
none_loose forms loose row can f l =
    let empty = can (ap length f) in
    let one = ap length l in omega arith

-- a `(` was read
pub read_left : (old new : Making) (place : ℕ) (ts : List Token) → CanCome LeftParen old → new.nodes ≡ old.nodes
    → new.forms.items ≡ old.forms.items ++ record { place = place; start = length old.nodes.loose } ∷ []
    → HasRead old ts → HasRead new (ts ++ token_at LeftParen place ∷ [])
read_left old new place ts can nodes forms h = ⊎_elim
    (λ o.
    let count = forms_count o.levels old.nodes.rows old.forms.items old.nodes.loose ts o.forms in
    let room : length o.levels < 256 = (let few = can.0 in omega arith) in
    let level : Level = record { place = place; arguments = End } in
    let R : Made → Type 0 = λ m. InForms m.rows (level ∷ o.levels) new.forms.items m.loose (ts ++ token_at LeftParen place ∷ []) in
    let S : List OpenForm → Type 0 = λ f. InForms old.nodes.rows (level ∷ o.levels) f old.nodes.loose (ts ++ token_at LeftParen place ∷ []) in
    let Q : Made → Type 0 = λ v. in_order_from 0 v.rows ≡ true in
    inl (record {
      levels = level ∷ o.levels;
      order = subst Q (sym nodes) o.order;
      forms = subst R (sym nodes) (subst S (sym forms) (begun o.levels old.nodes.rows old.forms.items old.nodes.loose ts place o.forms));
      faults = λ rest end. next_fault ts (token_at LeftParen place) (fault_from (length o.levels)) o.faults rest end ∙ left_next (length o.levels) place rest end room;
    }))
    (λ k. absurd (none_loose old.forms.items old.nodes.loose k.row can.1 k.forms k.loose))
    h

-- a token of the innermost form was read
token_lists : (place : ℕ) (kind : TokenKind) → IsLeaf kind → (t : Placed) × Lists (token_at kind place ∷ []) t × ((rows : List NodeRow) → IsRow rows (record { place = place; shape = leaf_of kind }) t)
token_lists place LeftParen h = absurd h
token_lists place RightParen h = absurd h
token_lists place (Word x) h = (Word' place x, refl, (λ rows. refl))
token_lists place (Integer x) h = (Integer' place x, refl, (λ rows. refl))
token_lists place (String x) h = (String' place x, refl, (λ rows. refl))

token_added : (levels : List Level) (rows : List NodeRow) (forms : List OpenForm) (loose : List NodeRow) (read : List Token) (row : NodeRow) (t : Placed) (b : List Token) → 0 < length forms → InForms rows levels forms loose read → IsRow rows row t → Lists b t
    → (after : List Level) × InForms rows after forms (loose ++ row ∷ []) (read ++ b) × (length after ≡ length levels) × (0 < length levels)
token_added [] rows forms loose read row t b l h at k = (let none = ap length h.0 in absurd (omega arith))
token_added (level ∷ levels) rows forms loose read row t b l h at k = (record { place = level.place; arguments = with_last level.arguments t } ∷ levels, added level levels rows forms loose read row t b h at k, refl, omega arith)

pub read_token : (old new : Making) (place : ℕ) (kind : TokenKind) (ts : List Token) → IsLeaf kind → 0 < length old.forms.items
    → new.nodes ≡ with_loose old.nodes (record { place = place; shape = leaf_of kind }) → new.forms.items ≡ old.forms.items → HasRead old ts → HasRead new (ts ++ token_at kind place ∷ [])
read_token old new place kind ts token some nodes forms h = ⊎_elim
    (λ o.
    let row : NodeRow = record { place = place; shape = leaf_of kind } in
    let t = token_lists place kind token in
    let tok : Token = token_at kind place in
    let next = token_added o.levels old.nodes.rows old.forms.items old.nodes.loose ts row t.0 (tok ∷ []) some o.forms (t.2 old.nodes.rows) t.1 in
    let R : Made → Type 0 = λ m. InForms m.rows next.0 new.forms.items m.loose (ts ++ tok ∷ []) in
    let S : List OpenForm → Type 0 = λ f. InForms old.nodes.rows next.0 f (old.nodes.loose ++ row ∷ []) (ts ++ tok ∷ []) in
    let Q : Made → Type 0 = λ v. in_order_from 0 v.rows ≡ true in
    inl (record {
      levels = next.0;
      order = subst Q (sym nodes) o.order;
      forms = subst R (sym nodes) (subst S (sym forms) next.1);
      faults = λ rest end.
          next_fault ts tok (fault_from (length o.levels)) o.faults rest end
          ∙ (token_next (length o.levels) place kind rest end token next.3 ∙ ap (λ n. fault_from n rest end) (sym next.2));
    }))
    (λ k. (let none = ap length k.forms in absurd (omega arith)))
    h

-- the innermost form was closed
form_listed : (place end : ℕ) (inner : List Token) (ts : Trees ℕ) → ListsAll inner ts → Lists (token_at LeftParen place ∷ (inner ++ token_at RightParen end ∷ [])) (Form' place ts)
form_listed place end inner ts h = (inner, end, refl, h)

pub closed_parts : (level : Level) (levels : List Level) (rows : List NodeRow) (forms front : List OpenForm) (form : OpenForm) (loose : List NodeRow) (read : List Token) → forms ≡ front ++ form ∷ [] → (h : InForms rows (level ∷ levels) forms loose read)
    → (h.outer ≡ front) × (level.place ≡ form.place) × (length h.others ≡ form.start) × (take form.start loose ≡ h.others) × (drop form.start loose ≡ h.inside)
closed_parts level levels rows forms front form loose read e h =
    let last : OpenForm = record { place = level.place; start = length h.others } in
    let both = same_last h.outer front last form (sym h.opened ∙ e) in
    let start : length h.others ≡ form.start = ap (λ f. f.start) both.1 in (
      both.0,
      ap (λ f. f.place) both.1,
      start,
      ap (take form.start) h.nodes ∙ (ap (λ n. take n (h.others ++ h.inside)) (sym start) ∙ take_front h.others h.inside),
      ap (drop form.start) h.nodes ∙ (ap (λ n. drop n (h.others ++ h.inside)) (sym start) ∙ drop_front h.others h.inside),
    )

-- the row of a form whose arguments are moved
form_stands : (level : Level) (rows inside : List NodeRow) → AreRows rows inside level.arguments → IsRow (rows ++ inside) (record { place = level.place; shape = FormOf (ids_from (length rows) (length inside)) }) (Form' level.place level.arguments)
form_stands level rows inside h = (ids_from (length rows) (length inside), refl, moved_rows level.arguments rows inside h)

closed_read : (read before inner : List Token) (place end : ℕ) → read ≡ before ++ token_at LeftParen place ∷ inner → read ++ token_at RightParen end ∷ [] ≡ before ++ token_at LeftParen place ∷ (inner ++ token_at RightParen end ∷ [])
closed_read read before inner place end e = ap (λ v. v ++ token_at RightParen end ∷ []) e ∙ append_assoc before (token_at LeftParen place ∷ inner) (token_at RightParen end ∷ [])

-- the maker after a `)`
closed : (level : Level) (levels : List Level) (old new : Making) (end : ℕ) (ts : List Token) (h : InForms old.nodes.rows (level ∷ levels) old.forms.items old.nodes.loose ts)
    → new.nodes ≡ record { rows = old.nodes.rows ++ h.inside; loose = h.others ++ record { place = level.place; shape = FormOf (ids_from (length old.nodes.rows) (length h.inside)) } ∷ [] } → new.forms.items ≡ h.outer
    → ((rest : List Token) (e : ℕ) → tree_fault (ts ++ rest) e ≡ fault_from (suc (length levels)) rest e) → in_order_from 0 old.nodes.rows ≡ true → HasRead new (ts ++ token_at RightParen end ∷ [])
closed level [] old new end ts h nodes forms faults order =
    let rows : List NodeRow = old.nodes.rows ++ h.inside in
    let row : NodeRow = record { place = level.place; shape = FormOf (ids_from (length old.nodes.rows) (length h.inside)) } in
    let tok : Token = token_at RightParen end in
    let t : Placed = Form' level.place level.arguments in
    let R : Made → Type 0 = λ m. IsRow m.rows row t in
    let Q : Made → Type 0 = λ m. in_order_from 0 m.rows ≡ true in
    let T : List Token → Type 0 = λ v. Lists v t in
    let whole : ts ++ tok ∷ [] ≡ token_at LeftParen level.place ∷ (h.inner ++ tok ∷ []) =
    closed_read ts h.before h.inner level.place end h.parts ∙ ap (λ v. v ++ token_at LeftParen level.place ∷ (h.inner ++ tok ∷ [])) h.round.2 in
    inr (record {
      row = row;
      tree = t;
      order = subst Q (sym nodes) (moved_order level.arguments old.nodes.rows h.inside order h.standing);
      forms = forms ∙ h.round.0;
      loose = ap (λ (m : Made). m.loose) nodes ∙ ap (λ v. v ++ row ∷ []) h.round.1;
      standing = subst R (sym nodes) (form_stands level old.nodes.rows h.inside h.standing);
      listed = subst T (sym whole) (form_listed level.place end h.inner level.arguments h.listed);
      faults = λ rest e. next_fault ts tok (fault_from 1) faults rest e ∙ right_next 0 end rest e;
    })
closed level (above ∷ levels) old new end ts h nodes forms faults order =
    let rows : List NodeRow = old.nodes.rows ++ h.inside in
    let row : NodeRow = record { place = level.place; shape = FormOf (ids_from (length old.nodes.rows) (length h.inside)) } in
    let tok : Token = token_at RightParen end in
    let t : Placed = Form' level.place level.arguments in
    let round = forms_stay (above ∷ levels) old.nodes.rows h.inside h.outer h.others h.before h.round in
    let after : List Level = record { place = above.place; arguments = with_last above.arguments t } ∷ levels in
    let next = added above levels rows h.outer h.others h.before row t (token_at LeftParen level.place ∷ (h.inner ++ tok ∷ [])) round
    (form_stands level old.nodes.rows h.inside h.standing) (form_listed level.place end h.inner level.arguments h.listed) in
    let R : Made → Type 0 = λ m. InForms m.rows after new.forms.items m.loose (ts ++ tok ∷ []) in
    let S : List OpenForm → Type 0 = λ f. InForms rows after f (h.others ++ row ∷ []) (ts ++ tok ∷ []) in
    let T : List Token → Type 0 = λ v. InForms rows after h.outer (h.others ++ row ∷ []) v in
    let Q : Made → Type 0 = λ m. in_order_from 0 m.rows ≡ true in
    inl (record {
      levels = after;
      order = subst Q (sym nodes) (moved_order level.arguments old.nodes.rows h.inside order h.standing);
      forms = subst R (sym nodes) (subst S (sym forms) (subst T (sym (closed_read ts h.before h.inner level.place end h.parts)) next));
      faults = λ rest e. next_fault ts tok (fault_from (suc (suc (length levels)))) faults rest e ∙ right_next (suc (length levels)) end rest e;
    })

closed_from : (levels : List Level) (old new : Making) (front : List OpenForm) (form : OpenForm) (end : ℕ) (ts : List Token) → InForms old.nodes.rows levels old.forms.items old.nodes.loose ts → old.forms.items ≡ front ++ form ∷ []
    → new.nodes ≡ with_form old.nodes form.place form.start → new.forms.items ≡ front
    → ((rest : List Token) (e : ℕ) → tree_fault (ts ++ rest) e ≡ fault_from (length levels) rest e) → in_order_from 0 old.nodes.rows ≡ true → HasRead new (ts ++ token_at RightParen end ∷ [])
closed_from [] old new front form end ts h e nodes forms faults order = absurd (last_not_empty front old.forms.items form h.0 e)
closed_from (level ∷ levels) old new front form end ts h e nodes forms faults order =
    let parts = closed_parts level levels old.nodes.rows old.forms.items front form old.nodes.loose ts e h in
    let was : List NodeRow = old.nodes.rows in
    let made : ℕ → List NodeRow → List NodeRow → Made = λ p others inside. record { rows = was ++ inside; loose = others ++ record { place = p; shape = FormOf (ids_from (length was) (length inside)) } ∷ [] } in
    let same : with_form old.nodes form.place form.start ≡ made level.place h.others h.inside =
    ap (λ p. made p (take form.start old.nodes.loose) (drop form.start old.nodes.loose)) (sym parts.1)
    ∙ (ap (λ v. made level.place v (drop form.start old.nodes.loose)) parts.3 ∙ ap (made level.place h.others) parts.4) in
    closed level levels old new end ts h (nodes ∙ same) (forms ∙ sym parts.0) faults order

pub read_right : (old new : Making) (front : List OpenForm) (form : OpenForm) (end : ℕ) (ts : List Token) → old.forms.items ≡ front ++ form ∷ []
    → new.nodes ≡ with_form old.nodes form.place form.start → new.forms.items ≡ front → HasRead old ts → HasRead new (ts ++ token_at RightParen end ∷ [])
read_right old new front form end ts e nodes forms h = ⊎_elim
    (λ o. closed_from o.levels old new front form end ts o.forms e nodes forms o.faults o.order)
    (λ k. absurd (last_not_empty front old.forms.items form k.forms e))
    h

-- the arguments of the innermost form lie among the loose nodes
start_within : (levels : List Level) (rows : List NodeRow) (forms front : List OpenForm) (form : OpenForm) (loose : List NodeRow) (read : List Token) → InForms rows levels forms loose read → forms ≡ front ++ form ∷ [] → form.start ≤ length loose
start_within [] rows forms front form loose read h e = absurd (last_not_empty front forms form h.0 e)
start_within (level ∷ levels) rows forms front form loose read h e =
    let parts = closed_parts level levels rows forms front form loose read e h in
    let start = parts.2 in
    let whole = ap length h.nodes in
    omega (arith, length-append h.others h.inside)

pub can_cut : (maker : Making) (front : List OpenForm) (form : OpenForm) (ts : List Token) → HasRead maker ts → maker.forms.items ≡ front ++ form ∷ [] → form.start ≤ length maker.nodes.loose
can_cut maker front form ts h e = ⊎_elim
    (λ o. start_within o.levels maker.nodes.rows maker.forms.items front form maker.nodes.loose ts o.forms e)
    (λ k. absurd (last_not_empty front maker.forms.items form k.forms e))
    h
