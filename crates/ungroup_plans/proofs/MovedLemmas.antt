-- Paths and notes that move.
use Rattle.std.proofs.Common.{◌≡◌, ◌<◌, ◌≤◌, ◌+◌, ◌-◌, ℕ, arith, true, false, cond, List, [], ◌∷◌, ◌++◌, length, get_or, drop, take, Option, Some, None, slice_get, refl, sym, ap, ◌∙◌, append_assoc, append-nil}
use Rattle.std.specs.Prelude.{is_some, option_and_then, option_map, option_to_list, filter_map, zip}
use Rattle.std.specs.List.{cons_option, list_any}
use Rattle.std.specs.Option.{option_map_or}
use Rattle.std.proofs.lemmas.List.{drop_all}
use Rattle.netlist_schema.specs.Types.{Inst, Note}
use Rattle.edit_rules_spec.specs.Find.{inst_place}
use Rattle.ungroup_plans.specs.Moved.{new_id, note_moved, notes_moved, past, path_moved}
use Rattle.ungroup_plans.proofs.Steps.{drop_first}

-- ---- the new identifier

pub unknown_id : (within children : List Inst) (name : List ℕ) → inst_place name within ≡ None → name ≡ new_id within children name
unknown_id within children name none =
    sym (ap (λ o. option_map_or (λ (i : Inst). i.name.id) (option_and_then (slice_get children) o) name) none)

pub child_id : (within children : List Inst) (name : List ℕ) (place : ℕ) (child : Inst) → inst_place name within ≡ Some place → slice_get children place ≡ Some child → child.name.id ≡ new_id within children name
child_id within children name place child at is =
    sym (ap (λ o. option_map_or (λ (i : Inst). i.name.id) (option_and_then (slice_get children) o) name) at ∙ ap (λ o. option_map_or (λ (i : Inst). i.name.id) o name) is)

pub no_child_id : (within children : List Inst) (name : List ℕ) (place : ℕ) → inst_place name within ≡ Some place → slice_get children place ≡ None → name ≡ new_id within children name
no_child_id within children name place at is =
    sym (ap (λ o. option_map_or (λ (i : Inst). i.name.id) (option_and_then (slice_get children) o) name) at ∙ ap (λ o. option_map_or (λ (i : Inst). i.name.id) o name) is)

-- ---- the path

pub path_ends : (within children : List Inst) (path : List (List ℕ)) (place : ℕ) → length path ≤ place + 1 → None ≡ path_moved within children (Some place) path
path_ends within children path place past_end =
    sym (ap (λ v. option_map (λ rest. take place path ++ rest) (past within children v)) (drop_all (place + 1) path past_end))

pub path_goes_on : (within children : List Inst) (path : List (List ℕ)) (place : ℕ) (child id : List ℕ) (made : List (List ℕ)) → place + 1 < length path → child ≡ get_or path (place + 1) child
    → id ≡ new_id within children child → made ≡ (take place path ++ id ∷ []) ++ drop (place + 2) path → Some made ≡ path_moved within children (Some place) path
path_goes_on within children path place child id made within_path is id_is made_is =
    let two : place + 1 + 1 ≡ place + 2 = omega arith in
    let opened : drop (place + 1) path ≡ child ∷ drop (place + 2) path = drop_first path (place + 1) child within_path is ∙ ap (λ n. child ∷ drop n path) two in
    let whole : made ≡ take place path ++ (new_id within children child ∷ drop (place + 2) path) =
    made_is ∙ append_assoc (take place path) (id ∷ []) (drop (place + 2) path) ∙ ap (λ v. take place path ++ (v ∷ drop (place + 2) path)) id_is in
    ap (λ v. Some v) whole ∙ sym (ap (λ v. option_map (λ rest. take place path ++ rest) (past within children v)) opened)

-- ---- the notes

pub note_goes : (within children : List Inst) (note : Note) (place : ℕ) → None ≡ path_moved within children (Some place) note.path → None ≡ note_moved within children note (Some place)
note_goes within children note place is = ap (option_map (λ path. record note { path = path })) is

pub note_stays : (within children : List Inst) (note : Note) (place : ℕ) (path : List (List ℕ)) (made : Note) → Some path ≡ path_moved within children (Some place) note.path → made ≡ record note { path = path }
    → Some made ≡ note_moved within children note (Some place)
note_stays within children note place path made is made_is = ap (λ v. Some v) made_is ∙ ap (option_map (λ p. record note { path = p })) is

abbrev moved_pair : List Inst → List Inst → Note × Option ℕ → Option Note
moved_pair within children p = note_moved within children p.0 p.1

-- the notes so far, and those that are left
abbrev pub AreMoved : List Inst → List Inst → List Note → List (Option ℕ) → ℕ → List Note → Type 0
AreMoved within children notes places k made =
    made ++ filter_map (λ p. note_moved within children p.0 p.1) (zip (drop k notes) (drop k places)) ≡ filter_map (λ p. note_moved within children p.0 p.1) (zip notes places)

left_opens : (within children : List Inst) (notes : List Note) (places : List (Option ℕ)) (k : ℕ) (note : Note) (place : Option ℕ) → k < length notes → length places ≡ length notes → note ≡ get_or notes k note → place ≡ get_or places k place
    → filter_map (λ p. note_moved within children p.0 p.1) (zip (drop k notes) (drop k places))
    ≡ cons_option (note_moved within children note place) (filter_map (λ p. note_moved within children p.0 p.1) (zip (drop (k + 1) notes) (drop (k + 1) places)))
left_opens within children notes places k note place inside long note_is place_is =
    λ t. filter_map (λ p. note_moved within children p.0 p.1) (zip (drop_first notes k note inside note_is t) (drop_first places k place (omega (arith, inside, long)) place_is t))

pub moved_more : (within children : List Inst) (notes : List Note) (places : List (Option ℕ)) (k : ℕ) (note : Note) (place : Option ℕ) (made added : List Note) → k < length notes → length places ≡ length notes
    → note ≡ get_or notes k note → place ≡ get_or places k place → added ≡ made ++ option_to_list (note_moved within children note place)
    → AreMoved within children notes places k made → AreMoved within children notes places (k + 1) added
moved_more within children notes places k note place made added inside long note_is place_is added_is far =
    let rest = filter_map (λ p. note_moved within children p.0 p.1) (zip (drop (k + 1) notes) (drop (k + 1) places)) in
    ap (λ v. v ++ rest) added_is ∙ append_assoc made (option_to_list (note_moved within children note place)) rest
    ∙ ap (λ v. made ++ v) (opens (note_moved within children note place) rest)
    ∙ ap (λ v. made ++ v) (sym (left_opens within children notes places k note place inside long note_is place_is))
    ∙ far
  where
    opens : (o : Option Note) (rest : List Note) → option_to_list o ++ rest ≡ cons_option o rest
    opens None rest = refl
    opens (Some x) rest = refl

pub moved_all : (within children : List Inst) (notes : List Note) (places : List (Option ℕ)) (k : ℕ) (made : List Note) → length notes ≤ k → list_any is_some places ≡ true → AreMoved within children notes places k made
    → Some made ≡ notes_moved within children notes places
moved_all within children notes places k made past_end some far =
    let none : filter_map (λ p. note_moved within children p.0 p.1) (zip (drop k notes) (drop k places)) ≡ [] =
    ap (λ (v : List Note). filter_map (λ p. note_moved within children p.0 p.1) (zip v (drop k places))) (drop_all k notes past_end) in
    let whole : made ≡ filter_map (λ p. note_moved within children p.0 p.1) (zip notes places) = sym (append-nil made) ∙ ap (λ v. made ++ v) (sym none) ∙ far in
    ap (λ v. Some v) whole ∙ sym (ap (λ b. cond b (Some (filter_map (λ p. note_moved within children p.0 p.1) (zip notes places))) None) some)

pub none_moved : (within children : List Inst) (notes : List Note) (places : List (Option ℕ)) → list_any is_some places ≡ false → None ≡ notes_moved within children notes places
none_moved within children notes places none =
    sym (ap (λ b. cond b (Some (filter_map (λ p. note_moved within children p.0 p.1) (zip notes places))) None) none)
