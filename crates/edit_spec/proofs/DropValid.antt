-- Removing an instance, with its ends and the notes whose paths go through it, keeps a design valid.
use Rattle.std.proofs.Common.{◌≡◌, ◌≢◌, ⊎_elim, ℕ, zero, suc, ◌-◌, ◌<◌, ◌≤◌, Bool, true, false, cond, not, arith, List, [], ◌∷◌, ◌++◌, map, length, Option, Some, None, refl, sym, ap, subst, ◌∙◌, length-append, slice_get, slice_index_or, eq-eqb}
use Rattle.std.proofs.lemmas.Bool.{ltb-true, ltb-false, eqb-true, not-true, or_parts}
use Rattle.std.proofs.lemmas.List.{length-map}
use Rattle.std.proofs.lemmas.List.Concat.{flat_map-append}
use Rattle.std.proofs.lemmas.List.Elements.{recursion_from_All, All-from_recursion}
use Rattle.std.specs.List.{All, AllByRecursion, Contains}
use Rattle.std.specs.Option.{option_map, option_map_or, option_and_then, option_to_list}
use Rattle.std.specs.Prelude.{IsSomeAnd, filter, remove, flat_map, nat_lt, ◌==◌, ◌&&◌}
use Rattle.netlist_schema.specs.Design.{Design, cell_at, insts_of, nets_of}
use Rattle.netlist_schema.specs.Hierarchy.{IsCell, HasInst, Resolves, insts_at}
use Rattle.netlist_schema.specs.Names.{AreDistinct, HasDistinctKeys, note_key}
use Rattle.netlist_schema.specs.Typed.{IsTypedInst, IsTypedNet, IsTypedNote}
use Rattle.netlist_schema.specs.Types.{CellBody, CellId, Contents, End, Inst, Net, Note, TopHead}
use Rattle.netlist_schema.specs.Valid.{IsValid, IsValidCell, IsEndAt, IsEndOf, HasBit, IsNoteBelow}
use Rattle.netlist_schema.proofs.Lists.{all_weaker, all_append}
use Rattle.edit_rules_spec.specs.Edit.{inner, edited_once, noted, edited}
use Rattle.edit_rules_spec.specs.Find.{is_name, inst_named, inst_place}
use Rattle.edit_rules_spec.specs.Notes.{goes_on, other_notes, seen_if}
use Rattle.edit_rules_spec.specs.Paths.{same_cell, goes_through}
use Rattle.edit_rules_spec.specs.Rule.{no_inst}
use Rattle.edit_rules_spec.specs.declared.reply.Reply.TheVariants.{NoInst}
use Rattle.edit_spec.specs.DropInst.{end_moved, end_without_inst, net_without_inst, without_inst, set_notes}
use Rattle.edit_spec.specs.Step.{step}
use Rattle.netlist_schema.proofs.WithCell.{cases_cell}
use Rattle.edit_rules_spec.proofs.Filled.{fill, filled, inner_filled, has_contents}
use Rattle.edit_rules_spec.proofs.InnerValid.{AreGoodContents, AreGoodNotes, good_notes_before, with_both, inner_valid, inst_after, inst_here, inst_elsewhere, below_with_more}
use Rattle.edit_rules_spec.proofs.Levels.{same_cell-refl}
use Rattle.edit_rules_spec.proofs.Lists.{All-drop, length_drop, map_drop, apart_drop, length_filter, Apart, apart_of, distinct_of}
use Rattle.edit_rules_spec.proofs.Named.{inst_at_place, leads, named_at}
use Rattle.edit_rules_spec.proofs.Reached.{Contains-tail}
use Rattle.edit_rules_spec.proofs.Refusals.{is_name-refl}
use Rattle.edit_spec.proofs.InsideStep.{inside_of}
use Rattle.edit_spec.proofs.InstValid.{good_contents_before}
use Rattle.edit_spec.proofs.JoinValid.{there}
use Rattle.edit_spec.proofs.Joined.{ends_of_nets}

-- items of a list with one item less
get_before : {X : Type 0} (xs : List X) (p i : ℕ) → i < p → slice_get (remove xs p) i ≡ slice_get xs i
get_before [] zero i less = absurd (omega arith)
get_before [] (suc p) i less = refl
get_before (x ∷ xs) zero i less = absurd (omega arith)
get_before (x ∷ xs) (suc p) zero less = refl
get_before (x ∷ xs) (suc p) (suc i) less = get_before xs p i (omega arith)

get_after : {X : Type 0} (xs : List X) (p j : ℕ) → p ≤ j → slice_get (remove xs p) j ≡ slice_get xs (suc j)
get_after [] zero j less = refl
get_after [] (suc p) j less = refl
get_after (x ∷ xs) zero j less = refl
get_after (x ∷ xs) (suc p) zero less = absurd (omega arith)
get_after (x ∷ xs) (suc p) (suc j) less = get_after xs p j (omega arith)

get_moved : {X : Type 0} (xs : List X) (p i : ℕ) (b : Bool) → nat_lt p i ≡ b → i ≢ p → slice_get (remove xs p) (cond b (i - 1) i) ≡ slice_get xs i
get_moved xs p i true is apart =
    let less : p < i = ltb-true p i is in
    let next : suc (i - 1) ≡ i = omega arith in
    get_after xs p (i - 1) (omega arith) ∙ ap (slice_get xs) next
get_moved xs p i false is apart =
    let most : i ≤ p = ltb-false p i is in
    get_before xs p i (omega arith)

from_drop : {X : Type 0} (xs : List X) (p : ℕ) (x : X) (k : ℕ) → k < length (remove xs p) → slice_index_or (remove xs p) k x ≡ x → (j : ℕ) × (j < length xs) × (slice_index_or xs j x ≡ x)
from_drop [] zero x k within is = absurd (omega arith)
from_drop [] (suc p) x k within is = absurd (omega arith)
from_drop (y ∷ xs) zero x k within is = (suc k, omega arith, is)
from_drop (y ∷ xs) (suc p) x zero within is = (zero, omega arith, is)
from_drop (y ∷ xs) (suc p) x (suc k) within is = let more = from_drop xs p x k (omega arith) is in (suc more.0, omega (arith, more.1), more.2)

kept_in_drop : (xs : List Inst) (p : ℕ) (x y : Inst) (k : ℕ) → k < length xs → slice_index_or xs k x ≡ x → slice_get xs p ≡ Some y → x.name.id ≢ y.name.id → Contains (remove xs p) x
kept_in_drop [] p x y k within is gone apart = absurd (omega arith)
kept_in_drop (z ∷ xs) zero x y zero within is gone apart = let same : z ≡ y = cc in absurd (apart (ap (λ (i : Inst). i.name.id) (sym is ∙ same)))
kept_in_drop (z ∷ xs) zero x y (suc k) within is gone apart = (k, omega arith, is)
kept_in_drop (z ∷ xs) (suc p) x y zero within is gone apart = (zero, omega arith, is)
kept_in_drop (z ∷ xs) (suc p) x y (suc k) within is gone apart = Contains-tail z x (remove xs p) (kept_in_drop xs p x y k (omega arith) is gone apart)

-- the ends that are left stand at the same instances
not_place : (b : Bool) (i p : ℕ) → (i == p) ≡ b → b ≡ false → i ≢ p
not_place b i p is none same = let there : (i == p) ≡ true = eq-eqb i p same in let never : true ≡ false = sym there ∙ is ∙ none in cc

abbrev moved_end : ℕ → End → ℕ → End
moved_end p end i = record end { inst = Some (cond (nat_lt p i) (i - 1) i) }

-- what holds of the ends that come of an end
each_moved : (P : End → Type 0) (p : ℕ) (end : End) (inst : Option ℕ) → (inst ≡ None → P end) → ((i : ℕ) → inst ≡ Some i → i ≢ p → P (moved_end p end i)) → AllByRecursion P (end_moved p end inst)
each_moved P p end None own moved = (own refl, tt)
each_moved P p end (Some i) own moved = by_test (i == p) refl
  where
    by_test : (b : Bool) → (i == p) ≡ b → AllByRecursion P (cond b [] (moved_end p end i ∷ []))
    by_test true is = tt
    by_test false is = (moved i refl (not_place false i p is refl), tt)

abbrev left : CellBody → ℕ → Contents
left old p = record { insts = remove (insts_of old) p; nets = map (net_without_inst p) (nets_of old) }

end_left : (d : Design) (old : CellBody) (p : ℕ) (end : End) → IsEndOf d old end → AllByRecursion (IsEndOf d (fill (left old p) old)) (end_without_inst p end)
end_left d old p end is =
    each_moved (IsEndOf d (fill (left old p) old)) p end end.inst
    (λ none.
    let was : IsEndAt d old None end.port end.bit = subst (λ (i : Option ℕ). IsEndAt d old i end.port end.bit) none is in
    subst (λ (i : Option ℕ). IsEndAt d (fill (left old p) old) i end.port end.bit) (sym none) was)
    (λ i some apart.
    let was : IsEndAt d old (Some i) end.port end.bit = subst (λ (o : Option ℕ). IsEndAt d old o end.port end.bit) some is in
    subst (λ (o : Option Inst). IsSomeAnd o (λ inst. IsSomeAnd (cell_at d inst.of) (λ of. HasBit of.ports end.port end.bit))) (sym (get_moved (insts_of old) p i (nat_lt p i) refl apart)) was)

abbrev ends_left : ℕ → List End → List End
ends_left p ends = flat_map (end_without_inst p) ends

each_end_left : (d : Design) (old : CellBody) (p : ℕ) (ends : List End) → AllByRecursion (IsEndOf d old) ends → AllByRecursion (IsEndOf d (fill (left old p) old)) (ends_left p ends)
each_end_left d old p [] all = tt
each_end_left d old p (end ∷ ends) all =
    all_append (IsEndOf d (fill (left old p) old)) (end_without_inst p end) (ends_left p ends) (end_left d old p end all.0) (each_end_left d old p ends all.1)

ends_of_left : (p : ℕ) (nets : List Net) → ends_of_nets (map (net_without_inst p) nets) ≡ ends_left p (ends_of_nets nets)
ends_of_left p [] = refl
ends_of_left p (net ∷ nets) =
    ap (λ (rest : List End). flat_map (end_without_inst p) net.ends ++ rest) (ends_of_left p nets) ∙ sym (flat_map-append (end_without_inst p) net.ends (ends_of_nets nets))

-- an end can be told from what it became
abbrev back_place : ℕ → ℕ → ℕ
back_place p j = cond (nat_lt j p) j (suc j)

abbrev back : ℕ → End → End
back p end = record end { inst = option_map (back_place p) end.inst }

back_after : (p j : ℕ) (b : Bool) → nat_lt j p ≡ b → p ≤ j → cond b j (suc j) ≡ suc j
back_after p j true is most = let less : j < p = ltb-true j p is in absurd (omega arith)
back_after p j false is most = refl

back_before : (p j : ℕ) (b : Bool) → nat_lt j p ≡ b → j < p → cond b j (suc j) ≡ j
back_before p j true is less = refl
back_before p j false is less = let most : p ≤ j = ltb-false j p is in absurd (omega arith)

back_moved : (p i : ℕ) (b : Bool) → nat_lt p i ≡ b → i ≢ p → back_place p (cond b (i - 1) i) ≡ i
back_moved p i true is apart =
    let less : p < i = ltb-true p i is in
    let next : suc (i - 1) ≡ i = omega arith in
    back_after p (i - 1) (nat_lt (i - 1) p) refl (omega arith) ∙ next
back_moved p i false is apart =
    let most : i ≤ p = ltb-false p i is in
    back_before p i (nat_lt i p) refl (omega arith)

each_back : (p : ℕ) (end : End) → AllByRecursion (λ e. back p e ≡ end) (end_without_inst p end)
each_back p end =
    each_moved (λ e. back p e ≡ end) p end end.inst
    (λ none. let same : option_map (back_place p) end.inst ≡ end.inst = ap (option_map (back_place p)) none ∙ sym none in λ k. record end { inst = same k })
    (λ i some apart. let same : Some (back_place p (cond (nat_lt p i) (i - 1) i)) ≡ end.inst = ap (λ (j : ℕ). Some j) (back_moved p i (nat_lt p i) refl apart) ∙ sym some in λ k. record end { inst = same k })

others_back : (p : ℕ) (end : End) (ends : List End) → AllByRecursion (λ e. end ≢ e) ends → AllByRecursion (λ e. end ≢ back p e) (ends_left p ends)
others_back p end [] all = tt
others_back p end (e ∷ ends) all =
    all_append (λ x. end ≢ back p x) (end_without_inst p e) (ends_left p ends)
    (all_weaker (λ x. back p x ≡ e) (λ x. end ≢ back p x) (end_without_inst p e) (λ x is same. all.0 (same ∙ is)) (each_back p e))
    (others_back p end ends all.1)

apart_join : {X : Type 0} (xs ys : List X) → Apart xs → Apart ys → AllByRecursion (λ x. AllByRecursion (λ y. x ≢ y) ys) xs → Apart (xs ++ ys)
apart_join [] ys left right cross = right
apart_join (x ∷ xs) ys left right cross = (all_append (λ y. x ≢ y) xs ys left.0 cross.0, apart_join xs ys left.1 right cross.1)

at_most_one : (p : ℕ) (end : End) (inst : Option ℕ) → Apart (end_moved p end inst) × (length (end_moved p end inst) ≤ 1)
at_most_one p end None = ((tt, tt), omega arith)
at_most_one p end (Some i) = by_test (i == p)
  where
    by_test : (b : Bool) → Apart (cond b [] (moved_end p end i ∷ [])) × (length (cond b [] (moved_end p end i ∷ [])) ≤ 1)
    by_test true = (tt, omega arith)
    by_test false = ((tt, tt), omega arith)

apart_left : (p : ℕ) (ends : List End) → Apart ends → Apart (ends_left p ends)
apart_left p [] apart = tt
apart_left p (end ∷ ends) apart =
    apart_join (end_without_inst p end) (ends_left p ends) (at_most_one p end end.inst).0 (apart_left p ends apart.1)
    (all_weaker (λ x. back p x ≡ end) (λ x. AllByRecursion (λ y. x ≢ y) (ends_left p ends)) (end_without_inst p end)
    (λ x is. all_weaker (λ y. end ≢ back p y) (λ y. x ≢ y) (ends_left p ends) (λ y other same. other (sym is ∙ ap (back p) same)) (others_back p end ends apart.0))
    (each_back p end))

length_left : (p : ℕ) (ends : List End) → length (ends_left p ends) ≤ length ends
length_left p [] = omega arith
length_left p (end ∷ ends) =
    let one = (at_most_one p end end.inst).1 in
    let rest = length_left p ends in
    omega (arith, length-append (end_without_inst p end) (ends_left p ends))

each_map : {X Y : Type 0} (P : X → Type 0) (Q : Y → Type 0) (f : X → Y) → ((x : X) → P x → Q (f x)) → (xs : List X) → AllByRecursion P xs → AllByRecursion Q (map f xs)
each_map P Q f follows [] all = tt
each_map P Q f follows (x ∷ xs) all = (follows x all.0, each_map P Q f follows xs all.1)

names_left : (p : ℕ) (nets : List Net) → map (λ (net : Net). net.name.id) (map (net_without_inst p) nets) ≡ map (λ (net : Net). net.name.id) nets
names_left p [] = refl
names_left p (net ∷ nets) = ap (λ (names : List (List ℕ)). net.name.id ∷ names) (names_left p nets)

left_good : (d : Design) (id : CellId) (old : CellBody) (p : ℕ) → IsValid d → cell_at d id ≡ Some old → AreGoodContents d id old (left old p)
left_good d id old p valid found =
    let was = good_contents_before d id old valid found in
    let cell : IsValidCell d id old = valid.cells id old found in
    let insts = insts_of old in
    let nets = nets_of old in
    let ends = ends_of_left p nets in
    let fewer = length_drop p insts in
    let less = length_left p (ends_of_nets nets) in
    let inst_before = was.inst_count in
    let end_before = was.end_count in
    let change : Net → Net = net_without_inst p in
    record {
      typed_insts = All-drop IsTypedInst p insts was.typed_insts;
      typed_nets = All-from_recursion IsTypedNet (map change nets) (each_map IsTypedNet IsTypedNet change (λ net is. record { name = is.name; properties = is.properties }) nets (recursion_from_All IsTypedNet nets was.typed_nets));
      inst_count = omega arith;
      net_count = subst (λ n. n ≤ 1048576) (sym (length-map nets change)) was.net_count;
      end_count = subst (λ (es : List End). length es ≤ 4194304) (sym ends) (omega arith);
      inst_names = subst (λ (names : List (List ℕ)). AreDistinct names) (sym (map_drop (λ (inst : Inst). inst.name.id) p insts)) (distinct_of (remove (map (λ (inst : Inst). inst.name.id) insts) p) (apart_drop p (map (λ (inst : Inst). inst.name.id) insts) (apart_of (map (λ (inst : Inst). inst.name.id) insts) was.inst_names)));
      net_names = subst (λ (names : List (List ℕ)). AreDistinct names) (sym (names_left p nets)) was.net_names;
      inst_properties = All-drop (λ (inst : Inst). HasDistinctKeys inst.properties) p insts was.inst_properties;
      net_properties = All-from_recursion (λ (net : Net). HasDistinctKeys net.properties) (map change nets) (each_map (λ (net : Net). HasDistinctKeys net.properties) (λ (net : Net). HasDistinctKeys net.properties) change (λ net is. is) nets (recursion_from_All (λ (net : Net). HasDistinctKeys net.properties) nets was.net_properties));
      places = All-drop (λ (inst : Inst). IsCell d inst.of) p insts was.places;
      not_later = All-drop (λ (inst : Inst). inst.of.lib.0 ≤ id.lib.0) p insts was.not_later;
      ends = subst (All (IsEndOf d (fill (left old p) old))) (sym ends) (All-from_recursion (IsEndOf d (fill (left old p) old)) (ends_left p (ends_of_nets nets)) (each_end_left d old p (ends_of_nets nets) (recursion_from_All (IsEndOf d old) (ends_of_nets nets) cell.ends)));
      once = subst (λ (es : List End). AreDistinct es) (sym ends) (distinct_of (ends_left p (ends_of_nets nets)) (apart_left p (ends_of_nets nets) (apart_of (ends_of_nets nets) was.once)));
    }

still_leads : (d : Design) (id : CellId) (old : CellBody) (p : ℕ) (gone : Inst) (notes : List Note) → IsValid d → cell_at d id ≡ Some old → slice_get (insts_of old) p ≡ Some gone → (path : List (List ℕ)) (at : CellId) → Resolves d at path → goes_through d id gone.name.id at path ≡ false → Resolves (with_both d id (left old p) notes) at path
still_leads d id old p gone notes valid found is_gone [] at leads away = tt
still_leads d id old p gone notes valid found is_gone (step ∷ steps) at leads away =
    let inst : Inst = leads.0 in
    let f = with_both d id (left old p) notes in
    let here : inst_named step (insts_at d at) ≡ Some inst = named_at d at inst step valid leads.1 leads.2 in
    let both = or_parts (same_cell at id && is_name step gone.name.id) (option_map_or (λ next. goes_through d id gone.name.id next.of steps) (inst_named step (insts_at d at)) false) away in
    let rest : goes_through d id gone.name.id inst.of steps ≡ false = sym (ap (λ (o : Option Inst). option_map_or (λ next. goes_through d id gone.name.id next.of steps) o false) here) ∙ both.1 in
    let has : HasInst f at inst = ⊎_elim
    (λ (same : at ≡ id).
    let had : Contains (insts_of old) inst = subst (λ (o : Option CellBody). Contains (option_map_or insts_of o []) inst) (ap (cell_at d) same ∙ found) leads.1 in
    let cell : same_cell at id ≡ true = subst (λ (c : CellId). same_cell at c ≡ true) same (same_cell-refl at) in
    let other : inst.name.id ≢ gone.name.id = λ names.
    let test : is_name step gone.name.id ≡ true = subst (λ (n : List ℕ). is_name step n ≡ true) (sym leads.2 ∙ names) (is_name-refl step) in
    let never : true ≡ false = sym (λ i. cell i && test i) ∙ both.0 in
    cc in
    subst (λ (c : CellId). HasInst f c inst) (sym same) (inst_here d id old (left old p) inst found (kept_in_drop (insts_of old) p inst gone had.0 had.1 had.2 is_gone other)))
    (λ (other : at ≢ id). inst_elsewhere d id (left old p) at inst other leads.1)
    (cases_cell at id) in
    (inst, has, leads.2, still_leads d id old p gone notes valid found is_gone steps inst.of leads.3 rest)

-- the notes that are left
each_kept : {X : Type 0} (P Q : X → Type 0) (keep : X → Bool) → ((x : X) → keep x ≡ true → P x → Q x) → (xs : List X) → AllByRecursion P xs → AllByRecursion Q (filter keep xs)
each_kept P Q keep follows [] all = tt
each_kept {X} P Q keep follows (x ∷ xs) all = by_test (keep x) refl (each_kept P Q keep follows xs all.1)
  where
    by_test : (b : Bool) → keep x ≡ b → AllByRecursion Q (filter keep xs) → AllByRecursion Q (cond b (x ∷ filter keep xs) (filter keep xs))
    by_test true is rest = (follows x is all.0, rest)
    by_test false is rest = rest

each_map_kept : {X Y : Type 0} (P : Y → Type 0) (f : X → Y) (keep : X → Bool) (xs : List X) → AllByRecursion P (map f xs) → AllByRecursion P (map f (filter keep xs))
each_map_kept P f keep [] all = tt
each_map_kept {X} P f keep (x ∷ xs) all = by_test (keep x) (each_map_kept P f keep xs all.1)
  where
    by_test : (b : Bool) → AllByRecursion P (map f (filter keep xs)) → AllByRecursion P (map f (cond b (x ∷ filter keep xs) (filter keep xs)))
    by_test true rest = (all.0, rest)
    by_test false rest = rest

apart_kept : {X Y : Type 0} (f : X → Y) (keep : X → Bool) (xs : List X) → Apart (map f xs) → Apart (map f (filter keep xs))
apart_kept f keep [] apart = tt
apart_kept {X} f keep (x ∷ xs) apart = by_test (keep x) (each_map_kept (λ y. f x ≢ y) f keep xs apart.0) (apart_kept f keep xs apart.1)
  where
    by_test : (b : Bool) → AllByRecursion (λ y. f x ≢ y) (map f (filter keep xs)) → Apart (map f (filter keep xs)) → Apart (map f (cond b (x ∷ filter keep xs) (filter keep xs)))
    by_test true here rest = (here, rest)
    by_test false here rest = rest

all_kept : {X : Type 0} (keep : X → Bool) (xs : List X) → length (filter keep xs) ≡ length xs → filter keep xs ≡ xs
all_kept keep [] same = refl
all_kept {X} keep (x ∷ xs) same = by_test (keep x) same (all_kept keep xs)
  where
    by_test : (b : Bool) → length (cond b (x ∷ filter keep xs) (filter keep xs)) ≡ suc (length xs) → (length (filter keep xs) ≡ length xs → filter keep xs ≡ xs) → cond b (x ∷ filter keep xs) (filter keep xs) ≡ x ∷ xs
    by_test true many rest = ap (λ ys. x ∷ ys) (rest (omega (arith, many)))
    by_test false many rest = let few = length_filter keep xs in absurd (omega (arith, many, few))

notes_left : (d : Design) (id : CellId) (old : CellBody) (p : ℕ) (gone : Inst) (notes : List Note) (top : Option TopHead) → d.top ≡ top → IsValid d → cell_at d id ≡ Some old → slice_get (insts_of old) p ≡ Some gone → AreGoodNotes (with_both d id (left old p) notes) top (filter (λ note. not (goes_on d top (Some id) gone.name.id note)) d.notes)
notes_left d id old p gone notes None is valid found is_gone =
    let was : AreGoodNotes d None d.notes = subst (λ (top : Option TopHead). AreGoodNotes d top d.notes) is (good_notes_before d valid) in
    let keep : Note → Bool = λ note. not (goes_on d None (Some id) gone.name.id note) in
    let less = length_filter keep d.notes in
    let before = was.count in
    record {
      typed = All-from_recursion IsTypedNote (filter keep d.notes) (each_kept IsTypedNote IsTypedNote keep (λ note kept is. is) d.notes (recursion_from_All IsTypedNote d.notes was.typed));
      count = omega arith;
      below = tt;
      need_top = ap (filter keep) was.need_top;
      differ = distinct_of (map note_key (filter keep d.notes)) (apart_kept note_key keep d.notes (apart_of (map note_key d.notes) was.differ));
    }
notes_left d id old p gone notes (Some t) is valid found is_gone =
    let was : AreGoodNotes d (Some t) d.notes = subst (λ (top : Option TopHead). AreGoodNotes d top d.notes) is (good_notes_before d valid) in
    let f = with_both d id (left old p) notes in
    let keep : Note → Bool = λ note. not (goes_on d (Some t) (Some id) gone.name.id note) in
    let less = length_filter keep d.notes in
    let before = was.count in
    record {
      typed = All-from_recursion IsTypedNote (filter keep d.notes) (each_kept IsTypedNote IsTypedNote keep (λ note kept is. is) d.notes (recursion_from_All IsTypedNote d.notes was.typed));
      count = omega arith;
      below = All-from_recursion (IsNoteBelow f t.cell) (filter keep d.notes) (each_kept (IsNoteBelow d t.cell) (IsNoteBelow f t.cell) keep
          (λ note kept below. record { has_step = below.has_step; resolves = still_leads d id old p gone notes valid found is_gone note.path t.cell below.resolves (not-true (goes_through d id gone.name.id t.cell note.path) kept) })
          d.notes (recursion_from_All (IsNoteBelow d t.cell) d.notes was.below));
      need_top = tt;
      differ = distinct_of (map note_key (filter keep d.notes)) (apart_kept note_key keep d.notes (apart_of (map note_key d.notes) was.differ));
    }

left_valid : (d : Design) (id : CellId) (old : CellBody) (p : ℕ) (gone : Inst) → IsValid d → cell_at d id ≡ Some old → slice_get (insts_of old) p ≡ Some gone → IsValid (with_both d id (left old p) (other_notes d (Some id) gone.name.id))
left_valid d id old p gone valid found is_gone =
    let notes : List Note = other_notes d (Some id) gone.name.id in
    let f = with_both d id (left old p) notes in
    let had : (other : CellId) (inst : Inst) → HasInst f other inst → HasInst d other inst = λ other inst has. ⊎_elim
    (λ (here : (other ≡ id) × Contains (remove (insts_of old) p) inst).
    let there : Contains (insts_of old) inst = from_drop (insts_of old) p inst here.1.0 here.1.1 here.1.2 in
    subst (λ (o : Option CellBody). Contains (option_map_or insts_of o []) inst) (sym (ap (cell_at d) here.0 ∙ found)) there)
    (λ (away : (other ≢ id) × HasInst d other inst). away.1)
    (inst_after d id (left old p) other inst has) in
    inner_valid d id old (left old p) notes valid found (left_good d id old p valid found) (notes_left d id old p gone notes d.top refl valid found is_gone) (λ x below. valid.no_cycle x (below_with_more d f had below))

-- the operation
left_edits : (d : Design) (id : CellId) (contents : Contents) (others : List Note) → edited_once d (inner id contents) ≡ filled d id contents → (b : Bool) → (length others == length d.notes) ≡ b → (length others ≡ length d.notes → others ≡ d.notes) → IsValid (with_both d id contents others) → IsValid (edited d (inner id contents ∷ cond b [] (noted others ∷ [])))
left_edits d id contents others fills true is same valid =
    subst IsValid (sym fills) (subst (λ (notes : List Note). IsValid (with_both d id contents notes)) (same (eqb-true (length others) (length d.notes) is)) valid)
left_edits d id contents others fills false is same valid = subst (λ (e : Design). IsValid (edited_once e (noted others))) (sym fills) valid

pub drop_edit : (d : Design) (r : Option CellId) (inst : List ℕ) → IsValid d → no_inst (inside_of d r) inst ≡ None → ((id : CellId) → r ≡ Some id → (body : CellBody) × (cell_at d id ≡ Some body)) → IsValid (edited d (option_to_list (option_map (λ id. inner id (without_inst (inside_of d r) inst)) r) ++ set_notes (seen_if r d.notes) (seen_if r (other_notes d r inst))))
drop_edit d None inst valid allowed cell = valid
drop_edit d (Some id) inst valid allowed cell =
    let found = cell id refl in
    let old : CellBody = found.0 in
    let contents : inside_of d (Some id) ≡ old.contents = ap (option_and_then (λ (b : CellBody). b.contents)) found.1 in
    let here : no_inst old.contents inst ≡ None = subst (λ (c : Option Contents). no_inst c inst ≡ None) contents allowed in
    let place = there (inst_place inst (insts_of old)) NoInst here in
    let item = inst_at_place (insts_of old) inst place.0 place.1 in
    let others : List Note = other_notes d (Some id) inst in
    let done : IsValid (with_both d id (left old place.0) others) = subst (λ (n : List ℕ). IsValid (with_both d id (left old place.0) (other_notes d (Some id) n))) item.2 (left_valid d id old place.0 item.0 valid found.1 item.1) in
    let placed : IsValid (with_both d id (without_inst old.contents inst) others) = subst (λ (o : Option ℕ). IsValid (with_both d id (record { insts = option_map_or (remove (insts_of old)) o (insts_of old); nets = option_map_or (λ p. map (net_without_inst p) (nets_of old)) o (nets_of old) }) others)) (sym place.1) done in
    let inside = has_contents old.contents place.0 item.0 item.1 in
    subst (λ (c : Option Contents). IsValid (edited d (inner id (without_inst c inst) ∷ set_notes d.notes others))) (sym contents)
    (left_edits d id (without_inst old.contents inst) others (inner_filled d id (without_inst old.contents inst) old inside.0 found.1 inside.1) (length others == length d.notes) refl (λ same. all_kept (λ note. not (goes_on d d.top (Some id) inst note)) d.notes same) placed)
