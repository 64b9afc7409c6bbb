-- Work that is brought to another version becomes the target.
use Rattle.std.proofs.Common.{◌≡◌, ◌≢◌, ◌⊎◌, inl, inr, ⊎_elim, ℕ, zero, suc, arith, ◌+◌, ◌<◌, ◌≤◌, List, [], ◌∷◌, ◌++◌, map, length, Option, Some, None, IsSome, Contains, take, get_or, refl, sym, ap, subst, ◌∙◌, slice_get, option_map, append-nil, Global}
use Rattle.std.specs.Arc.{arc_value}
use Rattle.std.specs.declared.sync.Arc.{Arc}
use Rattle.std.proofs.lemmas.Bool.{cases_eq}
use Rattle.std.proofs.lemmas.List.{length-map, length-append, map-append, take_all, take_more}
use Rattle.std.proofs.lemmas.List.Elements.{Contains-push_cases}
use Rattle.std.proofs.lemmas.Option.{slice_get_past}
use Rattle.netlist_schema.specs.Design.{Design, cell_at, cells_in, lib_at}
use Rattle.netlist_schema.specs.Names.{AreDistinct, cell_names}
use Rattle.netlist_schema.specs.Types.{CellBody, CellId, Contents as ContentsType, Lib, LibId, Object}
use Rattle.netlist_schema.specs.declared.ids.Object.TheVariants.{Directory, Interface, Contents as Inside, Notes}
use Rattle.netlist_schema.proofs.Objects.{is_listed}
use Rattle.netlist_schema.proofs.Lists.{get_there}
use Rattle.edit_rules_spec.specs.Edit.{changed_at, lib_with_more, with_changed_cell, with_more_cell}
use Rattle.edit_rules_spec.specs.Objects.{Agrees, IsPrefix, face_of}
use Rattle.edit_rules_spec.specs.Overlay.{HasSameHeads}
use Rattle.netlist_schema.proofs.WithCell.{cases_cell}
use Rattle.edit_rules_spec.proofs.Edits.{IsNext, cell_at-changed_other, cell_at-changed_same, cells_of, map-changed_at, more_other, other_cell_at}
use Rattle.edit_rules_spec.proofs.Overlaid.{design_by_objects}
use Rattle.edit_rules_spec.proofs.Same.{names_of_directory}
use Rattle.edit_cells.specs.State.{State}
use Rattle.db_work.specs.Becomes.{AreNewMet, AreOldOrNew, CanBecome, IsBehind, HasTargetNames, IsFuller, IsNear, IsNearer, Meets, joined, put_together, shell_of}
use Rattle.db_draft.proofs.Making.{each_distinct, more_cells, prefix_distinct}

-- ---- options and lists

names_at : (cells : List CellBody) (k : ℕ) → slice_get (cell_names cells) k ≡ option_map (λ (c : CellBody). c.name.id) (slice_get cells k)
names_at [] k = refl
names_at (c ∷ cells) zero = refl
names_at (c ∷ cells) (suc k) = names_at cells k

-- a beginning with the next item added is a beginning
split_next : {X : Type 0} (xs more : List X) (x : X) → slice_get (xs ++ more) (length xs) ≡ Some x → (rest : List X) × (xs ++ more ≡ (xs ++ x ∷ []) ++ rest)
split_next [] [] x is = cc
split_next [] (y ∷ more) x is = let same : y ≡ x = cc in (more, ap (λ z. z ∷ more) same)
split_next (z ∷ xs) more x is = let rest = split_next xs more x is in (rest.0, ap (λ ws. z ∷ ws) rest.1)

prefix_more : {X : Type 0} (xs ys : List X) (x : X) → IsPrefix xs ys → slice_get ys (length xs) ≡ Some x → IsPrefix (xs ++ x ∷ []) ys
prefix_more xs ys x prefix is =
    let found = split_next xs prefix.0 x (ap (λ zs. slice_get zs (length xs)) (sym prefix.1) ∙ is) in
    (found.0, prefix.1 ∙ found.1)

-- a beginning that is as long is the whole
whole_prefix : {X : Type 0} (xs ys : List X) → IsPrefix xs ys → length ys ≤ length xs → xs ≡ ys
whole_prefix xs ys prefix long =
    let all : length ys ≡ length xs + length prefix.0 = ap length prefix.1 ∙ length-append xs prefix.0 in
    let rest : prefix.0 ≡ [] = empty prefix.0 (omega arith) in
    sym (prefix.1 ∙ ap (λ more. xs ++ more) rest ∙ append-nil xs)
  where
    empty : {Y : Type 0} (zs : List Y) → length zs ≤ 0 → zs ≡ []
    empty [] none = refl
    empty (z ∷ zs) none = absurd (omega arith)

lib_there : (xs ys : List Lib) (k : ℕ) → map (λ (l : Lib). l.head) xs ≡ map (λ (l : Lib). l.head) ys → IsSome (slice_get ys k) → IsSome (slice_get xs k)
lib_there [] [] k heads is = is
lib_there [] (y ∷ ys) k heads is = cc
lib_there (x ∷ xs) [] k heads is = cc
lib_there (x ∷ xs) (y ∷ ys) zero heads is = refl
lib_there (x ∷ xs) (y ∷ ys) (suc k) heads is = let rest : map (λ (l : Lib). l.head) xs ≡ map (λ (l : Lib). l.head) ys = cc in lib_there xs ys k rest is

lib_of_cell : (o : Option Lib) (k : ℕ) (c : CellBody) → slice_get (cells_of o) k ≡ Some c → IsSome o
lib_of_cell None k c is = cc
lib_of_cell (Some l) k c is = refl

-- ---- parts of cells

abbrev inside_of : CellBody → Option ContentsType
inside_of body = body.contents

cell_by_parts : (o p : Option CellBody) → option_map shell_of o ≡ option_map shell_of p → option_map inside_of o ≡ option_map inside_of p → o ≡ p
cell_by_parts None None shell inside = refl
cell_by_parts None (Some b) shell inside = cc
cell_by_parts (Some a) None shell inside = cc
cell_by_parts (Some a) (Some b) shell inside =
    let shells : shell_of a ≡ shell_of b = cc in
    let contents : a.contents ≡ b.contents = cc in
    ap (λ (b : CellBody). Some b) (whole a b shells contents)
  where
    whole : (a b : CellBody) → shell_of a ≡ shell_of b → a.contents ≡ b.contents → a ≡ b
    whole a b shells contents = λ i. record (shells i) { contents = contents i }

shell_of_face : (o : Option CellBody) → option_map shell_of (option_map face_of o) ≡ option_map shell_of o
shell_of_face None = refl
shell_of_face (Some body) = refl

-- what agrees is met
pub meets : (d e : Design) (o : Object) → Agrees d e o → Meets d e o
meets d e (Directory lib) agree = tt
meets d e (Interface id) agree = sym (shell_of_face (cell_at d id)) ∙ ap (option_map shell_of) agree ∙ shell_of_face (cell_at e id)
meets d e (Inside id) agree = agree
meets d e Notes agree = agree

no_shell : (o : Option CellBody) → None ≡ option_map shell_of o → o ≡ None
no_shell None is = refl
no_shell (Some c) is = cc

no_inside : (o : Option CellBody) → None ≡ option_map inside_of o → o ≡ None
no_inside None is = refl
no_inside (Some c) is = cc

no_name : (o : Option CellBody) → None ≡ option_map (λ (b : CellBody). b.name.id) o → o ≡ None
no_name None is = refl
no_name (Some c) is = cc

name_of_shell : (o : Option CellBody) → option_map (λ (b : CellBody). b.name.id) (option_map shell_of o) ≡ option_map (λ (b : CellBody). b.name.id) o
name_of_shell None = refl
name_of_shell (Some c) = refl

-- ---- where it begins

pub starts : (head : Design) (work : State) (t : Design) → CanBecome head work t → IsBehind work t head
starts head work t can = record {
  laid = can.overlaid.laid;
  valid = can.valid;
  heads = can.overlaid.heads;
  begins = can.grown.directories;
  rest = λ lib no. names_of_directory (lib_at head lib) (lib_at t lib) (can.overlaid.others (Directory lib) no);
  others = λ o no. meets head t o (can.overlaid.others o no);
}

-- ---- one more cell

module _ (work : State) (t m : Design) (behind : IsBehind work t m) (id : CellId) (written : Contains work.written (Directory id.lib)) (next : IsNext m id) (within : id.slot < length (cells_in work.design id.lib)) where
  lib_same : cell_names (cells_in work.design id.lib) ≡ cell_names (cells_in t id.lib)
  lib_same = names_of_directory (lib_at work.design id.lib) (lib_at t id.lib) (behind.laid (Directory id.lib) written)

  longer : id.slot < length (cells_in t id.lib)
  longer = omega (arith, ap length lib_same, length-map (cells_in work.design id.lib) (λ (c : CellBody). c.name.id), length-map (cells_in t id.lib) (λ (c : CellBody). c.name.id))

  none_yet : cell_at m id ≡ None
  none_yet = slice_get_past (cells_in m id.lib) id.slot (omega (arith, next))

  -- both its parts were written
  outside_written : Contains work.written (Interface id)
  outside_written = ⊎_elim
      (λ (is : Contains work.written (Interface id)). is)
      (λ (no : ¬ Contains work.written (Interface id)).
      let there = get_there (cells_in t id.lib) id.slot longer in
      let never : None ≡ Some (shell_of there.0) = ap (option_map shell_of) (sym none_yet) ∙ behind.others (Interface id) no ∙ ap (option_map shell_of) there.1 in
      cc)
      (is_listed work.written (Interface id))

  inside_written : Contains work.written (Inside id)
  inside_written = ⊎_elim
      (λ (is : Contains work.written (Inside id)). is)
      (λ (no : ¬ Contains work.written (Inside id)).
      let there = get_there (cells_in t id.lib) id.slot longer in
      let never : None ≡ Some there.0.contents = ap (option_map inside_of) (sym none_yet) ∙ behind.others (Inside id) no ∙ ap (option_map inside_of) there.1 in
      cc)
      (is_listed work.written (Inside id))

  same_cell : cell_at work.design id ≡ cell_at t id
  same_cell = cell_by_parts (cell_at work.design id) (cell_at t id) (meets work.design t (Interface id) (behind.laid (Interface id) outside_written)) (behind.laid (Inside id) inside_written)

  module _ (body : CellBody) (has : cell_at work.design id ≡ Some body) where
    there : cell_at t id ≡ Some body
    there = sym same_cell ∙ has

    pub room : IsSome (lib_at m id.lib)
    room = lib_there m.libs t.libs id.lib.0 behind.heads.libs (lib_of_cell (lib_at t id.lib) id.slot body there)

    abbrev pub after : Design
    after = with_more_cell m id.lib body

    names_after : cell_names (cells_in m id.lib ++ body ∷ []) ≡ cell_names (cells_in m id.lib) ++ body.name.id ∷ []
    names_after = map-append (λ (c : CellBody). c.name.id) (cells_in m id.lib) (body ∷ [])

    begins_here : IsPrefix (cell_names (cells_in m id.lib ++ body ∷ [])) (cell_names (cells_in t id.lib))
    begins_here =
        let at : length (cell_names (cells_in m id.lib)) ≡ id.slot = length-map (cells_in m id.lib) (λ (c : CellBody). c.name.id) ∙ sym next in
        let name : slice_get (cell_names (cells_in t id.lib)) (length (cell_names (cells_in m id.lib))) ≡ Some body.name.id =
        ap (slice_get (cell_names (cells_in t id.lib))) at ∙ names_at (cells_in t id.lib) id.slot ∙ ap (option_map (λ (c : CellBody). c.name.id)) there in
        subst (λ (ns : List (List ℕ)). IsPrefix ns (cell_names (cells_in t id.lib))) (sym names_after)
        (prefix_more (cell_names (cells_in m id.lib)) (cell_names (cells_in t id.lib)) body.name.id (behind.begins id.lib) name)

    pub names_differ : AreDistinct (cell_names (cells_in m id.lib ++ body ∷ []))
    names_differ = prefix_distinct (cell_names (cells_in m id.lib ++ body ∷ [])) (cell_names (cells_in t id.lib)) begins_here (each_distinct t behind.valid id.lib)

    other_cells : (lib : LibId) → lib.0 ≢ id.lib.0 → cells_in after lib ≡ cells_in m lib
    other_cells lib apart = ap cells_of (more_other m id.lib body lib apart)

    begins_after : (lib : LibId) → IsPrefix (cell_names (cells_in after lib)) (cell_names (cells_in t lib))
    begins_after lib = ⊎_elim
        (λ (same : lib.0 ≡ id.lib.0).
        subst (λ (l : LibId). IsPrefix (cell_names (cells_in after l)) (cell_names (cells_in t l))) (sym (lib_is lib same))
        (subst (λ (cs : List CellBody). IsPrefix (cell_names cs) (cell_names (cells_in t id.lib))) (sym (more_cells m id.lib body room)) begins_here))
        (λ (apart : lib.0 ≢ id.lib.0). subst (λ (cs : List CellBody). IsPrefix (cell_names cs) (cell_names (cells_in t lib))) (sym (other_cells lib apart)) (behind.begins lib))
        (cases_eq lib.0 id.lib.0)
      where
        lib_is : (lib : LibId) → lib.0 ≡ id.lib.0 → lib ≡ id.lib
        lib_is lib same = λ i. record { 0 = same i }

    cell_after : cell_at after id ≡ Some body
    cell_after = ap (λ (cs : List CellBody). slice_get cs id.slot) (more_cells m id.lib body room) ∙ last (cells_in m id.lib) id.slot next
      where
        last : (cs : List CellBody) (k : ℕ) → k ≡ length cs → slice_get (cs ++ body ∷ []) k ≡ Some body
        last [] zero is = refl
        last [] (suc k) is = absurd (omega arith)
        last (c ∷ cs) zero is = absurd (omega arith)
        last (c ∷ cs) (suc k) is = last cs k (omega arith)

    seen_after : {Y : Type 0} (K : CellBody → Y) (at : CellId) → option_map K (cell_at m at) ≡ option_map K (cell_at t at) → option_map K (cell_at after at) ≡ option_map K (cell_at t at)
    seen_after {Y} K at was = ⊎_elim
        (λ (same : at ≡ id). subst (λ (c : CellId). option_map K (cell_at after c) ≡ option_map K (cell_at t c)) (sym same) (ap (option_map K) (cell_after ∙ sym there)))
        (λ (apart : at ≢ id). ap (option_map K) (other_cell_at m id body at next apart) ∙ was)
        (cases_cell at id)

    meets_after : (o : Object) → Meets m t o → Meets after t o
    meets_after (Directory lib) was = tt
    meets_after (Interface at) was = seen_after shell_of at was
    meets_after (Inside at) was = seen_after inside_of at was
    meets_after Notes was = was

    full_after : (lib : LibId) → HasTargetNames t m lib → HasTargetNames t after lib
    full_after lib full = ⊎_elim
        (λ (same : lib.0 ≡ id.lib.0).
        let here : length (cells_of (slice_get m.libs lib.0)) ≡ length (cells_of (slice_get t.libs lib.0)) =
        sym (length-map (cells_in m lib) (λ (c : CellBody). c.name.id)) ∙ ap length full ∙ length-map (cells_in t lib) (λ (c : CellBody). c.name.id) in
        let same_length : length (cells_in m id.lib) ≡ length (cells_in t id.lib) = subst (λ (k : ℕ). length (cells_of (slice_get m.libs k)) ≡ length (cells_of (slice_get t.libs k))) same here in
        absurd (omega (arith, next, longer)))
        (λ (apart : lib.0 ≢ id.lib.0). ap cell_names (other_cells lib apart) ∙ full)
        (cases_eq lib.0 id.lib.0)

    pub fuller : IsFuller work t m after
    fuller = record {
      behind = record {
        laid = behind.laid;
        valid = behind.valid;
        heads = record {
          title = behind.heads.title;
          libs = map-changed_at (lib_with_more body) (λ (l : Lib). l.head) (λ _. refl) id.lib.0 m.libs ∙ behind.heads.libs;
          top = behind.heads.top;
        };
        begins = begins_after;
        rest = λ lib no. full_after lib (behind.rest lib no);
        others = λ o no. meets_after o (behind.others o no);
      };
      full = full_after;
      cells = λ at. ⊎_elim
          (λ (same : at ≡ id). inr (subst (λ (c : CellId). cell_at after c ≡ cell_at t c) (sym same) (cell_after ∙ sym there)))
          (λ (apart : at ≢ id). inl (other_cell_at m id body at next apart))
          (cases_cell at id);
    }

    pub one_more : length (cells_in after id.lib) ≡ id.slot + 1
    one_more = ap length (more_cells m id.lib body room) ∙ one_longer (cells_in m id.lib) ∙ ap (λ n. n + 1) (sym next)
      where
        one_longer : (cs : List CellBody) → length (cs ++ body ∷ []) ≡ length cs + 1
        one_longer [] = refl
        one_longer (c ∷ cs) = omega (arith, one_longer cs)

-- there is a cell at the next place
pub next_there : (work : State) (t m : Design) → IsBehind work t m → (id : CellId) → id.slot < length (cells_in work.design id.lib) → cell_at work.design id ≡ None → ⊥
next_there work t m behind id within none =
    let found = get_there (cells_in work.design id.lib) id.slot within in
    let never : None ≡ Some found.0 = sym none ∙ found.1 in
    cc

pub fuller_none : (work : State) (t m : Design) → IsBehind work t m → IsFuller work t m m
fuller_none work t m behind = record { behind = behind; full = λ lib full. full; cells = λ id. inl refl }

pub fuller_twice : (work : State) (t d m e : Design) → IsFuller work t d m → IsFuller work t m e → IsFuller work t d e
fuller_twice work t d m e first second = record {
  behind = second.behind;
  full = λ lib full. second.full lib (first.full lib full);
  cells = λ id. ⊎_elim
      (λ (still : cell_at e id ≡ cell_at m id). ⊎_elim
      (λ (old : cell_at m id ≡ cell_at d id). inl (still ∙ old))
      (λ (new : cell_at m id ≡ cell_at t id). inr (still ∙ new))
      (first.cells id))
      (λ (new : cell_at e id ≡ cell_at t id). inr new)
      (second.cells id);
}

-- a directory that was written is no shorter in the work
pub no_longer : (work : State) (t m : Design) → IsBehind work t m → (lib : LibId) → Contains work.written (Directory lib) → length (cells_in m lib) ≤ length (cells_in work.design lib)
no_longer work t m behind lib written =
    let same = ap length (names_of_directory (lib_at work.design lib) (lib_at t lib) (behind.laid (Directory lib) written)) in
    let prefix = behind.begins lib in
    let all = ap length prefix.1 ∙ length-append (cell_names (cells_in m lib)) prefix.0 in
    omega (arith, length-map (cells_in m lib) (λ (c : CellBody). c.name.id), length-map (cells_in work.design lib) (λ (c : CellBody). c.name.id))

-- one that is as long as in the work is full
pub is_full : (work : State) (t m : Design) → IsBehind work t m → (lib : LibId) → Contains work.written (Directory lib) → length (cells_in work.design lib) ≤ length (cells_in m lib) → HasTargetNames t m lib
is_full work t m behind lib written long =
    let same = ap length (names_of_directory (lib_at work.design lib) (lib_at t lib) (behind.laid (Directory lib) written)) in
    whole_prefix (cell_names (cells_in m lib)) (cell_names (cells_in t lib)) (behind.begins lib)
    (omega (arith, length-map (cells_in m lib) (λ (c : CellBody). c.name.id), length-map (cells_in work.design lib) (λ (c : CellBody). c.name.id)))

-- ---- one object is brought over

names_set : (x b : CellBody) (cells : List CellBody) (slot : ℕ) → slice_get cells slot ≡ Some b → x.name.id ≡ b.name.id → cell_names (changed_at (λ _. x) slot cells) ≡ cell_names cells
names_set x b [] slot found is = refl
names_set x b (c ∷ cells) zero found is = let same : c ≡ b = cc in ap (λ n. n ∷ cell_names cells) (is ∙ ap (λ (y : CellBody). y.name.id) (sym same))
names_set x b (c ∷ cells) (suc slot) found is = ap (λ ns. c.name.id ∷ ns) (names_set x b cells slot found is)

names_in_set : (x b : CellBody) (libs : List Lib) (k slot j : ℕ) → slice_get (cells_of (slice_get libs k)) slot ≡ Some b → x.name.id ≡ b.name.id
    → cell_names (cells_of (slice_get (changed_at (λ (l : Lib). record l { cells = changed_at (λ _. x) slot l.cells }) k libs) j)) ≡ cell_names (cells_of (slice_get libs j))
names_in_set x b [] k slot j found is = refl
names_in_set x b (l ∷ libs) zero slot zero found is = names_set x b l.cells slot found is
names_in_set x b (l ∷ libs) zero slot (suc j) found is = refl
names_in_set x b (l ∷ libs) (suc k) slot zero found is = refl
names_in_set x b (l ∷ libs) (suc k) slot (suc j) found is = names_in_set x b libs k slot j found is

pub stays : (work : State) (t m : Design) (object : Object) → IsNear work t m → Meets m t object → IsNearer work t m m object
stays work t m object near here = record { near = near; here = here; kept = λ o is. is }

module _ (work : State) (t m : Design) (near : IsNear work t m) (id : CellId) where
  name_here : option_map (λ (c : CellBody). c.name.id) (cell_at m id) ≡ option_map (λ (c : CellBody). c.name.id) (cell_at t id)
  name_here = sym (names_at (cells_in m id.lib) id.slot) ∙ ap (λ ns. slice_get ns id.slot) (near.full id.lib) ∙ names_at (cells_in t id.lib) id.slot

  -- where the cell is in the one it is in the other
  none_in_both : {Y : Type 0} (K : CellBody → Y) → cell_at t id ≡ None → option_map K (cell_at m id) ≡ option_map K (cell_at t id)
  none_in_both K none = ap (option_map K) (no_name (cell_at m id) (ap (option_map (λ (c : CellBody). c.name.id)) (sym none) ∙ sym name_here) ∙ sym none)

  none_of_ours : {Y : Type 0} (K : CellBody → Y) → cell_at m id ≡ None → option_map K (cell_at m id) ≡ option_map K (cell_at t id)
  none_of_ours K none = none_in_both K (no_name (cell_at t id) (ap (option_map (λ (c : CellBody). c.name.id)) (sym none) ∙ name_here))

  pub no_outside : Contains work.written (Interface id) → (cell_at work.design id ≡ None) ⊎ (cell_at m id ≡ None) → IsNearer work t m m (Interface id)
  no_outside written none = stays work t m (Interface id) near (⊎_elim
      (λ (of_work : cell_at work.design id ≡ None).
      none_in_both shell_of (no_shell (cell_at t id) (ap (option_map shell_of) (sym of_work) ∙ meets work.design t (Interface id) (near.laid (Interface id) written))))
      (λ (of_head : cell_at m id ≡ None). none_of_ours shell_of of_head)
      none)

  pub no_inside_here : Contains work.written (Inside id) → (cell_at work.design id ≡ None) ⊎ (cell_at m id ≡ None) → IsNearer work t m m (Inside id)
  no_inside_here written none = stays work t m (Inside id) near (⊎_elim
      (λ (of_work : cell_at work.design id ≡ None).
      none_in_both inside_of (no_inside (cell_at t id) (ap (option_map inside_of) (sym of_work) ∙ near.laid (Inside id) written)))
      (λ (of_head : cell_at m id ≡ None). none_of_ours inside_of of_head)
      none)

  module _ (a b : CellBody) (ours : cell_at work.design id ≡ Some a) (theirs : cell_at m id ≡ Some b) where
    -- another body of the same name
    module _ (x : CellBody) (named : x.name.id ≡ b.name.id) where
      abbrev pub changed : Design
      changed = with_changed_cell m id (λ _. x)

      cell_changed : cell_at changed id ≡ Some x
      cell_changed = cell_at-changed_same m id (λ _. x) ∙ ap (option_map (λ _. x)) theirs

      other_seen : {Y : Type 0} (K : CellBody → Y) (at : CellId) → (at ≡ id → option_map K (cell_at changed id) ≡ option_map K (cell_at t id)) → option_map K (cell_at m at) ≡ option_map K (cell_at t at) → option_map K (cell_at changed at) ≡ option_map K (cell_at t at)
      other_seen {Y} K at here was = ⊎_elim
          (λ (same : at ≡ id). subst (λ (c : CellId). option_map K (cell_at changed c) ≡ option_map K (cell_at t c)) (sym same) (here same))
          (λ (apart : at ≢ id). ap (option_map K) (cell_at-changed_other m id (λ _. x) at apart) ∙ was)
          (cases_cell at id)

      heads_changed : HasSameHeads changed t
      heads_changed = record {
        title = near.heads.title;
        libs = map-changed_at (λ (l : Lib). record l { cells = changed_at (λ _. x) id.slot l.cells }) (λ (l : Lib). l.head) (λ _. refl) id.lib.0 m.libs ∙ near.heads.libs;
        top = near.heads.top;
      }

      full_changed : (lib : LibId) → HasTargetNames t changed lib
      full_changed lib = names_in_set x b m.libs id.lib.0 id.slot lib.0 theirs named ∙ near.full lib

      -- what is met stays so, where each part of the new body is as before or as in the target
      kept : (option_map shell_of (cell_at m id) ≡ option_map shell_of (cell_at t id) → option_map shell_of (Some x) ≡ option_map shell_of (cell_at t id))
          → (option_map inside_of (cell_at m id) ≡ option_map inside_of (cell_at t id) → option_map inside_of (Some x) ≡ option_map inside_of (cell_at t id))
          → (o : Object) → Meets m t o → Meets changed t o
      kept outside inside (Directory lib) was = tt
      kept outside inside (Interface at) was =
          other_seen shell_of at (λ same. ap (option_map shell_of) cell_changed ∙ outside (subst (λ (c : CellId). option_map shell_of (cell_at m c) ≡ option_map shell_of (cell_at t c)) same was)) was
      kept outside inside (Inside at) was =
          other_seen inside_of at (λ same. ap (option_map inside_of) cell_changed ∙ inside (subst (λ (c : CellId). option_map inside_of (cell_at m c) ≡ option_map inside_of (cell_at t c)) same was)) was
      kept outside inside Notes was = was

      nearer : (object : Object) → Meets changed t object
          → (option_map shell_of (cell_at m id) ≡ option_map shell_of (cell_at t id) → option_map shell_of (Some x) ≡ option_map shell_of (cell_at t id))
          → (option_map inside_of (cell_at m id) ≡ option_map inside_of (cell_at t id) → option_map inside_of (Some x) ≡ option_map inside_of (cell_at t id))
          → IsNearer work t m changed object
      nearer object here outside inside = record {
        near = record { laid = near.laid; heads = heads_changed; full = full_changed; others = λ o no. kept outside inside o (near.others o no) };
        here = here;
        kept = kept outside inside;
      }

      pub keeps_name : slice_get (cell_names (cells_in m id.lib)) id.slot ≡ Some x.name.id
      keeps_name = names_at (cells_in m id.lib) id.slot ∙ ap (option_map (λ (c : CellBody). c.name.id)) theirs ∙ ap (λ n. Some n) (sym named)

    outside_is : Contains work.written (Interface id) → option_map shell_of (Some (put_together a b)) ≡ option_map shell_of (cell_at t id)
    outside_is written = ap (option_map shell_of) (sym ours) ∙ meets work.design t (Interface id) (near.laid (Interface id) written)

    inside_is : Contains work.written (Inside id) → option_map inside_of (Some (put_together b a)) ≡ option_map inside_of (cell_at t id)
    inside_is written = ap (option_map inside_of) (sym ours) ∙ near.laid (Inside id) written

    pub outside_named : Contains work.written (Interface id) → (put_together a b).name.id ≡ b.name.id
    outside_named written =
        let same : option_map (λ (c : CellBody). c.name.id) (cell_at work.design id) ≡ option_map (λ (c : CellBody). c.name.id) (cell_at t id) =
        sym (name_of_shell (cell_at work.design id)) ∙ ap (option_map (λ (c : CellBody). c.name.id)) (meets work.design t (Interface id) (near.laid (Interface id) written)) ∙ name_of_shell (cell_at t id) in
        let names : Some a.name.id ≡ Some b.name.id = ap (option_map (λ (c : CellBody). c.name.id)) (sym ours) ∙ same ∙ sym name_here ∙ ap (option_map (λ (c : CellBody). c.name.id)) theirs in
        cc

    pub outside_brought : Contains work.written (Interface id) → IsNearer work t m (with_changed_cell m id (λ _. put_together a b)) (Interface id)
    outside_brought written =
        let x : CellBody = put_together a b in
        let named = outside_named written in
        nearer x named (Interface id) (ap (option_map shell_of) (cell_changed x named) ∙ outside_is written) (λ _. outside_is written) (λ was. ap (option_map inside_of) (sym theirs) ∙ was)

    pub inside_brought : Contains work.written (Inside id) → IsNearer work t m (with_changed_cell m id (λ _. put_together b a)) (Inside id)
    inside_brought written =
        let x : CellBody = put_together b a in
        nearer x refl (Inside id) (ap (option_map inside_of) (cell_changed x refl) ∙ inside_is written) (λ was. ap (option_map shell_of) (sym theirs) ∙ was) (λ _. inside_is written)

-- ---- notes

pub notes_brought : (work : State) (t m : Design) → IsNear work t m → Contains work.written Notes → IsNearer work t m (record m { notes = work.design.notes }) Notes
notes_brought work t m near written = record {
  near = record {
    laid = near.laid;
    heads = record { title = near.heads.title; libs = near.heads.libs; top = near.heads.top };
    full = near.full;
    others = λ o no. kept o (near.others o no);
  };
  here = near.laid Notes written;
  kept = kept;
}
  where
    kept : (o : Object) → Meets m t o → Meets (record m { notes = work.design.notes }) t o
    kept (Directory lib) was = tt
    kept (Interface id) was = was
    kept (Inside id) was = was
    kept Notes was = near.laid Notes written

-- all directories are full once those that were written are
pub is_near : (work : State) (t m : Design) → IsBehind work t m → ((lib : LibId) → Contains work.written (Directory lib) → HasTargetNames t m lib) → IsNear work t m
is_near work t m behind written = record {
  laid = behind.laid;
  heads = behind.heads;
  full = λ lib. ⊎_elim (λ (is : Contains work.written (Directory lib)). written lib is) (λ (no : ¬ Contains work.written (Directory lib)). behind.rest lib no) (is_listed work.written (Directory lib));
  others = behind.others;
}

-- ---- cells that were added

-- once all directories are full they are as in the target
pub new_met : (head t m : Design) → AreOldOrNew t head m → ((lib : LibId) → HasTargetNames t m lib) → AreNewMet head t m
new_met head t m cells full id past = ⊎_elim
    (λ (old : cell_at m id ≡ cell_at head id).
    let none : cell_at m id ≡ None = old ∙ slice_get_past (cells_in head id.lib) id.slot past in
    let names : option_map (λ (c : CellBody). c.name.id) (cell_at m id) ≡ option_map (λ (c : CellBody). c.name.id) (cell_at t id) =
    sym (names_at (cells_in m id.lib) id.slot) ∙ ap (λ ns. slice_get ns id.slot) (full id.lib) ∙ names_at (cells_in t id.lib) id.slot in
    none ∙ sym (no_name (cell_at t id) (ap (option_map (λ (c : CellBody). c.name.id)) (sym none) ∙ names)))
    (λ (new : cell_at m id ≡ cell_at t id). new)
    (cells id)

-- and stay so
pub new_kept : (head t m e : Design) → ((o : Object) → Meets m t o → Meets e t o) → AreNewMet head t m → AreNewMet head t e
new_kept head t m e kept met id past =
    cell_by_parts (cell_at e id) (cell_at t id) (kept (Interface id) (ap (option_map shell_of) (met id past))) (kept (Inside id) (ap (option_map inside_of) (met id past)))

-- ---- at the end

same_directory : (xs ys : List Lib) (k : ℕ) → map (λ (l : Lib). l.head) xs ≡ map (λ (l : Lib). l.head) ys → cell_names (cells_of (slice_get xs k)) ≡ cell_names (cells_of (slice_get ys k))
    → option_map (λ (l : Lib). cell_names l.cells) (slice_get xs k) ≡ option_map (λ (l : Lib). cell_names l.cells) (slice_get ys k)
same_directory [] [] k heads names = refl
same_directory [] (y ∷ ys) k heads names = cc
same_directory (x ∷ xs) [] k heads names = cc
same_directory (x ∷ xs) (y ∷ ys) zero heads names = ap (λ ns. Some ns) names
same_directory (x ∷ xs) (y ∷ ys) (suc k) heads names = let rest : map (λ (l : Lib). l.head) xs ≡ map (λ (l : Lib). l.head) ys = cc in same_directory xs ys k rest names

-- what meets the target in all is the target
pub is_target : (work : State) (t m : Design) → IsNear work t m → ((o : Object) → Contains work.written o → Meets m t o) → m ≡ t
is_target work t m near written = design_by_objects m t near.heads each
  where
    all : (o : Object) → Meets m t o
    all o = ⊎_elim (λ (is : Contains work.written o). written o is) (λ (no : ¬ Contains work.written o). near.others o no) (is_listed work.written o)

    cell : (id : CellId) → cell_at m id ≡ cell_at t id
    cell id = cell_by_parts (cell_at m id) (cell_at t id) (all (Interface id)) (all (Inside id))

    each : (o : Object) → Agrees m t o
    each (Directory lib) = same_directory m.libs t.libs lib.0 near.heads.libs (near.full lib)
    each (Interface id) = ap (option_map face_of) (cell id)
    each (Inside id) = all (Inside id)
    each Notes = all Notes

-- ---- what a look-up gives

pub shared_at : (found : Option (Arc CellBody Global)) (body : Arc CellBody Global) (d e : Design) (id : CellId) → found ≡ Some body → option_map arc_value found ≡ cell_at d id → d ≡ e → cell_at e id ≡ Some (arc_value body)
shared_at found body d e id is at same = sym (ap (option_map arc_value) (sym is) ∙ at ∙ ap (λ (x : Design). cell_at x id) same)

pub none_at : (found : Option (Arc CellBody Global)) (d e : Design) (id : CellId) → found ≡ None → option_map arc_value found ≡ cell_at d id → d ≡ e → cell_at e id ≡ None
none_at found d e id is at same = sym (ap (option_map arc_value) (sym is) ∙ at ∙ ap (λ (x : Design). cell_at x id) same)

both_parts : (o p : Option CellBody) (x : CellBody) → Some x ≡ joined o p → (a : CellBody) × (b : CellBody) × (o ≡ Some a) × (p ≡ Some b) × (x ≡ put_together a b)
both_parts None p x is = cc
both_parts (Some a) None x is = cc
both_parts (Some a) (Some b) x is = (a, b, refl, refl, cc)

one_missing : (o p : Option CellBody) → None ≡ joined o p → (o ≡ None) ⊎ (p ≡ None)
one_missing None p is = inl refl
one_missing (Some a) None is = inr refl
one_missing (Some a) (Some b) is = cc

module _ (work : State) (t m : Design) (near : IsNear work t m) (id : CellId) (found : Option (Arc CellBody Global)) where
  module _ (body : Arc CellBody Global) (is : found ≡ Some body) where
    whole_of : (o p : Option CellBody) → option_map arc_value found ≡ joined o p → (a : CellBody) × (b : CellBody) × (o ≡ Some a) × (p ≡ Some b) × (arc_value body ≡ put_together a b)
    whole_of o p at = both_parts o p (arc_value body) (ap (option_map arc_value) (sym is) ∙ at)

    pub outside_fits : Contains work.written (Interface id) → option_map arc_value found ≡ joined (cell_at work.design id) (cell_at m id) → slice_get (cell_names (cells_in m id.lib)) id.slot ≡ Some (arc_value body).name.id
    outside_fits written at =
        let parts = whole_of (cell_at work.design id) (cell_at m id) at in
        let named : (arc_value body).name.id ≡ (parts.1).name.id = ap (λ (x : CellBody). x.name.id) parts.4 ∙ outside_named work t m near id parts.0 parts.1 parts.2 parts.3 written in
        keeps_name work t m near id parts.0 parts.1 parts.2 parts.3 (arc_value body) named

    pub outside_done : Contains work.written (Interface id) → option_map arc_value found ≡ joined (cell_at work.design id) (cell_at m id) → IsNearer work t m (with_changed_cell m id (λ _. arc_value body)) (Interface id)
    outside_done written at =
        let parts = whole_of (cell_at work.design id) (cell_at m id) at in
        subst (λ (x : CellBody). IsNearer work t m (with_changed_cell m id (λ _. x)) (Interface id)) (sym parts.4)
        (outside_brought work t m near id parts.0 parts.1 parts.2 parts.3 written)

    pub inside_fits : option_map arc_value found ≡ joined (cell_at m id) (cell_at work.design id) → slice_get (cell_names (cells_in m id.lib)) id.slot ≡ Some (arc_value body).name.id
    inside_fits at =
        let parts = whole_of (cell_at m id) (cell_at work.design id) at in
        let named : (arc_value body).name.id ≡ (parts.0).name.id = ap (λ (x : CellBody). x.name.id) parts.4 in
        keeps_name work t m near id parts.1 parts.0 parts.3 parts.2 (arc_value body) named

    pub inside_done : Contains work.written (Inside id) → option_map arc_value found ≡ joined (cell_at m id) (cell_at work.design id) → IsNearer work t m (with_changed_cell m id (λ _. arc_value body)) (Inside id)
    inside_done written at =
        let parts = whole_of (cell_at m id) (cell_at work.design id) at in
        subst (λ (x : CellBody). IsNearer work t m (with_changed_cell m id (λ _. x)) (Inside id)) (sym parts.4)
        (inside_brought work t m near id parts.1 parts.0 parts.3 parts.2 written)

  pub outside_absent : found ≡ None → Contains work.written (Interface id) → option_map arc_value found ≡ joined (cell_at work.design id) (cell_at m id) → IsNearer work t m m (Interface id)
  outside_absent none written at = no_outside work t m near id written (one_missing (cell_at work.design id) (cell_at m id) (ap (option_map arc_value) (sym none) ∙ at))

  pub inside_absent : found ≡ None → Contains work.written (Inside id) → option_map arc_value found ≡ joined (cell_at m id) (cell_at work.design id) → IsNearer work t m m (Inside id)
  inside_absent none written at =
      no_inside_here work t m near id written (elim (one_missing (cell_at m id) (cell_at work.design id) (ap (option_map arc_value) (sym none) ∙ at)) [
        | inl of_head ↦ inr of_head
        | inr of_work ↦ inl of_work
      ])

-- ---- one object after the other

taken_cases : (items : List Object) (i : ℕ) (x d o : Object) → i < length items → x ≡ get_or items i d → Contains (take (i + 1) items) o → Contains (take i items) o ⊎ (x ≡ o)
taken_cases items i x d o within is has =
    Contains-push_cases (take i items) x o (subst (λ (xs : List Object). Contains xs o) (take_more items i d within ∙ ap (λ (y : Object). take i items ++ y ∷ []) (sym is)) has)

none_taken : (items : List Object) (o : Object) → Contains (take 0 items) o → ⊥
none_taken items o has = absurd (omega (arith, has.1))

all_taken : (items written : List Object) (i : ℕ) (o : Object) → length items ≤ i → items ≡ written → Contains written o → Contains (take i items) o
all_taken items written i o long is has =
    subst (λ (xs : List Object). Contains xs o) (sym (take_all i items long)) (subst (λ (xs : List Object). Contains xs o) (sym is) has)

-- directories are gone through
pub record AddsTo (work : State) (t old new : Design) (done : List Object) : Type 0 where
  pub fuller : IsFuller work t old new
  pub full : (lib : LibId) → Contains done (Directory lib) → HasTargetNames t new lib

pub adds_none : (work : State) (t m : Design) (items : List Object) → IsBehind work t m → AddsTo work t m m (take 0 items)
adds_none work t m items behind = record { fuller = fuller_none work t m behind; full = λ lib has. absurd (none_taken items (Directory lib) has) }

pub adds_more : (work : State) (t old m new : Design) (items : List Object) (i : ℕ) (x d : Object) → i < length items → x ≡ get_or items i d → AddsTo work t old m (take i items)
    → IsFuller work t m new × ((lib : LibId) → x ≡ Directory lib → HasTargetNames t new lib) → AddsTo work t old new (take (i + 1) items)
adds_more work t old m new items i x d within is was step = record {
  fuller = fuller_twice work t old m new was.fuller step.0;
  full = λ lib has. ⊎_elim
      (λ (before : Contains (take i items) (Directory lib)). step.0.full lib (was.full lib before))
      (λ (here : x ≡ Directory lib). step.1 lib here)
      (taken_cases items i x d (Directory lib) within is has);
}

pub adds_all : (work : State) (t old m : Design) (items : List Object) (i : ℕ) → length items ≤ i → items ≡ work.written → AddsTo work t old m (take i items) → IsNear work t m
adds_all work t old m items i long is was = is_near work t m was.fuller.behind (λ lib has. was.full lib (all_taken items work.written i (Directory lib) long is has))

-- parts of cells and notes are gone through
pub record BringsTo (work : State) (t new : Design) (done : List Object) : Type 0 where
  pub near : IsNear work t new
  pub met : (o : Object) → Contains done o → Meets new t o

pub brings_none : (work : State) (t m : Design) (items : List Object) → IsNear work t m → BringsTo work t m (take 0 items)
brings_none work t m items near = record { near = near; met = λ o has. absurd (none_taken items o has) }

pub brings_more : (work : State) (t m new : Design) (items : List Object) (i : ℕ) (x d : Object) → i < length items → x ≡ get_or items i d → BringsTo work t m (take i items) → IsNearer work t m new x → BringsTo work t new (take (i + 1) items)
brings_more work t m new items i x d within is was step = record {
  near = step.near;
  met = λ o has. ⊎_elim
      (λ (before : Contains (take i items) o). step.kept o (was.met o before))
      (λ (here : x ≡ o). subst (λ (y : Object). Meets new t y) here step.here)
      (taken_cases items i x d o within is has);
}

pub brings_all : (work : State) (t m : Design) (items : List Object) (i : ℕ) → length items ≤ i → items ≡ work.written → BringsTo work t m (take i items) → m ≡ t
brings_all work t m items i long is was = is_target work t m was.near (λ o has. was.met o (all_taken items work.written i o long is has))
