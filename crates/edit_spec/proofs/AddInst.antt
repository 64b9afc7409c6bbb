-- Adding an instance is an operation.
use Rattle.std.proofs.Common.{◌≡◌, ℕ, List, [], ◌∷◌, Option, Some, None, refl, sym, ap, subst, ◌∙◌, ◌≢◌, ◌<◌, ◌≤◌, Bool, true, false, length, inl, inr, ⊎_elim, ◌↔◌}
use Rattle.std.proofs.lemmas.Bool.{leb-false, ltb-false, or_parts}
use Rattle.std.specs.List.{list_any, All}
use Rattle.std.specs.Option.{option_map, option_map_or, option_and_then, option_to_list}
use Rattle.std.specs.Prelude.{nat_le, nat_lt, ◌||◌}
use Rattle.netlist_schema.specs.Design.{Design, cell_at, insts_in, insts_of, nets_in, nets_of, cells_in}
use Rattle.netlist_schema.specs.Hierarchy.{IsBelow, IsCell}
use Rattle.netlist_schema.specs.Ident.{IsIdentifier}
use Rattle.netlist_schema.specs.Names.{cell_names}
use Rattle.netlist_schema.specs.Types.{CellBody, CellId, Contents, LibId, Object}
use Rattle.netlist_schema.specs.Valid.{IsValid}
use Rattle.edit_rules_spec.specs.Edit.{inner, edited, Edit, IsChanged, AllGoLast, AllPlaceOld, AllFindOld}
use Rattle.edit_rules_spec.specs.Find.{cell_named, is_same, place_of, cell_in, lib_named}
use Rattle.edit_rules_spec.specs.Local.{IsLocal}
use Rattle.edit_rules_spec.specs.Objects.{AgreesOn, contents_object}
use Rattle.edit_rules_spec.specs.Paths.{same_cell, is_below, is_cyclic}
use Rattle.edit_rules_spec.specs.Reading.{IsForName, IsForPlacing}
use Rattle.edit_rules_spec.specs.Rule.{first, no_lib, no_cell, refuse, is_leaf, too_many}
use Rattle.edit_rules_spec.specs.Seen.{Named, named, inside, contents_at, holder}
use Rattle.edit_rules_spec.specs.declared.reply.CellName.{CellName}
use Rattle.edit_rules_spec.specs.declared.reply.Reply.{Reply}
use Rattle.edit_rules_spec.specs.declared.reply.Reply.TheVariants.{Taken, LaterLibrary, IsCyclic, TooMany}
use Rattle.edit_spec.specs.AddInst.{is_later, taken_inst, with_inst, add_inst, add_inst_of, add_inst_needs}
use Rattle.edit_rules_spec.proofs.Closed.{is_cell_found}
use Rattle.edit_rules_spec.proofs.Filled.{filled}
use Rattle.edit_rules_spec.proofs.Levels.{below_is_found, same_cell-refl}
use Rattle.edit_rules_spec.proofs.Named.{cell_there}
use Rattle.edit_rules_spec.proofs.Reached.{either_same, iff_trans, cyclic_same, placing_needs_same, holder_same}
use Rattle.edit_rules_spec.proofs.Refusals.{first_none, not_refused}
use Rattle.edit_rules_spec.proofs.Same.{both_ways, named_same, name_needs_same, cell_named_same}
use Rattle.edit_spec.proofs.Changed.{insts_there, more_insts}
use Rattle.edit_spec.proofs.InsideStep.{inside_of, contents_edit}
use Rattle.edit_spec.proofs.InstValid.{more_good, more_valid}
use Rattle.edit_spec.proofs.JoinValid.{there}
use Rattle.edit_rules_spec.proofs.There.{named_cell_there}

-- an instance is added
lib_slot : (lib : LibId) (place : Option ℕ) (id : CellId) → option_map (λ slot. let c : CellId = record { lib = lib; slot = slot } in c) place ≡ Some id → lib ≡ id.lib
lib_slot lib None id is = cc
lib_slot lib (Some k) id is = let same : ◌≡◌ {A = CellId} (record { lib = lib; slot = k }) id = cc in ap (λ (c : CellId). c.lib) same

lib_found : (d : Design) (name : List ℕ) (lib : Option LibId) (id : CellId) → option_and_then (cell_in d name) lib ≡ Some id → lib ≡ Some id.lib
lib_found d name None id is = cc
lib_found d name (Some lib) id is = ap (λ (l : LibId). Some l) (lib_slot lib (place_of name (cell_names (cells_in d lib))) id is)

pub lib_of_named : (d : Design) (name : CellName) (id : CellId) → cell_named d name ≡ Some id → lib_named d name.lib ≡ Some id.lib
lib_of_named d name id is = lib_found d name.cell (lib_named d name.lib) id is

added : (d : Design) (cell of : CellName) (inst : List ℕ) (id c : CellId) (body : CellBody) → IsIdentifier inst → IsValid d → cell_named d cell ≡ Some id → cell_named d of ≡ Some c → cell_at d id ≡ Some body → inside d cell ≡ body.contents → first (add_inst_of cell inst of d).refusals ≡ None → IsValid (filled d id (record { insts = with_inst inst c (insts_of body); nets = nets_of body }))
added d cell of inst id c body identifier valid is of_is found contents allowed =
    let at : Named = named d cell in
    let to : Named = named d of in
    let inner_of : Option Contents = holder (cell_named d of) (inside d cell) in
    let holds : inner_of ≡ body.contents = ap (λ (o : Option CellId). holder o (inside d cell)) of_is ∙ contents in
    let cyclic : Bool = is_cyclic d (cell_named d cell) (cell_named d of) in
    let refusal9 : Option Reply = too_many (length (insts_in inner_of)) 1048576 in
    let refusal8 : Option Reply = refuse cyclic IsCyclic in
    let refusal7 : Option Reply = refuse (is_later at.lib to.lib) LaterLibrary in
    let refusal6 : Option Reply = taken_inst inner_of inst in
    let n1 = first_none (no_lib at) (no_cell at ∷ no_lib to ∷ no_cell to ∷ is_leaf inner_of ∷ refusal6 ∷ refusal7 ∷ refusal8 ∷ refusal9 ∷ []) allowed in
    let n2 = first_none (no_cell at) (no_lib to ∷ no_cell to ∷ is_leaf inner_of ∷ refusal6 ∷ refusal7 ∷ refusal8 ∷ refusal9 ∷ []) n1.1 in
    let n3 = first_none (no_lib to) (no_cell to ∷ is_leaf inner_of ∷ refusal6 ∷ refusal7 ∷ refusal8 ∷ refusal9 ∷ []) n2.1 in
    let n4 = first_none (no_cell to) (is_leaf inner_of ∷ refusal6 ∷ refusal7 ∷ refusal8 ∷ refusal9 ∷ []) n3.1 in
    let n5 = first_none (is_leaf inner_of) (refusal6 ∷ refusal7 ∷ refusal8 ∷ refusal9 ∷ []) n4.1 in
    let n6 = first_none refusal6 (refusal7 ∷ refusal8 ∷ refusal9 ∷ []) n5.1 in
    let n7 = first_none refusal7 (refusal8 ∷ refusal9 ∷ []) n6.1 in
    let n8 = first_none refusal8 (refusal9 ∷ []) n7.1 in
    let n9 = first_none refusal9 [] n8.1 in
    let target_body = cell_there d of c of_is in
    let free : list_any (λ i. is_same i.name.id inst) (insts_of body) ≡ false = subst (λ (o : Option Contents). list_any (λ i. is_same i.name.id inst) (insts_in o) ≡ false) holds (not_refused (list_any (λ i. is_same i.name.id inst) (insts_in inner_of)) Taken n6.0) in
    let room_in : length (insts_in inner_of) < 1048576 = leb-false 1048576 (length (insts_in inner_of)) (not_refused (nat_le 1048576 (length (insts_in inner_of))) (TooMany 1048576) n9.0) in
    let room : length (insts_of body) < 1048576 = subst (λ (o : Option Contents). length (insts_in o) < 1048576) holds room_in in
    let libs : is_later at.lib to.lib ≡ is_later (Some id.lib) (Some c.lib) = λ i. is_later (lib_of_named d cell id is i) (lib_of_named d of c of_is i) in
    let later : nat_lt id.lib.0 c.lib.0 ≡ false = sym libs ∙ not_refused (is_later at.lib to.lib) LaterLibrary n7.0 in
    let not_later : c.lib.0 ≤ id.lib.0 = ltb-false id.lib.0 c.lib.0 later in
    let cells : cyclic ≡ (same_cell c id || is_below d id c) = λ i. is_cyclic d (is i) (of_is i) in
    let both = or_parts (same_cell c id) (is_below d id c) (sym cells ∙ not_refused cyclic IsCyclic n8.0) in
    let apart : c ≢ id = λ same. let there : same_cell c id ≡ true = subst (λ (x : CellId). same_cell c x ≡ true) same (same_cell-refl c) in let never : true ≡ false = sym there ∙ both.0 in cc in
    let not_below : ¬ IsBelow d id c = λ below. let there : is_below d id c ≡ true = below_is_found d id c valid below in let never : true ≡ false = sym there ∙ both.1 in cc in
    let good = more_good d id c body inst identifier free room (is_cell_found d c target_body.0 target_body.1) not_later valid found in
    more_valid d id c body inst good apart not_below valid found

-- where both cells are found
placing_edit : (d : Design) (r of : Option CellId) (inst : List ℕ) → IsValid d → ((c : CellId) → of ≡ Some c → IsValid (edited d (option_to_list (option_map (λ id. inner id (record { insts = with_inst inst c (insts_in (inside_of d r)); nets = nets_in (inside_of d r) })) r)))) → IsValid (edited d (option_map_or (λ c. option_to_list (option_map (λ id. inner id (record { insts = with_inst inst c (insts_in (holder of (inside_of d r))); nets = nets_in (holder of (inside_of d r)) })) r)) of []))
placing_edit d r None inst valid good = valid
placing_edit d r (Some c) inst valid good = good c refl

pub add_inst_done : (d : Design) (cell : CellName) (inst : List ℕ) (of : CellName) → IsIdentifier inst → IsValid d → first (add_inst_of cell inst of d).refusals ≡ None → IsValid (edited d (add_inst_of cell inst of d).edits)
add_inst_done d cell inst of identifier valid allowed =
    placing_edit d (cell_named d cell) (cell_named d of) inst valid (λ c of_is.
    contents_edit d (cell_named d cell) (with_inst inst c) valid
    (λ id body is found contents. added d cell of inst id c body identifier valid is of_is found contents allowed)
    (cell_there d cell))

-- an instance is added where both cells are found
abbrev put_inst : Option CellId → Option CellId → Option Contents → List ℕ → List Edit
put_inst cell of contents name = option_map_or (λ c. option_to_list (option_map (λ id. inner id (record { insts = with_inst name c (insts_in (holder of contents)); nets = nets_in (holder of contents) })) cell)) of []

put_written : (d : Design) (cell of : Option CellId) (contents : Option Contents) (name : List ℕ) (o : Object) → IsChanged (put_inst cell of contents name) o → IsForPlacing d cell of o
put_written d cell None contents name o is = absurd is
put_written d None (Some of) contents name o is = absurd is
put_written d (Some cell) (Some of) contents name o is = ⊎_elim (λ (here : o ≡ contents_object cell). inl here) (λ (never : ⊥). absurd never) is

put_goes_last : (d : Design) (cell of : Option CellId) (contents : Option Contents) (name : List ℕ) → AllGoLast d (put_inst cell of contents name)
put_goes_last d cell None contents name = tt
put_goes_last d None (Some of) contents name = tt
put_goes_last d (Some cell) (Some of) contents name = (tt, tt)

put_finds : (d : Design) (cell of : Option CellId) (contents : Option Contents) (name : List ℕ) → ((c : CellId) → cell ≡ Some c → IsCell d c) → AllFindOld d (put_inst cell of contents name)
put_finds d cell None contents name there = tt
put_finds d None (Some of) contents name there = tt
put_finds d (Some cell) (Some of) contents name there = (there cell refl, tt)

put_places_old : (d : Design) (cell of : Option CellId) (contents : Option Contents) (name : List ℕ) → All (λ inst. IsCell d inst.of) (insts_in contents) → ((c : CellId) → of ≡ Some c → IsCell d c) → AllPlaceOld d (put_inst cell of contents name)
put_places_old d cell None contents name all there = tt
put_places_old d None (Some of) contents name all there = tt
put_places_old d (Some cell) (Some of) contents name all there = (more_insts d name of (insts_in contents) (there of refl) all, tt)

pub add_inst_local : (cell : CellName) (inst : List ℕ) (of : CellName) → IsLocal (add_inst_of cell inst of) (add_inst_needs cell of) (IsIdentifier inst)
add_inst_local cell inst of = record {
  same = λ d e closed grown agree.
      let at_cell : AgreesOn d e (IsForName d cell) = λ o is. agree o (inl is) in
      let at_of : AgreesOn d e (IsForName d of) = λ o is. agree o (inr (inl is)) in
      let placing : AgreesOn d e (IsForPlacing d (cell_named d cell) (cell_named d of)) = λ o is. agree o (inr (inr is)) in
      let cyclic : is_cyclic d (cell_named d cell) (cell_named d of) ≡ is_cyclic e (cell_named e cell) (cell_named e of) =
      cyclic_same d e (cell_named d cell) (cell_named d of) placing ∙ (λ i. is_cyclic e (cell_named_same d e cell grown at_cell i) (cell_named_same d e of grown at_of i)) in
      let held : holder (cell_named d of) (inside d cell) ≡ holder (cell_named e of) (inside e cell) =
      holder_same d e (cell_named d cell) (cell_named d of) placing ∙ (λ i. holder (cell_named_same d e of grown at_of i) (option_and_then (contents_at e) (cell_named_same d e cell grown at_cell i))) in
      λ i. add_inst (named_same d e cell grown at_cell i) (held i) (named_same d e of grown at_of i) (cyclic i) inst;
  needs_same = λ d e grown agree o.
      let at_cell : AgreesOn d e (IsForName d cell) = λ ob is. agree ob (inl is) in
      let at_of : AgreesOn d e (IsForName d of) = λ ob is. agree ob (inr (inl is)) in
      let placing : IsForPlacing d (cell_named d cell) (cell_named d of) o ↔ IsForPlacing e (cell_named e cell) (cell_named e of) o =
      iff_trans (placing_needs_same d e (cell_named d cell) (cell_named d of) o (λ ob is. agree ob (inr (inr is))))
      (iff_trans (both_ways (λ (c : Option CellId). IsForPlacing e c (cell_named d of) o) (cell_named d cell) (cell_named e cell) (cell_named_same d e cell grown at_cell))
      (both_ways (λ (c : Option CellId). IsForPlacing e (cell_named e cell) c o) (cell_named d of) (cell_named e of) (cell_named_same d e of grown at_of))) in
      either_same (name_needs_same d e cell o grown at_cell) (either_same (name_needs_same d e of o grown at_of) placing);
  writes_seen = λ d o is. inl (inr (inr (put_written d (cell_named d cell) (cell_named d of) (inside d cell) inst o is)));
  last = λ d. put_goes_last d (cell_named d cell) (cell_named d of) (inside d cell) inst;
  finds = λ d. put_finds d (cell_named d cell) (cell_named d of) (inside d cell) inst (named_cell_there d cell);
  places = λ d closed. put_places_old d (cell_named d cell) (cell_named d of) (inside d cell) inst (insts_there d (cell_named d cell) closed) (λ c is. let found = cell_there d of c is in is_cell_found d c found.0 found.1);
  valid = λ d typed valid allowed. add_inst_done d cell inst of typed valid allowed;
  refuses = λ d. inr (λ refusal. refusal);
}
