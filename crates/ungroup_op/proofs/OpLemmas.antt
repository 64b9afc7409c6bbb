-- The operation over what it has read.
use Rattle.std.proofs.Common.{Bor, ◌≡◌, ◌⊎◌, ◌↔◌, ◌+◌, inl, inr, ⊎_elim, ℕ, suc, arith, Bool, true, false, cond, List, [], ◌∷◌, map, Option, Some, None, refl, sym, ap, subst, ◌∙◌, slice_get, length}
use Rattle.std.specs.Prelude.{IfSome, IsSome, MatchResult, Result, Ok, option_and_then, option_map, option_to_list}
use Rattle.std.specs.List.{position_from}
use Rattle.std.specs.Option.{option_copied}
use Rattle.std.proofs.lemmas.List.{length-map}
use Rattle.netlist_schema.specs.Design.{Design, insts_in}
use Rattle.netlist_schema.specs.Types.{CellId, Contents, Inst, Note, Object, TopHead}
use Rattle.netlist_schema.specs.Valid.{IsValid}
use Rattle.edit_rules_spec.specs.Edit.{inner, noted}
use Rattle.edit_rules_spec.specs.Find.{cell_named, inst_named, inst_place, is_name}
use Rattle.edit_rules_spec.specs.Objects.{contents_object, face_object}
use Rattle.edit_rules_spec.specs.Reading.{IsForCell, IsForName, IsForNotes, IsInside as IsInsideOf}
use Rattle.edit_rules_spec.specs.Rule.{first, no_cell, no_lib, unless}
use Rattle.edit_rules_spec.specs.Seen.{contents_at, inside, named, placed}
use Rattle.edit_rules_spec.specs.declared.reply.CellName.{CellName}
use Rattle.edit_rules_spec.specs.declared.reply.Reply.{Reply}
use Rattle.edit_rules_spec.specs.declared.reply.Reply.TheVariants.{Done}
use Rattle.edit_rules_spec.proofs.Refusals.{same_name}
use Rattle.edit_spec.specs.Needs.{Needs}
use Rattle.edit_spec.specs.Rows.{outcome}
use Rattle.edit_spec.specs.declared.ops.Op.TheVariants.{Ungroup}
use Rattle.edit_cells.specs.Parts.{IsInside}
use Rattle.edit_cells.specs.State.{State, HasRead}
use Rattle.eco_reads.specs.Done.{IsDone, IsDoneOrFails}
use Rattle.eco_reads.specs.Plan.{CanBePut, IsPut}
use Rattle.eco_reads.specs.Plan as eco
use Rattle.eco_reads.specs.declared.plan.Plan.TheVariants.{Whole}
use Rattle.eco_reads.proofs.Found.{found_row, inside_is, refused_row}
use Rattle.eco_reads.proofs.Reading.{both_edits, done_read, only_name, planned_can, planned_done, put_result, read_then}
use Rattle.ungroup_spec.specs.Dissolved.{children}
use Rattle.ungroup_spec.specs.Groups.{Site}
use Rattle.ungroup_spec.specs.MovedNotes.{changed_notes}
use Rattle.ungroup_spec.specs.Needs.{IsForInst}
use Rattle.ungroup_spec.specs.Ungroup.{edits_if, inside_inst, notes_seen, site_of}
use Rattle.ungroup_plans.specs.Heads.{AreSound}
use Rattle.ungroup_plans.specs.Moved.{notes_moved}
use Rattle.ungroup_plans.specs.Planned.{IsMade, refusals_of}
use Rattle.ungroup_plans.specs.declared.plan.Ungrouped.{Ungrouped}
use Rattle.ungroup_op.specs.Crossing.{crossing}
use Rattle.ungroup_op.specs.Read.{AreRead, IsForCell as IsForBoth, places_of}
use Rattle.ungroup_op.specs.declared.notes.ReadNotes.{ReadNotes}
use Rattle.ungroup_op.proofs.CrossingLemmas.{notes_are}
use Rattle.ungroup_op.proofs.SoundLemmas.{sound_at}

-- ---- the site by its parts

record Parts (around : Option Contents) (name : List ℕ) (within : Option Contents) (s : Site) : Type 0 where
  has_around : around ≡ Some s.around
  has_place : inst_place name s.around.insts ≡ Some s.place
  has_inst : slice_get s.around.insts s.place ≡ Some s.inst

site_parts : (around : Option Contents) (name : List ℕ) (within : Option Contents) (s : Site) → site_of around name within ≡ Some s → Parts around name within s
site_parts None name within s is = absurd (cc is)
site_parts (Some c) name within s is = at_place (inst_place name c.insts) refl is
  where
    at_inst : (p : ℕ) (i : Option Inst) (w : Option Contents) → inst_place name c.insts ≡ Some p → slice_get c.insts p ≡ i
        → option_and_then (λ (inst : Inst). option_map (λ inner. let s : Site = record { around = c; place = p; inst = inst; within = inner } in s) w) i ≡ Some s → Parts (Some c) name within s
    at_inst p None w pe ie e = absurd (cc e)
    at_inst p (Some i) None pe ie e = absurd (cc e)
    at_inst p (Some i) (Some w) pe ie e =
        let same : record { around = c; place = p; inst = i; within = w } ≡ s = cc e in
        subst (Parts (Some c) name within) same (record { has_around = refl; has_place = pe; has_inst = ie })

    at_place : (p : Option ℕ) → inst_place name c.insts ≡ p
        → option_and_then (λ place. option_and_then (λ (inst : Inst). option_map (λ inner. let s : Site = record { around = c; place = place; inst = inst; within = inner } in s) within) (slice_get c.insts place)) p ≡ Some s
        → Parts (Some c) name within s
    at_place None pe e = absurd (cc e)
    at_place (Some p) pe e = at_inst p (slice_get c.insts p) within pe refl e

record NamedAt (insts : List Inst) (name : List ℕ) (n p : ℕ) : Type 0 where
  k : ℕ
  place : p ≡ n + k
  inst : Inst
  stands : slice_get insts k ≡ Some inst
  named_so : inst.name.id ≡ name

some_number : (a b : ℕ) → Some a ≡ Some b → a ≡ b
some_number a b e = cc e

some_inst : (a b : Inst) → Some a ≡ Some b → a ≡ b
some_inst a b e = cc e

named_at : (insts : List Inst) (name : List ℕ) (n p : ℕ) → position_from (λ other. is_name other name) n (map (λ (i : Inst). i.name.id) insts) ≡ Some p → NamedAt insts name n p
named_at [] name n p e = absurd (cc e)
named_at (x ∷ insts) name n p e = go (is_name x.name.id name) refl e (λ r. named_at insts name (n + 1) p r)
  where
    go : (b : Bool) → is_name x.name.id name ≡ b → cond b (Some n) (position_from (λ other. is_name other name) (n + 1) (map (λ (i : Inst). i.name.id) insts)) ≡ Some p
        → (position_from (λ other. is_name other name) (n + 1) (map (λ (i : Inst). i.name.id) insts) ≡ Some p → NamedAt insts name (n + 1) p) → NamedAt (x ∷ insts) name n p
    go true is e rec = let same = some_number n p e in record { k = 0; place = omega (arith, same); inst = x; stands = refl; named_so = same_name x.name.id name is }
    go false is e rec = let h = rec e in record { k = suc h.k; place = omega (arith, h.place); inst = h.inst; stands = h.stands; named_so = h.named_so }

-- the instance has the name by which it was found
site_named_so : (around : Option Contents) (name : List ℕ) (within : Option Contents) (s : Site) → site_of around name within ≡ Some s → s.inst.name.id ≡ name
site_named_so around name within s is =
    let parts = site_parts around name within s is in
    let h = named_at s.around.insts name 0 s.place parts.has_place in
    let k : s.place ≡ h.k = omega (arith, h.place) in
    let same : h.inst ≡ s.inst = some_inst h.inst s.inst (sym (ap (slice_get s.around.insts) k ∙ h.stands) ∙ parts.has_inst) in
    ap (λ (i : Inst). i.name.id) (sym same) ∙ h.named_so

-- ---- what was read

pub record HasUngroupRead (s u : State) (name : CellName) (inst : List ℕ) (id : CellId) (around within : Option Contents) (read : ReadNotes) : Type 0 where
  pub named : cell_named s.design name ≡ Some id
  pub outside : inside s.design name ≡ around
  pub inner : inside_inst s.design name inst ≡ within
  pub notes : AreRead s.design id inst read
  pub objects : HasRead s u (Needs s.design (Ungroup name inst))

inst_objects : (d : Design) (o : Object) (p : Option Inst) (of : Option CellId) → of ≡ option_map (λ inst. inst.of) p → IsForBoth of o ↔ IsForInst p o
inst_objects d o None None is = (λ never. never, λ never. never)
inst_objects d o None (Some c) is = absurd (cc is)
inst_objects d o (Some i) None is = absurd (cc is)
inst_objects d o (Some i) (Some c) is =
    let same : c ≡ i.of = cc is in (
      λ x. subst (λ v. (o ≡ face_object v) ⊎ (o ≡ contents_object v)) same x,
      λ x. subst (λ v. (o ≡ face_object v) ⊎ (o ≡ contents_object v)) (sym same) x,
    )

of_inside : (d : Design) (p : Option Inst) → option_and_then (contents_at d) (option_map (λ (inst : Inst). inst.of) p) ≡ option_and_then (λ (inst : Inst). contents_at d inst.of) p
of_inside d None = refl
of_inside d (Some i) = refl

pub ungroup_read : (s t r q p u : State) (name : CellName) (inst : List ℕ) (id : CellId) (of : Option CellId) (around within : Option Contents) (read : ReadNotes)
    → cell_named s.design name ≡ Some id → HasRead s t (IsForName s.design name)
    → AreRead t.design id inst read → HasRead t r (IsForNotes t.design (Some id) t.design.top)
    → of ≡ option_map (λ inst. inst.of) (inst_named inst (insts_in (contents_at r.design id))) → HasRead r q (IsInside id)
    → within ≡ option_and_then (contents_at q.design) of → HasRead q p (IsForBoth of)
    → around ≡ contents_at p.design id → HasRead p u (IsInside id)
    → HasUngroupRead s u name inst id around within read
ungroup_read s t r q p u name inst id of around within read is one notes two of_is three within_is four around_is five =
    let d = s.design in
    let at_r : r.design ≡ d = two.design ∙ one.design in
    let at_q : q.design ≡ d = three.design ∙ at_r in
    let at_p : p.design ≡ d = four.design ∙ at_q in
    let of_here : of ≡ option_map (λ inst. inst.of) (placed d name inst) =
    of_is ∙ (λ i. option_map (λ (x : Inst). x.of) (inst_named inst (insts_in (contents_at (at_r i) id))))
    ∙ (λ i. option_map (λ (x : Inst). x.of) (inst_named inst (insts_in (sym (inside_is d name id is) i)))) in
    record {
      named = is;
      outside = inside_is d name id is ∙ sym (around_is ∙ ap (λ (e : Design). contents_at e id) at_p);
      inner = sym (of_inside d (placed d name inst)) ∙ sym (within_is ∙ ap (λ (e : Design). option_and_then (contents_at e) of) at_q ∙ ap (option_and_then (contents_at d)) of_here);
      notes = subst (λ (e : Design). AreRead e id inst read) one.design notes;
      objects =
          let two_here : HasRead t r (IsForNotes d (Some id) d.top) = subst (λ (e : Design). HasRead t r (IsForNotes e (Some id) e.top)) one.design two in
          read_then s p u (λ o. ((IsForName d name o ⊎ IsForNotes d (Some id) d.top o) ⊎ IsInside id o) ⊎ IsForBoth of o) (IsInside id) (Needs d (Ungroup name inst))
          (read_then s q p (λ o. (IsForName d name o ⊎ IsForNotes d (Some id) d.top o) ⊎ IsInside id o) (IsForBoth of) (λ o. ((IsForName d name o ⊎ IsForNotes d (Some id) d.top o) ⊎ IsInside id o) ⊎ IsForBoth of o)
          (read_then s r q (λ o. IsForName d name o ⊎ IsForNotes d (Some id) d.top o) (IsInside id) (λ o. (IsForName d name o ⊎ IsForNotes d (Some id) d.top o) ⊎ IsInside id o)
          (read_then s t r (IsForName d name) (IsForNotes d (Some id) d.top) (λ o. IsForName d name o ⊎ IsForNotes d (Some id) d.top o) one two_here (λ o. (λ x. x, λ x. x)))
          three (λ o. (λ x. x, λ x. x)))
          four (λ o. (λ x. x, λ x. x)))
          five (λ o. needs o (inst_objects d o (placed d name inst) of of_here));
    }
  where
    needs : (o : Object) → IsForBoth of o ↔ IsForInst (placed s.design name inst) o
        → (((((IsForName s.design name o ⊎ IsForNotes s.design (Some id) s.design.top o) ⊎ IsInside id o) ⊎ IsForBoth of o) ⊎ IsInside id o) ↔ Needs s.design (Ungroup name inst) o)
    needs o both =
        subst (λ (c : Option CellId). (((((IsForName s.design name o ⊎ IsForNotes s.design (Some id) s.design.top o) ⊎ IsInside id o) ⊎ IsForBoth of o) ⊎ IsInside id o)
        ↔ ((IsForName s.design name o ⊎ IsInsideOf c o) ⊎ (IsForNotes s.design c s.design.top o ⊎ IsForInst (placed s.design name inst) o)))) (sym is) (
          ⊎_elim
              (⊎_elim
              (⊎_elim (⊎_elim (λ (n : IsForName s.design name o). inl (inl n)) (λ (x : IsForNotes s.design (Some id) s.design.top o). inr (inl x))) (λ (i : IsInside id o). inl (inr i)))
              (λ (b : IsForBoth of o). inr (inr (both.0 b))))
              (λ (i : IsInside id o). inl (inr i)),
          ⊎_elim
              (⊎_elim (λ (n : IsForName s.design name o). inl (inl (inl (inl n)))) (λ (i : IsInsideOf (Some id) o). inr i))
              (⊎_elim (λ (x : IsForNotes s.design (Some id) s.design.top o). inl (inl (inl (inr x)))) (λ (b : IsForInst (placed s.design name inst) o). inl (inr (both.1 b)))),
        )

-- ---- what it comes to

module _ (s u : State) (name : CellName) (inst : List ℕ) (id : CellId) (around within : Option Contents) (read : ReadNotes) (has : HasUngroupRead s u name inst id around within read) where
  comes : outcome s.design (Ungroup name inst) ≡ unless (first (refusals_of around inst within)) Done (edits_if (Some id) (site_of around inst within) (notes_seen s.design name inst))
  comes =
      found_row s.design name id (refusals_of (inside s.design name) inst (inside_inst s.design name inst)) Done
      (edits_if (cell_named s.design name) (site_of (inside s.design name) inst (inside_inst s.design name inst)) (notes_seen s.design name inst)) has.named
      ∙ (λ i. unless (first (refusals_of (has.outside i) inst (has.inner i))) Done (edits_if (has.named i) (site_of (has.outside i) inst (has.inner i)) (notes_seen s.design name inst)))

  pub ungroup_refused : (refusal : Reply) → first (refusals_of around inst within) ≡ Some refusal → IsDone s u (Ungroup name inst) refusal
  ungroup_refused refusal is =
      done_read s u (Ungroup name inst) refusal (Needs s.design (Ungroup name inst)) has.objects (λ o. (λ x. x, λ x. x))
      (comes ∙ ap (λ (r : Option Reply). unless r Done (edits_if (Some id) (site_of around inst within) (notes_seen s.design name inst))) is)

  seen_notes : (made : Ungrouped) (site : Site) → site_of around inst within ≡ Some site → made.notes ≡ notes_moved site.within.insts (children site) read.notes read.places.items
      → notes_seen s.design name inst ≡ made.notes
  seen_notes made site is moved =
      let d = s.design in
      (λ i. option_and_then (λ (c : CellId). option_and_then (changed_notes d c) (site_of (has.outside i) inst (has.inner i))) (has.named i))
      ∙ ap (option_and_then (changed_notes d id)) is
      ∙ notes_are d id site
      ∙ ap (λ v. notes_moved site.within.insts (children site) d.notes (places_of d id v d.top d.notes)) (site_named_so around inst within site is)
      ∙ (λ i. notes_moved site.within.insts (children site) (sym has.notes.all i) (sym has.notes.crossed i))
      ∙ sym moved

  made_comes : (made : Ungrouped) → IsMade around inst within read.notes read.places.items made → outcome s.design (Ungroup name inst) ≡ unless None Done (both_edits id made.notes made.contents)
  made_comes made is =
      comes
      ∙ (λ i. unless (is.not_refused i) Done (edits_if (Some id) (is.is i) (notes_seen s.design name inst)))
      ∙ (λ i. unless None Done (inner id (sym is.contents i) ∷ option_to_list (option_map noted (seen_notes made is.site is.is is.moved i))))

  there : (made : Ungrouped) → IsMade around inst within read.notes read.places.items made → IsSome (contents_at s.design id)
  there made is =
      let parts = site_parts around inst within is.site is.is in
      subst IsSome (sym (sym (inside_is s.design name id has.named) ∙ has.outside ∙ parts.has_around)) refl

  pub ungroup_can : (made : Ungrouped) → IsValid s.design → IsMade around inst within read.notes read.places.items made → CanBePut u.design id made.notes (Ok (Whole made.contents))
  ungroup_can made valid is =
      planned_can s u (Ungroup name inst) id (Needs s.design (Ungroup name inst)) None made.contents made.notes (Ok (Whole made.contents)) tt valid has.objects (made_comes made is)
      (there made is, tt, refl, refl)

  pub ungroup_done : {E : Type 0} (v : State) (made : Ungrouped) (result : Result Reply E) → IsMade around inst within read.notes read.places.items made
      → MatchResult result (IsPut u v id made.notes (Ok (Whole made.contents))) (λ _. v ≡ u) → IsDoneOrFails result s v (Ungroup name inst)
  ungroup_done v made result is put =
      put_result s u v (Ungroup name inst) id (Needs s.design (Ungroup name inst)) made.notes (Ok (Whole made.contents)) result has.objects
      (λ reply done. planned_done s u v (Ungroup name inst) id (Needs s.design (Ungroup name inst)) None made.contents made.notes (Ok (Whole made.contents)) reply has.objects (λ o. (λ x. x, λ x. x))
      (made_comes made is) (there made is, tt, refl, refl) done)
      put

-- the cell that is named is not there
pub ungroup_missing : (s t : State) (name : CellName) (inst : List ℕ) (reply : Reply) → HasRead s t (IsForName s.design name)
    → (cell_named s.design name ≡ None) × (first (no_lib (named s.design name) ∷ no_cell (named s.design name) ∷ []) ≡ Some reply) → IsDone s t (Ungroup name inst) reply
ungroup_missing s t name inst reply read (none, refused) =
    let d = s.design in
    done_read s t (Ungroup name inst) reply (IsForName d name) read
    (λ o. (
      λ n. inl (inl n),
      ⊎_elim
          (λ (n : IsForCell d name o). (only_name d name o none).1 n)
          (⊎_elim
          (λ (x : IsForNotes d (cell_named d name) d.top o). absurd (subst (λ (c : Option CellId). IsForNotes d c d.top o) none x))
          (λ (x : IsForInst (placed d name inst) o). absurd (no_inst_there (inside d name) (ap (option_and_then (contents_at d)) none) o x))),
    ))
    (refused_row d name (refusals_of (inside d name) inst (inside_inst d name inst)) reply Done
    (edits_if (cell_named d name) (site_of (inside d name) inst (inside_inst d name inst)) (notes_seen d name inst)) refused)
  where
    no_inst_there : (c : Option Contents) → c ≡ None → (o : Object) → IsForInst (inst_named inst (insts_in c)) o → ⊥
    no_inst_there None is o x = x
    no_inst_there (Some c) is o x = absurd (cc is)

-- the contents that are lent and copied are sound
pub sound_lent : (s p : State) (id : CellId) (c : Option Contents) → IsValid s.design → p.design ≡ s.design → c ≡ contents_at p.design id → IfSome c AreSound
sound_lent s p id None valid same is = tt
sound_lent s p id (Some c) valid same is = sound_at s.design id c valid (ap (λ (d : Design). contents_at d id) (sym same) ∙ sym is)

pub sound_copied : (s q : State) (of : Option CellId) (c : Option Contents) → IsValid s.design → q.design ≡ s.design → c ≡ option_and_then (contents_at q.design) of → IfSome c AreSound
sound_copied s q None None valid same is = tt
sound_copied s q None (Some c) valid same is = absurd (cc is)
sound_copied s q (Some id) c valid same is = sound_lent s q id c valid same is

-- what holds of a value holds of a reference to it
pub lent_too : (P : Contents → Type 0) (o : Option (Bor Contents)) → IfSome (option_copied o) P → IfSome o (λ x. P x.now)
lent_too P None is = tt
lent_too P (Some x) is = is

-- what is planned over the lists that were lent
pub planned_here : (around : Option Contents) (inst : List ℕ) (within : Option Contents) (read : ReadNotes) (notes : List Note) (places : List (Option ℕ)) (made : Ungrouped) → notes ≡ read.notes → places ≡ read.places.items
    → IsMade around inst within notes places made → IsMade around inst within read.notes read.places.items made
planned_here around inst within read notes places made same also is =
    subst (λ v. IsMade around inst within v read.places.items made) same (subst (λ v. IsMade around inst within notes v made) also is)

places_long : (d : Design) (cell : CellId) (inst : List ℕ) (top : Option TopHead) (notes : List Note) → length (places_of d cell inst top notes) ≡ length notes
places_long d cell inst None notes = length-map notes (λ _. let none : Option ℕ = None in none)
places_long d cell inst (Some t) notes = length-map notes (λ (note : Note). crossing d cell inst t.cell note.path)

pub read_long : (d : Design) (cell : CellId) (inst : List ℕ) (read : ReadNotes) (places : List (Option ℕ)) (notes : List Note) → AreRead d cell inst read → places ≡ read.places.items → notes ≡ read.notes
    → length places ≡ length notes
read_long d cell inst read places notes are places_is notes_is =
    ap length (places_is ∙ are.crossed) ∙ places_long d cell inst d.top d.notes ∙ ap length (sym are.all ∙ sym notes_is)
