-- Showing the ends of a net.
use Rattle.std.proofs.Common.{◌≡◌, ◌⊎◌, ◌↔◌, ◌++◌, inl, inr, ⊎_elim, ℕ, List, [], ◌∷◌, Option, Some, None, refl, sym, ap, subst, ◌∙◌, append-nil, append_assoc, slice_get}
use Rattle.std.specs.Prelude.{is_none, option_and_then, option_map, option_to_list}
use Rattle.std.specs.Option.{option_map_or}
use Rattle.std.specs.List.{flat_map}
use Rattle.netlist_schema.specs.Design.{Design, insts_in, nets_in}
use Rattle.netlist_schema.specs.Types.{CellId, Contents, End, Inst, Net, Object}
use Rattle.edit_rules_spec.specs.Find.{cell_named, net_place}
use Rattle.edit_rules_spec.specs.Objects.{face_at, face_object}
use Rattle.edit_rules_spec.specs.Reading.{IsFaceOf, IsForCell, IsForName}
use Rattle.edit_rules_spec.specs.Rule.{Outcome, first, no_cell, no_lib, refuse, unless}
use Rattle.edit_rules_spec.specs.Seen.{contents_at, inside, named, ports_seen}
use Rattle.edit_rules_spec.specs.declared.reply.CellName.{CellName}
use Rattle.edit_rules_spec.specs.declared.reply.EndName.{EndName}
use Rattle.edit_rules_spec.specs.declared.reply.Reply.{Reply}
use Rattle.edit_rules_spec.specs.declared.reply.Reply.TheVariants.{Net as ShownNet, NoNet}
use Rattle.edit_spec.specs.Inside.{no_net}
use Rattle.edit_spec.specs.Needs.{Needs}
use Rattle.edit_spec.specs.Rows.{outcome}
use Rattle.edit_spec.specs.ShowNet.{IsAtEnd, end_by_name, ends_by_name, ends_of_net, inst_of_end, net_shown, ports_at}
use Rattle.edit_spec.specs.declared.ops.Op.TheVariants.{ShowNet}
use Rattle.edit_cells.specs.Parts.{IsFace, IsInside}
use Rattle.edit_cells.specs.State.{State, HasRead}
use Rattle.eco_reads.specs.Done.{IsDone}
use Rattle.eco_reads.proofs.Found.{face_is, found_row, inside_is, refused_row}
use Rattle.eco_reads.proofs.Reading.{HasFound, done_read, face_needs, inside_needs, only_name, read_both, read_then}
use Rattle.eco_plans.specs.Shown.{AreFacesOf, EndSeen, end_seen, ends_seen, seen_name}

-- ---- names of ends

abbrev names_of : Design → List EndSeen → List EndName
names_of d seen = flat_map (λ s. option_to_list (seen_name d s)) seen

pub names_joined : (d : Design) (xs ys : List EndSeen) → names_of d (xs ++ ys) ≡ names_of d xs ++ names_of d ys
names_joined d [] ys = refl
names_joined d (x ∷ xs) ys = ap (λ (l : List EndName). option_to_list (seen_name d x) ++ l) (names_joined d xs ys) ∙ sym (append_assoc (option_to_list (seen_name d x)) (names_of d xs) (names_of d ys))

one_named : (d : Design) (contents : Option Contents) (id : CellId) (end : End) (at : Option ℕ) → names_of d (option_to_list (end_seen contents id end at)) ≡ option_to_list (end_by_name (option_and_then (slice_get (insts_in contents)) at) (option_and_then (λ seen. slice_get seen end.port) (ports_at d (ports_seen (face_at d id)) contents at)) end.bit)
one_named d contents id end None = append-nil _
one_named d contents id end (Some place) = by_inst (slice_get (insts_in contents) place)
  where
    by_inst : (o : Option Inst) → names_of d (option_to_list (option_map (λ (inst : Inst). let s : EndSeen = record { port = end.port; bit = end.bit; inst = Some inst.name.id; of = inst.of } in s) o)) ≡ option_to_list (end_by_name o (option_and_then (λ seen. slice_get seen end.port) (ports_seen (option_and_then (λ (inst : Inst). face_at d inst.of) o))) end.bit)
    by_inst None = refl
    by_inst (Some inst) = append-nil _

pub names_are : (d : Design) (contents : Option Contents) (id : CellId) (ends : List End) → names_of d (ends_seen contents id ends) ≡ ends_by_name d (ports_seen (face_at d id)) contents ends
names_are d contents id [] = refl
names_are d contents id (end ∷ ends) =
    names_joined d (option_to_list (end_seen contents id end end.inst)) (ends_seen contents id ends)
    ∙ (λ i. one_named d contents id end end.inst i ++ names_are d contents id ends i)

-- ---- what is read of their cells

pub faces_joined : (xs ys : List EndSeen) (o : Object) → (AreFacesOf xs o ⊎ AreFacesOf ys o) ↔ AreFacesOf (xs ++ ys) o
faces_joined [] ys o = (λ is. ⊎_elim (λ (never : ⊥). absurd never) (λ (m : AreFacesOf ys o). m) is, λ is. inr is)
faces_joined (x ∷ xs) ys o =
    let rest = faces_joined xs ys o in (
      λ is. ⊎_elim
          (λ (one : (o ≡ face_object x.of) ⊎ AreFacesOf xs o). ⊎_elim (λ (e : o ≡ face_object x.of). inl e) (λ (es : AreFacesOf xs o). inr (rest.0 (inl es))) one)
          (λ (m : AreFacesOf ys o). inr (rest.0 (inr m))) is,
      λ is. ⊎_elim
          (λ (e : o ≡ face_object x.of). inl (inl e))
          (λ (es : AreFacesOf (xs ++ ys) o). ⊎_elim (λ (a : AreFacesOf xs o). inl (inr a)) (λ (m : AreFacesOf ys o). inr m) (rest.1 es)) is,
    )

pub one_face_more : (s u v : State) (xs : List EndSeen) (x : EndSeen) → HasRead s u (AreFacesOf xs) → HasRead u v (IsFace x.of) → HasRead s v (AreFacesOf (xs ++ x ∷ []))
one_face_more s u v xs x one two =
    read_then s u v (AreFacesOf xs) (IsFace x.of) (AreFacesOf (xs ++ x ∷ [])) one two
    (λ o. let joined = faces_joined xs (x ∷ []) o in (
      λ is. joined.0 (⊎_elim (λ (a : AreFacesOf xs o). inl a) (λ (e : IsFace x.of o). inr (inl e)) is),
      λ is. ⊎_elim (λ (a : AreFacesOf xs o). inl a) (λ (m : (o ≡ face_object x.of) ⊎ ⊥). ⊎_elim (λ (e : o ≡ face_object x.of). inr e) (λ (never : ⊥). absurd never) m) (joined.1 is),
    ))

-- the cell itself, where the end is its own, or the cell of the end's instance
one_face : (d : Design) (name : CellName) (contents : Option Contents) (id : CellId) (end : End) (at : Option ℕ) (o : Object) → cell_named d name ≡ Some id → AreFacesOf (option_to_list (end_seen contents id end at)) o → IsForName d name o ⊎ IsFaceOf (option_and_then (slice_get (insts_in contents)) at) o
one_face d name contents id end None o is at = ⊎_elim (λ (own : o ≡ face_object id). inl ((face_needs d name id o is).0 (inr own))) (λ (never : ⊥). absurd never) at
one_face d name contents id end (Some place) o is at = by_inst (slice_get (insts_in contents) place) at
  where
    by_inst : (p : Option Inst) → AreFacesOf (option_to_list (option_map (λ (inst : Inst). let s : EndSeen = record { port = end.port; bit = end.bit; inst = Some inst.name.id; of = inst.of } in s) p)) o → IsForName d name o ⊎ IsFaceOf p o
    by_inst None never = absurd never
    by_inst (Some inst) there = ⊎_elim (λ (e : o ≡ face_object inst.of). inr e) (λ (never : ⊥). absurd never) there

face_back : (contents : Option Contents) (id : CellId) (end : End) (at : Option ℕ) (o : Object) → IsFaceOf (option_and_then (slice_get (insts_in contents)) at) o → AreFacesOf (option_to_list (end_seen contents id end at)) o
face_back contents id end None o never = absurd never
face_back contents id end (Some place) o is = by_inst (slice_get (insts_in contents) place) is
  where
    by_inst : (p : Option Inst) → IsFaceOf p o → AreFacesOf (option_to_list (option_map (λ (inst : Inst). let s : EndSeen = record { port = end.port; bit = end.bit; inst = Some inst.name.id; of = inst.of } in s) p)) o
    by_inst None never = absurd never
    by_inst (Some inst) there = inl there

faces_needed : (d : Design) (name : CellName) (contents : Option Contents) (id : CellId) (ends : List End) (o : Object) → cell_named d name ≡ Some id → AreFacesOf (ends_seen contents id ends) o → IsForName d name o ⊎ IsAtEnd contents ends o
faces_needed d name contents id [] o is at = absurd at
faces_needed d name contents id (end ∷ ends) o is at =
    ⊎_elim
    (λ (one : AreFacesOf (option_to_list (end_seen contents id end end.inst)) o). ⊎_elim (λ (n : IsForName d name o). inl n) (λ (f : IsFaceOf (inst_of_end contents end) o). inr (inl f)) (one_face d name contents id end end.inst o is one))
    (λ (rest : AreFacesOf (ends_seen contents id ends) o). ⊎_elim (λ (n : IsForName d name o). inl n) (λ (e : IsAtEnd contents ends o). inr (inr e)) (faces_needed d name contents id ends o is rest))
    ((faces_joined (option_to_list (end_seen contents id end end.inst)) (ends_seen contents id ends) o).1 at)

faces_back : (contents : Option Contents) (id : CellId) (ends : List End) (o : Object) → IsAtEnd contents ends o → AreFacesOf (ends_seen contents id ends) o
faces_back contents id [] o at = absurd at
faces_back contents id (end ∷ ends) o at =
    (faces_joined (option_to_list (end_seen contents id end end.inst)) (ends_seen contents id ends) o).0
    (⊎_elim (λ (f : IsFaceOf (inst_of_end contents end) o). inl (face_back contents id end end.inst o f)) (λ (e : IsAtEnd contents ends o). inr (faces_back contents id ends o e)) at)

-- ---- the operation

net_needs : (d : Design) (name : CellName) (net : List ℕ) (id : CellId) (contents : Option Contents) (o : Object) → cell_named d name ≡ Some id → contents_at d id ≡ contents → ((IsForName d name o ⊎ IsInside id o) ⊎ AreFacesOf (ends_seen contents id (ends_of_net contents net)) o) ↔ Needs d (ShowNet name net) o
net_needs d name net id contents o is at =
    let same : inside d name ≡ contents = inside_is d name id is ∙ at in
    subst (λ (c : Option Contents). ((IsForName d name o ⊎ IsInside id o) ⊎ AreFacesOf (ends_seen contents id (ends_of_net contents net)) o) ↔ (IsForCell d name o ⊎ IsAtEnd c (ends_of_net c net) o)) (sym same)
    (let cell = inside_needs d name id o is in (
      ⊎_elim
          (λ (x : IsForName d name o ⊎ IsInside id o). inl (cell.0 x))
          (λ (f : AreFacesOf (ends_seen contents id (ends_of_net contents net)) o). ⊎_elim (λ (n : IsForName d name o). inl (cell.0 (inl n))) (λ (e : IsAtEnd contents (ends_of_net contents net) o). inr e) (faces_needed d name contents id (ends_of_net contents net) o is f)),
      ⊎_elim
          (λ (x : IsForCell d name o). inl (cell.1 x))
          (λ (e : IsAtEnd contents (ends_of_net contents net) o). inr (faces_back contents id (ends_of_net contents net) o e)),
    ))

net_comes : (s u : State) (name : CellName) (net : List ℕ) (id : CellId) (contents : Option Contents) → HasFound s u name id contents → outcome s.design (ShowNet name net) ≡ unless (first (no_net contents net ∷ [])) (ShownNet (ends_by_name s.design (ports_seen (face_at s.design id)) contents (ends_of_net contents net))) []
net_comes s u name net id contents found =
    found_row s.design name id (no_net (inside s.design name) net ∷ []) (ShownNet (net_shown s.design name net)) [] found.named
    ∙ (λ i. unless (first (no_net (here i) net ∷ [])) (ShownNet (ends_by_name s.design (ports_seen (face_is s.design name id found.named i)) (here i) (ends_of_net (here i) net))) [])
  where
    here : inside s.design name ≡ contents
    here = inside_is s.design name id found.named ∙ found.inside

-- a net that is not there has no ends
no_ends : (contents : Option Contents) (net : List ℕ) → first (no_net contents net ∷ []) ≡ Some NoNet → ends_of_net contents net ≡ []
no_ends contents net none = by_place (net_place net (nets_in contents)) none
  where
    by_place : (p : Option ℕ) → first (refuse (is_none p) NoNet ∷ []) ≡ Some NoNet → option_map_or (λ (found : Net). found.ends) (option_and_then (slice_get (nets_in contents)) p) [] ≡ []
    by_place None is = refl
    by_place (Some p) is = cc

pub show_no_net : (s u : State) (name : CellName) (net : List ℕ) (id : CellId) (contents : Option Contents) → HasFound s u name id contents → first (no_net contents net ∷ []) ≡ Some NoNet → IsDone s u (ShowNet name net) NoNet
show_no_net s u name net id contents found none =
    done_read s u (ShowNet name net) NoNet _ found.read
    (λ o. let all = net_needs s.design name net id contents o found.named found.inside in (
      λ x. all.0 (inl x),
      λ x. ⊎_elim (λ (y : IsForName s.design name o ⊎ IsInside id o). y) (λ (f : AreFacesOf (ends_seen contents id (ends_of_net contents net)) o). absurd (subst (λ (es : List End). AreFacesOf (ends_seen contents id es) o) (no_ends contents net none) f)) (all.1 x),
    ))
    (net_comes s u name net id contents found ∙ ap (λ (r : Option Reply). unless r (ShownNet (ends_by_name s.design (ports_seen (face_at s.design id)) contents (ends_of_net contents net))) []) none)

pub show_net_done : (s u v : State) (name : CellName) (net : List ℕ) (id : CellId) (contents : Option Contents) (seen : List EndSeen) (shown : List EndName) → HasFound s u name id contents → first (no_net contents net ∷ []) ≡ None → seen ≡ ends_seen contents id (ends_of_net contents net) → shown ≡ flat_map (λ x. option_to_list (seen_name u.design x)) seen → HasRead u v (AreFacesOf seen) → IsDone s v (ShowNet name net) (ShownNet shown)
show_net_done s u v name net id contents seen shown found there is names read =
    done_read s v (ShowNet name net) (ShownNet shown) _
    (read_both s u v _ (AreFacesOf (ends_seen contents id (ends_of_net contents net))) found.read (subst (λ (xs : List EndSeen). HasRead u v (AreFacesOf xs)) is read))
    (λ o. net_needs s.design name net id contents o found.named found.inside)
    (net_comes s u name net id contents found
    ∙ ap (λ (r : Option Reply). unless r (ShownNet (ends_by_name s.design (ports_seen (face_at s.design id)) contents (ends_of_net contents net))) []) there
    ∙ ap (λ (ns : List EndName). let out : Outcome = record { reply = ShownNet ns; edits = [] } in out)
    (sym (names ∙ ap (λ (d : Design). names_of d seen) found.read.design ∙ ap (names_of s.design) is ∙ names_are s.design contents id (ends_of_net contents net))))

pub show_net_missing : (s t : State) (name : CellName) (net : List ℕ) (reply : Reply) → HasRead s t (IsForName s.design name) → (cell_named s.design name ≡ None) × (first (no_lib (named s.design name) ∷ no_cell (named s.design name) ∷ []) ≡ Some reply) → IsDone s t (ShowNet name net) reply
show_net_missing s t name net reply read (none, refused) =
    done_read s t (ShowNet name net) reply (IsForName s.design name) read
    (λ o. (
      λ n. inl (inl n),
      ⊎_elim (λ (x : IsForCell s.design name o). (only_name s.design name o none).1 x) (λ (e : IsAtEnd (inside s.design name) (ends_of_net (inside s.design name) net) o). absurd (subst (λ (c : Option CellId). IsAtEnd (option_and_then (contents_at s.design) c) (ends_of_net (option_and_then (contents_at s.design) c) net) o) none e)),
    ))
    (refused_row s.design name (no_net (inside s.design name) net ∷ []) reply (ShownNet (net_shown s.design name net)) [] refused)

pub one_name_more : (d : Design) (xs : List EndSeen) (x : EndSeen) → names_of d xs ++ option_to_list (seen_name d x) ≡ names_of d (xs ++ x ∷ [])
one_name_more d xs x = ap (λ (l : List EndName). names_of d xs ++ l) (sym (append-nil (option_to_list (seen_name d x)))) ∙ sym (names_joined d xs (x ∷ []))
