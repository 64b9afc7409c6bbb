-- The cells of a design, before and after an instance is dissolved.
use Rattle.std.proofs.Common.{◌≡◌, ◌≢◌, ◌<◌, ℕ, List, [], length, map, refl, sym, ap, subst, ◌∙◌, Option, Some, None, slice_get}
use Rattle.std.specs.Prelude.{option_and_then, option_map, option_to_list}
use Rattle.std.specs.List.{Contains}
use Rattle.std.specs.Option.{option_map_or}
use Rattle.std.proofs.lemmas.Option.{slice_get_within, slice_get-map}
use Rattle.netlist_schema.specs.Design.{Design, cell_at, insts_in, insts_of, nets_in, nets_of}
use Rattle.netlist_schema.specs.Hierarchy.{insts_at}
use Rattle.netlist_schema.specs.Types.{CellBody, CellId, Contents, End, Inst, Net, Note}
use Rattle.edit_rules_spec.specs.Edit.{inner, noted, edited, edited_once, with_contents}
use Rattle.edit_rules_spec.specs.Seen.{contents_at}
use Rattle.edit_rules_spec.proofs.Edits.{cell_at-changed_same, cell_at-changed_other}
use Rattle.flat_spec.specs.Paths.{nets_at}
use Rattle.flat_spec.proofs.ListLemmas.{Member, Contains-member, Member-contains}
use Rattle.ungroup_spec.specs.Dissolved.{contents_after, insts_after, nets_after}
use Rattle.ungroup_spec.specs.Groups.{ends_of_net}
use Rattle.ungroup_spec.specs.KeepsNets.{after}
use Rattle.ungroup_spec.specs.Maps.{Dissolving}
use Rattle.ungroup_spec.specs.MovedNotes.{changed_notes}
use Rattle.ungroup_spec.specs.Ungroup.{IsSite}
use Rattle.ungroup_spec.proofs.Cut.{IsChild, JoinsIn}

-- a cell's contents are there
pub contents-body : (o : Option CellBody) (c : Contents) → option_and_then (λ (body : CellBody). body.contents) o ≡ Some c
    → (body : CellBody) × (o ≡ Some body) × (body.contents ≡ Some c)
contents-body None c e = absurd (cc e)
contents-body (Some body) c e = (body, refl, e)

pub insts-here : (d : Design) (id : CellId) (c : Contents) → contents_at d id ≡ Some c → insts_at d id ≡ c.insts
insts-here d id c e =
    let found = contents-body (cell_at d id) c e in
    ap (λ o. option_map_or insts_of o []) found.1 ∙ ap insts_in found.2

pub nets-here : (d : Design) (id : CellId) (c : Contents) → contents_at d id ≡ Some c → nets_at d id ≡ c.nets
nets-here d id c e =
    let found = contents-body (cell_at d id) c e in
    ap (λ o. option_map_or nets_of o []) found.1 ∙ ap nets_in found.2

-- notes change no cell
noted-cells : (e : Design) (notes : Option (List Note)) (id : CellId) → cell_at (edited e (option_to_list (option_map noted notes))) id ≡ cell_at e id
noted-cells e None id = refl
noted-cells e (Some notes) id = refl

module _ (d : Design) (q : Dissolving) (stands : IsSite d q.cell q.site) where
  pub cell-after : cell_at (after d q) q.cell ≡ option_map (with_contents (contents_after q.site)) (cell_at d q.cell)
  cell-after =
      noted-cells (edited_once d (inner q.cell (contents_after q.site))) (changed_notes d q.cell q.site) q.cell
      ∙ cell_at-changed_same d q.cell (with_contents (contents_after q.site))

  pub cell-other : (x : CellId) → x ≢ q.cell → cell_at (after d q) x ≡ cell_at d x
  cell-other x other =
      noted-cells (edited_once d (inner q.cell (contents_after q.site))) (changed_notes d q.cell q.site) x
      ∙ cell_at-changed_other d q.cell (with_contents (contents_after q.site)) x other

  pub insts-after : insts_at (after d q) q.cell ≡ insts_after q.site
  insts-after =
      let found = contents-body (cell_at d q.cell) q.site.around stands.around in
      ap (λ o. option_map_or insts_of o []) (cell-after ∙ ap (option_map (with_contents (contents_after q.site))) found.1)
      ∙ ap (λ v. insts_in (option_map (λ _. contents_after q.site) v)) found.2

  pub nets-after : nets_at (after d q) q.cell ≡ nets_after q.site
  nets-after =
      let found = contents-body (cell_at d q.cell) q.site.around stands.around in
      ap (λ o. option_map_or nets_of o []) (cell-after ∙ ap (option_map (with_contents (contents_after q.site))) found.1)
      ∙ ap (λ v. nets_in (option_map (λ _. contents_after q.site) v)) found.2

  pub insts-other : (x : CellId) → x ≢ q.cell → insts_at (after d q) x ≡ insts_at d x
  insts-other x other = ap (λ o. option_map_or insts_of o []) (cell-other x other)

  pub nets-other : (x : CellId) → x ≢ q.cell → nets_at (after d q) x ≡ nets_at d x
  nets-other x other = ap (λ o. option_map_or nets_of o []) (cell-other x other)

-- what a net joins, by the list of nets
pub joins-list : (d : Design) (c : CellId) (nets : List Net) (n : ℕ) (e : End) → nets_at d c ≡ nets → JoinsIn d c n e
    → (n < length nets) × Member (ends_of_net nets n) e
joins-list d c nets n e is j =
    let at : slice_get nets n ≡ Some j.0 = subst (λ v. slice_get v n ≡ Some j.0) is j.1 in (
      slice_get_within nets n j.0 at,
      subst (λ o. Member (option_map_or (λ (net : Net). net.ends) o []) e) (sym at) (Contains-member j.0.ends e j.2),
    )

pub list-joins : (d : Design) (c : CellId) (nets : List Net) (n : ℕ) (e : End) → nets_at d c ≡ nets → Member (ends_of_net nets n) e → JoinsIn d c n e
list-joins d c nets n e is m =
    let found = go (slice_get nets n) m in
    (found.0, subst (λ v. slice_get v n ≡ Some found.0) (sym is) found.1, found.2)
  where
    go : (o : Option Net) → Member (option_map_or (λ (net : Net). net.ends) o []) e → (net : Net) × (o ≡ Some net) × Contains net.ends e
    go None m = absurd m
    go (Some net) m = (net, refl, Member-contains net.ends e m)

-- a child, by the list of the instances' cells
pub child-list : (d : Design) (c : CellId) (insts : List Inst) (i : ℕ) (k : CellId) → insts_at d c ≡ insts → IsChild d c i k
    → slice_get (map (λ (inst : Inst). inst.of) insts) i ≡ Some k
child-list d c insts i k is kid =
    slice_get-map (λ (inst : Inst). inst.of) insts i
    ∙ ap (option_map (λ (inst : Inst). inst.of)) (subst (λ v. slice_get v i ≡ Some kid.0) is kid.1) ∙ ap (λ v. Some v) (sym kid.2)

pub list-child : (d : Design) (c : CellId) (insts : List Inst) (i : ℕ) (k : CellId) → insts_at d c ≡ insts
    → slice_get (map (λ (inst : Inst). inst.of) insts) i ≡ Some k → IsChild d c i k
list-child d c insts i k is e =
    let found = go (slice_get insts i) (sym (slice_get-map (λ (inst : Inst). inst.of) insts i) ∙ e) in
    (found.0, subst (λ v. slice_get v i ≡ Some found.0) (sym is) found.1, found.2)
  where
    go : (o : Option Inst) → option_map (λ (inst : Inst). inst.of) o ≡ Some k → (inst : Inst) × (o ≡ Some inst) × (k ≡ inst.of)
    go None e = absurd (cc e)
    go (Some inst) e = let same : inst.of ≡ k = cc e in (inst, refl, sym same)
