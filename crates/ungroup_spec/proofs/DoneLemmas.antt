-- An operation that nothing refuses dissolves the instance that it names.
use Rattle.std.proofs.Common.{◌≡◌, ◌≤◌, ℕ, nat_lt, List, [], ◌∷◌, false, Option, Some, None, refl, sym, ap, subst, ◌∙◌}
use Rattle.std.specs.Prelude.{option_map, is_none, option_and_then, slice_get}
use Rattle.std.proofs.lemmas.Bool.{false≢true, ltb-false}
use Rattle.netlist_schema.specs.Design.{Design, insts_in}
use Rattle.netlist_schema.specs.Types.{CellId, Contents, Inst}
use Rattle.edit_rules_spec.specs.Edit.{Edit, edited}
use Rattle.edit_rules_spec.specs.Find.{cell_named, inst_place, inst_named}
use Rattle.edit_rules_spec.specs.Rule.{first, no_lib, no_cell, no_inst, is_leaf}
use Rattle.edit_rules_spec.specs.Seen.{inside, contents_at, named}
use Rattle.edit_rules_spec.specs.declared.reply.CellName.{CellName}
use Rattle.edit_rules_spec.specs.declared.reply.Reply.TheVariants.{NoCell, IsLeaf, TooMany}
use Rattle.flat_spec.proofs.PathLemmas.{Some-same}
use Rattle.edit_rules_spec.proofs.Refusals.{first_none, not_refused}
use Rattle.ungroup_spec.specs.Groups.{Site}
use Rattle.ungroup_spec.specs.MovedNotes.{changed_notes}
use Rattle.ungroup_spec.specs.Ungroup.{site_of, inside_inst, site_named, over, count_insts, count_nets, count_ends, edits_if, edits_at, ungroup, HasDissolved, IsSite}

-- what is not absent is there
there : {A : Type 0} (o : Option A) → is_none o ≡ false → (x : A) × (o ≡ Some x)
there None e = absurd (false≢true (sym e))
there (Some x) e = (x, refl)

over-none : (limit : ℕ) (count : Site → ℕ) (s : Site) → over limit count (Some s) ≡ None → count s ≤ limit
over-none limit count s e = ltb-false limit (count s) (not_refused (nat_lt limit (count s)) (TooMany limit) e)

-- the site, part by part
pub record IsSeen (d : Design) (around : Option Contents) (name : List ℕ) (within : Option Contents) : Type 0 where
  pub site : Site
  pub contents : around ≡ Some site.around
  pub found : inst_place name site.around.insts ≡ Some site.place
  pub inst : slice_get site.around.insts site.place ≡ Some site.inst
  pub inner : contents_at d site.inst.of ≡ Some site.within
  pub is : site_of around name within ≡ Some site

module _ (d : Design) (name : List ℕ) where
  nothing : (w : Option Contents) → None ≡ w → is_none w ≡ false → ⊥
  nothing w e some = false≢true (sym (subst (λ o. is_none o ≡ false) (sym e) some))

  seen_at : (c : Contents) (p : Option ℕ) (i : Option Inst) (w : Option Contents) → inst_place name c.insts ≡ p
      → option_and_then (slice_get c.insts) p ≡ i → option_and_then (λ inst. contents_at d inst.of) i ≡ w → is_none w ≡ false
      → IsSeen d (Some c) name w
  seen_at c p None w pe ie we some = absurd (nothing w we some)
  seen_at c None (Some i) w pe ie we some = absurd (cc ie)
  seen_at c (Some p) (Some i) None pe ie we some = absurd (false≢true (sym some))
  seen_at c (Some p) (Some i) (Some w) pe ie we some = record {
    site = record { around = c; place = p; inst = i; within = w };
    contents = refl;
    found = pe;
    inst = ie;
    inner = we;
    is = rw (pe, ie) refl;
  }

  seen : (around : Option Contents) (within : Option Contents)
      → option_and_then (λ inst. contents_at d inst.of) (inst_named name (insts_in around)) ≡ within → is_none within ≡ false
      → IsSeen d around name within
  seen None within we some = absurd (nothing within we some)
  seen (Some c) within we some =
      seen_at c (inst_place name c.insts) (inst_named name c.insts) within refl refl we some

pub dissolves : (d : Design) (cell : CellName) (name : List ℕ) → first (ungroup d cell name).refusals ≡ None → HasDissolved d cell name
dissolves d cell name allowed =
    let at = named d cell in
    let around = inside d cell in
    let within = inside_inst d cell name in
    let site = site_named d cell name in
    let n0 = first_none (no_lib at) (no_cell at ∷ no_inst around name ∷ is_leaf within ∷ over 1048576 count_insts site ∷ over 1048576 count_nets site ∷ over 4194304 count_ends site ∷ []) allowed in
    let n1 = first_none (no_cell at) (no_inst around name ∷ is_leaf within ∷ over 1048576 count_insts site ∷ over 1048576 count_nets site ∷ over 4194304 count_ends site ∷ []) n0.1 in
    let n2 = first_none (no_inst around name) (is_leaf within ∷ over 1048576 count_insts site ∷ over 1048576 count_nets site ∷ over 4194304 count_ends site ∷ []) n1.1 in
    let n3 = first_none (is_leaf within) (over 1048576 count_insts site ∷ over 1048576 count_nets site ∷ over 4194304 count_ends site ∷ []) n2.1 in
    let n4 = first_none (over 1048576 count_insts site) (over 1048576 count_nets site ∷ over 4194304 count_ends site ∷ []) n3.1 in
    let n5 = first_none (over 1048576 count_nets site) (over 4194304 count_ends site ∷ []) n4.1 in
    let n6 = first_none (over 4194304 count_ends site) [] n5.1 in
    let id = there (cell_named d cell) (not_refused (is_none (cell_named d cell)) NoCell n1.0) in
    let s = seen d name around within refl (not_refused (is_none within) IsLeaf n3.0) in
    let around_at : contents_at d id.0 ≡ Some s.site.around =
    sym (ap (λ o. option_and_then (contents_at d) o) id.1) ∙ s.contents in
    let made : Option CellId → Option Site → List Edit =
    λ o site. edits_if o site (option_and_then (λ i. option_and_then (changed_notes d i) site) o) in
    let edits_are : (ungroup d cell name).edits ≡ edits_at id.0 s.site (changed_notes d id.0 s.site) =
    ap (λ o. made o site) id.1 ∙ ap (λ o. made (Some id.0) o) s.is in
    record {
      id = id.0;
      site = s.site;
      named_so = id.1;
      found = s.found;
      stands = record { around = around_at; inst = s.inst; within = s.inner };
      edits = ap (edited d) edits_are;
      insts_fit = over-none 1048576 count_insts s.site (subst (λ o. over 1048576 count_insts o ≡ None) s.is n4.0);
      nets_fit = over-none 1048576 count_nets s.site (subst (λ o. over 1048576 count_nets o ≡ None) s.is n5.0);
      ends_fit = over-none 4194304 count_ends s.site (subst (λ o. over 4194304 count_ends o ≡ None) s.is n6.0);
    }

-- without contents of its cell an instance is no site
no-inst : (c : Contents) (s : Site) (i : Option Inst) (p : ℕ)
    → option_and_then (λ (inst : Inst). option_map (λ inner. record { around = c; place = p; inst = inst; within = inner }) None) i ≡ Some s → ⊥
no-inst c s None p e = cc e
no-inst c s (Some inst) p e = cc e

no-place : (c : Contents) (s : Site) (p : Option ℕ)
    → option_and_then (λ place. option_and_then (λ (inst : Inst). option_map (λ inner. record { around = c; place = place; inst = inst; within = inner }) None) (slice_get c.insts place)) p ≡ Some s → ⊥
no-place c s None e = cc e
no-place c s (Some p) e = no-inst c s (slice_get c.insts p) p e

no-site : (around : Option Contents) (name : List ℕ) (s : Site) → site_of around name None ≡ Some s → ⊥
no-site None name s e = cc e
no-site (Some c) name s e = no-place c s (inst_place name c.insts) e

-- a site that the names lead to stands in the design
pub site-stands : (d : Design) (cell : CellName) (name : List ℕ) (id : CellId) (s : Site) → cell_named d cell ≡ Some id → site_named d cell name ≡ Some s
    → IsSite d id s
site-stands d cell name id s at is = go (inside_inst d cell name) refl
  where
    go : (within : Option Contents) → inside_inst d cell name ≡ within → IsSite d id s
    go None e = absurd (no-site (inside d cell) name s (subst (λ w. site_of (inside d cell) name w ≡ Some s) e is))
    go (Some w) e =
        let it = seen d name (inside d cell) (inside_inst d cell name) refl (ap is_none e) in
        let same : it.site ≡ s = Some-same (site_named d cell name) it.is is in
        subst (IsSite d id) same (record {
          around = sym (ap (λ o. option_and_then (contents_at d) o) at) ∙ it.contents;
          inst = it.inst;
          within = it.inner;
        })
