-- An ungroup that replies that it is done keeps what it is to keep.
use Rattle.std.proofs.Common.{◌≡◌, ℕ, List, [], ◌∷◌, refl, ap, sym, ◌∙◌, subst, Option, None, Some, Bool, true, false}
use Rattle.std.specs.Prelude.{is_none, nat_lt}
use Rattle.std.specs.Option.{option_map_or}
use Rattle.std.proofs.lemmas.Option.{same_Some}
use Rattle.netlist_schema.specs.Design.{Design, insts_in}
use Rattle.netlist_schema.specs.Types.{Contents, Note}
use Rattle.netlist_schema.specs.Valid.{IsValid}
use Rattle.netlist_schema.specs.declared.limits.TheConstants.{MOST_ENDS, MOST_INSTS, MOST_NETS}
use Rattle.edit_rules_spec.specs.Edit.{Edit, edited}
use Rattle.edit_rules_spec.specs.Find.{inst_place}
use Rattle.edit_rules_spec.specs.Rule.{first, refuse, ruled, unless}
use Rattle.edit_rules_spec.specs.Seen.{Named, inside, named}
use Rattle.edit_rules_spec.specs.declared.reply.CellName.{CellName}
use Rattle.edit_rules_spec.specs.declared.reply.Reply.{Reply}
use Rattle.edit_rules_spec.specs.declared.reply.Reply.TheVariants.{Done, NoLib, NoCell, NoInst, IsLeaf, TooMany}
use Rattle.ungroup_spec.specs.KeepsNets.{IsUngroup, after}
use Rattle.ungroup_spec.specs.Maps.{Dissolving}
use Rattle.ungroup_spec.specs.Groups.{Site}
use Rattle.ungroup_spec.specs.Ungroup.{count_ends, count_insts, count_nets, inside_inst, notes_seen, over, rule_seen, site_of, ungroup}
use Rattle.ungroup_spec.proofs.EffectiveLemmas.{effective_stays}
use Rattle.ungroup_spec.proofs.KeptLemmas.{instances_are_kept, notes_are_moved}
use Rattle.ungroup_spec.proofs.MapLemmas.{done_is_ungroup, each_is_an_image, images_differ, the_rest_is_gone}
use Rattle.ungroup_spec.proofs.NamesLemmas.{names_are_moved}
use Rattle.ungroup_spec.proofs.PinsLemmas.{pins_are_carried}
use Rattle.ungroup_spec.proofs.SoundLemmas.{images_are_connected, representatives_are_carried}
use Rattle.ungroup_spec.proofs.TreeLemmas.{occurrences_are_carried}
use Rattle.ungroup_spec.proofs.ValidLemmas.{valid_stays}
use Rattle.edit_spec.specs.Step.{step}
use Rattle.edit_spec.specs.Ungrouping.{HasUngrouped, IsKept}
use Rattle.edit_spec.specs.declared.ops.Op.TheVariants.{Ungroup}

-- ---- the reply

-- none of these refusals is Done
abbrev AreOther : List (Option Reply) → Type 0
AreOther [] = Unit {0}
AreOther (refusal ∷ rest) = (refusal ≡ Some Done → ⊥) × AreOther rest

none_is_done : (refusals : List (Option Reply)) → AreOther refusals → first refusals ≡ Some Done → ⊥
none_is_done [] other is = absurd (cc is)
none_is_done (None ∷ rest) other is = none_is_done rest other.1 is
none_is_done (Some reply ∷ rest) other is = other.0 is

is_other : (test : Bool) (reply : Reply) → (reply ≡ Done → ⊥) → refuse test reply ≡ Some Done → ⊥
is_other true reply other is = other (same_Some reply Done is)
is_other false reply other is = absurd (cc is)

over_is_other : (limit : ℕ) (count : Site → ℕ) (site : Option Site) → over limit count site ≡ Some Done → ⊥
over_is_other limit count site = is_other (nat_lt limit (option_map_or count site 0)) (TooMany limit) (λ same. cc)

-- no refusal of an ungroup is Done
never_done : (at : Named) (around : Option Contents) (name : List ℕ) (within : Option Contents) (notes : Option (List Note)) → first (rule_seen at around name within notes).refusals ≡ Some Done → ⊥
never_done at around name within notes =
    let site = site_of around name within in
    none_is_done (rule_seen at around name within notes).refusals (
      is_other (is_none at.lib) NoLib (λ same. cc),
      (
        is_other (is_none at.cell) NoCell (λ same. cc),
        (
          is_other (is_none (inst_place name (insts_in around))) NoInst (λ same. cc),
          (
            is_other (is_none within) IsLeaf (λ same. cc),
            (over_is_other MOST_INSTS count_insts site, (over_is_other MOST_NETS count_nets site, (over_is_other MOST_ENDS count_ends site, tt))),
          ),
        ),
      ),
    )

-- what is not refused replies Done
not_refused : (refusal : Option Reply) (edits : List Edit) → (refusal ≡ Some Done → ⊥) → (unless refusal Done edits).reply ≡ Done → refusal ≡ None
not_refused None edits never is = refl
not_refused (Some reply) edits never is = absurd (never (ap Some is))

-- ---- what is kept

kept : (d : Design) (q : Dissolving) → IsUngroup d q → IsKept d (after d q) q
kept d q is = record {
  valid = valid_stays d q is;
  paths = λ root. record {
    differ = λ a b moved. images_differ d q root a b moved is;
    onto = λ cell moved. each_is_an_image d q root cell moved is;
    gone = λ cell path. the_rest_is_gone d q root cell path is;
  };
  instances = λ root. record {
    carried = occurrences_are_carried d q root is;
    insts = λ path moved. instances_are_kept d q root path moved is;
    names = λ path moved. names_are_moved d q root path moved is;
  };
  nets = λ root. record {
    connected = λ x y u v. images_are_connected d q root x y u v is;
    firsts = λ x. representatives_are_carried d q root x is;
    pins = λ path moved b. pins_are_carried d q root path moved b is;
  };
  notes = λ top. notes_are_moved d q top is;
  properties = λ top path moved. effective_stays d q top path moved is;
}

pub ungroup_keeps : (d : Design) (cell : CellName) (name : List ℕ) → IsValid d → (step d (Ungroup cell name)).reply ≡ Done → HasUngrouped d (step d (Ungroup cell name)).design cell name
ungroup_keeps d cell name valid is =
    let rule = ungroup d cell name in
    let none : first rule.refusals ≡ None = not_refused (first rule.refusals) rule.edits (never_done (named d cell) (inside d cell) name (inside_inst d cell name) (notes_seen d cell name)) is in
    let done = done_is_ungroup d cell name valid none in
    let edits : (ruled rule).edits ≡ rule.edits = ap (λ (refusal : Option Reply). (unless refusal Done rule.edits).edits) none in
    let same : (step d (Ungroup cell name)).design ≡ after d done.what = ap (edited d) edits ∙ done.leaves in
    record {
      what = done.what;
      in_cell = done.in_cell;
      at_place = done.at_place;
      stands = done.is;
      keeps = subst (λ (e : Design). IsKept d e done.what) (sym same) (kept d done.what done.is);
    }
