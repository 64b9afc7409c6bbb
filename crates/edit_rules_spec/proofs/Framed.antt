-- A rule that sees what it needs does the same to two designs that agree on it.
use Rattle.std.proofs.Common.{◌≡◌, ◌⊎◌, inl, inr, ⊎_elim, List, [], ◌∷◌, Option, Some, None, refl, sym, ap, subst}
use Rattle.std.specs.Option.{option_map}
use Rattle.netlist_schema.specs.Design.{Design}
use Rattle.netlist_schema.specs.Types.{CellBody, LibId, Object}
use Rattle.netlist_schema.specs.Valid.{IsValid}
use Rattle.netlist_schema.specs.declared.ids.Object.TheVariants.{Directory}
use Rattle.edit_rules_spec.specs.Edit.{Edit, fresh, inner, own, noted, edited, edited_once, with_more_cell, IsChanged, IsMade, IsMadeBy, AllGoLast, AllFindOld, AllPlaceOld}
use Rattle.edit_rules_spec.specs.Frame.{stepped, WritesOf, IsFramedBy}
use Rattle.edit_rules_spec.specs.Local.{IsLocal}
use Rattle.edit_rules_spec.specs.Objects.{Agrees, AgreesOn, AreSameObjects, Grown, IsClosed, IsThere, face_object, contents_object, face_of}
use Rattle.edit_rules_spec.specs.Rule.{Rule, Outcome, ruled, unless, first, IsRefusal}
use Rattle.edit_rules_spec.specs.declared.reply.Reply.{Reply}
use Rattle.edit_rules_spec.proofs.Closed.{edited_closed}
use Rattle.edit_rules_spec.proofs.There.{edits_there}
use Rattle.edit_rules_spec.proofs.Edits.{edited_grown, edited_agrees, edited_stays, Takes, TakesAll, takes_all, new_written}

-- the new cell is the same in both
made_agrees : (edit : Edit) (d e : Design) (o : Object) → Takes d e edit → IsMadeBy edit o → Agrees (edited_once d edit) (edited_once e edit) o
made_agrees (fresh id body) d e o takes is =
    let after : Object → Type 0 = λ ob. Agrees (with_more_cell d id.lib body) (with_more_cell e id.lib body) ob in
    let same = new_written d e id body takes.0 takes.1 takes.2 in
    ⊎_elim
    (λ (face : o ≡ face_object id). subst after (sym face) (ap (option_map face_of) same))
    (λ (contents : o ≡ contents_object id). subst after (sym contents) (ap (option_map (λ (b : CellBody). b.contents)) same))
    is
made_agrees (inner id contents) d e o takes is = absurd is
made_agrees (own id properties) d e o takes is = absurd is
made_agrees (noted notes) d e o takes is = absurd is

all_made_agrees : (edits : List Edit) (d e : Design) (o : Object) → TakesAll d e edits → IsMade edits o → Agrees (edited d edits) (edited e edits) o
all_made_agrees [] d e o takes is = absurd is
all_made_agrees (edit ∷ edits) d e o takes is =
    ⊎_elim
    (λ (here : IsMadeBy edit o). edited_agrees edits (edited_once d edit) (edited_once e edit) o takes.1 (made_agrees edit d e o takes.0 here))
    (λ (there : IsMade edits o). all_made_agrees edits (edited_once d edit) (edited_once e edit) o takes.1 there)
    is

-- no directory is new
not_made_by : (edit : Edit) (lib : LibId) → ¬ IsMadeBy edit (Directory lib)
not_made_by (fresh id body) lib is = ⊎_elim (λ (face : Directory lib ≡ face_object id). cc) (λ (contents : Directory lib ≡ contents_object id). cc) is
not_made_by (inner id contents) lib is = is
not_made_by (own id properties) lib is = is
not_made_by (noted notes) lib is = is

not_made : (edits : List Edit) (lib : LibId) → ¬ IsMade edits (Directory lib)
not_made [] lib is = is
not_made (edit ∷ edits) lib is = ⊎_elim (λ (here : IsMadeBy edit (Directory lib)). not_made_by edit lib here) (λ (there : IsMade edits (Directory lib)). not_made edits lib there) is

-- what holds of the changes of a rule holds of what it comes to
ruled_takes : (d e : Design) (refusal : Option Reply) (reply : Reply) (edits : List Edit) → TakesAll d e edits → TakesAll d e (unless refusal reply edits).edits
ruled_takes d e None reply edits takes = takes
ruled_takes d e (Some refusal) reply edits takes = tt

ruled_last : (d : Design) (refusal : Option Reply) (reply : Reply) (edits : List Edit) → AllGoLast d edits → AllGoLast d (unless refusal reply edits).edits
ruled_last d None reply edits last = last
ruled_last d (Some refusal) reply edits last = tt

ruled_places : (d : Design) (refusal : Option Reply) (reply : Reply) (edits : List Edit) → AllPlaceOld d edits → AllPlaceOld d (unless refusal reply edits).edits
ruled_places d None reply edits old = old
ruled_places d (Some refusal) reply edits old = tt

ruled_finds : (d : Design) (refusal : Option Reply) (reply : Reply) (edits : List Edit) → AllFindOld d edits → AllFindOld d (unless refusal reply edits).edits
ruled_finds d None reply edits finds = finds
ruled_finds d (Some refusal) reply edits finds = tt

ruled_written : (d e : Design) (refusal : Option Reply) (reply : Reply) (edits : List Edit) (o : Object) → (IsChanged edits o → Agrees (edited d edits) (edited e edits) o) → IsChanged (unless refusal reply edits).edits o → Agrees (edited d (unless refusal reply edits).edits) (edited e (unless refusal reply edits).edits) o
ruled_written d e None reply edits o written is = written is
ruled_written d e (Some refusal) reply edits o written is = absurd is

ruled_valid : (d : Design) (refusal : Option Reply) (reply : Reply) (edits : List Edit) → IsValid d → (refusal ≡ None → IsValid (edited d edits)) → IsValid (edited d (unless refusal reply edits).edits)
ruled_valid d None reply edits valid good = good refl
ruled_valid d (Some refusal) reply edits valid good = valid

ruled_nothing : (refusal : Option Reply) (reply : Reply) (edits : List Edit) → (edits ≡ []) ⊎ (¬ IsRefusal reply) → IsRefusal (unless refusal reply edits).reply → (unless refusal reply edits).edits ≡ []
ruled_nothing None reply edits (inl none) is = none
ruled_nothing None reply edits (inr not) is = absurd (not is)
ruled_nothing (Some refusal) reply edits either is = refl

module _ (rule : Design → Rule) (needs : Design → Object → Type 0) (typed : Type 0) (local : IsLocal rule needs typed) where
  -- one design
  pub local_last : (d : Design) → AllGoLast d (ruled (rule d)).edits
  local_last d = ruled_last d (first (rule d).refusals) (rule d).reply (rule d).edits (local.last d)

  pub local_stays : (d : Design) → AgreesOn d (stepped rule d).design (λ o. ¬ WritesOf rule d o)
  local_stays d o is = edited_stays (ruled (rule d)).edits d o (local_last d) is

  pub local_closed : (d : Design) → IsClosed d → IsClosed (stepped rule d).design
  local_closed d closed = edited_closed (ruled (rule d)).edits d (ruled_places d (first (rule d).refusals) (rule d).reply (rule d).edits (local.places d closed)) closed

  pub local_valid : (d : Design) → typed → IsValid d → IsValid (stepped rule d).design
  local_valid d is valid = ruled_valid d (first (rule d).refusals) (rule d).reply (rule d).edits valid (λ allowed. local.valid d is valid allowed)

  pub local_refused : (d : Design) → IsRefusal (stepped rule d).reply → (ruled (rule d)).edits ≡ []
  local_refused d is = ruled_nothing (first (rule d).refusals) (rule d).reply (rule d).edits (local.refuses d) is

  pub local_there : (d : Design) (o : Object) → WritesOf rule d o → IsThere (stepped rule d).design o
  local_there d o is = edits_there (ruled (rule d)).edits d o (local_last d) (ruled_finds d (first (rule d).refusals) (rule d).reply (rule d).edits (local.finds d)) is

  -- two designs that agree on what is needed
  module _ (d e : Design) (closed : IsClosed d) (grown : Grown d e) (agree : AgreesOn d e (needs d)) where
    same_rule : rule d ≡ rule e
    same_rule = local.same d e closed grown agree

    same_outcome : ruled (rule d) ≡ ruled (rule e)
    same_outcome = ap ruled same_rule

    takes : TakesAll d e (rule d).edits
    takes = takes_all (rule d).edits d e (local.last d) (subst (λ (r : Rule). AllGoLast e r.edits) (sym same_rule) (local.last e))
        (λ lib is. ⊎_elim (λ (needed : needs d (Directory lib)). agree (Directory lib) needed) (λ (made : IsMade (rule d).edits (Directory lib)). absurd (not_made (rule d).edits lib made)) (local.writes_seen d (Directory lib) is))

    takes_ruled : TakesAll d e (ruled (rule d)).edits
    takes_ruled = ruled_takes d e (first (rule d).refusals) (rule d).reply (rule d).edits takes

    pub local_grown : Grown (stepped rule d).design (stepped rule e).design
    local_grown = subst (λ (out : Outcome). Grown (edited d (ruled (rule d)).edits) (edited e out.edits)) same_outcome (edited_grown (ruled (rule d)).edits d e takes_ruled grown)

    pub local_agrees : (o : Object) → Agrees d e o → Agrees (stepped rule d).design (stepped rule e).design o
    local_agrees o is = subst (λ (out : Outcome). Agrees (edited d (ruled (rule d)).edits) (edited e out.edits) o) same_outcome (edited_agrees (ruled (rule d)).edits d e o takes_ruled is)

    pub local_writes : AreSameObjects (WritesOf rule d) (WritesOf rule e)
    local_writes o = (subst (λ (out : Outcome). IsChanged out.edits o) same_outcome, subst (λ (out : Outcome). IsChanged out.edits o) (sym same_outcome))

    written_here : (o : Object) → IsChanged (rule d).edits o → Agrees (edited d (rule d).edits) (edited e (rule d).edits) o
    written_here o is =
        ⊎_elim
        (λ (needed : needs d o). edited_agrees (rule d).edits d e o takes (agree o needed))
        (λ (made : IsMade (rule d).edits o). all_made_agrees (rule d).edits d e o takes made)
        (local.writes_seen d o is)

    pub local_written : AgreesOn (stepped rule d).design (stepped rule e).design (WritesOf rule d)
    local_written o is =
        subst (λ (out : Outcome). Agrees (edited d (ruled (rule d)).edits) (edited e out.edits) o) same_outcome
        (ruled_written d e (first (rule d).refusals) (rule d).reply (rule d).edits o (written_here o) is)

    pub local_frame : IsFramedBy rule needs d e
    local_frame = record {
      needs = local.needs_same d e grown agree;
      reply = ap (λ (out : Outcome). out.reply) same_outcome;
      writes = local_writes;
      written = local_written;
      stays = local_stays d;
      stays_too = local_stays e;
      grown = local_grown;
    }
