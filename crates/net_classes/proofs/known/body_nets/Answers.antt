use Rattle.std.proofs.Common.{◌≡◌, ◌<◌, ℕ, List, length, get_or, None, sym, subst, ap, ◌∙◌, map}
use Rattle.std.specs.List.{Contains}
use Rattle.flat_spec.specs.HandedDown.{IsFirstInside}
use Rattle.flat_spec.specs.Paths.{nets_at}
use Rattle.net_classes.specs.Facts.{Facts, facts_of}
use Rattle.net_classes.specs.Inside.{TellsFirsts}
use Rattle.net_classes.specs.Joints.{IsJointIn}
use Rattle.net_classes.specs.LeastBits.{IsLeastAnswer, first_of_bit}
use Rattle.net_classes.specs.Links.{inside_in}
use Rattle.net_classes.specs.Own.{AreOwn}
use Rattle.net_classes.specs.declared.joints.Joint.{Joint}
use Rattle.net_classes.proofs.KnownLemmas.{tells_firsts}
use Rattle.net_classes.proofs.TellLemmas.{are_told}
use Rattle.net_classes.proofs.known.body_nets.Goals as goal

pub list_firsts-requires-clause-joints : goal.list_firsts-requires-clause-joints
list_firsts-requires-clause-joints g c =
    subst
    (λ (v : List Joint). (j : Joint) → (Contains v j → IsJointIn c.nets_at-nets.result j) × (IsJointIn c.nets_at-nets.result j → Contains v j))
    (sym c.as_slice-2.ensures.value) c.in_ok-joints.ensures.each

pub returns : goal.returns
returns g c = λ done valid known children.
    let d = g.S.Shown.design c.args.design.now in
    let cell = c.args.cell in
    let facts : Facts = map (λ row. map facts_of row.items) c.args.cells.now in
    let nets_are : c.nets_at-nets.result ≡ nets_at d cell = c.nets_at-nets.ensures.value in
    let own : AreOwn c.in_ok-starts.starts.items (nets_at d cell) (length (nets_at d cell)) c.in_ok-own.own.items =
    subst (λ v. AreOwn c.in_ok-starts.starts.items v (length v) c.in_ok-own.own.items) nets_are
    (subst (λ v. AreOwn v c.nets_at-nets.result (length c.nets_at-nets.result) c.in_ok-own.own.items) c.as_slice.ensures.value c.in_ok-own.ensures.own) in
    let tells : TellsFirsts d cell (inside_in facts c.insts_at-insts.result) =
    subst (λ v. TellsFirsts d cell (inside_in facts v)) (sym c.insts_at-insts.ensures.value) (tells_firsts d valid cell done facts known children) in
    let firsts : (n : ℕ) → n < length (nets_at d cell) → IsFirstInside d cell n (get_or c.in_ok-firsts.firsts.items n 0) =
    λ n less. c.in_ok-firsts.ensures.firsts d cell valid nets_are tells n (subst (λ v. n < length v) (sym nets_are) less) in
    let joints : (j : Joint) → (Contains c.in_ok-joints.joints.items j → IsJointIn (nets_at d cell) j) × (IsJointIn (nets_at d cell) j → Contains c.in_ok-joints.joints.items j) =
    subst (λ v. (j : Joint) → (Contains c.in_ok-joints.joints.items j → IsJointIn v j) × (IsJointIn v j → Contains c.in_ok-joints.joints.items j)) nets_are c.in_ok-joints.ensures.each in
    let least : (bit : ℕ) → bit < length c.in_ok-own.own.items
    → IsLeastAnswer (first_of_bit c.in_ok-own.own.items c.in_ok-firsts.firsts.items) (first_of_bit c.in_ok-own.own.items c.in_ok-firsts.firsts.items bit) (get_or c.in_ok-least.least.items bit None) =
    rw (sym c.as_slice-3.ensures.value) (rw (sym c.as_slice-4.ensures.value) c.in_ok-least.ensures.least) in
    are_told d valid cell c.args.body.now c.requires.is c.in_ok-starts.starts.items c.in_ok-starts.ensures
    c.in_ok-own.own.items (c.in_ok-own.ensures.long ∙ c.bit_count.ensures) own
    c.in_ok-firsts.firsts.items (c.in_ok-firsts.ensures.long ∙ ap length nets_are) firsts
    c.in_ok-joints.joints.items joints c.in_ok-joints.ensures.in_order
    c.in_ok-least.least.items (c.in_ok-least.ensures.long ∙ ap length c.as_slice-3.ensures.value) least
