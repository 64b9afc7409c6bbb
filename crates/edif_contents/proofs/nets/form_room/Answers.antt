use Rattle.std.proofs.Common.{◌≡◌, ◌+◌, ◌*◌, ◌<◌, ◌≤◌, ◌++◌, ◌∷◌, List, length, ℕ, refl, sym, ◌∙◌, subst, arith}
use Rattle.std.specs.List.{flat_map}
use Rattle.edif_spelling_spec.specs.Tree.{Placed}
use Rattle.edif_spec.specs.Faults.{Beyond, repeated, those_of}
use Rattle.edif_spec.specs.Nets.{row_size}
use Rattle.edif_spec.specs.Stands.{counted_ends, ends_in}
use Rattle.edif_spec.specs.declared.keyword.Keyword.TheVariants.{Net}
use Rattle.edif_spec.specs.declared.fault.MeaningFault.{MeaningFault}
use Rattle.edif_spec.specs.declared.fault.MeaningFault.TheVariants.{OverLimit}
use Rattle.edif_tree.specs.Handles.{here, all}
use Rattle.edif_grammar.proofs.Misplaced.{place_is}
use Rattle.edif_parts.proofs.Answering.{answers_more, hand_on}
use Rattle.edif_parts.proofs.Steps.{here_first}
use Rattle.edif_contents.specs.Nets.{NetsFaultIn, NextNetFault, RowFits, form_in}
use Rattle.edif_contents.proofs.InsideLoops.{counted_in, counted_so_far, ends_beyond, nets_beyond}
use Rattle.edif_contents.proofs.nets.form_room.Goals as goal

pub returns-in_err-nets_room : goal.returns-in_err-nets_room
returns-in_err-nets_room c = λ s before r g.
    let t = here c.args.node in
    let list = c.args.list.now in
    let size = c.written_size-size.result in
    let F : MeaningFault → Type 0 = λ f. (1048576 < c.len.result + size) × (f ≡ OverLimit 1048576 c.place.result) in
    hand_on _ F (NextNetFault s before t) c.from_residual.result c.in_err-nets_room.field-0.0 c.from_residual.ensures.1
    (λ f h rest.
    let ts = before ++ t ∷ rest in
    let P : MeaningFault → Type 0 = λ v. NetsFaultIn s (those_of Net ts) v in
    let first = here_first Net ts before (t ∷ rest) rest t refl refl c.requires.keyword in
    let l : 1048576 < length list.nets.items + size = omega (arith, h.0, c.len.ensures, list.nets.ok.0) in
    subst P (sym h.1) (nets_beyond s ts before rest t list (form_in c.args.read.now.net) size c.place.result first r.mean c.written_size-size.ensures (c.place.ensures ∙ place_is t) l g))
    c.in_err-nets_room.ensures

pub returns : goal.returns
returns c = λ s before r g.
    let t = here c.args.node in
    let list = c.args.list.now in
    let n = c.args.read.now in
    let size = c.written_size-size.result in
    let us = all n.ends in
    let counts = counted_in before in
    let told : length counts ≡ c.len-2.result = counted_so_far s before list g ∙ omega (arith, c.len-2.ensures, list.ends.ok.0) in
    answers_more (λ _. c.len-2.result + length us * size ≤ 4194304) (λ _. RowFits list t (form_in n.net)) (λ f. (more : List Placed) → Beyond 4194304 ((counts ++ repeated (λ u. size) us) ++ more) f) (NextNetFault s before t) c.ends_room.result
    (λ u h.
    let P : ℕ → Type 0 = λ v. c.len-2.result + length us * v ≤ 4194304 in
    let Q : List Placed → Type 0 = λ v. c.len-2.result + length v * row_size (form_in n.net).array ≤ 4194304 in
    let e : c.len-2.result + length (ends_in t) * row_size (form_in n.net).array ≤ 4194304 = subst Q r.nodes (subst P c.written_size-size.ensures h) in
    (omega (arith, c.in_ok-nets_room.ensures, c.len.ensures, c.written_size-size.ensures, list.nets.ok.0), omega (arith, e, c.len-2.ensures, list.ends.ok.0)))
    (λ f h rest.
    let ts = before ++ t ∷ rest in
    let first = here_first Net ts before (t ∷ rest) rest t refl refl c.requires.keyword in
    let after = flat_map counted_ends (those_of Net rest) in
    let P : ℕ → Type 0 = λ v. Beyond 4194304 ((counts ++ repeated (λ u. v) us) ++ after) f in
    let Q : List Placed → Type 0 = λ v. Beyond 4194304 ((counts ++ repeated (λ u. row_size (form_in n.net).array) v) ++ after) f in
    ends_beyond s ts before rest t (form_in n.net) f first r.mean (subst Q r.nodes (subst P c.written_size-size.ensures (h after))))
    (c.ends_room.ensures counts told)
