-- Instances as steps, and the blocks among them.
use Rattle.std.proofs.Common.{◌≡◌, ◌<◌, ◌≤◌, ◌+◌, ℕ, suc, Bool, cond, List, [], ◌∷◌, ◌++◌, map, length, take, get_or, Option, sym, ap, ◌∙◌, refl, arith, add-zero, zero-add, length-take}
use Rattle.std.specs.Prelude.{filter}
use Rattle.std.specs.List.{enumerate_from}
use Rattle.std.proofs.lemmas.List.{map-append, take_more}
use Rattle.std.proofs.lemmas.List.Elements.{filter-append}
use Rattle.netlist_schema.specs.Design.{Design, cell_at, insts_in}
use Rattle.netlist_schema.specs.Hierarchy.{insts_at}
use Rattle.netlist_schema.specs.Types.{CellId, Contents, Inst}
use Rattle.edit_rules_spec.specs.Seen.{contents_at}
use Rattle.uniquify_spec.proofs.Agreed.{insts_inside}
use Rattle.eco_reads.proofs.Below.{take_whole}
use Rattle.uniquify_spec.specs.Blocks.{is_block}
use Rattle.uniquify_copies.specs.declared.spot.Step.{Step}
use Rattle.uniquify_blocks.specs.Kids.{step_of, steps_of}

pub steps_found : (d : Design) (at : CellId) (steps : List Step) (lent : Option Contents) → lent ≡ contents_at d at → steps ≡ steps_of (insts_in lent) → steps ≡ steps_of (insts_at d at)
steps_found d at steps lent inside is = is ∙ ap (λ (c : Option Contents). steps_of (insts_in c)) inside ∙ ap steps_of (insts_inside (cell_at d at))

-- ---- one instance more

enumerate-push : (n : ℕ) (xs : List Inst) (x : Inst) → enumerate_from n (xs ++ x ∷ []) ≡ enumerate_from n xs ++ (n + length xs, x) ∷ []
enumerate-push n [] x = λ i. (sym (add-zero n) i, x) ∷ []
enumerate-push n (y ∷ ys) x =
    let same : (n + 1) + length ys ≡ n + suc (length ys) = omega arith in
    ap (λ l. (n, y) ∷ l) (enumerate-push (n + 1) ys x ∙ (λ i. enumerate_from (n + 1) ys ++ (same i, x) ∷ []))

length-steps : (n : ℕ) (insts : List Inst) → length (map step_of (enumerate_from n insts)) ≡ length insts
length-steps n [] = refl
length-steps n (x ∷ insts) = ap suc (length-steps (n + 1) insts)

pub steps_count : (insts : List Inst) (i : ℕ) (steps : List Step) → i ≤ length insts → steps ≡ steps_of (take i insts) → i ≡ length steps
steps_count insts i steps within is =
    let same : length steps ≡ length (take i insts) = ap (λ l. length l) is ∙ length-steps 0 (take i insts) in
    omega (arith, same, length-take i insts)

pub steps_more : (insts : List Inst) (i : ℕ) (inst : Inst) (old new : List Step) (place : ℕ) → i < length insts → inst ≡ get_or insts i inst → old ≡ steps_of (take i insts)
    → place ≡ length old → new ≡ old ++ record { place = place; of = inst.of } ∷ [] → new ≡ steps_of (take (i + 1) insts)
steps_more insts i inst old new place less is old_is place_is new_is =
    let at : place ≡ 0 + length (take i insts) = place_is ∙ ap (λ l. length l) old_is ∙ length-steps 0 (take i insts) ∙ sym (zero-add (length (take i insts))) in
    new_is
    ∙ (λ t. old_is t ++ record { place = at t; of = inst.of } ∷ [])
    ∙ sym (map-append step_of (enumerate_from 0 (take i insts)) ((0 + length (take i insts), inst) ∷ []))
    ∙ ap (map step_of) (sym (enumerate-push 0 (take i insts) inst))
    ∙ ap steps_of (sym (take_more insts i inst less ∙ ap (λ x. take i insts ++ x ∷ []) (sym is)))

pub steps_all : (insts : List Inst) (i : ℕ) (steps : List Step) → length insts ≤ i → steps ≡ steps_of (take i insts) → steps ≡ steps_of insts
steps_all insts i steps past is = is ∙ ap steps_of (take_whole insts i past)

-- ---- one block more

pub kids_more : (d e : Design) → e ≡ d → (steps : List Step) (i : ℕ) (step : Step) (old new : List Step) (block : Bool) → i < length steps → step ≡ get_or steps i step
    → old ≡ filter (λ (s : Step). is_block d s.of) (take i steps) → block ≡ is_block e step.of → new ≡ old ++ cond block (step ∷ []) [] → new ≡ filter (λ (s : Step). is_block d s.of) (take (i + 1) steps)
kids_more d e same steps i step old new block less at old_is block_is new_is =
    let test : Step → Bool = λ s. is_block d s.of in
    let here : block ≡ is_block d step.of = block_is ∙ ap (λ x. is_block x step.of) same in
    new_is
    ∙ (λ t. old_is t ++ cond (here t) (step ∷ []) [])
    ∙ sym (filter-append test (take i steps) (step ∷ []))
    ∙ ap (filter test) (sym (take_more steps i step less ∙ ap (λ x. take i steps ++ x ∷ []) (sym at)))

pub kids_all : (d : Design) (steps : List Step) (i : ℕ) (kids : List Step) → length steps ≤ i → kids ≡ filter (λ (s : Step). is_block d s.of) (take i steps) → kids ≡ filter (λ (s : Step). is_block d s.of) steps
kids_all d steps i kids past is = is ∙ ap (filter (λ (s : Step). is_block d s.of)) (take_whole steps i past)
