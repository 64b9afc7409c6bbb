-- Lines that are no script.
use Rattle.std.proofs.Common.{◌≡◌, ◌∙◌, ℕ, zero, suc, List, [], ◌∷◌, None, Some, Bool, true, false, inl, inr, refl, ap, sym, subst, arith}
use Rattle.std.specs.Prelude.{codes, ◌⊎◌}
use Rattle.edit_spec.specs.declared.ops.Op.{Op}
use Rattle.edit_spec.specs.declared.ops.Op.TheVariants as op
use Rattle.std.specs.List.{list_any}
use Rattle.edif_spec.specs.Means.{equal}
use Rattle.script_spec.specs.ExampleLines.{HaveBadLines}
use Rattle.script_spec.specs.Lines.{step_pieces}
use Rattle.script_spec.specs.Pieces.{Piece, piece_text}
use Rattle.script_spec.specs.ScriptText.{AreSome, Place, Free, Block, behind, ArePlaced, Says, SayLines, SayStep, is_comment, steps_of, words}
use Rattle.script_spec.specs.declared.script.ScriptLine.{ScriptLine}
use Rattle.script_spec.specs.declared.script.Step.{Step}
use Rattle.script_spec.specs.declared.script.Step.TheVariants.{Begin, Run, Commit, Abandon, Pin, PinAt, Walk, Release, Collect}

-- the first word of pieces, and of a step's line
abbrev pub first_word : List Piece → List ℕ
first_word [] = []
first_word (piece ∷ pieces) = piece_text piece

abbrev pub step_word : Step → List ℕ
step_word step = first_word (step_pieces step)

-- a line that says a step begins with its word
pub says_word : (word : List ℕ) (others : List (List ℕ)) (step : Step) → SayStep (word ∷ others) step → word ≡ step_word step
says_word word others (Begin zero) (inl p) = p.0
says_word word others (Begin zero) (inr p) = p.0
says_word word others (Begin (suc n)) (inl p) = p.0
says_word word others (Begin (suc n)) (inr p) = p.0
says_word word others (Run (op.ShowCell cell)) p = p.0.0
says_word word others (Run (op.ShowNet cell net)) p = p.0.0
says_word word others (Run (op.ShowInst cell inst)) p = p.0.0
says_word word others (Run (op.AddCell cell leaf ports)) p = p.0.0
says_word word others (Run (op.AddNet cell net)) p = p.0.0
says_word word others (Run (op.DropNet cell net)) p = p.0.0
says_word word others (Run (op.AddInst cell inst of)) p = p.0.0
says_word word others (Run (op.DropInst cell inst)) p = p.0.0
says_word word others (Run (op.Join cell net end)) p = p.0.0
says_word word others (Run (op.Cut cell end)) p = p.0.0
says_word word others (Run (op.SetProp cell target property)) p = p.0.0
says_word word others (Run (op.SetNote path property)) p = p.0.0
says_word word others (Run (op.DropNote path key)) p = p.0.0
says_word word others (Run op.Uniquify) p = p.0.0
says_word word others (Run (op.UniquePath path)) p = p.0.0
says_word word others (Run (op.Ungroup cell inst)) p = p.0.0
says_word word others Commit p = p.0
says_word word others Abandon p = p.0
says_word word others Pin p = p.0
says_word word others (PinAt version) p = p.0
says_word word others (Walk None) p = p.0
says_word word others (Walk (Some limit)) p = p.0
says_word word others Release p = p.0
says_word word others Collect p = p.0

-- the words of operations, and of the other lines
abbrev pub op_names : List (List ℕ)
op_names =
    codes "show-cell" ∷ codes "show-net" ∷ codes "show-inst" ∷ codes "add-cell" ∷ codes "add-net" ∷ codes "drop-net" ∷ codes "add-inst" ∷ codes "drop-inst"
    ∷ codes "join" ∷ codes "cut" ∷ codes "set-prop" ∷ codes "set-note" ∷ codes "drop-note"
    ∷ codes "uniquify" ∷ codes "unique-path" ∷ codes "ungroup" ∷ []

abbrev free_names : List (List ℕ)
free_names = codes "begin" ∷ codes "pin" ∷ codes "pin-at" ∷ codes "collect" ∷ []

abbrev end_names : List (List ℕ)
end_names = codes "commit" ∷ codes "abandon" ∷ codes "walk" ∷ codes "release" ∷ []

abbrev pub is_one : List ℕ → List (List ℕ) → Bool
is_one word names = list_any (equal word) names

-- operations have other words than the lines outside of a block
pub op_known : (o : Op) → is_one (step_word (Run o)) op_names ≡ true
op_known (op.ShowCell cell) = refl
op_known (op.ShowNet cell net) = refl
op_known (op.ShowInst cell inst) = refl
op_known (op.AddCell cell leaf ports) = refl
op_known (op.AddNet cell net) = refl
op_known (op.DropNet cell net) = refl
op_known (op.AddInst cell inst of) = refl
op_known (op.DropInst cell inst) = refl
op_known (op.Join cell net end) = refl
op_known (op.Cut cell end) = refl
op_known (op.SetProp cell target property) = refl
op_known (op.SetNote path property) = refl
op_known (op.DropNote path key) = refl
op_known op.Uniquify = refl
op_known (op.UniquePath path) = refl
op_known (op.Ungroup cell inst) = refl

-- where nothing is held
free_known : (step : Step) (next : Place) → behind Free step ≡ Some next → is_one (step_word step) free_names ≡ true
free_known (Begin zero) next e = refl
free_known (Begin (suc n)) next e = refl
free_known Pin next e = refl
free_known (PinAt version) next e = refl
free_known Collect next e = refl
free_known (Run o) next e = absurd (cc (e))
free_known Commit next e = absurd (cc (e))
free_known Abandon next e = absurd (cc (e))
free_known (Walk limit) next e = absurd (cc (e))
free_known Release next e = absurd (cc (e))

-- in a block
block_known : (step : Step) (next : Place) → behind Block step ≡ Some next → (is_one (step_word step) op_names ≡ true) ⊎ (is_one (step_word step) end_names ≡ true)
block_known (Run o) next e = inl (op_known o)
block_known Commit next e = inr refl
block_known Abandon next e = inr refl
block_known (Begin n) next e = absurd (cc (e))
block_known Pin next e = absurd (cc (e))
block_known (PinAt version) next e = absurd (cc (e))
block_known Collect next e = absurd (cc (e))
block_known (Walk limit) next e = absurd (cc (e))
block_known Release next e = absurd (cc (e))

no_frob : (step : Step) (next : Place) → Says (codes "frob") step → behind Block step ≡ Some next → ⊥
no_frob step next p e = not_known (block_known step next e)
  where
    same : codes "frob" ≡ step_word step
    same = says_word (codes "frob") [] step p

    not_known : (is_one (step_word step) op_names ≡ true) ⊎ (is_one (step_word step) end_names ≡ true) → ⊥
    not_known (inl k) = let wrong : is_one (codes "frob") op_names ≡ true = ap (λ w. is_one w op_names) same ∙ k in cc (wrong)
    not_known (inr k) = let wrong : is_one (codes "frob") end_names ≡ true = ap (λ w. is_one w end_names) same ∙ k in cc (wrong)

-- `begin` begins a block
begin_step : (step : Step) (next : Place) → codes "begin" ≡ step_word step → behind Free step ≡ Some next → next ≡ Block
begin_step (Begin n) next p e = cc (e)
begin_step Pin next p e = absurd (cc (p))
begin_step (PinAt version) next p e = absurd (cc (p))
begin_step Collect next p e = absurd (cc (p))
begin_step (Run o) next p e = absurd (cc (e))
begin_step Commit next p e = absurd (cc (e))
begin_step Abandon next p e = absurd (cc (e))
begin_step (Walk limit) next p e = absurd (cc (e))
begin_step Release next p e = absurd (cc (e))

too_often : (step : Step) (next : Place) → Says (codes "begin retry 17") step → behind Free step ≡ Some next → ⊥
too_often (Begin zero) next (inl p) e = p.1
too_often (Begin zero) next (inr p) e = let value = p.1.1.0.1 in omega (arith, value)
too_often (Begin (suc n)) next (inl p) e = let value = p.1.1.0.1 in let most = p.1.1.0.3 in omega (arith, value, most)
too_often (Begin (suc n)) next (inr p) e = let value = p.1.1.0.1 in let most = p.1.1.0.3 in omega (arith, value, most)
too_often Pin next p e = p.1
too_often (PinAt version) next p e = p.1.1
too_often Collect next p e = p.1
too_often (Run o) next p e = absurd (cc (e))
too_often Commit next p e = absurd (cc (e))
too_often Abandon next p e = absurd (cc (e))
too_often (Walk limit) next p e = absurd (cc (e))
too_often Release next p e = absurd (cc (e))

-- no script has these lines
no_second : (first : Step) (others script : List ScriptLine) → codes "begin" ≡ step_word first → SayLines 2 (codes "frob" ∷ []) others
    → script ≡ record { number = 1; step = first } ∷ others → ArePlaced Free (steps_of script) → ⊥
no_second first others script begun (inl c) e placed = let wrong : false ≡ true = c.0 in cc (wrong)
no_second first others script begun (inr l) e placed =
    let here : ArePlaced Free (first ∷ steps_of others) = subst (λ (s : List ScriptLine). ArePlaced Free (steps_of s)) e placed in
    let block : here.0 ≡ Block = begin_step first here.0 begun here.1 in
    let then : ArePlaced here.0 (l.0 ∷ steps_of l.1) = subst (λ (s : List ScriptLine). ArePlaced here.0 (steps_of s)) l.4 here.2 in
    no_frob l.0 then.0 l.3 (ap (λ p. behind p l.0) (sym block) ∙ then.1)

no_unknown : (script : List ScriptLine) → SayLines 1 (codes "begin" ∷ codes "frob" ∷ []) script → ArePlaced Free (steps_of script) → ⊥
no_unknown script (inl c) placed = let wrong : false ≡ true = c.0 in cc (wrong)
no_unknown script (inr l) placed = no_second l.0 l.1 script (says_word (codes "begin") [] l.0 l.3) l.5 l.4 placed

-- a line that may not stand where nothing is held
no_only : (line : List ℕ) → is_comment (words line) ≡ false → ((step : Step) (next : Place) → Says line step → behind Free step ≡ Some next → ⊥)
    → (script : List ScriptLine) → SayLines 1 (line ∷ []) script → ArePlaced Free (steps_of script) → ⊥
no_only line plain none script (inl c) placed = let wrong : true ≡ false = sym c.0 ∙ plain in cc (wrong)
no_only line plain none script (inr l) placed =
    let here : ArePlaced Free (l.0 ∷ steps_of l.1) = subst (λ (s : List ScriptLine). ArePlaced Free (steps_of s)) l.4 placed in
    none l.0 here.0 l.3 here.1

no_commit : (step : Step) (next : Place) → Says (codes "commit") step → behind Free step ≡ Some next → ⊥
no_commit step next p e =
    let wrong : is_one (codes "commit") free_names ≡ true = ap (λ w. is_one w free_names) (says_word (codes "commit") [] step p) ∙ free_known step next e in cc (wrong)

begin_alone : AreSome (codes "begin" ∷ [])
begin_alone = (record { number = 1; step = Begin 0 } ∷ [], record { said = inr (Begin 0, [], refl, inl (refl, tt), refl, refl); placed = (Block, refl, tt) })

nothing : AreSome []
nothing = ([], record { said = refl; placed = tt })

pub have_bad_lines : HaveBadLines
have_bad_lines = record {
  unknown = record { front = codes "begin" ∷ []; line = codes "frob"; rest = []; parts = refl; place = refl; good = begin_alone; bad = λ a. no_unknown a.0 a.1.said a.1.placed };
  misplaced = record { front = []; line = codes "commit"; rest = []; parts = refl; place = refl; good = nothing; bad = λ a. no_only (codes "commit") refl no_commit a.0 a.1.said a.1.placed };
  too_many = record { front = []; line = codes "begin retry 17"; rest = []; parts = refl; place = refl; good = nothing; bad = λ a. no_only (codes "begin retry 17") refl too_often a.0 a.1.said a.1.placed };
}
