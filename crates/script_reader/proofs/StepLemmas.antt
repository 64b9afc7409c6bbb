-- A step by its verb, and what can be said of one that was read.
use Rattle.std.proofs.Common.{◌≡◌, ◌∙◌, ℕ, zero, suc, ◌<◌, ◌^◌, List, Bor, [], ◌∷◌, ◌++◌, None, Some, true, false, map, length, Ok, Err, inl, inr, refl, sym, ap, subst, arith, ◌≢◌}
use Rattle.std.specs.Prelude.{Option, Result, IfOk, ◌==◌, codes}
use Rattle.std.specs.List.{All, AllByRecursion}
use Rattle.std.proofs.lemmas.List.Elements.{All-from_recursion}
use Rattle.netlist_schema.specs.Typed.{IsBytes}
use Rattle.netlist_schema.specs.Types.{Value}
use Rattle.netlist_schema.specs.declared.property.Num.TheVariants as numbers
use Rattle.netlist_schema.specs.declared.property.Value.TheVariants as values
use Rattle.edit_spec.specs.declared.ops.Op.{Op}
use Rattle.edit_spec.specs.declared.ops.Op.TheVariants as op
use Rattle.edit_spec.specs.declared.ops.PortDecl.{PortDecl}
use Rattle.edit_spec.specs.declared.ops.Target.{Target}
use Rattle.edit_spec.specs.declared.ops.Target.TheVariants as targets
use Rattle.script_spec.specs.Lines.{IsSayable, end_pieces, op_pieces, port_piece, property_pieces, step_pieces, target_pieces, value_pieces, width_atoms, said}
use Rattle.script_spec.specs.Pieces.{Atom, Said, Named, Number, Integer, Exponent, Quoted, Piece, Alone, Joined, IsSayableAtom, IsSayablePiece, SpellAtoms, SpellPieces, SpellsAtom, SpellsPiece}
use Rattle.script_spec.specs.ScriptText.{SayStep}
use Rattle.script_spec.specs.declared.script.Step.{Step}
use Rattle.script_spec.specs.declared.script.Step.TheVariants.{Begin, Run, Commit, Abandon, Pin, PinAt, Walk, Release, Collect}
use Rattle.script_words.specs.Reading.{Reads, lent}
use Rattle.script_ops.specs.Verbs.{HasBytes, OpHasBytes, verb_word}
use Rattle.script_reader.specs.Steps.{IsStepOf, ReadsStep, SayRest, StepHasBytes, verb_of, limit_pieces}
use Rattle.script_words.specs.declared.unread.Unread.{Unread}
use Rattle.script_ops.specs.declared.verbs.Verb.{Verb}
use Rattle.script_ops.proofs.VerbLemmas.{one_verb}
use Rattle.script_ops.proofs.FrontLemmas.{is_none, spells_none, some_words}

-- ---- the first word, and the rest

pub says_parts : (word : List ℕ) (args : List (List ℕ)) (s : Step) → SayStep (word ∷ args) s → (word ≡ verb_word (verb_of s)) × SayRest args s
says_parts word args (Begin zero) (inl p) = (p.0, inl (is_none args p.1, refl))
says_parts word args (Begin zero) (inr p) = (p.0, inr p.1)
says_parts word args (Begin (suc n)) (inl p) = (p.0, inr p.1)
says_parts word args (Begin (suc n)) (inr p) = (p.0, inr p.1)
says_parts word args (Run (op.ShowCell cell)) p = (p.0.0, (p.0.1, p.1))
says_parts word args (Run (op.ShowNet cell net)) p = (p.0.0, (p.0.1, p.1))
says_parts word args (Run (op.ShowInst cell inst)) p = (p.0.0, (p.0.1, p.1))
says_parts word args (Run (op.AddCell cell leaf ports)) p = (p.0.0, (p.0.1, p.1))
says_parts word args (Run (op.AddNet cell net)) p = (p.0.0, (p.0.1, p.1))
says_parts word args (Run (op.DropNet cell net)) p = (p.0.0, (p.0.1, p.1))
says_parts word args (Run (op.AddInst cell inst of)) p = (p.0.0, (p.0.1, p.1))
says_parts word args (Run (op.DropInst cell inst)) p = (p.0.0, (p.0.1, p.1))
says_parts word args (Run (op.Join cell net end)) p = (p.0.0, (p.0.1, p.1))
says_parts word args (Run (op.Cut cell end)) p = (p.0.0, (p.0.1, p.1))
says_parts word args (Run (op.SetProp cell target property)) p = (p.0.0, (p.0.1, p.1))
says_parts word args (Run (op.SetNote path property)) p = (p.0.0, (p.0.1, p.1))
says_parts word args (Run (op.DropNote path key)) p = (p.0.0, (p.0.1, p.1))
says_parts word args (Run op.Uniquify) p = (p.0.0, (p.0.1, p.1))
says_parts word args (Run (op.UniquePath path)) p = (p.0.0, (p.0.1, p.1))
says_parts word args (Run (op.Ungroup cell inst)) p = (p.0.0, (p.0.1, p.1))
says_parts word args Commit p = (p.0, is_none args p.1)
says_parts word args Abandon p = (p.0, is_none args p.1)
says_parts word args Pin p = (p.0, is_none args p.1)
says_parts word args (PinAt version) p = (p.0, p.1)
says_parts word args (Walk None) p = (p.0, p.1)
says_parts word args (Walk (Some limit)) p = (p.0, p.1)
says_parts word args Release p = (p.0, is_none args p.1)
says_parts word args Collect p = (p.0, is_none args p.1)

pub says_from : (args : List (List ℕ)) (s : Step) → SayRest args s → SayStep (verb_word (verb_of s) ∷ args) s
says_from args (Begin zero) (inl q) = inl (refl, spells_none args q.0)
says_from args (Begin zero) (inr q) = inr (refl, q)
says_from args (Begin (suc n)) (inl q) = let wrong : suc n ≡ 0 = q.1 in absurd (omega (arith, wrong))
says_from args (Begin (suc n)) (inr q) = inr (refl, q)
says_from args (Run (op.ShowCell cell)) q = ((refl, q.0), q.1)
says_from args (Run (op.ShowNet cell net)) q = ((refl, q.0), q.1)
says_from args (Run (op.ShowInst cell inst)) q = ((refl, q.0), q.1)
says_from args (Run (op.AddCell cell leaf ports)) q = ((refl, q.0), q.1)
says_from args (Run (op.AddNet cell net)) q = ((refl, q.0), q.1)
says_from args (Run (op.DropNet cell net)) q = ((refl, q.0), q.1)
says_from args (Run (op.AddInst cell inst of)) q = ((refl, q.0), q.1)
says_from args (Run (op.DropInst cell inst)) q = ((refl, q.0), q.1)
says_from args (Run (op.Join cell net end)) q = ((refl, q.0), q.1)
says_from args (Run (op.Cut cell end)) q = ((refl, q.0), q.1)
says_from args (Run (op.SetProp cell target property)) q = ((refl, q.0), q.1)
says_from args (Run (op.SetNote path property)) q = ((refl, q.0), q.1)
says_from args (Run (op.DropNote path key)) q = ((refl, q.0), q.1)
says_from args (Run op.Uniquify) q = ((refl, q.0), q.1)
says_from args (Run (op.UniquePath path)) q = ((refl, q.0), q.1)
says_from args (Run (op.Ungroup cell inst)) q = ((refl, q.0), q.1)
says_from args Commit q = (refl, spells_none args q)
says_from args Abandon q = (refl, spells_none args q)
says_from args Pin q = (refl, spells_none args q)
says_from args (PinAt version) q = (refl, q)
says_from args (Walk None) q = (refl, q)
says_from args (Walk (Some limit)) q = (refl, q)
says_from args Release q = (refl, spells_none args q)
says_from args Collect q = (refl, spells_none args q)

-- ---- what is spelled can be said

-- besides its spelling: numbers have 64 bits, and bytes are bytes
abbrev IsTypedAtom : Atom → Type 0
IsTypedAtom (Number least most n) = most < 2 ^ 64
IsTypedAtom (Quoted text) = IsBytes text
IsTypedAtom atom = Unit {0}

abbrev IsTypedPiece : Piece → Type 0
IsTypedPiece (Alone atom) = IsTypedAtom atom
IsTypedPiece (Joined mark atoms) = AllByRecursion IsTypedAtom atoms

sayable_atom : (word : List ℕ) (atom : Atom) → SpellsAtom word atom → IsTypedAtom atom → IsSayableAtom atom
sayable_atom word (Said said) s t = tt
sayable_atom word (Named id) s t = s.1
sayable_atom word (Number least most n) s t = let low = s.2 in let high = s.3 in (low, high, omega (arith, high, t))
sayable_atom word (Integer z) s t = s.0
sayable_atom word (Exponent z) s t = s.1
sayable_atom word (Quoted text) s t = t

sayable_atoms : (words : List (List ℕ)) (atoms : List Atom) → SpellAtoms words atoms → AllByRecursion IsTypedAtom atoms → AllByRecursion IsSayableAtom atoms
sayable_atoms [] [] s t = tt
sayable_atoms [] (atom ∷ atoms) s t = absurd s
sayable_atoms (word ∷ words) [] s t = absurd s
sayable_atoms (word ∷ words) (atom ∷ atoms) s t = (sayable_atom word atom s.0 t.0, sayable_atoms words atoms s.1 t.1)

as_many : (words : List (List ℕ)) (atoms : List Atom) → SpellAtoms words atoms → length words ≡ length atoms
as_many [] [] s = refl
as_many [] (atom ∷ atoms) s = absurd s
as_many (word ∷ words) [] s = absurd s
as_many (word ∷ words) (atom ∷ atoms) s = let rest = as_many words atoms s.1 in omega (arith, rest)

sayable_piece : (word : List ℕ) (piece : Piece) → SpellsPiece word piece → IsTypedPiece piece → IsSayablePiece piece
sayable_piece word (Alone atom) s t = sayable_atom word atom s t
sayable_piece word (Joined mark atoms) s t =
    let many = as_many s.0 atoms s.3 in let some = s.2 in
    (omega (arith, many, some), All-from_recursion IsSayableAtom atoms (sayable_atoms s.0 atoms s.3 t))

sayable_pieces : (words : List (List ℕ)) (pieces : List Piece) → SpellPieces words pieces → AllByRecursion IsTypedPiece pieces → AllByRecursion IsSayablePiece pieces
sayable_pieces [] [] s t = tt
sayable_pieces [] (piece ∷ pieces) s t = absurd s
sayable_pieces (word ∷ words) [] s t = absurd s
sayable_pieces (word ∷ words) (piece ∷ pieces) s t = (sayable_piece word piece s.0 t.0, sayable_pieces words pieces s.1 t.1)

all_sayable : (words : List (List ℕ)) (pieces : List Piece) → SpellPieces words pieces → AllByRecursion IsTypedPiece pieces → All IsSayablePiece pieces
all_sayable words pieces s t = All-from_recursion IsSayablePiece pieces (sayable_pieces words pieces s t)

-- ---- pieces of operations are typed

both : (ps qs : List Piece) → AllByRecursion IsTypedPiece ps → AllByRecursion IsTypedPiece qs → AllByRecursion IsTypedPiece (ps ++ qs)
both [] qs a b = b
both (p ∷ ps) qs a b = (a.0, both ps qs a.1 b)

names_typed : (path : List (List ℕ)) → AllByRecursion IsTypedAtom (map Named path)
names_typed [] = tt
names_typed (id ∷ path) = (tt, names_typed path)

low_width : 65536 < 2 ^ 64
low_width = omega arith

port_typed : (decl : PortDecl) → IsTypedPiece (port_piece decl)
port_typed decl = (tt, (tt, width_typed decl.array))
  where
    width_typed : (width : Option ℕ) → AllByRecursion IsTypedAtom (width_atoms width)
    width_typed None = tt
    width_typed (Some width) = (low_width, tt)

ports_typed : (decls : List PortDecl) → AllByRecursion IsTypedPiece (map port_piece decls)
ports_typed [] = tt
ports_typed (decl ∷ decls) = (port_typed decl, ports_typed decls)

low_bit : 4294967295 < 2 ^ 64
low_bit = omega arith

end_typed : (inst : Option (List ℕ)) (port : List ℕ) (bit : ℕ) → AllByRecursion IsTypedPiece (end_pieces (record { inst = inst; port = port; bit = bit }))
end_typed None port bit = (tt, (tt, (low_bit, tt)))
end_typed (Some inst) port bit = (tt, (tt, (low_bit, tt)))

target_typed : (target : Target) → AllByRecursion IsTypedPiece (target_pieces target)
target_typed targets.Whole = (tt, tt)
target_typed (targets.Inst inst) = (tt, (tt, tt))
target_typed (targets.Net net) = (tt, (tt, tt))

value_typed : (value : Value) → HasBytes value → AllByRecursion IsTypedPiece (value_pieces value)
value_typed (values.Boolean true) b = (tt, tt)
value_typed (values.Boolean false) b = (tt, tt)
value_typed (values.Integer z) b = (tt, (tt, tt))
value_typed (values.Number (numbers.Int z)) b = (tt, (tt, tt))
value_typed (values.Number (numbers.Scaled m x)) b = (tt, (tt, (tt, (tt, tt))))
value_typed (values.Text text) b = (tt, (b, tt))

op_typed : (o : Op) → OpHasBytes o → AllByRecursion IsTypedPiece (op_pieces o)
op_typed (op.ShowCell cell) b = (tt, (tt, (tt, tt)))
op_typed (op.ShowNet cell net) b = (tt, (tt, (tt, (tt, tt))))
op_typed (op.ShowInst cell inst) b = (tt, (tt, (tt, (tt, tt))))
op_typed (op.AddCell cell leaf ports) b = (tt, (tt, (tt, (tt, ports_typed ports))))
op_typed (op.AddNet cell net) b = (tt, (tt, (tt, (tt, tt))))
op_typed (op.DropNet cell net) b = (tt, (tt, (tt, (tt, tt))))
op_typed (op.AddInst cell inst of) b = (tt, (tt, (tt, (tt, (tt, (tt, tt))))))
op_typed (op.DropInst cell inst) b = (tt, (tt, (tt, (tt, tt))))
op_typed (op.Join cell net end) b = (tt, (tt, (tt, (tt, end_typed end.inst end.port end.bit))))
op_typed (op.Cut cell end) b = (tt, (tt, (tt, end_typed end.inst end.port end.bit)))
op_typed (op.SetProp cell target property) b = (tt, (tt, (tt, both (target_pieces target) (property_pieces property) (target_typed target) (tt, value_typed property.value b))))
op_typed (op.SetNote path property) b = (tt, (names_typed path, (tt, value_typed property.value b)))
op_typed (op.DropNote path key) b = (tt, (names_typed path, (tt, tt)))
op_typed op.Uniquify b = (tt, tt)
op_typed (op.UniquePath path) b = (tt, (names_typed path, tt))
op_typed (op.Ungroup cell inst) b = (tt, (tt, (tt, (tt, tt))))

low_retries : 16 < 2 ^ 64
low_retries = omega arith

low_version : 18446744073709551615 < 2 ^ 64
low_version = omega arith

-- a step that words say can be said
pub sayable : (words : List (List ℕ)) (s : Step) → SayStep words s → StepHasBytes s → IsSayable s
sayable words (Begin zero) s b = All-from_recursion IsSayablePiece (step_pieces (Begin zero)) (tt, tt)
sayable words (Begin (suc n)) (inl s) b = all_sayable words (step_pieces (Begin (suc n))) s (tt, (tt, (low_retries, tt)))
sayable words (Begin (suc n)) (inr s) b = all_sayable words (step_pieces (Begin (suc n))) s (tt, (tt, (low_retries, tt)))
sayable words (Run o) s b = record { pieces = all_sayable words (op_pieces o) s.0 (op_typed o b); plain = s.1 }
sayable words Commit s b = all_sayable words (step_pieces Commit) s (tt, tt)
sayable words Abandon s b = all_sayable words (step_pieces Abandon) s (tt, tt)
sayable words Pin s b = all_sayable words (step_pieces Pin) s (tt, tt)
sayable words (PinAt version) s b = all_sayable words (step_pieces (PinAt version)) s (tt, (low_version, tt))
sayable words (Walk None) s b = all_sayable words (step_pieces (Walk None)) s (tt, tt)
sayable words (Walk (Some limit)) s b = all_sayable words (step_pieces (Walk (Some limit))) s (tt, (tt, (low_bit, tt)))
sayable words Release s b = all_sayable words (step_pieces Release) s (tt, tt)
sayable words Collect s b = all_sayable words (step_pieces Collect) s (tt, tt)

-- ---- reading a step

-- words that say no limit
pub no_limit : (words : List (Bor (List ℕ))) → (length words == 0) ≡ false → ((n : ℕ) → ¬ SpellPieces (lent words) (said (codes "limit") ∷ Alone (Number 1 4294967295 n) ∷ []))
    → (limit : Option ℕ) → ¬ SpellPieces (lent words) (limit_pieces limit)
no_limit words e n None s = some_words words e s
no_limit words e n (Some limit) s = n limit s

-- no words say a step
pub says_nothing : (s : Step) → ¬ SayStep [] s
says_nothing (Begin zero) (inl p) = p
says_nothing (Begin zero) (inr p) = p
says_nothing (Begin (suc n)) (inl p) = p
says_nothing (Begin (suc n)) (inr p) = p
says_nothing (Run (op.ShowCell cell)) p = p.0
says_nothing (Run (op.ShowNet cell net)) p = p.0
says_nothing (Run (op.ShowInst cell inst)) p = p.0
says_nothing (Run (op.AddCell cell leaf ports)) p = p.0
says_nothing (Run (op.AddNet cell net)) p = p.0
says_nothing (Run (op.DropNet cell net)) p = p.0
says_nothing (Run (op.AddInst cell inst of)) p = p.0
says_nothing (Run (op.DropInst cell inst)) p = p.0
says_nothing (Run (op.Join cell net end)) p = p.0
says_nothing (Run (op.Cut cell end)) p = p.0
says_nothing (Run (op.SetProp cell target property)) p = p.0
says_nothing (Run (op.SetNote path property)) p = p.0
says_nothing (Run (op.DropNote path key)) p = p.0
says_nothing (Run op.Uniquify) p = p.0
says_nothing (Run (op.UniquePath path)) p = p.0
says_nothing (Run (op.Ungroup cell inst)) p = p.0
says_nothing Commit p = p
says_nothing Abandon p = p
says_nothing Pin p = p
says_nothing (PinAt version) p = p
says_nothing (Walk None) p = p
says_nothing (Walk (Some limit)) p = p
says_nothing Release p = p
says_nothing Collect p = p

pub none_says : (words : List (List ℕ)) → words ≡ [] → (s : Step) → ¬ SayStep words s
none_says words e s p = says_nothing s (subst (λ (ws : List (List ℕ)). SayStep ws s) e p)

pub unknown_says : (words : List (List ℕ)) (word : List ℕ) (others : List (List ℕ)) → words ≡ word ∷ others → ((v : Verb) → word ≢ verb_word v) → (s : Step) → ¬ SayStep words s
unknown_says words word others e n s p = n (verb_of s) (says_parts word others s (subst (λ (ws : List (List ℕ)). SayStep ws s) e p)).0

said_step : (words : List (List ℕ)) (word : List ℕ) (others : List (List ℕ)) (v : Verb) (s : Step) → words ≡ word ∷ others → word ≡ verb_word v → IsStepOf v others s → SayStep words s
said_step words word others v s e w i =
    let whole : verb_word (verb_of s) ∷ others ≡ words = ap (λ u. verb_word u ∷ others) i.verb ∙ ap (λ x. x ∷ others) (sym w) ∙ sym e in
    subst (λ (ws : List (List ℕ)). SayStep ws s) whole (says_from others s i.said)

pub step_read : (words : List (List ℕ)) (word : List ℕ) (others : List (List ℕ)) (v : Verb) (r : Result Step Unread) → words ≡ word ∷ others → word ≡ verb_word v → ReadsStep v others r
    → Reads (λ (s : Step). SayStep words s) r
step_read words word others v (Ok s) e w i = said_step words word others v s e w i
step_read words word others v (Err x) e w n = λ b s p.
    let parts = says_parts word others s (subst (λ (ws : List (List ℕ)). SayStep ws s) e p) in
    n b s (one_verb (verb_of s) v (sym parts.0 ∙ w)) parts.1

pub step_sayable : (words : List (List ℕ)) (word : List ℕ) (others : List (List ℕ)) (v : Verb) (r : Result Step Unread) → words ≡ word ∷ others → word ≡ verb_word v → ReadsStep v others r
    → IfOk r IsSayable
step_sayable words word others v (Ok s) e w i = sayable words s (said_step words word others v s e w i) i.bytes
step_sayable words word others v (Err x) e w n = tt
