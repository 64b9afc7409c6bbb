-- A line says one step.
use Rattle.std.proofs.Common.{◌≡◌, ◌∙◌, ℕ, zero, suc, List, [], ◌∷◌, ◌++◌, Option, None, Some, Bool, true, false, map, inl, inr, refl, ap, sym, subst, arith, eqb}
use Rattle.std.specs.Prelude.{◌⊎◌, ◌&&◌, codes}
use Rattle.std.proofs.lemmas.Bool.{and_from, eq-eqb}
use Rattle.std.proofs.lemmas.List.Elements.{All-from_recursion}
use Rattle.netlist_schema.specs.Ident.{IsIdentifier, is_identifier_byte}
use Rattle.netlist_schema.specs.Types.{Direction, Property, Value}
use Rattle.netlist_schema.specs.declared.cell.Direction.TheVariants as directions
use Rattle.netlist_schema.specs.declared.property.Num.TheVariants as numbers
use Rattle.netlist_schema.specs.declared.property.Value.TheVariants as values
use Rattle.edit_rules_spec.specs.declared.reply.CellName.{CellName}
use Rattle.edit_rules_spec.specs.declared.reply.EndName.{EndName}
use Rattle.edit_spec.specs.declared.ops.Op.{Op}
use Rattle.edit_spec.specs.declared.ops.Op.TheVariants as op
use Rattle.edit_spec.specs.declared.ops.PortDecl.{PortDecl}
use Rattle.edit_spec.specs.declared.ops.Target.{Target}
use Rattle.edit_spec.specs.declared.ops.Target.TheVariants as targets
use Rattle.script_spec.specs.Laws.{OneStep}
use Rattle.script_spec.specs.Lines.{IsPlainOp, IsPlainProperty, direction_word, end_pieces, inst_piece, leaf_word, op_pieces, path_piece, port_piece, property_pieces, said, number, step_pieces, target_pieces, value_pieces, width_atoms}
use Rattle.script_spec.specs.Pieces.{Named, Piece, Said, SpellPieces}
use Rattle.script_spec.specs.ScriptText.{SayStep, words}
use Rattle.script_spec.specs.declared.script.Step.{Step}
use Rattle.script_spec.specs.declared.script.Step.TheVariants.{Begin, Run, Commit, Abandon, Pin, PinAt, Walk, Release, Collect}
use Rattle.script_spec.proofs.BadLines.{is_one, op_known, op_names, says_word, step_word}
use Rattle.script_spec.proofs.Spelled.{AtomIsFree, AtomsAreFree, IsFree, SamePiece, SamePieces, SameAtoms, same_pieces}

-- ---- words that differ

abbrev same_list : List ℕ → List ℕ → Bool
same_list [] [] = true
same_list (x ∷ xs) (y ∷ ys) = eqb x y && same_list xs ys
same_list xs ys = false

same_as_itself : (xs : List ℕ) → same_list xs xs ≡ true
same_as_itself [] = refl
same_as_itself (x ∷ xs) = and_from (eqb x x) (same_list xs xs) (eq-eqb x x refl) (same_as_itself xs)

no_bool : false ≡ true → ⊥
no_bool e = cc (e)

differ : (a b : List ℕ) → same_list a b ≡ false → a ≡ b → ⊥
differ a b d e = no_bool (sym d ∙ subst (λ (x : List ℕ). same_list a x ≡ true) e (same_as_itself a))

-- ---- parts of lines

one_cell : (a b : CellName) → a.lib ≡ b.lib → a.cell ≡ b.cell → a ≡ b
one_cell a b l c = ap (λ x. record { lib = x; cell = a.cell }) l ∙ ap (λ x. record { lib = b.lib; cell = x }) c

pub names_free : (mark : ℕ) (path : List (List ℕ)) → AtomIsFree mark (Named []) → AtomsAreFree mark (map Named path)
names_free mark [] f = tt
names_free mark (id ∷ path) f = (f, names_free mark path f)

one_names : (a b : List (List ℕ)) → SameAtoms (map Named a) (map Named b) → a ≡ b
one_names [] [] e = refl
one_names (x ∷ a) (y ∷ b) e = ap (λ z. z ∷ a) e.0 ∙ ap (λ z. y ∷ z) (one_names a b e.1)
one_names [] (y ∷ b) e = absurd e
one_names (x ∷ a) [] e = absurd e

one_path : (a b : List (List ℕ)) → SamePiece (path_piece a) (path_piece b) → a ≡ b
one_path a b e = one_names a b (e refl (names_free 47 a refl) (names_free 47 b refl))

one_direction : (a b : Option Direction) → direction_word a ≡ direction_word b → a ≡ b
one_direction None None e = refl
one_direction (Some directions.Input) (Some directions.Input) e = refl
one_direction (Some directions.Output) (Some directions.Output) e = refl
one_direction (Some directions.Inout) (Some directions.Inout) e = refl
one_direction None (Some directions.Input) e = absurd (cc (e))
one_direction None (Some directions.Output) e = absurd (cc (e))
one_direction None (Some directions.Inout) e = absurd (cc (e))
one_direction (Some directions.Input) None e = absurd (cc (e))
one_direction (Some directions.Input) (Some directions.Output) e = absurd (cc (e))
one_direction (Some directions.Input) (Some directions.Inout) e = absurd (cc (e))
one_direction (Some directions.Output) None e = absurd (cc (e))
one_direction (Some directions.Output) (Some directions.Input) e = absurd (cc (e))
one_direction (Some directions.Output) (Some directions.Inout) e = absurd (cc (e))
one_direction (Some directions.Inout) None e = absurd (cc (e))
one_direction (Some directions.Inout) (Some directions.Input) e = absurd (cc (e))
one_direction (Some directions.Inout) (Some directions.Output) e = absurd (cc (e))

word_free : (direction : Option Direction) → IsFree 58 (direction_word direction)
word_free None = All-from_recursion (λ b. eqb b 58 ≡ false) (codes "none") (refl, (refl, (refl, (refl, tt))))
word_free (Some directions.Input) = All-from_recursion (λ b. eqb b 58 ≡ false) (codes "in") (refl, (refl, tt))
word_free (Some directions.Output) = All-from_recursion (λ b. eqb b 58 ≡ false) (codes "out") (refl, (refl, (refl, tt)))
word_free (Some directions.Inout) = All-from_recursion (λ b. eqb b 58 ≡ false) (codes "inout") (refl, (refl, (refl, (refl, (refl, tt)))))

width_free : (width : Option ℕ) → AtomsAreFree 58 (width_atoms width)
width_free None = tt
width_free (Some n) = (refl, tt)

one_width : (a b : Option ℕ) → SameAtoms (width_atoms a) (width_atoms b) → a ≡ b
one_width None None e = refl
one_width (Some a) (Some b) e = ap Some e.0
one_width None (Some b) e = absurd e
one_width (Some a) None e = absurd e

pub port_free : (p : PortDecl) → AtomsAreFree 58 (Named p.name ∷ Said (direction_word p.direction) ∷ width_atoms p.array)
port_free p = (refl, (word_free p.direction, width_free p.array))

one_port : (a b : PortDecl) → SamePiece (port_piece a) (port_piece b) → a ≡ b
one_port a b e =
    let s = e refl (port_free a) (port_free b) in
    ap (λ x. record { name = x; direction = a.direction; array = a.array }) s.0
    ∙ ap (λ x. record { name = b.name; direction = x; array = a.array }) (one_direction a.direction b.direction s.1.0)
    ∙ ap (λ x. record { name = b.name; direction = b.direction; array = x }) (one_width a.array b.array s.1.1)

one_ports : (a b : List PortDecl) → SamePieces (map port_piece a) (map port_piece b) → a ≡ b
one_ports [] [] e = refl
one_ports (x ∷ a) (y ∷ b) e = ap (λ z. z ∷ a) (one_port x y e.0) ∙ ap (λ z. y ∷ z) (one_ports a b e.1)
one_ports [] (y ∷ b) e = absurd e
one_ports (x ∷ a) [] e = absurd e

no_dash : IsIdentifier (codes "-") → ⊥
no_dash i = let wrong : is_identifier_byte 45 ≡ true = i.1 0 0 (omega arith) in cc (wrong)

one_inst : (a b : Option (List ℕ)) → SamePiece (inst_piece a) (inst_piece b) → a ≡ b
one_inst None None e = refl
one_inst (Some a) (Some b) e = ap Some e
one_inst None (Some b) e = absurd (no_dash (subst IsIdentifier (sym e.0) e.1))
one_inst (Some a) None e = absurd (no_dash (subst IsIdentifier (sym e.0) e.1))

one_end : (a b : EndName) → SamePieces (end_pieces a) (end_pieces b) → a ≡ b
one_end a b e =
    ap (λ x. record { inst = x; port = a.port; bit = a.bit }) (one_inst a.inst b.inst e.0)
    ∙ ap (λ x. record { inst = b.inst; port = x; bit = a.bit }) e.1.0
    ∙ ap (λ x. record { inst = b.inst; port = b.port; bit = x }) e.1.1.0

-- the first word of a value
abbrev value_word : Value → List ℕ
value_word (values.Boolean true) = codes "true"
value_word (values.Boolean false) = codes "false"
value_word (values.Integer z) = codes "int"
value_word (values.Number n) = codes "num"
value_word (values.Text t) = codes "str"

value_first : (v : Value) → (rest : List Piece) × (value_pieces v ≡ said (value_word v) ∷ rest)
value_first (values.Boolean true) = (_, refl)
value_first (values.Boolean false) = (_, refl)
value_first (values.Integer z) = (_, refl)
value_first (values.Number (numbers.Int z)) = (_, refl)
value_first (values.Number (numbers.Scaled m x)) = (_, refl)
value_first (values.Text t) = (_, refl)

value_heads : (a b : Value) → SamePieces (value_pieces a) (value_pieces b) → value_word a ≡ value_word b
value_heads a b e =
    let x = value_first a in
    let y = value_first b in
    let first : SamePieces (said (value_word a) ∷ x.0) (value_pieces b) = subst (λ (ps : List Piece). SamePieces ps (value_pieces b)) x.1 e in
    let both : SamePieces (said (value_word a) ∷ x.0) (said (value_word b) ∷ y.0) = subst (λ (qs : List Piece). SamePieces (said (value_word a) ∷ x.0) qs) y.1 first in both.0

one_value : (a b : Value) → SamePieces (value_pieces a) (value_pieces b) → a ≡ b
one_value (values.Boolean true) (values.Boolean true) e = refl
one_value (values.Boolean false) (values.Boolean false) e = refl
one_value (values.Integer y) (values.Integer z) e = ap values.Integer e.1.0
one_value (values.Number (numbers.Int y)) (values.Number (numbers.Int z)) e = ap (λ x. values.Number (numbers.Int x)) e.1.0
one_value (values.Number (numbers.Scaled m x)) (values.Number (numbers.Scaled n y)) e =
    ap (λ k. values.Number (numbers.Scaled k x)) e.1.0 ∙ ap (λ k. values.Number (numbers.Scaled n k)) e.1.1.1.0
one_value (values.Number (numbers.Int y)) (values.Number (numbers.Scaled n z)) e = absurd e.1.1
one_value (values.Number (numbers.Scaled m x)) (values.Number (numbers.Int z)) e = absurd e.1.1
one_value (values.Text s) (values.Text t) e = ap values.Text e.1.0
one_value (values.Boolean true) b e = absurd (differ (codes "true") (value_word b) refl (value_heads (values.Boolean true) b e))
one_value (values.Boolean false) b e = absurd (differ (codes "false") (value_word b) refl (value_heads (values.Boolean false) b e))
one_value a (values.Boolean true) e = absurd (differ (value_word a) (codes "true") refl (value_heads a (values.Boolean true) e))
one_value a (values.Boolean false) e = absurd (differ (value_word a) (codes "false") refl (value_heads a (values.Boolean false) e))
one_value a b e = absurd (differ (value_word a) (value_word b) refl (value_heads a b e))

one_property : (a b : Property) → SamePieces (property_pieces a) (property_pieces b) → IsPlainProperty a → IsPlainProperty b → a ≡ b
one_property a b e p q =
    ap (λ x. record { key = record { id = x; shown = a.key.shown }; value = a.value; owner = a.owner }) e.0
    ∙ ap (λ x. record { key = record { id = b.key.id; shown = x }; value = a.value; owner = a.owner }) (p.0 ∙ sym q.0)
    ∙ ap (λ x. record { key = record { id = b.key.id; shown = b.key.shown }; value = x; owner = a.owner }) (one_value a.value b.value e.1)
    ∙ ap (λ x. record { key = record { id = b.key.id; shown = b.key.shown }; value = b.value; owner = x }) (p.1 ∙ sym q.1)

one_target : (a b : Target) (ps qs : List Piece) → SamePieces (target_pieces a ++ ps) (target_pieces b ++ qs) → (a ≡ b) × SamePieces ps qs
one_target targets.Whole targets.Whole ps qs e = (refl, e.1)
one_target (targets.Inst x) (targets.Inst y) ps qs e = (ap targets.Inst e.1.0, e.1.1)
one_target (targets.Net x) (targets.Net y) ps qs e = (ap targets.Net e.1.0, e.1.1)
one_target a b ps qs e = absurd (differ _ _ refl e.0)

one_leaf : (a b : Bool) → leaf_word a ≡ leaf_word b → a ≡ b
one_leaf true true e = refl
one_leaf false false e = refl
one_leaf true false e = absurd (cc (e))
one_leaf false true e = absurd (cc (e))

-- ---- operations

one_op : (a b : Op) → SamePieces (op_pieces a) (op_pieces b) → IsPlainOp a → IsPlainOp b → a ≡ b
one_op (op.ShowCell c) (op.ShowCell d) e p q = ap op.ShowCell (one_cell c d e.1.0 e.1.1.0)
one_op (op.ShowNet c x) (op.ShowNet d y) e p q = ap (λ z. op.ShowNet z x) (one_cell c d e.1.0 e.1.1.0) ∙ ap (op.ShowNet d) e.1.1.1.0
one_op (op.ShowInst c x) (op.ShowInst d y) e p q = ap (λ z. op.ShowInst z x) (one_cell c d e.1.0 e.1.1.0) ∙ ap (op.ShowInst d) e.1.1.1.0
one_op (op.AddCell c l xs) (op.AddCell d m ys) e p q =
    ap (λ z. op.AddCell z l xs) (one_cell c d e.1.0 e.1.1.0) ∙ ap (λ z. op.AddCell d z xs) (one_leaf l m e.1.1.1.0) ∙ ap (op.AddCell d m) (one_ports xs ys e.1.1.1.1)
one_op (op.AddNet c x) (op.AddNet d y) e p q = ap (λ z. op.AddNet z x) (one_cell c d e.1.0 e.1.1.0) ∙ ap (op.AddNet d) e.1.1.1.0
one_op (op.DropNet c x) (op.DropNet d y) e p q = ap (λ z. op.DropNet z x) (one_cell c d e.1.0 e.1.1.0) ∙ ap (op.DropNet d) e.1.1.1.0
one_op (op.AddInst c x f) (op.AddInst d y g) e p q =
    ap (λ z. op.AddInst z x f) (one_cell c d e.1.0 e.1.1.0) ∙ ap (λ z. op.AddInst d z f) e.1.1.1.0 ∙ ap (op.AddInst d y) (one_cell f g e.1.1.1.1.0 e.1.1.1.1.1.0)
one_op (op.DropInst c x) (op.DropInst d y) e p q = ap (λ z. op.DropInst z x) (one_cell c d e.1.0 e.1.1.0) ∙ ap (op.DropInst d) e.1.1.1.0
one_op (op.Join c x f) (op.Join d y g) e p q =
    ap (λ z. op.Join z x f) (one_cell c d e.1.0 e.1.1.0) ∙ ap (λ z. op.Join d z f) e.1.1.1.0 ∙ ap (op.Join d y) (one_end f g e.1.1.1.1)
one_op (op.Cut c f) (op.Cut d g) e p q = ap (λ z. op.Cut z f) (one_cell c d e.1.0 e.1.1.0) ∙ ap (op.Cut d) (one_end f g e.1.1.1)
one_op (op.SetProp c t x) (op.SetProp d u y) e p q =
    let s = one_target t u (property_pieces x) (property_pieces y) e.1.1.1 in
    ap (λ z. op.SetProp z t x) (one_cell c d e.1.0 e.1.1.0) ∙ ap (λ z. op.SetProp d z x) s.0 ∙ ap (op.SetProp d u) (one_property x y s.1 p q)
one_op (op.SetNote a x) (op.SetNote b y) e p q = ap (λ z. op.SetNote z x) (one_path a b e.1.0) ∙ ap (op.SetNote b) (one_property x y e.1.1 p q)
one_op (op.DropNote a x) (op.DropNote b y) e p q = ap (λ z. op.DropNote z x) (one_path a b e.1.0) ∙ ap (op.DropNote b) e.1.1.0
one_op op.Uniquify op.Uniquify e p q = refl
one_op (op.UniquePath a) (op.UniquePath b) e p q = ap op.UniquePath (one_path a b e.1.0)
one_op (op.Ungroup c x) (op.Ungroup d y) e p q = ap (λ z. op.Ungroup z x) (one_cell c d e.1.0 e.1.1.0) ∙ ap (op.Ungroup d) e.1.1.1.0
one_op a b e p q = absurd (differ _ _ refl e.0)

-- ---- lines

-- `begin` alone is for no retries
abbrev BeginForm : List (List ℕ) → ℕ → Type 0
BeginForm ws n = ((n ≡ 0) × SpellPieces ws (said (codes "begin") ∷ [])) ⊎ SpellPieces ws (said (codes "begin") ∷ said (codes "retry") ∷ number 16 n ∷ [])

begin_form : (ws : List (List ℕ)) (n : ℕ) → SayStep ws (Begin n) → BeginForm ws n
begin_form ws zero (inl p) = inl (refl, p)
begin_form ws zero (inr p) = inr p
begin_form ws (suc n) (inl p) = inr p
begin_form ws (suc n) (inr p) = inr p

one_begin : (ws : List (List ℕ)) (m n : ℕ) → BeginForm ws m → BeginForm ws n → m ≡ n
one_begin ws m n (inl p) (inl q) = p.0 ∙ sym q.0
one_begin ws m n (inl p) (inr q) = absurd (same_pieces ws (said (codes "begin") ∷ []) (said (codes "begin") ∷ said (codes "retry") ∷ number 16 n ∷ []) p.1 q).1
one_begin ws m n (inr p) (inl q) = absurd (same_pieces ws (said (codes "begin") ∷ said (codes "retry") ∷ number 16 m ∷ []) (said (codes "begin") ∷ []) p q.1).1
one_begin ws m n (inr p) (inr q) = (same_pieces ws (said (codes "begin") ∷ said (codes "retry") ∷ number 16 m ∷ []) (said (codes "begin") ∷ said (codes "retry") ∷ number 16 n ∷ []) p q).1.1.0

-- the first word, whatever the numbers are
abbrev line_word : Step → List ℕ
line_word (Begin n) = codes "begin"
line_word (Run o) = step_word (Run o)
line_word Commit = codes "commit"
line_word Abandon = codes "abandon"
line_word Pin = codes "pin"
line_word (PinAt v) = codes "pin-at"
line_word (Walk limit) = codes "walk"
line_word Release = codes "release"
line_word Collect = codes "collect"

word_line : (s : Step) → step_word s ≡ line_word s
word_line (Begin zero) = refl
word_line (Begin (suc n)) = refl
word_line (Run o) = refl
word_line Commit = refl
word_line Abandon = refl
word_line Pin = refl
word_line (PinAt v) = refl
word_line (Walk None) = refl
word_line (Walk (Some limit)) = refl
word_line Release = refl
word_line Collect = refl

one_say : (ws : List (List ℕ)) (a b : Step) → line_word a ≡ line_word b → SayStep ws a → SayStep ws b → a ≡ b
one_say ws (Begin m) (Begin n) w p q = ap Begin (one_begin ws m n (begin_form ws m p) (begin_form ws n q))
one_say ws (Run a) (Run b) w p q = ap Run (one_op a b (same_pieces ws (op_pieces a) (op_pieces b) p.0 q.0) p.1 q.1)
one_say ws Commit Commit w p q = refl
one_say ws Abandon Abandon w p q = refl
one_say ws Pin Pin w p q = refl
one_say ws (PinAt u) (PinAt v) w p q = ap PinAt (same_pieces ws (step_pieces (PinAt u)) (step_pieces (PinAt v)) p q).1.0
one_say ws (Walk None) (Walk None) w p q = refl
one_say ws (Walk (Some l)) (Walk (Some m)) w p q = ap (λ k. Walk (Some k)) (same_pieces ws (step_pieces (Walk (Some l))) (step_pieces (Walk (Some m))) p q).1.1.0
one_say ws (Walk None) (Walk (Some m)) w p q = absurd (same_pieces ws (step_pieces (Walk None)) (step_pieces (Walk (Some m))) p q).1
one_say ws (Walk (Some l)) (Walk None) w p q = absurd (same_pieces ws (step_pieces (Walk (Some l))) (step_pieces (Walk None)) p q).1
one_say ws Release Release w p q = refl
one_say ws Collect Collect w p q = refl
one_say ws (Run a) b w p q = absurd (no_bool (ap (λ x. is_one x op_names) (sym w) ∙ op_known a))
one_say ws a (Run b) w p q = absurd (no_bool (ap (λ x. is_one x op_names) w ∙ op_known b))
one_say ws a b w p q = absurd (differ (line_word a) (line_word b) refl w)

-- a line that says something has a word
op_says : (o : Op) → SpellPieces [] (op_pieces o) → ⊥
op_says (op.ShowCell cell) p = p
op_says (op.ShowNet cell net) p = p
op_says (op.ShowInst cell inst) p = p
op_says (op.AddCell cell leaf ports) p = p
op_says (op.AddNet cell net) p = p
op_says (op.DropNet cell net) p = p
op_says (op.AddInst cell inst of) p = p
op_says (op.DropInst cell inst) p = p
op_says (op.Join cell net end) p = p
op_says (op.Cut cell end) p = p
op_says (op.SetProp cell target property) p = p
op_says (op.SetNote path property) p = p
op_says (op.DropNote path key) p = p
op_says op.Uniquify p = p
op_says (op.UniquePath path) p = p
op_says (op.Ungroup cell inst) p = p

says_something : (s : Step) → SayStep [] s → ⊥
says_something (Begin zero) (inl p) = p
says_something (Begin zero) (inr p) = p
says_something (Begin (suc n)) (inl p) = p
says_something (Begin (suc n)) (inr p) = p
says_something (Run o) p = op_says o p.0
says_something Commit p = p
says_something Abandon p = p
says_something Pin p = p
says_something (PinAt v) p = p
says_something (Walk None) p = p
says_something (Walk (Some limit)) p = p
says_something Release p = p
says_something Collect p = p

one_word : (ws : List (List ℕ)) (a b : Step) → SayStep ws a → SayStep ws b → line_word a ≡ line_word b
one_word [] a b p q = absurd (says_something a p)
one_word (w ∷ ws) a b p q = sym (says_word w ws a p ∙ word_line a) ∙ (says_word w ws b q ∙ word_line b)

pub one_step : OneStep
one_step line a b p q = one_say (words line) a b (one_word (words line) a b p q) p q
