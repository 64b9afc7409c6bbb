-- A line says an operation exactly where the script of the transaction of that line has it.
use Rattle.std.proofs.Common.{◌≡◌, ◌<◌, ◌≤◌, ℕ, List, [], ◌∷◌, ◌++◌, get_or, length, length-append, refl, sym, ap, ◌∙◌, subst, arith}
use Rattle.edit_spec.specs.declared.ops.Op.{Op}
use Rattle.script_spec.specs.ScriptText.{Parts, IsFirstBad, IsScriptText, steps_of}
use Rattle.script_spec.proofs.OneScript.{one_script}
use Rattle.script_spec.specs.Laws.{ScriptOrBad}
use Rattle.script_spec.specs.declared.limits.TheConstants.{MOST_SCRIPT_BYTES}
use Rattle.script_spec.specs.declared.script.ScriptLine.{ScriptLine}
use Rattle.script_spec.specs.declared.script.Step.{Step}
use Rattle.script_spec.specs.declared.script.Step.TheVariants.{Run}
use Rattle.std.specs.Prelude.{None, Some, codes}
use Rattle.netdb_desk.specs.declared.limits.TheConstants.{MOST_LINE_BYTES}
use Rattle.netdb_desk.specs.Says.{IsLineOf, SaysSecond, block_text}

-- a text with a bad line is no such script
pub bad_line : ScriptOrBad → (line text : List ℕ) (at : ℕ) → text ≡ block_text line → IsFirstBad text at → (op : Op) → ¬ IsLineOf line op
bad_line law line text at same bad op is = law (block_text line) is.script at is.is (subst (λ (t : List ℕ). IsFirstBad t at) same bad)

-- one whose second step is no operation says none
no_second : (line : List ℕ) (script : Parts) → IsScriptText (block_text line) script → SaysSecond (steps_of script.lines) None → (op : Op) → ¬ IsLineOf line op
no_second line script is none op says =
    none says.steps.0 op (ap (λ (s : Parts). steps_of s.lines) (one_script (block_text line) script says.script is says.is) ∙ says.steps.1)

pub no_op : (line text : List ℕ) (script : Parts) (lines : List ScriptLine) → text ≡ block_text line → lines ≡ script.lines → IsScriptText text script → SaysSecond (steps_of lines) None → (op : Op) → ¬ IsLineOf line op
no_op line text script lines same read is none =
    no_second line script (subst (λ (t : List ℕ). IsScriptText t script) same is) (subst (λ (l : List ScriptLine). SaysSecond (steps_of l) None) read none)

-- the steps of two lines
pub two_steps : (lines : List ScriptLine) (second : ScriptLine) (op : Op) → 2 ≤ length lines → length lines < 3 → second ≡ get_or lines 1 second → second.step ≡ Run op → SaysSecond (steps_of lines) (Some op)
two_steps [] second op least most is run = absurd (omega (arith, least))
two_steps (a ∷ []) second op least most is run = absurd (omega (arith, least))
two_steps (a ∷ b ∷ []) second op least most is run = (a.step, ap (λ (s : Step). a.step ∷ s ∷ []) (ap (λ (l : ScriptLine). l.step) (sym is) ∙ run))
two_steps (a ∷ b ∷ d ∷ lines) second op least most is run = absurd (omega (arith, most))

-- a line that is short enough has a transaction that is
pub short_block : (line : List ℕ) → length line ≤ MOST_LINE_BYTES → length (block_text line) ≤ MOST_SCRIPT_BYTES
short_block line short =
    let whole = length-append (codes "begin" ++ 10 ∷ [] ++ line) (10 ∷ []) in
    let front = length-append (codes "begin" ++ 10 ∷ []) line in
    let five : length (codes "begin" ++ 10 ∷ []) ≡ 6 = refl in
    let one : length {A = ℕ} (10 ∷ []) ≡ 1 = refl in
    let given : length line ≤ 200000 = short in
    let limit : length (block_text line) ≤ 262144 = omega (arith, whole, front, five, one, given) in
    limit
