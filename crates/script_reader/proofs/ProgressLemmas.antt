-- Lines read one after another.
use Rattle.std.proofs.Common.{◌≡◌, ◌∙◌, ℕ, ◌+◌, ◌<◌, ◌≤◌, List, [], ◌∷◌, ◌++◌, None, Some, Bor, true, false, length, take, drop, get_or, length-take, inl, inr, refl, sym, ap, subst, arith}
use Rattle.std.specs.Prelude.{AllPairs}
use Rattle.std.specs.List.{AllByRecursion}
use Rattle.std.proofs.lemmas.List.{drop_more, map-append, take-append-drop, take_more}
use Rattle.std.proofs.lemmas.List.Elements.{All-from_recursion}
use Rattle.std.proofs.lemmas.List.Kept.{AllPairs-cons}
use Rattle.netlist_schema.proofs.Lists.{all_push, all_weaker}
use Rattle.script_spec.specs.Lines.{IsSayable}
use Rattle.script_spec.specs.ScriptText.{AreScript, ArePlaced, Free, IsFirstBad, IsScript, IsScriptText, lines_of, Parts, Place, Says, SayLines, behind, is_comment, steps_of, words}
use Rattle.script_spec.specs.declared.script.ScriptLine.{ScriptLine}
use Rattle.script_spec.specs.declared.script.Step.{Step}
use Rattle.script_spec.proofs.OneScript.{one_reading}
use Rattle.script_spec.proofs.OneStep.{one_step}
use Rattle.script_words.specs.Reading.{lent}
use Rattle.script_reader.proofs.WordLemmas.{lines_are_few}
use Rattle.script_reader.specs.Line.{AreRead, Goes, IsBadLine, IsFirst, Leads, SaysIt}

abbrev numbered : ℕ → Step → ScriptLine
numbered number step = record { number = number; step = step }

-- ---- one line more

comment_more : (at : ℕ) (lines : List (List ℕ)) (line : List ℕ) (found : List ScriptLine) → is_comment (words line) ≡ true → SayLines at lines found → SayLines at (lines ++ line ∷ []) found
comment_more at [] line found c s = inl (c, s)
comment_more at (first ∷ lines) line found c (inl s) = inl (s.0, comment_more (at + 1) lines line found c s.1)
comment_more at (first ∷ lines) line found c (inr s) = inr (s.0, s.1, s.2, s.3, s.4, comment_more (at + 1) lines line s.1 c s.5)

say_more : (at number : ℕ) (lines : List (List ℕ)) (line : List ℕ) (found : List ScriptLine) (step : Step) → number ≡ at + length lines → is_comment (words line) ≡ false → Says line step
    → SayLines at lines found → SayLines at (lines ++ line ∷ []) (found ++ numbered number step ∷ [])
say_more at number [] line found step e p says s =
    let same : number ≡ at = omega (arith, e) in
    inr (step, [], p, says, ap (λ f. f ++ numbered number step ∷ []) s ∙ ap (λ n. numbered n step ∷ []) same, refl)
say_more at number (first ∷ lines) line found step e p says (inl s) = inl (s.0, say_more (at + 1) number lines line found step (omega (arith, e)) p says s.1)
say_more at number (first ∷ lines) line found step e p says (inr s) =
    inr (s.0, s.1 ++ numbered number step ∷ [], s.2, s.3, ap (λ f. f ++ numbered number step ∷ []) s.4, say_more (at + 1) number lines line s.1 step (omega (arith, e)) p says s.5)

leads_more : (place last next : Place) (steps : List Step) (step : Step) → Leads place steps last → behind last step ≡ Some next → Leads place (steps ++ step ∷ []) next
leads_more place last next [] step l e = (next, ap (λ p. behind p step) l ∙ e, refl)
leads_more place last next (first ∷ steps) step l e = (l.0, l.1, leads_more l.0 last next steps step l.2 e)

abbrev CanSay : ScriptLine → Type 0
CanSay line = IsSayable line.step

pub none_read : AreRead [] [] Free
none_read = record { said = refl; leads = refl; sayable = tt }

pub more_read : (lines : List (List ℕ)) (line : List ℕ) (number : ℕ) (found more : List ScriptLine) (place next : Place) → number ≡ length lines + 1 → AreRead lines found place
    → Goes number line found place more next → AreRead (lines ++ line ∷ []) more next
more_read lines line number found more place next e r (inl g) =
    subst (λ (m : List ScriptLine). AreRead (lines ++ line ∷ []) m next) (sym g.1)
    (subst (λ (p : Place). AreRead (lines ++ line ∷ []) found p) (sym g.2) (record { said = comment_more 1 lines line found g.0 r.said; leads = r.leads; sayable = r.sayable }))
more_read lines line number found more place next e r (inr g) =
    subst (λ (m : List ScriptLine). AreRead (lines ++ line ∷ []) m next) (sym g.3)
    (record {
      said = say_more 1 number lines line found g.0 (omega (arith, e)) g.1.plain g.1.says r.said;
      leads = subst (λ (s : List Step). Leads Free s next) (sym (map-append (λ (l : ScriptLine). l.step) found (numbered number g.0 ∷ [])))
          (leads_more Free place next (steps_of found) g.0 r.leads g.2);
      sayable = all_push CanSay found (numbered number g.0) r.sayable g.1.sayable;
    })

-- ---- the whole

placed_from : (place last : Place) (steps : List Step) → Leads place steps last → ArePlaced place steps
placed_from place last [] l = tt
placed_from place last (step ∷ steps) l = (l.0, l.1, placed_from l.0 last steps l.2)

pub are_script : (lines : List (List ℕ)) (found : List ScriptLine) (place : Place) → AreRead lines found place → AreScript lines found
are_script lines found place r = record { said = r.said; placed = placed_from Free place (steps_of found) r.leads }

abbrev Between : ℕ → ℕ → ScriptLine → Type 0
Between least most line = (least ≤ line.number) × (line.number < most)

wider : (a b c d : ℕ) (found : List ScriptLine) → a ≤ b → c ≤ d → AllByRecursion (Between b c) found → AllByRecursion (Between a d) found
wider a b c d [] low high all = tt
wider a b c d (line ∷ found) low high all = let l = all.0.0 in let h = all.0.1 in ((omega (arith, l, low), omega (arith, h, high)), wider a b c d found low high all.1)

between : (at : ℕ) (lines : List (List ℕ)) (found : List ScriptLine) → SayLines at lines found → AllByRecursion (Between at (at + length lines)) found
between at [] found s = subst (λ (f : List ScriptLine). AllByRecursion (Between at (at + 0)) f) (sym s) tt
between at (line ∷ lines) found (inl s) = wider at (at + 1) (at + 1 + length lines) (at + length (line ∷ lines)) found (omega arith) (omega arith) (between (at + 1) lines found s.1)
between at (line ∷ lines) found (inr s) =
    subst (λ (f : List ScriptLine). AllByRecursion (Between at (at + length (line ∷ lines))) f) (sym s.4)
    ((omega arith, omega arith), wider at (at + 1) (at + 1 + length lines) (at + length (line ∷ lines)) s.1 (omega arith) (omega arith) (between (at + 1) lines s.1 s.5))

abbrev Rises : ScriptLine → ScriptLine → Type 0
Rises line later = line.number < later.number

rising : (at : ℕ) (lines : List (List ℕ)) (found : List ScriptLine) → SayLines at lines found → AllPairs Rises found
rising at [] found s = subst (λ (f : List ScriptLine). AllPairs Rises f) (sym s) (λ i j d low high. absurd (omega (arith, high)))
rising at (line ∷ lines) found (inl s) = rising (at + 1) lines found s.1
rising at (line ∷ lines) found (inr s) =
    subst (λ (f : List ScriptLine). AllPairs Rises f) (sym s.4)
    (AllPairs-cons Rises (numbered at s.0) s.1
    (All-from_recursion (Rises (numbered at s.0)) s.1 (all_weaker (Between (at + 1) (at + 1 + length lines)) (Rises (numbered at s.0)) s.1 (λ x b. let low = b.0 in omega (arith, low)) (between (at + 1) lines s.1 s.5)))
    (rising (at + 1) lines s.1 s.5))

abbrev Within : ℕ → ScriptLine → Type 0
Within last line = (1 ≤ line.number) × (line.number ≤ last)

pub is_script : (lines : List (List ℕ)) (found : List ScriptLine) (place : Place) (last : ℕ) → AreRead lines found place → last ≡ length lines → length lines ≤ 262144
    → IsScript (record { lines = found; last = last })
is_script lines found place last r e short = record {
  rising = rising 1 lines found r.said;
  within = All-from_recursion (Within last) found (all_weaker (Between 1 (1 + length lines)) (Within last) found (λ x b. let low = b.0 in let high = b.1 in (low, omega (arith, high, e))) (between 1 lines found r.said));
  short = omega (arith, e, short);
  sayable = All-from_recursion CanSay found r.sayable;
  placed = placed_from Free place (steps_of found) r.leads;
}

-- ---- the first bad line

-- what a last line says that is no comment
record Last (at : ℕ) (front : List (List ℕ)) (line : List ℕ) (found : List ScriptLine) : Type 0 where
  before : List ScriptLine
  step : Step
  said : SayLines at front before
  says : Says line step
  steps : steps_of found ≡ steps_of before ++ step ∷ []

last_line : (at : ℕ) (front : List (List ℕ)) (line : List ℕ) (found : List ScriptLine) → is_comment (words line) ≡ false → SayLines at (front ++ line ∷ []) found → Last at front line found
last_line at [] line found p (inl s) = let wrong : true ≡ false = sym s.0 ∙ p in absurd (cc (wrong))
last_line at [] line found p (inr s) =
    record { before = []; step = s.0; said = refl; says = s.3; steps = ap steps_of s.4 ∙ ap (λ (rest : List ScriptLine). s.0 ∷ steps_of rest) s.5 }
last_line at (first ∷ front) line found p (inl s) =
    let rest = last_line (at + 1) front line found p s.1 in
    record { before = rest.before; step = rest.step; said = inl (s.0, rest.said); says = rest.says; steps = rest.steps }
last_line at (first ∷ front) line found p (inr s) =
    let rest = last_line (at + 1) front line s.1 p s.5 in
    record {
      before = numbered at s.0 ∷ rest.before;
      step = rest.step;
      said = inr (s.0, rest.before, s.2, s.3, refl, rest.said);
      says = rest.says;
      steps = ap steps_of s.4 ∙ ap (λ steps. s.0 ∷ steps) rest.steps;
    }

-- a step behind others stands where they lead
leads_to : (place last : Place) (steps : List Step) (step : Step) → Leads place steps last → ArePlaced place (steps ++ step ∷ []) → (next : Place) × (behind last step ≡ Some next)
leads_to place last [] step l a = (a.0, ap (λ p. behind p step) (sym l) ∙ a.1)
leads_to place last (first ∷ steps) step l a =
    let one : Some l.0 ≡ Some a.0 = sym l.1 ∙ a.1 in
    let same : a.0 ≡ l.0 = cc (one) in
    leads_to l.0 last steps step l.2 (subst (λ (p : Place). ArePlaced p (steps ++ step ∷ [])) same a.2)

pub is_first : (lines front : List (List ℕ)) (line : List ℕ) (rest : List (List ℕ)) (at : ℕ) (found : List ScriptLine) (place : Place) → lines ≡ front ++ line ∷ rest → at ≡ length front + 1
    → AreRead front found place → IsBadLine line place → IsFirst lines at
is_first lines front line rest at found place parts number r b = record {
  front = front;
  line = line;
  rest = rest;
  parts = parts;
  place = number;
  good = (found, are_script front found place r);
  bad = λ a.
      let last = last_line 1 front line a.0 b.plain a.1.said in
      let same : last.before ≡ found = one_reading 1 front last.before found last.said r.said in
      let steps : steps_of a.0 ≡ steps_of found ++ last.step ∷ [] = last.steps ∙ ap (λ f. steps_of f ++ last.step ∷ []) same in
      let then = leads_to Free place (steps_of found) last.step r.leads (subst (λ (s : List Step). ArePlaced Free s) steps a.1.placed) in
      b.none last.step then.0 last.says then.1;
}

-- the step that a line says may not stand there
pub no_place : (line : List ℕ) (place : Place) (step : Step) → SaysIt line step → None ≡ behind place step → IsBadLine line place
no_place line place step i e = record {
  plain = i.plain;
  none = λ s next says q.
      let same : s ≡ step = one_step line s step says i.says in
      let wrong : None ≡ Some next = e ∙ ap (behind place) (sym same) ∙ q in
      cc (wrong);
}

-- a list of lent lines, cut at one of them
pub cut_at : (lines : List (Bor (List ℕ))) (i : ℕ) (line : Bor (List ℕ)) → i < length lines → lent lines ≡ lent (take i lines) ++ (get_or lines i line).now ∷ lent (drop (i + 1) lines)
cut_at lines i line low =
    ap lent (sym (take-append-drop i lines) ∙ ap (λ (rest : List (Bor (List ℕ))). take i lines ++ rest) (drop_more lines i line low))
    ∙ map-append (λ (l : Bor (List ℕ)). l.now) (take i lines) (get_or lines i line ∷ drop (i + 1) lines)

pub taken_more : (lines : List (Bor (List ℕ))) (i : ℕ) (line : Bor (List ℕ)) → i < length lines → lent (take (i + 1) lines) ≡ lent (take i lines) ++ (get_or lines i line).now ∷ []
taken_more lines i line low = ap lent (take_more lines i line low) ∙ map-append (λ (l : Bor (List ℕ)). l.now) (take i lines) (get_or lines i line ∷ [])

pub length_lent : (lines : List (Bor (List ℕ))) → length (lent lines) ≡ length lines
length_lent [] = refl
length_lent (line ∷ lines) = let rest = length_lent lines in omega (arith, rest)

pub first_bad : (text : List ℕ) (lines : List (List ℕ)) (at : ℕ) → lines ≡ lines_of text → IsFirst lines at → IsFirstBad text at
first_bad text lines at e f = record { front = f.front; line = f.line; rest = f.rest; parts = sym e ∙ f.parts; place = f.place; good = f.good; bad = f.bad }

-- the first lines, as many as there are
pub length_taken : (lines : List (Bor (List ℕ))) (i : ℕ) → i < length lines → length (lent (take i lines)) ≡ i
length_taken lines i low = let all = length_lent (take i lines) in omega (arith, all, low, length-take i lines)

-- the slice of a text's lines is no longer than the text
pub few_lines : (items slice : List (Bor (List ℕ))) (text : List ℕ) → slice ≡ items → lent items ≡ lines_of text → length text ≤ 262144 → length slice ≤ 262144
few_lines items slice text e f few =
    let same : length slice ≡ length items = ap length e in
    let all = length_lent items in
    let lines : length (lent items) ≡ length (lines_of text) = ap length f in
    let short = lines_are_few text in
    omega (arith, same, all, lines, short, few)

-- the text is the script of its lines
pub script_text : (text : List ℕ) (lines : List (List ℕ)) (found : List ScriptLine) (place : Place) (script : Parts) → lines ≡ lines_of text → AreRead lines found place → script.lines ≡ found
    → script.last ≡ length lines → IsScriptText text script
script_text text lines found place script e r f l =
    let placed : AreScript lines found = are_script lines found place r in
    let here : AreScript (lines_of text) found = subst (λ (ls : List (List ℕ)). AreScript ls found) e placed in
    record { lines = subst (λ (ls : List ScriptLine). AreScript (lines_of text) ls) (sym f) here; last = l ∙ ap length e }
