-- The front of a script's lines is a script, so a text has one first bad line, and only where it is none.
use Rattle.std.proofs.Common.{◌≡◌, ◌∙◌, ℕ, ◌+◌, ◌<◌, List, [], ◌∷◌, ◌++◌, length, inl, inr, refl, ap, sym, subst, arith, append_assoc}
use Rattle.std.proofs.lemmas.List.{map-append}
use Rattle.script_spec.specs.ScriptText.{AreSome, ArePlaced, Free, IsFirstBad, IsScriptText, Parts, Place, SayLines, lines_of, steps_of}
use Rattle.script_spec.specs.declared.script.ScriptLine.{ScriptLine}
use Rattle.script_spec.specs.declared.script.Step.{Step}

-- what the first lines of these say
record Front (at : ℕ) (lines : List (List ℕ)) (script : List ScriptLine) : Type 0 where
  front : List ScriptLine
  back : List ScriptLine
  parts : script ≡ front ++ back
  said : SayLines at lines front

front_of : (at : ℕ) (lines more : List (List ℕ)) (script : List ScriptLine) → SayLines at (lines ++ more) script → Front at lines script
front_of at [] more script s = record { front = []; back = script; parts = refl; said = refl }
front_of at (line ∷ lines) more script (inl s) =
    let rest = front_of (at + 1) lines more script s.1 in
    record { front = rest.front; back = rest.back; parts = rest.parts; said = inl (s.0, rest.said) }
front_of at (line ∷ lines) more script (inr s) =
    let rest = front_of (at + 1) lines more s.1 s.5 in
    record {
      front = record { number = at; step = s.0 } ∷ rest.front;
      back = rest.back;
      parts = s.4 ∙ ap (λ others. record { number = at; step = s.0 } ∷ others) rest.parts;
      said = inr (s.0, rest.front, s.2, s.3, refl, rest.said);
    }

placed_front : (place : Place) (steps more : List Step) → ArePlaced place (steps ++ more) → ArePlaced place steps
placed_front place [] more p = tt
placed_front place (step ∷ steps) more p = (p.0, p.1, placed_front p.0 steps more p.2)

pub front_is_script : (lines more : List (List ℕ)) → AreSome (lines ++ more) → AreSome lines
front_is_script lines more a =
    let f = front_of 1 lines more a.0 a.1.said in
    let steps : steps_of a.0 ≡ steps_of f.front ++ steps_of f.back = ap steps_of f.parts ∙ map-append (λ (line : ScriptLine). line.step) f.front f.back in
    (f.front, record { said = f.said; placed = placed_front Free (steps_of f.front) (steps_of f.back) (subst (λ (s : List Step). ArePlaced Free s) steps a.1.placed) })

pub script_or_bad : (text : List ℕ) (script : Parts) (at : ℕ) → IsScriptText text script → IsFirstBad text at → ⊥
script_or_bad text script at s b =
    let parts : lines_of text ≡ (b.front ++ b.line ∷ []) ++ b.rest = b.parts ∙ sym (append_assoc b.front (b.line ∷ []) b.rest) in
    b.bad (front_is_script (b.front ++ b.line ∷ []) b.rest (subst AreSome parts (script.lines, s.lines)))

-- where one list of lines goes on another with a line more
goes_on : (front other : List (List ℕ)) (line next : List ℕ) (rest more : List (List ℕ)) → front ++ line ∷ rest ≡ other ++ next ∷ more → length front < length other
    → (tail : List (List ℕ)) × (other ≡ (front ++ line ∷ []) ++ tail)
goes_on [] [] line next rest more e short = absurd (omega (arith, short))
goes_on [] (o ∷ other) line next rest more e short = (other, cc (e))
goes_on (f ∷ front) [] line next rest more e short = absurd (omega (arith, short))
goes_on (f ∷ front) (o ∷ other) line next rest more e short =
    let tails : front ++ line ∷ rest ≡ other ++ next ∷ more = cc (e) in
    let heads : f ≡ o = cc (e) in
    let then = goes_on front other line next rest more tails (omega (arith, short)) in
    (then.0, ap (λ x. x ∷ other) (sym heads) ∙ ap (λ xs. f ∷ xs) then.1)

not_before : (text : List ℕ) (a b : ℕ) → (x : IsFirstBad text a) (y : IsFirstBad text b) → length x.front < length y.front → ⊥
not_before text a b x y short =
    let then = goes_on x.front y.front x.line y.line x.rest y.rest (sym x.parts ∙ y.parts) short in
    x.bad (front_is_script (x.front ++ x.line ∷ []) then.0 (subst AreSome then.1 y.good))

pub one_bad_line : (text : List ℕ) (a b : ℕ) → IsFirstBad text a → IsFirstBad text b → a ≡ b
one_bad_line text a b x y =
    let low = not_before text a b x y in
    let high = not_before text b a y x in
    let first = x.place in
    let second = y.place in grind (arith, low, high, first, second)
