use Rattle.std.proofs.Common.{◌≡◌, ◌∙◌, ◌-◌, ℕ, List, [], ◌∷◌, ◌++◌, Bor, length, map, drop, take, not, ap, sym}
use Rattle.std.specs.Prelude.{filter}
use Rattle.std.specs.List.{slice_split}
use Rattle.std.proofs.lemmas.List.{map-append, take_rest}
use Rattle.edif_spelling_spec.specs.Names.{is_empty}
use Rattle.script_spec.specs.ScriptText.{is_blank, trimmed}
use Rattle.script_words.specs.Reading.{lent}
use Rattle.script_reader.proofs.WordLemmas.{last_is_short, words_to_quote}
use Rattle.script_reader.proofs.line.words_to_quote.Goals as goal

cut_parts : (line : List ℕ) (quote : ℕ) (items slice front : List (Bor (List ℕ))) (last : Bor (List ℕ)) → map (λ (r : Bor (List ℕ)). r.now) items ≡ slice_split is_blank (take quote line) → slice ≡ items → slice ≡ front ++ last ∷ []
    → slice_split is_blank (take quote line) ≡ lent front ++ last.now ∷ []
cut_parts line quote items slice front last e same parts = sym e ∙ ap lent (sym same ∙ parts) ∙ map-append (λ (r : Bor (List ℕ)). r.now) front (last ∷ [])

pub overflow_sub-quote : goal.overflow_sub-quote
overflow_sub-quote c =
    (last_is_short c.args.line.now c.args.quote (lent c.in-Some.front.now) c.in-Some.last.now.now c.requires
    (cut_parts c.args.line.now c.args.quote c.in_ok-parts.parts.items c.as_slice.result.now c.in-Some.front.now c.in-Some.last.now c.in_ok-parts.ensures c.as_slice.ensures.value c.in-Some.ensures.cases.0)).0

pushed : (old new : List (Bor (List ℕ))) (word : Bor (List ℕ)) (front : List (List ℕ)) (bytes : List ℕ) → new ≡ old ++ word ∷ [] → lent old ≡ front → word.now ≡ bytes → lent new ≡ front ++ bytes ∷ []
pushed old new word front bytes e f b =
    ap lent e ∙ map-append (λ (r : Bor (List ℕ)). r.now) old (word ∷ []) ∙ ap (λ ws. ws ++ word.now ∷ []) f ∙ ap (λ w. front ++ w ∷ []) b

pub returns : goal.returns
returns c =
    let parts = cut_parts c.args.line.now c.args.quote c.in_ok-parts.parts.items c.as_slice.result.now c.in-Some.front.now c.in-Some.last.now c.in_ok-parts.ensures c.as_slice.ensures.value c.in-Some.ensures.cases.0 in
    let last = c.in-Some.last.now.now in
    let front = filter (λ word. not (is_empty word)) (lent c.in-Some.front.now) in
    pushed c.push_filled.new.words.items c.push.new.self.items c.trimmed.result front (trimmed (drop (c.args.quote - length last) c.args.line.now)) c.in_ok-push.ensures.items
    (c.in_ok-push_filled.ensures ∙ ap (λ items. lent items ++ front) c.new-found.ensures.items)
    (c.trimmed.ensures ∙ ap trimmed (take_rest c.args.line.now (c.args.quote - length last)))
    ∙ words_to_quote c.args.line.now c.args.quote (lent c.in-Some.front.now) last c.requires parts
