-- Strings that stand in one list of bytes, by the places before which they end.
use Rattle.std.proofs.Common.{◌≡◌, ◌+◌, ◌-◌, ◌<◌, ◌≤◌, ℕ, zero, suc, List, [], ◌∷◌, ◌++◌, length, Some, refl, sym, ap, ◌∙◌, subst, arith, drop, take, get_or}
use Rattle.std.specs.Prelude.{slice_get, Result, Ok, Err, OnErr, OnOk}
use Rattle.std.proofs.lemmas.List.{drop-append-le, get_or_default, length-append, length-drop, take-append-le, take_all}
use Rattle.std.proofs.Math.Seq.{drop-append_seam}
use Rattle.netlist_pages.specs.declared.memory.NoMemory.{NoMemory}
use Rattle.edif_tree.specs.Texts.{AreEnds, texts_from}

count_of_texts : (bytes : List ℕ) (first : ℕ) (ends : List ℕ) → length (texts_from bytes first ends) ≡ length ends
count_of_texts bytes first [] = refl
count_of_texts bytes first (end ∷ ends) = ap suc (count_of_texts bytes end ends)

-- the first place is not behind the last
ends_ascend : (first : ℕ) (ends : List ℕ) (last : ℕ) → AreEnds first ends last → first ≤ last
ends_ascend first [] last h = omega (arith, h)
ends_ascend first (end ∷ ends) last h = (let later = ends_ascend end ends last h.1 in omega (arith, h.0))

-- one more place
end_added : (first : ℕ) (ends : List ℕ) (last more : ℕ) → last ≤ more → AreEnds first ends last → AreEnds first (ends ++ more ∷ []) more
end_added first [] last more l h = (omega (arith, h), refl)
end_added first (end ∷ ends) last more l h = (h.0, end_added end ends last more l h.1)

-- what stands between two places stays where bytes come behind
same_between : (bytes more : List ℕ) (first end : ℕ) → first ≤ end → end ≤ length bytes → take (end - first) (drop first (bytes ++ more)) ≡ take (end - first) (drop first bytes)
same_between bytes more first end l m =
    let rest : drop first (bytes ++ more) ≡ drop first bytes ++ more = drop-append-le first bytes more (omega arith) in
    ap (take (end - first)) rest ∙ take-append-le (end - first) (drop first bytes) more (omega (arith, length-drop first bytes))

texts_stay : (bytes more : List ℕ) (first : ℕ) (ends : List ℕ) (last : ℕ) → last ≤ length bytes → AreEnds first ends last → texts_from (bytes ++ more) first ends ≡ texts_from bytes first ends
texts_stay bytes more first [] last l h = refl
texts_stay bytes more first (end ∷ ends) last l h =
    let later = ends_ascend end ends last h.1 in
    ap (λ v. v ∷ texts_from (bytes ++ more) end ends) (same_between bytes more first end h.0 (omega arith)) ∙ ap (λ v. take (end - first) (drop first bytes) ∷ v) (texts_stay bytes more end ends last l h.1)

-- the bytes behind all others
last_text : (bytes text : List ℕ) (first : ℕ) → first ≡ length bytes → take (length bytes + length text - first) (drop first (bytes ++ text)) ≡ text
last_text bytes text first e =
    let rest : drop first (bytes ++ text) ≡ text = ap (λ n. drop n (bytes ++ text)) e ∙ drop-append_seam bytes text in
    ap (take (length bytes + length text - first)) rest ∙ take_all (length bytes + length text - first) text (omega (arith, e))

-- one string more
text_pushed : (bytes text : List ℕ) (first : ℕ) (ends : List ℕ) → AreEnds first ends (length bytes) → texts_from (bytes ++ text) first (ends ++ (length bytes + length text) ∷ []) ≡ texts_from bytes first ends ++ text ∷ []
text_pushed bytes text first [] h = ap (λ v. v ∷ []) (last_text bytes text first h)
text_pushed bytes text first (end ∷ ends) h =
    let later = ends_ascend end ends (length bytes) h.1 in
    ap (λ v. v ∷ texts_from (bytes ++ text) end (ends ++ (length bytes + length text) ∷ [])) (same_between bytes text first end h.0 (omega arith)) ∙ ap (λ v. take (end - first) (drop first bytes) ∷ v) (text_pushed bytes text end ends h.1)

-- the string at a place
text_at : (bytes : List ℕ) (first : ℕ) (ends : List ℕ) (at : ℕ) → at < length ends → slice_get (texts_from bytes first ends) at ≡ Some (take (get_or ends at 0 - get_or (first ∷ ends) at 0) (drop (get_or (first ∷ ends) at 0) bytes))
text_at bytes first [] at l = absurd (omega (arith, l))
text_at bytes first (end ∷ ends) zero l = refl
text_at bytes first (end ∷ ends) (suc at) l = text_at bytes end ends at (omega (arith, l))

-- it begins before it ends, within the bytes
text_within : (first : ℕ) (ends : List ℕ) (last at : ℕ) → AreEnds first ends last → at < length ends → (get_or (first ∷ ends) at 0 ≤ get_or ends at 0) × (get_or ends at 0 ≤ last)
text_within first [] last at h l = absurd (omega (arith, l))
text_within first (end ∷ ends) last zero h l = (h.0, ends_ascend end ends last h.1)
text_within first (end ∷ ends) last (suc at) h l = text_within end ends last at h.1 (omega (arith, l))

-- as many strings as ends
pub count_is : (bytes ends : List ℕ) (old : List (List ℕ)) → texts_from bytes 0 ends ≡ old → length ends ≡ length old
count_is bytes ends old view = sym (count_of_texts bytes 0 ends) ∙ ap length view

-- what is read of the string at a place: where it begins and ends, and its bytes
pub record TextGot (bytes ends : List ℕ) (old : List (List ℕ)) (at start end : ℕ) : Type 0 where
  pub from : start ≤ end
  pub to : end ≤ length bytes
  pub is : slice_get old at ≡ Some (take (end - start) (drop start bytes))

pub text_got : (bytes ends : List ℕ) (old : List (List ℕ)) (at start end : ℕ) → texts_from bytes 0 ends ≡ old → AreEnds 0 ends (length bytes) → at < length old → start ≡ get_or (0 ∷ ends) at 0 → end ≡ get_or ends at end → TextGot bytes ends old at start end
text_got bytes ends old at start end view h l s e =
    let within : at < length ends = (let count = count_is bytes ends old view in omega (arith, l)) in
    let last : end ≡ get_or ends at 0 = e ∙ get_or_default ends at end 0 within in
    let room = text_within 0 ends (length bytes) at h within in
    let first = room.0 in
    let second = room.1 in
    record {
      from = omega (arith, s, last, first);
      to = omega (arith, last, second);
      is = ap (λ v. slice_get v at) (sym view) ∙ (text_at bytes 0 ends at within
          ∙ sym (ap (λ n. Some (take (end - n) (drop n bytes))) s ∙ ap (λ n. Some (take (n - get_or (0 ∷ ends) at 0) (drop (get_or (0 ∷ ends) at 0) bytes))) last));
    }

-- what an answer says of strings to which one more is to be added
pub record TextAdded (bytes ends : List ℕ) (old : List (List ℕ)) (text : List ℕ) (result : Result (Unit {0}) NoMemory) : Type 0 where
  pub within : AreEnds 0 ends (length bytes)
  pub ok : OnOk result (texts_from bytes 0 ends ≡ old ++ text ∷ [])
  pub err : OnErr result (texts_from bytes 0 ends ≡ old)

pub text_added : (bytes ends text : List ℕ) (end : ℕ) (more later : List ℕ) (old : List (List ℕ)) (result : Result (Unit {0}) NoMemory) → texts_from bytes 0 ends ≡ old → AreEnds 0 ends (length bytes) → end ≡ length bytes + length text
    → OnOk result (more ≡ bytes ++ text) → OnOk result (later ≡ ends ++ end ∷ []) → OnErr result (more ≡ bytes) → OnErr result (later ≡ ends) → TextAdded more later old text result
text_added bytes ends text end more later old (Ok u) view h e b s eb es =
    let last : end ≡ length more = e ∙ (sym (length-append bytes text) ∙ ap length (sym b)) in
    let A : List ℕ → Type 0 = λ v. AreEnds 0 v (length more) in
    let B : ℕ → Type 0 = λ n. AreEnds 0 (ends ++ end ∷ []) n in
    record {
      within = subst A (sym s) (subst B last (end_added 0 ends (length bytes) end (omega (arith, e)) h));
      ok = ap (λ v. texts_from v 0 later) b ∙ (ap (texts_from (bytes ++ text) 0) (s ∙ ap (λ n. ends ++ n ∷ []) e) ∙ (text_pushed bytes text 0 ends h ∙ ap (λ v. v ++ text ∷ []) view));
      err = tt;
    }
text_added bytes ends text end more later old (Err x) view h e b s eb es =
    let A : List ℕ → Type 0 = λ v. AreEnds 0 v (length more) in
    let B : List ℕ → Type 0 = λ v. AreEnds 0 ends (length v) in
    record {
      within = subst A (sym es) (subst B (sym eb) h);
      ok = tt;
      err = ap (λ v. texts_from v 0 later) eb ∙ (ap (texts_from bytes 0) es ∙ view);
    }
