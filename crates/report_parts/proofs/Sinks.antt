-- What a sink that compares tells.
use Rattle.std.proofs.Common.{◌≡◌, ◌∙◌, ℕ, zero, suc, ◌+◌, ◌-◌, ◌<◌, ◌≤◌, Bool, true, false, List, [], ◌∷◌, ◌++◌, inl, inr, length, map, take, drop, get_or, refl, ap, sym, subst, arith, length-append, length-drop, append_assoc, append-nil}
use Rattle.std.specs.Prelude.{◌↔◌, Option, Some, None, IsTrue, is_some, not}
use Rattle.std.proofs.Math.Seq.{take-add, take-append_seam, take-length, take-suc}
use Rattle.std.proofs.lemmas.List.{append_cancel_left, length-take-le, take-append-drop}
use Rattle.netdb_outside.specs.Outside.{Appends, AppendsFront, Rose, raised}
use Rattle.report_parts.specs.Same.{Compares, IsCommon, IsOther, PartsFrom, SameFacts, bytes_put, text_then_bytes}

-- ---- bytes in common

parts_at : (text piece : List ℕ) (k d e : ℕ) → k < length piece → k < length text → (get_or text k d ≡ get_or piece k e → ⊥) → PartsFrom text (take (suc k) piece)
parts_at [] piece k d e low less other more same = absurd (omega (arith, less))
parts_at (t ∷ text) [] k d e low less other more same = absurd (omega (arith, low))
parts_at (t ∷ text) (p ∷ piece) zero d e low less other more same = let head : t ≡ p = cc (same) in other head
parts_at (t ∷ text) (p ∷ piece) (suc k) d e low less other more same =
    parts_at text piece k d e (omega (arith, low)) (omega (arith, less)) other more (append_cancel_left (p ∷ []) text (take (suc k) piece ++ more) (let head : t ≡ p = cc (same) in ap (λ (z : ℕ). z ∷ text) (sym head) ∙ same))

parts_end : (text piece : List ℕ) (k : ℕ) → k < length piece → length text ≤ k → PartsFrom text (take (suc k) piece)
parts_end text piece k low less more same =
    let long = length-append (take (suc k) piece) more in
    let front = length-take-le (suc k) piece (omega (arith, low)) in
    let whole : length text ≡ length (take (suc k) piece ++ more) = ap length same in
    omega (arith, long, front, whole, less)

pub ends_there : (text piece : List ℕ) (k : ℕ) → k < length piece → k ≤ length text → length text ≤ k → take k text ≡ take k piece → IsCommon text piece k
ends_there text piece k low in_text less same = record { in_text = in_text; in_piece = omega (arith, low); same = same; other = λ h. parts_end text piece k low less }

pub other_there : (text piece : List ℕ) (k d e : ℕ) → k < length piece → k < length text → (get_or text k d ≡ get_or piece k e → ⊥) → take k text ≡ take k piece → IsCommon text piece k
other_there text piece k d e low less differs same = record { in_text = omega (arith, less); in_piece = omega (arith, low); same = same; other = λ h. parts_at text piece k d e low less differs }

pub all_there : (text piece : List ℕ) (k n : ℕ) → n ≡ length piece → k ≡ length piece → k ≤ length text → take k text ≡ take k piece → IsCommon text piece n
all_there text piece k n is at in_text same = record {
  in_text = omega (arith, is, at, in_text);
  in_piece = omega (arith, is);
  same = let one : k ≡ n = omega (arith, is, at) in subst (λ (m : ℕ). take m text ≡ take m piece) one same;
  other = λ h. absurd (omega (arith, h, is));
}

pub front_there : (text piece rest : List ℕ) (n : ℕ) → n ≡ length piece → text ≡ piece ++ rest → IsCommon text piece n
front_there text piece rest n is whole =
    let long = length-append piece rest in
    let size : length text ≡ length (piece ++ rest) = ap length whole in
    record {
      in_text = omega (arith, is, long, size);
      in_piece = omega (arith, is);
      same = subst (λ (m : ℕ). take m text ≡ take m piece) (sym is) (ap (take (length piece)) whole ∙ take-append_seam piece rest ∙ sym (take-length piece));
      other = λ h. absurd (omega (arith, h, is));
    }

pub one_more : (text piece : List ℕ) (k d e : ℕ) → k < length piece → k < length text → get_or text k d ≡ get_or piece k e → take k text ≡ take k piece → take (k + 1) text ≡ take (k + 1) piece
one_more text piece k d e low less same front =
    let one : suc k ≡ k + 1 = omega arith in
    subst (λ (m : ℕ). take m text ≡ take m piece) one (take-suc text k d less ∙ ap (λ (z : List ℕ). z ++ (get_or text k d ∷ [])) front ∙ ap (λ (b : ℕ). take k piece ++ (b ∷ [])) same ∙ sym (take-suc piece k e low))

-- ---- a piece that is compared

-- all of it is the same
pub same_piece : (text piece : List ℕ) (same n : ℕ) → IsCommon (drop same text) piece n → n ≡ length piece → take (same + n) text ≡ take same text ++ piece
same_piece text piece same n common is =
    take-add same n text ∙ ap (λ (z : List ℕ). take same text ++ z) (common.same ∙ ap (λ (m : ℕ). take m piece) is ∙ take-length piece)

-- a byte of it is another one
pub other_piece : (text piece : List ℕ) (same n b : ℕ) → IsCommon (drop same text) piece n → n < length piece → b ≡ get_or piece n b → take (same + n) text ++ b ∷ [] ≡ take same text ++ take (suc n) piece
other_piece text piece same n b common less is =
    ap (λ (z : List ℕ). z ++ b ∷ []) (take-add same n text)
    ∙ append_assoc (take same text) (take n (drop same text)) (b ∷ [])
    ∙ ap (λ (z : List ℕ). take same text ++ z) (ap (λ (z : List ℕ). z ++ b ∷ []) common.same ∙ ap (λ (c : ℕ). take n piece ++ c ∷ []) is ∙ sym (take-suc piece n b less))

pub other_parts : (text piece : List ℕ) (same n b : ℕ) → IsCommon (drop same text) piece n → n < length piece → b ≡ get_or piece n b → PartsFrom text (take (same + n) text ++ b ∷ [])
other_parts text piece same n b common less is more whole =
    let front = other_piece text piece same n b common less is in
    common.other less more
    (append_cancel_left (take same text) (drop same text) (take (suc n) piece ++ more)
    (take-append-drop same text ∙ whole ∙ ap (λ (z : List ℕ). z ++ more) front ∙ append_assoc (take same text) (take (suc n) piece) more))

pub other_compared : (text piece : List ℕ) (same n b faults now : ℕ) → IsCommon (drop same text) piece n → n < length piece → b ≡ get_or piece n b → now ≡ raised faults
    → Compares (record { text = text; bytes = take same text; faults = faults }) (record { text = text; bytes = take (same + n) text ++ b ∷ []; faults = now }) piece false
other_compared text piece same n b faults now common less is rose =
    (take (suc n) piece, drop (suc n) piece, sym (take-append-drop (suc n) piece), let put = other_piece text piece same n b common less is in cc (put, rose))

-- after another one nothing more is put
pub stays_other : (text bytes piece : List ℕ) (faults now : ℕ) → now ≡ raised faults → Compares (record { text = text; bytes = bytes; faults = faults }) (record { text = text; bytes = bytes; faults = now }) piece false
stays_other text bytes piece faults now rose = ([], piece, refl, let none = append-nil bytes in cc (none, rose))

-- ---- the sink

pub puts : (old new : SameFacts) (piece : List ℕ) → Compares old new piece true → Appends (Some (text_then_bytes old)) (Some (text_then_bytes new)) piece
puts old new piece is = ap Some (ap text_then_bytes is ∙ sym (append_assoc (map suc old.text) (0 ∷ old.bytes) piece))

pub puts_front : (old new : SameFacts) (piece : List ℕ) (r : Bool) → Compares old new piece r → AppendsFront (Some (text_then_bytes old)) (Some (text_then_bytes new)) piece
puts_front old new piece true c = (piece, [], sym (append-nil piece), puts old new piece c)
puts_front old new piece false c = (c.0, c.1, c.2, ap Some (ap text_then_bytes c.3 ∙ sym (append_assoc (map suc old.text) (0 ∷ old.bytes) c.0)))

pub rises : (n : ℕ) → Rose n (raised n)
rises n = grind arith

pub rose_by : (old new : SameFacts) (piece : List ℕ) → Compares old new piece false → Rose old.faults new.faults
rose_by old new piece c = subst (λ (m : ℕ). Rose old.faults m) (sym (ap (λ (s : SameFacts). s.faults) c.3)) (rises old.faults)

-- ---- what all of it tells

-- what stands before the end is known by the whole, and what stands behind it
told_same : (a b x y : List ℕ) → map suc a ++ 0 ∷ x ≡ map suc b ++ 0 ∷ y → (a ≡ b) × (x ≡ y)
told_same [] [] x y e = (refl, cc (e))
told_same [] (d ∷ b) x y e = let wrong : 0 ≡ suc d = cc (e) in absurd (omega (arith, wrong))
told_same (c ∷ a) [] x y e = let wrong : suc c ≡ 0 = cc (e) in absurd (omega (arith, wrong))
told_same (c ∷ a) (d ∷ b) x y e =
    let first : suc c ≡ suc d = cc (e) in
    let one : c ≡ d = omega (arith, first) in
    let rest = told_same a b x y (append_cancel_left (suc d ∷ []) (map suc a ++ 0 ∷ x) (map suc b ++ 0 ∷ y) (ap (λ (z : ℕ). z ∷ (map suc a ++ 0 ∷ x)) (sym first) ∙ e)) in
    (cc (one, rest.0), rest.1)

put_all : (new : SameFacts) (text wanted : List ℕ) → Appends (Some (map suc text ++ 0 ∷ [])) (Some (text_then_bytes new)) wanted → (new.text ≡ text) × (new.bytes ≡ wanted)
put_all new text wanted e =
    let whole : map suc new.text ++ 0 ∷ new.bytes ≡ (map suc text ++ 0 ∷ []) ++ wanted = cc (e) in
    told_same new.text text new.bytes wanted (whole ∙ append_assoc (map suc text) (0 ∷ []) wanted)

-- all was put
pub whole_put : (old new : SameFacts) (text wanted : List ℕ) (r : Bool) → old ≡ record { text = text; bytes = []; faults = 0 } → Appends (Some (text_then_bytes old)) (Some (text_then_bytes new)) wanted → IsTrue r ↔ (new.text ≡ new.bytes)
    → IsTrue r ↔ (text ≡ wanted)
whole_put old new text wanted r is e iff =
    let both = put_all new text wanted (subst (λ (s : SameFacts). Appends (Some (text_then_bytes s)) (Some (text_then_bytes new)) wanted) is e) in
    (λ h. sym both.0 ∙ iff.0 h ∙ both.1, λ h. iff.1 (both.0 ∙ h ∙ sym both.1))

risen : (n : ℕ) → Rose 0 n → 0 < n
risen n (inl less) = less
risen n (inr most) = omega (arith, most)

-- there was a fault, so the text is another one
pub other_put : (old new : SameFacts) (text wanted : List ℕ) (r : Bool) → old ≡ record { text = text; bytes = []; faults = 0 } → AppendsFront (Some (text_then_bytes old)) (Some (text_then_bytes new)) wanted → Rose old.faults new.faults
    → (0 < new.faults → PartsFrom new.text new.bytes) → IsTrue r ↔ (new.text ≡ new.bytes) → IsTrue r ↔ (text ≡ wanted)
other_put old new text wanted r is e rose parts iff =
    let both = put_all new text e.0 (subst (λ (s : SameFacts). Appends (Some (text_then_bytes s)) (Some (text_then_bytes new)) e.0) is e.3) in
    let none : 0 < new.faults = risen new.faults (subst (λ (s : SameFacts). Rose s.faults new.faults) is rose) in (
      λ h. absurd (parts none [] (iff.0 h ∙ sym (append-nil new.bytes))),
      λ h. absurd (parts none e.1 (both.0 ∙ h ∙ e.2 ∙ ap (λ (z : List ℕ). z ++ e.1) (sym both.1))),
    )

-- ---- the fields of the sink

abbrev pub view : List ℕ → ℕ → Option ℕ → ℕ → SameFacts
view text same other faults = record { text = text; bytes = bytes_put text same other; faults = faults }

parted : (text : List ℕ) (same faults : ℕ) (other : Option ℕ) (r : Bool) → is_some other ≡ not r → r ≡ false → IsOther text same faults other → IsTrue r ↔ (text ≡ bytes_put text same other)
parted text same faults None true e none parts = absurd (cc (none))
parted text same faults None false e none parts = absurd (cc (e))
parted text same faults (Some b) r e none parts = (λ h. absurd (cc (h, none)), λ whole. absurd (parts [] (whole ∙ sym (append-nil (take same text ++ b ∷ [])))))

pub parted_whole : (old : SameFacts) (text : List ℕ) (same faults : ℕ) (other : Option ℕ) (r : Bool) → view text same other faults ≡ old → is_some other ≡ not r → r ≡ false → IsOther text same faults other → IsTrue r ↔ (old.text ≡ old.bytes)
parted_whole old text same faults other r v e none parts = subst (λ (s : SameFacts). IsTrue r ↔ (s.text ≡ s.bytes)) v (parted text same faults other r e none parts)

-- what is left of the text, as a slice
rest_is : (text : List ℕ) (same : ℕ) → take (length text - same) (drop same text) ≡ drop same text
rest_is text same = ap (λ (n : ℕ). take n (drop same text)) (sym (length-drop same text)) ∙ take-length (drop same text)

any_default : (xs : List ℕ) (k d e : ℕ) → k < length xs → get_or xs k d ≡ get_or xs k e
any_default [] k d e less = absurd (omega (arith, less))
any_default (x ∷ xs) zero d e less = refl
any_default (x ∷ xs) (suc k) d e less = any_default xs k d e (omega (arith, less))

module _ (text piece : List ℕ) (same n faults : ℕ) (common_so : IsCommon (take (length text - same) (drop same text)) piece n) where
  common : IsCommon (drop same text) piece n
  common = subst (λ (z : List ℕ). IsCommon z piece n) (rest_is text same) common_so

  less : (n ≡ length piece → ⊥) → n < length piece
  less part = let le = common.in_piece in omega (arith, le, part)

  byte : (n ≡ length piece → ⊥) → get_or piece n 0 ≡ get_or piece n (get_or piece n 0)
  byte part = any_default piece n 0 (get_or piece n 0) (less part)

  pub compared_same : (old : SameFacts) (other : Option ℕ) (r : Bool) → view text same other faults ≡ old → r ≡ is_some other → r ≡ false → n ≡ length piece
      → view text (same + n) other faults ≡ record { text = old.text; bytes = old.bytes ++ piece; faults = old.faults }
  compared_same old (Some b) r v e none is = absurd (cc (e, none))
  compared_same old None r v e none is =
      let put = same_piece text piece same n common is in
      subst (λ (s : SameFacts). view text (same + n) None faults ≡ record { text = s.text; bytes = s.bytes ++ piece; faults = s.faults }) v (cc (put))

  pub compared_other : (old : SameFacts) (other : Option ℕ) (r : Bool) (now : ℕ) → view text same other faults ≡ old → r ≡ is_some other → r ≡ false → (n ≡ length piece → ⊥) → now ≡ raised faults
      → Compares old (view text (same + n) (Some (get_or piece n 0)) now) piece false
  compared_other old (Some c) r now v e none part rose = absurd (cc (e, none))
  compared_other old None r now v e none part rose =
      subst (λ (s : SameFacts). Compares s (view text (same + n) (Some (get_or piece n 0)) now) piece false) v (other_compared text piece same n (get_or piece n 0) faults now common (less part) (byte part) rose)

  pub other_kept : same ≤ length text → (n ≡ length piece → ⊥) → (same + n ≤ length text) × PartsFrom text (take (same + n) text ++ get_or piece n 0 ∷ [])
  other_kept le part =
      let long = length-drop same text in
      let within = common.in_text in
      (omega (arith, le, long, within), other_parts text piece same n (get_or piece n 0) common (less part) (byte part))
