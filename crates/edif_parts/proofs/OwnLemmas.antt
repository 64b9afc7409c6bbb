-- Names in a list, each with its place: whether one is there.
use Rattle.std.proofs.Common.{◌≡◌, ℕ, zero, suc, ◌<◌, List, [], ◌∷◌, ◌++◌, Bool, true, false, length, refl, sym, ap, ◌∙◌, subst, None, Some, nat_eq, arith, get_or, true≢false, append-nil, append_assoc}
use Rattle.std.specs.Prelude.{cond}
use Rattle.std.specs.Map.{lookup}
use Rattle.std.specs.List.{Contains}
use Rattle.std.specs.Cmp.Lexicographic.{pointwise, bytes_decides}
use Rattle.std.specs.Prelude.{Result, Ok, Err, OnOk, IfErr}
use Rattle.std.proofs.lemmas.List.Elements.{Contains-append_right}
use Rattle.edif_parts.specs.Names.{DefinesName, IsAgain, ids}
use Rattle.edif_parts.specs.Reading.{Names as FailsBy}
use Rattle.edif_parts.specs.declared.error.EdifError.{EdifError}
use Rattle.edif_parts.specs.declared.error.EdifError.TheVariants as errors

-- no entry of the first list has the name, and none of the second
pub neither : (name : List ℕ) (few others : List (List ℕ × ℕ)) → lookup (pointwise nat_eq name) few ≡ None
    → ((k : ℕ) → k < length (ids others) → get_or (ids others) k name ≡ name → ⊥)
    → (k : ℕ) → k < length (ids (few ++ others)) → get_or (ids (few ++ others)) k name ≡ name → ⊥
neither name [] others h r k l e = r k l e
neither name (x ∷ few) others h r k l e = by (pointwise nat_eq name x.0) refl h k l e (neither name few others)
  where
    by : (b : Bool) → pointwise nat_eq name x.0 ≡ b → cond b (Some x.1) (lookup (pointwise nat_eq name) few) ≡ None
        → (k : ℕ) → k < length (ids (x ∷ few ++ others)) → get_or (ids (x ∷ few ++ others)) k name ≡ name
        → (lookup (pointwise nat_eq name) few ≡ None → ((k : ℕ) → k < length (ids others) → get_or (ids others) k name ≡ name → ⊥)
        → (k : ℕ) → k < length (ids (few ++ others)) → get_or (ids (few ++ others)) k name ≡ name → ⊥) → ⊥
    by true q h k l e s = cc h
    by false q h zero l e s = true≢false (sym ((bytes_decides name x.0).1 (sym e)) ∙ q)
    by false q h (suc k) l e s = s h r k (omega arith) e

-- no entry has the name
pub not_there : (name : List ℕ) (es : List (List ℕ × ℕ)) → lookup (pointwise nat_eq name) es ≡ None → (k : ℕ) → k < length (ids es) → get_or (ids es) k name ≡ name → ⊥
not_there name es h k l e =
    let P : List (List ℕ × ℕ) → Type 0 = λ v. k < length (ids v) → get_or (ids v) k name ≡ name → ⊥ in
    subst P (append-nil es) (neither name es [] h (λ j m f. omega arith) k) l e

-- an entry has the name, at this place
pub is_there : (name : List ℕ) (es : List (List ℕ × ℕ)) (place : ℕ) → lookup (pointwise nat_eq name) es ≡ Some place → Contains es (name, place)
is_there name [] place h = absurd (cc h)
is_there name (x ∷ es) place h = by (pointwise nat_eq name x.0) refl h (is_there name es place)
  where
    by : (b : Bool) → pointwise nat_eq name x.0 ≡ b → cond b (Some x.1) (lookup (pointwise nat_eq name) es) ≡ Some place → (lookup (pointwise nat_eq name) es ≡ Some place → Contains es (name, place)) → Contains (x ∷ es) (name, place)
    by true q h r = let s : name ≡ x.0 = (bytes_decides name x.0).0 q in let p : x.1 ≡ place = cc h in (0, omega arith, λ i. (sym s i, p i))
    by false q h r = let w = r h in (suc w.0, omega (arith, w.1), w.2)

-- one more entry behind the first list, where the second has none
pub one_more_few : (few others : List (List ℕ × ℕ)) (x : List ℕ × ℕ) → others ≡ [] → (few ++ x ∷ []) ++ others ≡ (few ++ others) ++ x ∷ []
one_more_few few [] x e = append-nil (few ++ x ∷ []) ∙ ap (λ v. v ++ x ∷ []) (sym (append-nil few))
one_more_few few (y ∷ others) x e = absurd (cc e)

pub none_in : (name : List ℕ) (others : List (List ℕ × ℕ)) → others ≡ [] → (k : ℕ) → k < length (ids others) → get_or (ids others) k name ≡ name → ⊥
none_in name [] e k l h = omega arith
none_in name (y ∷ others) e k l h = cc e

-- what the second list came to is what both did, where the first has no such name
pub added_behind : {T : Type 0} (r : Result T EdifError) (name : List ℕ) (place : ℕ) (few others more : List (List ℕ × ℕ)) → lookup (pointwise nat_eq name) few ≡ None
    → OnOk r (DefinesName others name place more None) → OnOk r (DefinesName (few ++ others) name place (few ++ more) None)
added_behind (Ok x) name place few others more absent h = (
  λ c. neither name few others absent (λ k l e. h.0 (k, l, e)) c.0 c.1 c.2,
  ap (λ v. few ++ v) h.1 ∙ sym (append_assoc few others ((name, place) ∷ [])),
)
added_behind (Err e) name place few others more absent h = h

pub again_behind : {T : Type 0} (r : Result T EdifError) (name : List ℕ) (place : ℕ) (few others : List (List ℕ × ℕ)) → IfErr r (FailsBy (IsAgain others name place)) → IfErr r (FailsBy (IsAgain (few ++ others) name place))
again_behind (Ok x) name place few others h = h
again_behind (Err (errors.Fault f)) name place few others h = (h.0, Contains-append_right few others (name, h.0) h.1, h.2)
again_behind (Err errors.NoMemory) name place few others h = h
