-- Bytes appended one piece after another, for those who write to a sink.
use Rattle.std.proofs.Common.{refl, ap, sym, ◌∙◌, append_assoc, append-nil, ℕ, List, [], ◌++◌, Option, None, Some}
use Rattle.std.specs.Option.{option_map}
use Rattle.netdb_outside.specs.Outside.{Appends, AppendsFront}

pub appends_none : (told : Option (List ℕ)) → Appends told told []
appends_none None = refl
appends_none (Some held) = ap Some (sym (append-nil held))

pub appends_then : (a b c : Option (List ℕ)) (x y : List ℕ) → Appends a b x → Appends b c y → Appends a c (x ++ y)
appends_then None b c x y first next = next ∙ ap (option_map (λ held. held ++ y)) first
appends_then (Some held) b c x y first next =
    next ∙ (ap (option_map (λ bytes. bytes ++ y)) first ∙ ap Some (append_assoc held x y))

-- nothing is a front of any bytes
pub front_none : (told : Option (List ℕ)) (x : List ℕ) → AppendsFront told told x
front_none told x = ([], x, refl, appends_none told)

-- all bytes are a front of them
pub front_all : (a b : Option (List ℕ)) (x : List ℕ) → Appends a b x → AppendsFront a b x
front_all a b x all = (x, [], sym (append-nil x), all)

-- a front is one of longer bytes too
pub front_more : (a b : Option (List ℕ)) (x y : List ℕ) → AppendsFront a b x → AppendsFront a b (x ++ y)
front_more a b x y part = (part.0, part.1 ++ y, ap (λ bytes. bytes ++ y) part.2 ∙ append_assoc part.0 part.1 y, part.3)

-- after whole bytes, a front of the next ones
pub then_front : (a b c : Option (List ℕ)) (x y : List ℕ) → Appends a b x → AppendsFront b c y → AppendsFront a c (x ++ y)
then_front a b c x y all part =
    (x ++ part.0, part.1, ap (λ bytes. x ++ bytes) part.2 ∙ sym (append_assoc x part.0 part.1), appends_then a b c x part.0 all part.3)
