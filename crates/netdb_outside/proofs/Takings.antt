-- Bytes taken from a told rest, one after another.
use Rattle.std.proofs.Common.{refl, ap, sym, ◌∙◌, append_assoc, ℕ, List, [], ◌++◌, Option, None, Some}
use Rattle.std.specs.Option.{option_map}
use Rattle.netdb_outside.specs.Outside.{Folder, Takes}

pub takes_none : (told : Option Folder) → Takes told told []
takes_none None = refl
takes_none (Some folder) = refl

pub takes_then : (a b c : Option Folder) (x y : List ℕ) → Takes a b x → Takes b c y → Takes a c (x ++ y)
takes_then a b None x y first next = first ∙ ap (option_map (λ rest. x ++ rest)) next
takes_then a b (Some folder) x y first next =
    first ∙ (ap (option_map (λ rest. x ++ rest)) next ∙ ap Some (sym (append_assoc x y folder.rest)))
