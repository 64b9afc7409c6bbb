-- Lines of findings, one after another.
use Rattle.std.proofs.Common.{◌≡◌, ℕ, ◌+◌, ◌<◌, List, [], ◌∷◌, ◌++◌, length, take, get_or, sym, ap, ◌∙◌, append-nil}
use Rattle.std.proofs.lemmas.Grind.{flat_map-append}
use Rattle.std.proofs.lemmas.List.{take_more}
use Rattle.netlist_schema.specs.Design.{Design}
use Rattle.erc_spec.specs.Lines.{finding_line, finding_lines}
use Rattle.erc_spec.specs.Types.{Finding}

pub one_line_more : (d : Design) (found : List Finding) (i : ℕ) (x : Finding) → i < length found → x ≡ get_or found i x
    → finding_lines d (take i found) ++ finding_line d x ≡ finding_lines d (take (i + 1) found)
one_line_more d found i x within is =
    ap (λ v. finding_lines d (take i found) ++ v) (sym (append-nil (finding_line d x)))
    ∙ (sym (flat_map-append (finding_line d) (take i found) (x ∷ []))
    ∙ (ap (λ v. finding_lines d (take i found ++ v ∷ [])) is ∙ ap (finding_lines d) (sym (take_more found i x within))))
