-- Layers of nothing change nothing.
use Rattle.std.proofs.Common.{◌≡◌, ℕ, suc, List, [], ◌∷◌, ◌++◌, map, Option, Some, None, refl, sym, ap, ◌∙◌, unwrap_or}
use Rattle.std.specs.List.{All}
use Rattle.std.proofs.lemmas.List.{append-nil}
use Rattle.std.proofs.lemmas.List.Elements.{All-head, All-tail}
use Rattle.netlist_schema.specs.Design.{Design}
use Rattle.netlist_schema.specs.Types.{CellBody, Lib}
use Rattle.db_draft.specs.Drafts.{Suits}
use Rattle.db_draft.specs.Laid.{cells_changed, cells_laid, libs_laid, laid}
use Rattle.db_draft.specs.Layers.{IsEmpty, over_of}
use Rattle.db_draft.specs.declared.layer.Layer.{Layer}

same_cells : (f : ℕ → Option CellBody) (from : ℕ) (cells : List CellBody) → ((slot : ℕ) → f slot ≡ None) → cells_changed f from cells ≡ cells
same_cells f from [] none = refl
same_cells f from (c ∷ cells) none = λ i. unwrap_or (none from i) c ∷ same_cells f (suc from) cells none i

same_laid : (layer : Layer) (cells : List CellBody) → IsEmpty layer → cells_laid (over_of layer) cells ≡ cells
same_laid layer cells is =
    ap (λ (cs : List CellBody). cs ++ (over_of layer).added) (same_cells (over_of layer).changed 0 cells is.changed)
    ∙ (ap (λ (added : List CellBody). cells ++ added) is.added ∙ append-nil cells)

same_libs : (layers : List Layer) (libs : List Lib) → All IsEmpty layers → libs_laid (map over_of layers) libs ≡ libs
same_libs [] libs all = refl
same_libs (layer ∷ layers) [] all = refl
same_libs (layer ∷ layers) (lib ∷ libs) all =
    let here = same_laid layer lib.cells (All-head IsEmpty layer layers all) in
    let rest = same_libs layers libs (All-tail IsEmpty layer layers all) in
    λ i. record { head = lib.head; cells = here i } ∷ rest i

pub same_design : (d : Design) (layers : List Layer) → All IsEmpty layers → laid d (map over_of layers) None ≡ d
same_design d layers all = ap (λ (libs : List Lib). record d { libs = libs }) (same_libs layers d.libs all)

pub nothing_suits : (layer : Layer) (lib : Lib) → IsEmpty layer → Suits lib layer
nothing_suits layer lib is = record {
  named = is.named;
  fits = λ slot body has. let never : None ≡ Some body = sym (is.changed slot) ∙ has in cc;
}
