-- Lines that are written by parts.
use Rattle.std.proofs.Common.{◌≡◌, ℕ, List, [], ◌∷◌, ◌++◌, sym, append_assoc}
use Rattle.std.specs.Prelude.{codes}
use Rattle.flat_lines_spec.specs.Lines.{spaced}

use_bytes : (lib cell inst : List ℕ) → ((lib ++ 32 ∷ []) ++ ((cell ++ 32 ∷ []) ++ inst)) ++ 10 ∷ [] ≡ lib ++ (32 ∷ (cell ++ (32 ∷ (inst ++ 10 ∷ []))))
use_bytes lib cell inst = simp append_assoc

-- the line of a use
pub use_parts : (lib cell inst : List ℕ)
    → codes " use " ++ (lib ++ (codes " " ++ (cell ++ (codes " " ++ (inst ++ 10 ∷ []))))) ≡ codes " " ++ spaced (codes "use" ∷ lib ∷ cell ∷ inst ∷ []) ++ 10 ∷ []
use_parts lib cell inst = let same = use_bytes lib cell inst in λ i. codes " use " ++ sym same i

head_bytes : (lib cell count : List ℕ) → ((lib ++ 32 ∷ []) ++ ((cell ++ 32 ∷ []) ++ (codes "uses " ++ count))) ++ 10 ∷ [] ≡ lib ++ (32 ∷ (cell ++ (codes " uses " ++ (count ++ 10 ∷ []))))
head_bytes lib cell count = simp append_assoc

-- the line of a cell
pub head_parts : (lib cell count : List ℕ)
    → codes "cell " ++ (lib ++ (codes " " ++ (cell ++ (codes " uses " ++ (count ++ 10 ∷ []))))) ≡ spaced (codes "cell" ∷ lib ∷ cell ∷ codes "uses" ∷ count ∷ []) ++ 10 ∷ []
head_parts lib cell count = let same = head_bytes lib cell count in λ i. codes "cell " ++ sym same i
