-- Worked designs: where their cells are used, and what is left of them.
use Rattle.std.specs.Prelude.{◌≡◌, ℕ, [], ◌∷◌, Some, None, codes}
use Rattle.netlist_schema.specs.Design.{Design}
use Rattle.flat_spec.specs.ExampleParts.{named, id_of, inst, says, leaf, body, lib, top}
use Rattle.flat_lines_spec.specs.Example.{lines}
use Rattle.used_spec.specs.Kept.{kept}
use Rattle.used_spec.specs.Lines.{uses_text}
use Rattle.used_spec.specs.Uses.{users, uses, users_at}
use Rattle.used_spec.specs.declared.used_at.UsedAt.{UsedAt}

abbrev at : ℕ → ℕ → ℕ → UsedAt
at lib slot place = record { cell = id_of lib slot; inst = place }

-- a leaf that nothing uses, one that the top uses, and the top
abbrev pub small : Design
small = record {
  title = named (codes "e");
  libs = lib (codes "w") (leaf (codes "Q") [] ∷ leaf (codes "P") [] ∷ body (codes "T") [] (inst (codes "a") (id_of 0 1) [] ∷ []) [] ∷ []) ∷ [];
  top = top (codes "T") (id_of 0 2) [];
  notes = [];
}

-- the same without the unused leaf
abbrev pub small_kept : Design
small_kept = record {
  title = named (codes "e");
  libs = lib (codes "w") (leaf (codes "P") [] ∷ body (codes "T") [] (inst (codes "a") (id_of 0 0) [] ∷ []) [] ∷ []) ∷ [];
  top = top (codes "T") (id_of 0 1) [];
  notes = [];
}

pub record SmallIsUsed : Type 0 where
  pub index : uses small ≡ ([] ∷ (at 0 2 0 ∷ []) ∷ [] ∷ []) ∷ []
  pub left : kept small ≡ small_kept
  pub text : uses_text small ≡ lines (
      codes "uses"
      ∷ codes "cell w Q uses 0"
      ∷ codes "cell w P uses 1"
      ∷ codes " use w T a"
      ∷ codes "cell w T uses 0"
      ∷ [])

-- three libraries. INV stands twice in A, and once in the top, which is in the same library as A and has A twice. B, which nothing
-- uses, has A and the only instance of BUF; Z, which nothing uses either, is alone in its library and has B. A note is for INV in A.
abbrev pub large : Design
large = record {
  title = named (codes "e");
  libs =
      lib (codes "p") (leaf (codes "BUF") [] ∷ leaf (codes "INV") [] ∷ [])
      ∷ lib (codes "w") (
      body (codes "B") [] (inst (codes "a") (id_of 1 2) [] ∷ inst (codes "b") (id_of 0 0) [] ∷ []) []
      ∷ body (codes "T") [] (inst (codes "x") (id_of 1 2) [] ∷ inst (codes "i") (id_of 0 1) [] ∷ inst (codes "y") (id_of 1 2) [] ∷ []) []
      ∷ body (codes "A") [] (inst (codes "i") (id_of 0 1) [] ∷ inst (codes "j") (id_of 0 1) [] ∷ []) []
      ∷ []
      )
      ∷ lib (codes "z") (body (codes "Z") [] (inst (codes "b") (id_of 1 0) [] ∷ []) [] ∷ [])
      ∷ [];
  top = top (codes "T") (id_of 1 1) (says (codes "part") (codes "x") ∷ []);
  notes = record { path = codes "x" ∷ codes "j" ∷ []; property = says (codes "K") (codes "1") } ∷ [];
}

-- B, BUF and Z are gone, BUF too, though B uses it; library z stays, empty; INV, T and A have moved up; the note stays
abbrev pub large_kept : Design
large_kept = record {
  title = named (codes "e");
  libs =
      lib (codes "p") (leaf (codes "INV") [] ∷ [])
      ∷ lib (codes "w") (
      body (codes "T") [] (inst (codes "x") (id_of 1 1) [] ∷ inst (codes "i") (id_of 0 0) [] ∷ inst (codes "y") (id_of 1 1) [] ∷ []) []
      ∷ body (codes "A") [] (inst (codes "i") (id_of 0 0) [] ∷ inst (codes "j") (id_of 0 0) [] ∷ []) []
      ∷ []
      )
      ∷ lib (codes "z") []
      ∷ [];
  top = top (codes "T") (id_of 1 0) (says (codes "part") (codes "x") ∷ []);
  notes = record { path = codes "x" ∷ codes "j" ∷ []; property = says (codes "K") (codes "1") } ∷ [];
}

pub record LargeIsUsed : Type 0 where
  -- uses from unused cells count, in order of libraries, cells and contents
  pub of_buf : users large (id_of 0 0) ≡ at 1 0 1 ∷ []
  pub of_inv : users large (id_of 0 1) ≡ at 1 1 1 ∷ at 1 2 0 ∷ at 1 2 1 ∷ []
  pub of_b : users large (id_of 1 0) ≡ at 2 0 0 ∷ []
  pub of_t : users large (id_of 1 1) ≡ []
  pub of_a : users large (id_of 1 2) ≡ at 1 0 0 ∷ at 1 1 0 ∷ at 1 1 2 ∷ []
  pub nowhere : users_at (uses large) (id_of 2 1) ≡ None
  pub there : users_at (uses large) (id_of 2 0) ≡ Some []
  pub left : kept large ≡ large_kept
  -- what is left has nothing more to leave out
  pub again : kept large_kept ≡ large_kept
  pub text : uses_text large ≡ lines (
      codes "uses"
      ∷ codes "cell p BUF uses 1"
      ∷ codes " use w B b"
      ∷ codes "cell p INV uses 3"
      ∷ codes " use w T i"
      ∷ codes " use w A i"
      ∷ codes " use w A j"
      ∷ codes "cell w B uses 1"
      ∷ codes " use z Z b"
      ∷ codes "cell w T uses 0"
      ∷ codes "cell w A uses 3"
      ∷ codes " use w B a"
      ∷ codes " use w T x"
      ∷ codes " use w T y"
      ∷ codes "cell z Z uses 0"
      ∷ [])

-- a design without a top is left as it is
abbrev pub ToplessStays : Type 0
ToplessStays = let d : Design = record small { top = None } in kept d ≡ d
