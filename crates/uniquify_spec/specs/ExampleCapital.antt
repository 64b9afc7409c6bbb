-- Names of copies: one is taken ignoring case.
use Rattle.std.specs.Prelude.{◌≡◌, [], ◌∷◌, None, codes}
use Rattle.netlist_schema.specs.Design.{Design}
use Rattle.edit_rules_spec.specs.declared.reply.Reply.TheVariants.{Copies, NoPath, NoTop}
use Rattle.netlist_schema.specs.declared.cell.Direction.TheVariants.{Inout}
use Rattle.flat_spec.specs.ExampleParts.{named, id_of, scalar, own_port, on_port, inst, net, leaf, body, lib, top}
use Rattle.uniquify_spec.specs.ExamplePair.{directories}
use Rattle.uniquify_spec.specs.Rows.{uniquified, unique_along}

-- three blocks of one cell, and a cell that has the name of its first copy in capitals
abbrev pub capital : Design
capital = record {
  title = named (codes "e");
  libs =
      lib (codes "w") (
      body (codes "C") [] [] []
      ∷ body (codes "C_U1") [] [] []
      ∷ body (codes "T") [] (inst (codes "a") (id_of 0 0) [] ∷ inst (codes "b") (id_of 0 0) [] ∷ inst (codes "c") (id_of 0 0) [] ∷ []) []
      ∷ []
      )
      ∷ [];
  top = top (codes "T") (id_of 0 2) [];
  notes = [];
}

pub record CapitalIsUnique : Type 0 where
  pub reply : (uniquified capital).reply ≡ Copies 2
  pub directory : directories (uniquified capital).design ≡ (codes "C" ∷ codes "C_U1" ∷ codes "T" ∷ codes "C_u2" ∷ codes "C_u3" ∷ []) ∷ []

-- a block C with two leaves P, and a top T with C and P
abbrev pub nested : Design
nested = record {
  title = named (codes "e");
  libs =
      lib (codes "w") (
      leaf (codes "P") (scalar (codes "a") Inout ∷ [])
      ∷ body (codes "C") (scalar (codes "p") Inout ∷ []) (inst (codes "j") (id_of 0 0) [] ∷ inst (codes "k") (id_of 0 0) [] ∷ [])
      (net (codes "m") (own_port 0 ∷ on_port 0 0 ∷ []) ∷ net (codes "s") (on_port 1 0 ∷ []) ∷ [])
      ∷ body (codes "T") [] (inst (codes "i") (id_of 0 1) [] ∷ inst (codes "i_j") (id_of 0 0) [] ∷ []) (net (codes "X") (on_port 0 0 ∷ []) ∷ [])
      ∷ []
      )
      ∷ [];
  top = top (codes "T") (id_of 0 2) [];
  notes = [];
}

-- two libraries without a design
abbrev pub topless : Design
topless = record {
  title = named (codes "e");
  libs = lib (codes "w") (body (codes "T") [] [] [] ∷ []) ∷ lib (codes "z") (leaf (codes "Q") [] ∷ []) ∷ [];
  top = None;
  notes = [];
}

-- a path through one block gives one copy, also where the block is at one place only; then each block is at one place
pub record PathIsUnique : Type 0 where
  pub reply : (unique_along nested (codes "i" ∷ [])).reply ≡ Copies 1
  pub directory : directories (unique_along nested (codes "i" ∷ [])).design ≡ (codes "P" ∷ codes "C" ∷ codes "T" ∷ codes "C_u1" ∷ []) ∷ []
  pub nowhere : (unique_along nested (codes "i" ∷ codes "zz" ∷ [])).reply ≡ NoPath
  pub no_step : (unique_along nested []).reply ≡ NoPath
  pub through_leaf : (unique_along nested (codes "i" ∷ codes "j" ∷ [])).reply ≡ Copies 1
  pub again : (uniquified (unique_along nested (codes "i" ∷ [])).design).reply ≡ Copies 0
  pub no_top_on_path : (unique_along topless (codes "i" ∷ [])).reply ≡ NoTop
  pub no_top : (uniquified topless).reply ≡ NoTop
