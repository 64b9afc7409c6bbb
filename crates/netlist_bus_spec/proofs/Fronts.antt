-- The greatest run that begins with the first of some nets.
use Rattle.std.proofs.Common.{◌≡◌, ℕ, zero, suc, ◌≤◌, List, ◌∷◌, take, length, ap, sym, ◌∙◌, subst, ◌⊎◌, inl, inr, Option, Some, arith}
use Rattle.std.specs.Prelude.{slice_get}
use Rattle.std.proofs.lemmas.List.{length-take-le}
use Rattle.netlist_schema.specs.Types.{End, Net, Port}
use Rattle.netlist_bus_spec.specs.Members.{numbered}
use Rattle.netlist_bus_spec.specs.Runs.{BeginsRun, IsBitOf, IsRow, row_net, run_name, run_width}
use Rattle.netlist_bus_spec.proofs.Rows.{row_there, run_passes, some_same}
use Rattle.netlist_bus_spec.proofs.Told.{width_is_greatest}

-- The front of a list that is its greatest run, by the first net.
pub record Front (ports : Option ℕ → List Port) (n : Net) (ns : List Net) (w : ℕ) : Type 0 where
  pub long : w ≤ length (n ∷ ns)
  pub most : w ≤ 65536
  pub some_byte : 1 ≤ length (run_name n).id
  pub row : take w (n ∷ ns) ≡ numbered (row_net n) 0 w
  pub wide : (i : ℕ) (e : End) → slice_get n.ends i ≡ Some e → IsBitOf ports w e

front_of_row : (ports : Option ℕ → List Port) (n : Net) (ns : List Net) (w : ℕ) → 1 ≤ w → w ≤ length (n ∷ ns) → w ≤ 65536 → IsRow ports (take w (n ∷ ns)) → Front ports n ns w
front_of_row ports n ns zero least l m r = absurd (omega (arith, least))
front_of_row ports n ns (suc v) least l m r =
    let first : n ≡ r.first = some_same n r.first r.there in
    let count : length (take (suc v) (n ∷ ns)) ≡ suc v = length-take-le (suc v) (n ∷ ns) l in
    let P : Net → Type 0 = λ x. 1 ≤ length (run_name x).id in
    let Q : Net → Type 0 = λ x. take (suc v) (n ∷ ns) ≡ numbered (row_net x) 0 (length (take (suc v) (n ∷ ns))) in
    let R : Net → Type 0 = λ x. (i : ℕ) (e : End) → slice_get x.ends i ≡ Some e → IsBitOf ports (length (take (suc v) (n ∷ ns))) e in
    let S : ℕ → Type 0 = λ k. (i : ℕ) (e : End) → slice_get n.ends i ≡ Some e → IsBitOf ports k e in
    record {
      long = l;
      most = m;
      some_byte = subst P (sym first) r.some_byte;
      row = subst Q (sym first) r.row ∙ ap (numbered (row_net n) 0) count;
      wide = subst S count (subst R (sym first) r.wide);
    }

pub front_there : (ports : Option ℕ → List Port) (n : Net) (ns : List Net) (w : ℕ) → run_width ports (n ∷ ns) ≡ w → 2 ≤ w → Front ports n ns w
front_there ports n ns w e l =
    let g = width_is_greatest ports (n ∷ ns) in
    let P : ℕ → Type 0 = λ v. (v ≡ 1) ⊎ BeginsRun ports (n ∷ ns) v in
    by (subst P e g.begins)
  where
    by : (w ≡ 1) ⊎ BeginsRun ports (n ∷ ns) w → Front ports n ns w
    by (inl f) = absurd (omega (arith, l, f))
    by (inr b) =
        let count : length (take w (n ∷ ns)) ≡ w = length-take-le w (n ∷ ns) b.0 in
        let m = b.1.most in
        front_of_row ports n ns w (omega (arith, l)) b.0 (omega (arith, m, count)) (row_there ports (take w (n ∷ ns)) (run_passes ports (take w (n ∷ ns)) b.1))
