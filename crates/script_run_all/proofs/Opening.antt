-- The passes of a new database, and the scripts that they are for.
use Rattle.std.proofs.Common.{◌≡◌, ◌<◌, ℕ, zero, suc, List, [], ◌∷◌, inl, inr, length, get_or, ap, sym, ◌∙◌, subst, refl}
use Rattle.std.specs.List.{All}
use Rattle.std.proofs.lemmas.List.{get_or-map}
use Rattle.netlist_schema.specs.Design.{Design}
use Rattle.script_run.specs.declared.run.Transcript.{Transcript}
use Rattle.script_spec.specs.Headline.{CanWalk, HasWalk, Ran, SomeWalks}
use Rattle.script_spec.specs.ScriptText.{Parts, steps_of}
use Rattle.script_spec.specs.declared.script.Step.{Step}
use Rattle.turn_cell.proofs.Rows.{got_at}
use Rattle.db_share.specs.Passes.{Shared, Pass, IsReady, new_pass}
use Rattle.db_share.specs.Calls.{GoesOn, Opens}
use Rattle.script_run_spec.specs.Scripts.{all_steps}
use Rattle.script_run_all.specs.Workers.{IsDone, IsFresh}

-- the steps of the script at a place
pub steps_at : (scripts : List Parts) (k : ℕ) (script : Parts) → k < length scripts → script ≡ get_or scripts k script → get_or (all_steps scripts) k [] ≡ steps_of script.lines
steps_at scripts k script less is = get_or-map (λ (s : Parts). steps_of s.lines) scripts k script [] less ∙ ap (λ (s : Parts). steps_of s.lines) (sym is)

-- a script that walks is one of those that do
walks_there : (scripts : List (List Step)) (k : ℕ) → HasWalk (get_or scripts k []) → SomeWalks scripts
walks_there [] k h = absurd h
walks_there (steps ∷ scripts) zero h = inl h
walks_there (steps ∷ scripts) (suc k) h = inr (walks_there scripts k h)

-- no script walks where none can
pub one_walks : (d : Design) (scripts : List (List Step)) (k : ℕ) (steps : List Step) → get_or scripts k [] ≡ steps → CanWalk d scripts → CanWalk d (steps ∷ [])
one_walks d scripts k steps is can (inl h) none = can (walks_there scripts k (subst HasWalk (sym is) h)) none
one_walks d scripts k steps is can (inr h) none = absurd h

-- the pass of a number, before its first call
new_at : (d : Design) (count : ℕ) (db : Shared) (passes : List Pass) (k : ℕ) (p : Pass) → Opens d count db passes → k < length passes → get_or passes k p ≡ new_pass db k
new_at d count db passes k p opens less = got_at passes k (new_pass db k) p (opens.each k (subst (λ (n : ℕ). k < n) opens.many less))

pub fresh : (d : Design) (scripts : List Parts) (db : Shared) (passes : List Pass) → Opens d (length scripts) db passes → CanWalk d (all_steps scripts) → All (IsFresh db scripts) passes
fresh d scripts db passes opens can k p less =
    let at = new_at d (length scripts) db passes k p opens less in
    subst (IsFresh db scripts) (sym at)
    record {
      ready = subst (IsReady db) at (opens.ready k p less);
      unused = refl;
      one = subst (λ (n : ℕ). k < n) opens.many less;
      walks = subst (λ (e : Design). CanWalk e (all_steps scripts)) (sym opens.base) can;
    }

pub numbered : (d : Design) (count : ℕ) (db : Shared) (passes : List Pass) → Opens d count db passes → (k : ℕ) (p : Pass) → k < length passes → (get_or passes k p).number ≡ k
numbered d count db passes opens k p less = ap (λ (x : Pass). x.number) (new_at d count db passes k p opens less)

-- the script of the pass's number was run
pub own_done : (db : Shared) (scripts : List Parts) (old new : Pass) (script : Parts) (k : ℕ) (t : Transcript) → GoesOn db old new → k ≡ old.number → k < length scripts → script ≡ get_or scripts k script
    → Ran db.base new.seen new.number (steps_of script.lines) t.text t.log_full → IsDone db (all_steps scripts) old.number (record { pass = new; transcript = t })
own_done db scripts old new script k t on same less is ran =
    let at = subst (λ (steps : List Step). Ran db.base new.seen new.number steps t.text t.log_full) (sym (steps_at scripts k script less is)) ran in
    let mine = subst (λ (n : ℕ). Ran db.base new.seen n (get_or (all_steps scripts) k []) t.text t.log_full) on.number at in record {
      ready = on.ready;
      mine = on.number;
      ran = subst (λ (j : ℕ). Ran db.base new.seen old.number (get_or (all_steps scripts) j []) t.text t.log_full) same mine;
    }
