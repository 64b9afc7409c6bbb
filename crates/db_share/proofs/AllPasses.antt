-- All passes of a database, when all callers are done.
use Rattle.std.proofs.Common.{◌≡◌, ◌<◌, ℕ, List, All, length, get_or, ap, sym, ◌∙◌, subst}
use Rattle.netlist_schema.specs.Design.{Design}
use Rattle.turn_cell.specs.Seats.{HasEachSeat}
use Rattle.turn_cell.proofs.Rows.{got_at, has_each}
use Rattle.db_share.specs.Passes.{Shared, Pass, IsReady, new_pass}
use Rattle.db_share.specs.Calls.{Opens, Stays}

-- each pass is that of its place, after its calls
abbrev pub EachStays : Shared → List Pass → List Pass → Type 0
EachStays db old new = (k : ℕ) (d : Pass) → k < length old → Stays db (get_or old k d) (get_or new k d)

pub all_ready : (db : Shared) (old new : List Pass) → length new ≡ length old → EachStays db old new → All (IsReady db) new
all_ready db old new many each k d less = (each k d (subst (λ (n : ℕ). k < n) many less)).0

pub each_seat : (design : Design) (callers : ℕ) (db : Shared) (old new : List Pass) → Opens design callers db old → length new ≡ length old → EachStays db old new → HasEachSeat db.seats new
each_seat design callers db old new opens many each = has_each new db.seats (
  many ∙ opens.many ∙ sym opens.seats,
  λ k d less.
      let below : k < callers = subst (λ (n : ℕ). k < n) opens.seats less in
      (each k d (subst (λ (n : ℕ). k < n) (sym opens.many) below)).1 ∙ ap (λ (p : Pass). p.number) (got_at old k (new_pass db k) d (opens.each k below)),
)
