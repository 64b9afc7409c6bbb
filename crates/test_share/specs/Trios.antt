-- The callers of a database of three.
use Rattle.std.specs.Prelude.{◌≡◌, ℕ}
use Rattle.db_share.specs.Passes.{Shared, IsReady}
use Rattle.test_share.specs.Callers.{HasOpen}
use Rattle.test_share.specs.declared.callers.Caller.{Caller}
use Rattle.test_share.specs.declared.callers.Trio.{Trio}

-- the caller of this number is ready for its next call
pub record CanGo (db : Shared) (number : ℕ) (caller : Caller) : Type 0 where
  pub ready : IsReady db caller.pass
  pub number_is : caller.pass.number ≡ number
  pub held : HasOpen db caller.pass caller.tx

-- all callers are
pub record AreReady (db : Shared) (trio : Trio) : Type 0 where
  pub seats : db.seats ≡ 3
  pub first : CanGo db 0 trio.first
  pub second : CanGo db 1 trio.second
  pub idle : CanGo db 2 trio.idle
