-- Answers about worked designs.
use Rattle.std.specs.Prelude.{◌≡◌, [], ◌∷◌, true, Some, None}
use Rattle.flat_spec.specs.ExampleCounter.{counter}
use Rattle.flat_spec.specs.ExampleFeedthrough.{board}
use Rattle.flat_spec.specs.ExampleParts.{id_of}
use Rattle.flat_spec.specs.Paths.{at_path}
use Rattle.flat_spec.specs.declared.item.Item.TheVariants.{Pin}
use Rattle.erc_spec.specs.ExampleLevels.{levels}
use Rattle.ask_spec.specs.Roles.{drivers, loads}
use Rattle.ask_spec.specs.Nets.{first_of, is_same_net, net_of, pins_of}
use Rattle.ask_spec.specs.Places.{at}

-- of the board: the lamp in the socket, and nothing below it; the net at its pin; and the one pin of all four nets, whichever names them
pub record BoardIsAsked : Type 0 where
  pub lamp : at board (1 ∷ 0 ∷ []) ≡ Some (id_of 0 0)
  pub below : at board (1 ∷ 0 ∷ 0 ∷ []) ≡ None
  pub net : net_of board (1 ∷ 0 ∷ []) 0 0 ≡ Some (at_path [] 0)
  pub bridge : net_of board (0 ∷ []) 1 0 ≡ Some (at_path [] 0)
  pub same : is_same_net board (at_path [] 1) (at_path (0 ∷ []) 0) ≡ true
  pub first : pins_of board (at_path [] 0) ≡ Pin (1 ∷ 0 ∷ []) 0 0 (Some (at_path [] 0)) ∷ []
  pub inner : pins_of board (at_path (0 ∷ []) 0) ≡ Pin (1 ∷ 0 ∷ []) 0 0 (Some (at_path [] 0)) ∷ []
  pub none : pins_of board (at_path [] 2) ≡ []

-- of the counter: bit 1 of its output is driven by the register and loads the inverter and the top; bit 0 has no net
pub record CounterIsAsked : Type 0 where
  pub joined : net_of counter [] 1 1 ≡ Some (at_path [] 1)
  pub open_ : net_of counter [] 1 0 ≡ None
  pub driver : drivers counter (at_path [] 1) ≡ Pin (0 ∷ []) 0 0 (Some (at_path [] 1)) ∷ []
  pub load : loads counter (at_path [] 1) ≡ Pin [] 1 1 (Some (at_path [] 1)) ∷ Pin (1 ∷ []) 1 0 (Some (at_path [] 1)) ∷ []

-- of a net on two levels: both gates drive it, and it has one load
pub record LevelsAreAsked : Type 0 where
  pub inner : first_of levels (at_path (0 ∷ []) 1) ≡ at_path [] 0
  pub driver : drivers levels (at_path (0 ∷ []) 1) ≡ Pin (0 ∷ 0 ∷ []) 0 0 (Some (at_path [] 0)) ∷ Pin (1 ∷ []) 0 0 (Some (at_path [] 0)) ∷ []
  pub load : loads levels (at_path (0 ∷ []) 1) ≡ Pin (2 ∷ []) 0 0 (Some (at_path [] 0)) ∷ []
