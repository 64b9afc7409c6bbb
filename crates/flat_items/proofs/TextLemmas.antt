-- The texts of the paths along which a walk stands.
use Rattle.std.proofs.Common.{◌≡◌, ◌<◌, ◌≤◌, ◌+◌, ℕ, zero, suc, List, [], ◌∷◌, ◌++◌, length, take, drop, refl, sym, ap, subst, ◌∙◌, arith, append_assoc, append-nil, Option, Some, None, slice_get}
use Rattle.std.specs.Prelude.{IfSome, option_and_then}
use Rattle.std.specs.Option.{option_map, option_map_or}
use Rattle.std.proofs.lemmas.List.{length-append, length-take-le, take-append-le, take_all}
use Rattle.std.proofs.lemmas.Option.{none-some, same_Some}
use Rattle.netlist_schema.specs.Design.{Design}
use Rattle.netlist_schema.specs.Types.{CellId, Net as NetOf, Port, TopHead}
use Rattle.netlist_schema.specs.Valid.{IsValid}
use Rattle.flat_spec.specs.Effective.{effective}
use Rattle.flat_spec.specs.Flattening.{net_item, pin_item}
use Rattle.flat_spec.specs.Occurrences.{Occurrence}
use Rattle.flat_spec.specs.Paths.{Bit, at_path, cell_along, cell_below_top, net_of, nets_at, port_of_cell}
use Rattle.flat_lines_spec.specs.Lines.{net_text, port_text}
use Rattle.flat_spec.specs.Pins.{net_at_pin}
use Rattle.flat_spec.specs.Representatives.{representative}
use Rattle.path_texts.specs.Texts.{steps_text}
use Rattle.path_texts.specs.declared.text.PathText.{PathText}
use Rattle.path_texts.proofs.StepLemmas.{cell_from, front_fits, front_text}
use Rattle.flat_items.specs.Left.{enter_item, own_left, pins_of}
use Rattle.flat_items.specs.Lent.{properties_of}
use Rattle.flat_items.specs.Ports.{IsPinAt, ports_shown}
use Rattle.flat_items.specs.Stand.{AreAbove, IsFrame, MayStand, Stand, top_of}
use Rattle.flat_items.specs.Texts.{IsFirstText, IsFront, IsNetText, IsPathText, IsTextAhead, net_in, port_in}
use Rattle.flat_items.specs.declared.lent.NetRef.{NetRef}
use Rattle.flat_items.specs.declared.lent.PropertiesRef.{PropertiesRef}
use Rattle.flat_items.specs.declared.place.Frame.{Frame}
use Rattle.flat_items.specs.declared.place.PinAt.{PinAt}
use Rattle.flat_items.specs.declared.place.Stage.TheVariants.{Whole, Nets, Pins}
use Rattle.flat_items.specs.declared.texts.ItemText.TheVariants.{Enter, Net, Pin}
use Rattle.flat_items.specs.declared.texts.NetText.{NetText}
use Rattle.flat_items.proofs.StageLemmas.{net_opens, opened_ahead, pin_opens}

-- fronts of steps
pub front_taken : (xs : List ℕ) (n : ℕ) → n ≤ length xs → IsFront xs (take n xs)
front_taken xs n fits =
    let long : length (take n xs) ≡ n = length-take-le n xs fits in
    (omega (arith, long, fits), ap (λ k. take k xs) long)

pub front_longer : (xs ys front : List ℕ) → IsFront xs front → IsFront (xs ++ ys) front
front_longer xs ys front is = (omega (arith, is.0, length-append xs ys), take-append-le (length front) xs ys is.0 ∙ is.1)

-- that of a net, where there is one
abbrev HasFront : List ℕ → Option NetRef → Type 0
HasFront steps first = IfSome first (λ net. IsFront steps net.path.now)

pub first_below : (path parent : List ℕ) (step : ℕ) → path ≡ parent ++ step ∷ [] → (first : Option NetRef) → HasFront parent first → HasFront path first
first_below path parent step is None front = front
first_below path parent step is (Some net) front = subst (λ p. IsFront p net.path.now) (sym is) (front_longer parent (step ∷ []) net.path.now front)

pub first_of_top : (path : List ℕ) → path ≡ [] → (first : Option NetRef) → HasFront [] first → HasFront path first
first_of_top path is first front = subst (λ p. HasFront p first) (sym is) front

-- as many frames are above as there are steps
above_long : (d : Design) (start path : List ℕ) (above : List Frame) → AreAbove d start path above → length above ≡ length path
above_long d start [] [] h = refl
above_long d start [] (f ∷ above) h = absurd h
above_long d start (i ∷ path) [] h = absurd h
above_long d start (i ∷ path) (f ∷ above) h = ap suc (above_long d (start ++ i ∷ []) path above h.1)

frame_behind : (d : Design) (start path : List ℕ) (above : List Frame) (count : ℕ) (f : Frame) → AreAbove d start path above → slice_get above count ≡ Some f
    → IsFrame d (start ++ take count path) f
frame_behind d start [] [] count f h is = absurd (none-some f is)
frame_behind d start [] (g ∷ above) count f h is = absurd h
frame_behind d start (i ∷ path) [] count f h is = absurd h
frame_behind d start (i ∷ path) (g ∷ above) zero f h is =
    subst (λ v. IsFrame d v f) (sym (append-nil start)) (subst (IsFrame d start) (same_Some g f is) h.0)
frame_behind d start (i ∷ path) (g ∷ above) (suc count) f h is =
    subst (λ v. IsFrame d v f) (append_assoc start (i ∷ []) (take count path)) (frame_behind d (start ++ i ∷ []) path above count f h.1 is)

none_within : {A : Type 0} (xs : List A) (n : ℕ) → slice_get xs n ≡ None → length xs ≤ n
none_within [] n none = omega arith
none_within (x ∷ xs) zero none = absurd (none-some x (sym none))
none_within (x ∷ xs) (suc n) none = omega (arith, none_within xs n none)

-- the frame behind so many steps: one of those above, or behind all steps that of the occurrence itself
module _ (d : Design) (s : Stand) (stands : MayStand d s) (count : ℕ) where
  pub frame_above : (f : Frame) → slice_get s.above count ≡ Some f → IsFrame d (take count s.path) f
  frame_above f is = frame_behind d [] s.path s.above count f stands.above is

  pub frame_here : count ≤ length s.path → slice_get s.above count ≡ None → IsFrame d (take count s.path) s.here
  frame_here fits none =
      let past = none_within s.above count none in
      let long = above_long d [] s.path s.above stands.above in
      subst (λ v. IsFrame d v s.here) (sym (take_all count s.path (omega (arith, past, long)))) stands.here

  -- its text is a front of the text
  pub end_fits : (f : Frame) → IsFrame d (take count s.path) f → f.end ≤ length s.text
  end_fits f frame = omega (arith, frame.end_is, ap length stands.text_is, front_fits d (top_of d).cell s.path count)

  pub front_is : (f : Frame) (text : List ℕ) → IsFrame d (take count s.path) f → text ≡ take f.end s.text → text ≡ steps_text d (top_of d).cell (take count s.path)
  front_is f text frame is =
      is
      ∙ ap (λ n. take n s.text) frame.end_is
      ∙ ap (take (length (steps_text d (top_of d).cell (take count s.path)))) stands.text_is
      ∙ front_text d (top_of d).cell s.path count

pub top_cell_is : (d : Design) → d.top ≡ Some (top_of d) → option_map (λ (t : TopHead). t.cell) d.top ≡ Some (top_of d).cell
top_cell_is d top = ap (option_map (λ (t : TopHead). t.cell)) top

pub cell_is_below : (d : Design) → d.top ≡ Some (top_of d) → (path : List ℕ) (f : Frame) → IsFrame d path f → cell_below_top d path ≡ Some f.cell
cell_is_below d top path f frame = cell_from d path (top_of d).cell f.cell d.top (top_cell_is d top) frame.reached

-- identifiers by the cell of an occurrence
pub port_named_at : (d : Design) (path : List ℕ) (port : ℕ) (c : CellId) → cell_below_top d path ≡ Some c → port_in d c port ≡ port_text d path port
port_named_at d path port c at = ap (λ o. option_map_or (λ (p : Port). p.name.id) (port_of_cell d o port) []) (sym at)

abbrev net_named_in : Design → ℕ → Option CellId → List ℕ
net_named_in d net cell = option_map_or (λ (n : NetOf). n.name.id) (option_and_then (λ id. slice_get (nets_at d id) net) cell) []

net_named_below : (d : Design) (path : List ℕ) (net : ℕ) → net_named_in d net (cell_below_top d path) ≡ net_text d (at_path path net)
net_named_below d path net = go d.top
  where
    go : (o : Option TopHead) → net_named_in d net (option_and_then (λ (t : TopHead). cell_along d t.cell path) o)
        ≡ option_map_or (λ (n : NetOf). n.name.id) (option_and_then (λ (t : TopHead). net_of d t.cell (at_path path net)) o) []
    go None = refl
    go (Some t) = refl

pub net_named_at : (d : Design) (path : List ℕ) (net : ℕ) (c : CellId) → cell_below_top d path ≡ Some c → net_in d c net ≡ net_text d (at_path path net)
net_named_at d path net c at = ap (net_named_in d net) (sym at) ∙ net_named_below d path net

-- the occurrence, a net and a pin, as the first of the items that are left
pub enter_told : (d : Design) (o : Occurrence) (at : PathText) (shown : PropertiesRef) → IsPathText d o.path at → at.cell ≡ o.cell
    → properties_of shown ≡ effective d (top_of d) o.path → IsTextAhead d o Whole (Some (Enter at shown))
enter_told d o at shown path cell properties = record { item = enter_item d o; more = refl; first = refl; shown = (path, cell, properties) }

pub net_told : (d : Design) (o : Occurrence) (n : ℕ) (at : PathText) (first : NetText) → n < length (nets_at d o.cell) → IsPathText d o.path at
    → IsNetText d (representative d (top_of d).cell (at_path o.path n)) first → IsTextAhead d o (Nets n) (Some (Net at n first))
net_told d o n at first less path named =
    let item = net_item d (top_of d).cell (at_path o.path n) in
    record {
      item = item;
      more = refl;
      first = opened_ahead (own_left d o (Nets n)) (own_left d o (Nets (n + 1))) item item (net_opens d o n less) refl;
      shown = (path, refl, named);
    }

pub pin_told : (d : Design) → IsValid d → (o : Occurrence) (p : PinAt) (port : Port) (at : PathText) (first : Option NetText)
    → slice_get (ports_shown d o) p.port ≡ Some port → IsPinAt (ports_shown d o) p → IsPathText d o.path at
    → IsFirstText d (option_map (representative d (top_of d).cell) (net_at_pin d (top_of d).cell o.path (record { port = p.port; bit = p.bit }))) first
    → IsTextAhead d o (Pins p) (Some (Pin at p.port p.bit first))
pin_told d valid o p port at first there is path named =
    let b : Bit = record { port = p.port; bit = p.bit } in
    let item = pin_item d (top_of d).cell o.path b in
    record {
      item = item;
      more = refl;
      first = opened_ahead (own_left d o (Pins p)) (drop (p.number + 1) (pins_of d o)) item item (pin_opens d valid o p port there is) refl;
      shown = (path, refl, refl, named);
    }
