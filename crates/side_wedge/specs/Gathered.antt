-- The strays among items.
use Rattle.std.specs.Prelude.{◌⊎◌, ◌<◌, ℕ, Bool, List, Contains}
use Rattle.grid_exact.specs.Geometry.{Place}
use Rattle.grid_exact.specs.declared.frame.Frame.{Frame}
use Rattle.lane_kernels.specs.declared.side.Hand.{Hand}
use Rattle.sweep_index.specs.declared.index.Item.{Item}
use Rattle.arc_map.specs.Work.{Work}
use Rattle.map_index.specs.Items.{Owns}
use Rattle.chain_reach.specs.Steps.{IsNearEdge, IsNearSomeEdge}
use Rattle.chain_reach.specs.Parts.{IsInPart}
use Rattle.chain_reach.specs.declared.steps.Steps.{Steps}
use Rattle.side_wedge.specs.Flanks.{IsBeyond}
use Rattle.side_wedge.specs.Strays.{RunsAlong, IsStrayItem, IsStrayOf, stray}
use Rattle.side_wedge.specs.declared.strays.Stray.{Stray}

-- some item of the list is this stray
pub record IsFrom (frame : Frame) (rising : Bool) (chain : List Place) (k : ℕ) (found : List (ℕ × Item)) (x : Stray) : Type 0 where
  pub number : ℕ
  pub item : Item
  pub found_item : Contains found (number, item)
  pub is : IsStrayOf frame rising chain k item x

-- these are the strays of before, and strays among the items: each at least that is near an edge of the part
pub record AreStraysOf (frame : Frame) (rising : Bool) (chain : List Place) (k : ℕ) (steps : Steps) (part : List Place) (before :
    List Stray) (found : List (ℕ × Item)) (strays : List Stray) : Type 0 where
  pub only : (x : Stray) → Contains strays x → Contains before x ⊎ IsFrom frame rising chain k found x
  pub kept : (x : Stray) → Contains before x → Contains strays x
  pub all : (number : ℕ) (item : Item) (s : ℕ) (hand : Hand) → Contains found (number, item) → RunsAlong frame rising chain
      → IsStrayItem frame rising chain k item s hand → IsNearSomeEdge steps part item.at → Contains strays (stray s hand item.at)

-- some item of the map is this stray
pub record IsMapStray (frame : Frame) (rising : Bool) (chain : List Place) (k : ℕ) (w : Work) (x : Stray) : Type 0 where
  pub item : Item
  pub owned : Owns w.chains w.read.points item.owner item.at
  pub is : IsStrayOf frame rising chain k item x

-- these are strays among the items of the map: each at least that is near an edge before the edge number `upto`, and not beyond the
-- chain
pub record AreStraysTo (frame : Frame) (rising : Bool) (chain : List Place) (k : ℕ) (steps : Steps) (w : Work) (upto : ℕ) (strays :
    List Stray) : Type 0 where
  pub only : (x : Stray) → Contains strays x → IsMapStray frame rising chain k w x
  pub all : (edge : ℕ) (item : Item) (s : ℕ) (hand : Hand) → edge < upto → Owns w.chains w.read.points item.owner item.at
      → RunsAlong frame rising chain → IsStrayItem frame rising chain k item s hand → IsNearEdge steps chain item.at edge
      → Contains strays (stray s hand item.at) ⊎ IsBeyond chain item.at

-- these are strays among the items of the map: each at least that is near an edge before the edge number `edge`, or near this one at a
-- place of its first `count` of so many equal parts, and not beyond the chain
pub record AreStraysInParts (frame : Frame) (rising : Bool) (chain : List Place) (k : ℕ) (steps : Steps) (w : Work) (edge parts count :
    ℕ) (strays : List Stray) : Type 0 where
  pub before : AreStraysTo frame rising chain k steps w edge strays
  pub all : (part : ℕ) (item : Item) (s : ℕ) (hand : Hand) → part < count → Owns w.chains w.read.points item.owner item.at
      → RunsAlong frame rising chain → IsStrayItem frame rising chain k item s hand → (near : IsNearEdge steps chain item.at edge)
      → IsInPart near.denominator near.numerator parts part → Contains strays (stray s hand item.at) ⊎ IsBeyond chain item.at

-- these are strays among the items of the map: each at least that is near an edge, and not beyond the chain
pub record AreMapStrays (frame : Frame) (rising : Bool) (chain : List Place) (k : ℕ) (steps : Steps) (w : Work) (strays : List Stray) :
    Type 0 where
  pub only : (x : Stray) → Contains strays x → IsMapStray frame rising chain k w x
  pub all : (item : Item) (s : ℕ) (hand : Hand) → Owns w.chains w.read.points item.owner item.at → RunsAlong frame rising chain
      → IsStrayItem frame rising chain k item s hand → IsNearSomeEdge steps chain item.at
      → Contains strays (stray s hand item.at) ⊎ IsBeyond chain item.at
