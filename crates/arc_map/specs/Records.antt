-- What a run records of its chains.
use Rattle.std.specs.Prelude.{◌-◌, ◌≤◌, ℕ, List, [], ◌∷◌, ◌++◌, length}

-- the record of a chain: its arc, its first position there, the places of the kept vertices in the
-- chain, and for each vertex the least number of allowed steps to the last
pub record Record : Type 0 where
  pub arc : ℕ
  pub «from» : ℕ
  pub kept : List ℕ
  pub layers : List ℕ

-- the records so far, and for how many more there is room: records, kept places in sum, layers in sum
pub record Records : Type 0 where
  pub entries : List Record
  pub room : ℕ
  pub kept_room : ℕ
  pub layers_room : ℕ

-- there is room for this record
pub record Fits (records : Records) (r : Record) : Type 0 where
  pub entry : 1 ≤ records.room
  pub kept : length r.kept ≤ records.kept_room
  pub layers : length r.layers ≤ records.layers_room

-- the records with this one at the end, and the room that is then left
abbrev pub pushed : Records → Record → Records
pushed records r = record {
  entries = records.entries ++ r ∷ [];
  room = records.room - 1;
  kept_room = records.kept_room - length r.kept;
  layers_room = records.layers_room - length r.layers;
}
