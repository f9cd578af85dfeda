-- How records lie in memory: the kept places and the layers of all of them each in one list.
use Rattle.std.specs.Prelude.{◌+◌, ◌≤◌, ◌^◌, ℕ, List, length, map, All, slice_range, vec_len, vec_capacity}
use Rattle.arc_map.specs.declared.records.Entry.{Entry}
use Rattle.arc_map.specs.declared.records.RunRecords.TheInside.{Inside}
use Rattle.arc_map.specs.Records.{Record, Records}

abbrev pub record_at : List ℕ → List ℕ → Entry → Record
record_at kept layers e = record {
  arc = e.arc;
  «from» = e.«from»;
  kept = slice_range kept e.kept_start e.kept_end;
  layers = slice_range layers e.layers_start e.layers_end;
}

abbrev pub records_of : Inside → Records
records_of a = record {
  entries = map (record_at a.kept.items a.layers.items) a.entries.items;
  room = a.room;
  kept_room = a.kept_room;
  layers_room = a.layers_room;
}

-- the entry's parts lie in the lists
pub record LiesIn (kept layers : List ℕ) (e : Entry) : Type 0 where
  pub kept_order : e.kept_start ≤ e.kept_end
  pub kept_within : e.kept_end ≤ length kept
  pub layers_order : e.layers_start ≤ e.layers_end
  pub layers_within : e.layers_end ≤ length layers

-- each entry's parts lie in the lists, and the room that is left was taken
pub record AreFlat (a : Inside) : Type 0 where
  pub parts : All (LiesIn a.kept.items a.layers.items) a.entries.items
  pub few : vec_len a.entries + a.room ≤ 2 ^ 20
  pub entries_taken : vec_len a.entries + a.room ≤ vec_capacity a.entries
  pub kept_taken : vec_len a.kept + a.kept_room ≤ vec_capacity a.kept
  pub layers_taken : vec_len a.layers + a.layers_room ≤ vec_capacity a.layers
