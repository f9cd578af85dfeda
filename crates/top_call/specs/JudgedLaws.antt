-- What the verdict Yes on a certificate says of the map that was judged, and what `yes` of `check` says of OUT.
use Rattle.std.specs.Prelude.{◌≡◌, ℕ, ℤ, List, [], ◌∷◌, length}
use Rattle.grid_exact.specs.Geometry.{Place}
use Rattle.arc_map.specs.Arcs.{map_now}
use Rattle.arc_map.specs.Arranged.{IsMapArranged}
use Rattle.arc_map.specs.Chains.{Chain, chain_at}
use Rattle.arc_map.specs.Map.{Map}
use Rattle.arc_map.specs.Records.{Record}
use Rattle.arc_map.specs.Work.{AreChainsIn, work_of}
use Rattle.arc_map.specs.declared.refs.ChainRef.{ChainRef}
use Rattle.cert_format.specs.Certificate.{Content}
use Rattle.chain_replace.specs.Laws.{KeepsFaces}
use Rattle.chain_replace.specs.Run.{Terms}
use Rattle.chain_replace.specs.Thinned.{ThinsArcs}
use Rattle.cert_checker.specs.Judged.{Demand, demand, AllowedIn, IsJudged, free_numbers, replaced}
use Rattle.cert_checker.specs.Laws.{KeepsFewest}
use Rattle.cert_checker.specs.declared.verdicts.Verdict.TheVariants.{Yes}
use Rattle.topo_reader.specs.Reads.{TopologyRead}
use Rattle.top_call.specs.declared.forms.Options.{Options}
use Rattle.top_call.specs.Maps.{IsLoaded, scales_of}
use Rattle.top_call.specs.Answers.{IsChecked, IsTextOf, terms_of, text_with, version_of}
use Rattle.top_call.specs.Reading.{Read}

-- the records are of the chains with these numbers, and each keeps a path of allowed pairs of its chain with fewest vertices, in the map as
-- the records before it have left it
abbrev pub EachKeepsFewest : Demand → List Place → List Chain → List ℕ → List Record → Type 0
EachKeepsFewest d points chains numbers [] = Unit {0}
EachKeepsFewest d points chains [] (r ∷ rs) = ⊥
EachKeepsFewest d points chains (k ∷ ks) (r ∷ rs) =
    KeepsFewest (AllowedIn d points chains k) (length (chain_at chains k).rest) r × EachKeepsFewest d points (replaced chains k r) ks rs

-- Where a certificate is judged Yes, each of its records keeps a path of allowed pairs of its chain in the map as found, and no such path
-- has fewer vertices.
abbrev pub YesKeepsFewest : Type 0
YesKeepsFewest = (d : Demand) (held : List ℕ) (m : Map) (refs : List ChainRef) (c : Content) (after : List Chain)
    → IsJudged d held (work_of m refs) c Yes after → EachKeepsFewest d m.points (work_of m refs).chains (free_numbers held refs) c.entries

-- Where a certificate for a map that is arranged beside its held arcs is judged Yes, the judged map is arranged beside them, and its faces
-- stay.
abbrev pub YesKeepsFaces : Type 0
YesKeepsFaces = (d : Demand) (held : List ℕ) (m : Map) (refs : List ChainRef) (c : Content) (after : List Chain)
    → AreChainsIn m refs → IsMapArranged held m → IsJudged d held (work_of m refs) c Yes after → KeepsFaces held m (map_now m after)

-- the bound, the weights and the held arcs
abbrev pub terms_by : Demand → List ℕ → Terms
terms_by d held = record { held = held; bound = d.bound; weights = d.weights }

-- Where a certificate is judged Yes, the judged map has of each arc some places left, the first and the last and both ends of each of its
-- chains among them, and each place that is skipped is near the edge that skips it; a held arc is unchanged, and so is all else.
abbrev pub YesThinsArcs : Type 0
YesThinsArcs = (d : Demand) (held : List ℕ) (m : Map) (refs : List ChainRef) (c : Content) (after : List Chain)
    → AreChainsIn m refs → IsJudged d held (work_of m refs) c Yes after → ThinsArcs (terms_by d held) m refs (map_now m after)

-- OUT is FILE with the arcs of another map, CERT is a certificate of it, and what the two have in common
pub record AreRight (options : Options) (bound : ℤ) (read : Read) : Type 0 where
  pub topology : TopologyRead
  pub held : List ℕ
  pub loaded : IsLoaded options read.file topology held
  pub after : Map
  pub written : text_with read.file topology after ≡ read.out
  pub refs : List ChainRef
  pub chains : AreChainsIn topology.map refs
  -- the arcs are thinned within the bound, and all else is as it was
  pub thins : ThinsArcs (terms_of options bound held) topology.map refs after
  -- the map is arranged beside the held arcs, and its faces stay
  pub faces : KeepsFaces held topology.map after
  -- and each chain has fewest vertices in the map as it was found
  pub content : Content
  pub is_content : IsTextOf read.cert content
  pub fewest : EachKeepsFewest (demand (version_of options) bound (scales_of options.weights)) topology.map.points
      (work_of topology.map refs).chains (free_numbers held refs) content.entries

-- Where the verdict of `check` is Yes, OUT and CERT are right for FILE.
abbrev pub CheckedYesAreRight : Type 0
CheckedYesAreRight = (options : Options) (bound : ℤ) (read : Read) → IsChecked options bound read Yes → AreRight options bound read
