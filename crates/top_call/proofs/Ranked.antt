-- The ranks of a map by levels: the one text of them, and what was ranked.
use Rattle.std.proofs.Common.{◌≡◌, ◌∙◌, ℕ, ℤ, pos, false, List, map, sym, ap, subst}
use Rattle.arc_map.specs.Arranged.{IsArranged}
use Rattle.arc_map.specs.Map.{Map}
use Rattle.pyramid.specs.Texts.{ranks_text}
use Rattle.pyramid.proofs.OneLevel.{ranks_are_one}
use Rattle.topo_reader.specs.Reads.{TopologyRead}
use Rattle.top_call.specs.declared.forms.Options.{Options}
use Rattle.top_call.specs.declared.status.Status.{Status}
use Rattle.top_call.specs.Maps.{AreHeldBeside, IsLoaded, IsRefused}
use Rattle.top_call.specs.Answers.{plain, IsRanksText, IsRanked}
use Rattle.top_call.proofs.OneTree.{text_has_one_topology}

-- ---- one answer

ranks_text_is_one : (m : Map) (bounds : List ℤ) (x y : List ℕ) → IsRanksText m bounds x → IsRanksText m bounds y → x ≡ y
ranks_text_is_one m bounds x y first second =
    first.written ∙ ap (ranks_text bounds) (ranks_are_one m bounds first.ranks second.ranks first.are_ranks second.are_ranks)
    ∙ sym second.written

pub ranked_is_one : (bounds text x y : List ℕ) → IsRanked bounds text x → IsRanked bounds text y → x ≡ y
ranked_is_one bounds text x y first second =
    let same = text_has_one_topology text first.topology second.topology first.loaded.topology second.loaded.topology in
    ranks_text_is_one first.topology.map (map pos bounds) x y first.is_text
    (subst (λ (t : TopologyRead). IsRanksText t.map (map pos bounds) y) (sym same) second.is_text)

-- ---- what was ranked

pub refused_plain : (options : Options) (text : List ℕ) (s : Status) → options ≡ plain → IsRefused options text s → IsRefused plain text s
refused_plain options text s is_plain why = subst (λ (o : Options). IsRefused o text s) is_plain why

-- a map that was loaded with no arcs to be held is arranged
pub loaded_is_arranged : (options : Options) (text : List ℕ) (t : TopologyRead) (held : List ℕ) (m : Map) → options ≡ plain
    → IsLoaded options text t held → m ≡ t.map → IsArranged m
loaded_is_arranged options text t held m is_plain loaded is_map =
    let beside : AreHeldBeside false t.map held = subst (λ (o : Options). AreHeldBeside o.hold t.map held) is_plain loaded.beside in
    subst IsArranged (sym is_map) beside.0

pub ranked_by : (options : Options) (numbers text : List ℕ) (t : TopologyRead) (held : List ℕ) (m : Map) (bounds : List ℤ) (bytes : List ℕ)
    → options ≡ plain → IsLoaded options text t held → m ≡ t.map → bounds ≡ map pos numbers → IsRanksText m bounds bytes
    → IsRanked numbers text bytes
ranked_by options numbers text t held m bounds bytes is_plain loaded is_map are is_text =
    let of_map = subst (λ (n : Map). IsRanksText n bounds bytes) is_map is_text in
    record {
      topology = t;
      held = held;
      loaded = subst (λ (o : Options). IsLoaded o text t held) is_plain loaded;
      is_text = subst (λ (bs : List ℤ). IsRanksText t.map bs bytes) are of_map;
    }
