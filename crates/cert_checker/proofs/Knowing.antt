-- What is known of the map of a judge, at the start and after a chain is thinned.
use Rattle.std.proofs.Common.{◌-◌, ◌<◌, ◌≤◌, ℕ, ℤ, List, length, drop, map, arith}
use Rattle.std.specs.Prelude.{Contains, slice_index}
use Rattle.arc_map.specs.Arranged.{IsMapArranged}
use Rattle.arc_map.specs.Chains.{Chain, IsWithinBound, chain_at}
use Rattle.arc_map.specs.Map.{Map}
use Rattle.arc_map.specs.Paths.{IsAllowedPair}
use Rattle.arc_map.specs.Records.{Record}
use Rattle.arc_map.specs.Work.{AreChainsIn, AreKeptIn, Work, chain_in, thinned_work, work_of}
use Rattle.arc_map.specs.declared.refs.ChainRef.{ChainRef}
use Rattle.arc_map.proofs.Rising.{rising_order}
use Rattle.monotone_split.proofs.Cuts.{chains_cut_map}
use Rattle.monotone_split.proofs.Named.{arranged_by_names}
use Rattle.monotone_split.proofs.Numbers.{path_by_numbers_keeps_map}
use Rattle.cert_checker.specs.Judged.{IsAccepted}
use Rattle.cert_checker.specs.Judging.{IsKnown}
use Rattle.cert_checker.proofs.Accepting.{leads_from, path_from}

pub known_new : (held : List ℕ) (m : Map) (refs : List ChainRef) → AreChainsIn m refs → IsMapArranged held m → IsKnown held (work_of m refs)
known_new held m refs are arranged =
    let cut = chains_cut_map m (map (chain_in m) refs) are.cut in
    record { lie = are; chains = cut.are_chains; arranged = (cut.arranged held).0 ((arranged_by_names held m).0 arranged) }

-- a fresh map is arranged by the names of its edges
pub arranged_of : (held : List ℕ) (m : Map) (refs : List ChainRef) → IsKnown held (work_of m refs) → IsMapArranged held m
arranged_of held m refs known =
    let cut = chains_cut_map m (map (chain_in m) refs) known.lie.cut in
    (arranged_by_names held m).1 ((cut.arranged held).1 known.arranged)

pub known_thinned : (wx wy bound : ℤ) (held : List ℕ) (w : Work) (k : ℕ) (r : Record) → IsKnown held w → k < length w.chains
    → ¬ (Contains held (chain_at w.chains k).first.arc)
    → IsAccepted (IsAllowedPair (IsWithinBound wx wy bound) w.chains w.read.points k) (chain_at w.chains k) r
    → IsKnown held (thinned_work w k r.kept)
known_thinned wx wy bound held w k r known within free accepted =
    let Pair = IsAllowedPair (IsWithinBound wx wy bound) w.chains w.read.points k in
    let c = chain_at w.chains k in
    let leads = leads_from Pair (length c.rest) r.kept (path_from Pair c r.kept accepted.kept accepted.steps) in
    let keeps = path_by_numbers_keeps_map wx wy bound w.chains w.read.points k (drop 1 r.kept) within known.chains (known.arranged k free)
    leads in
    record { lie = known.lie; chains = keeps.chains_stay; arranged = keeps.arranged held known.arranged }

-- kept places are places of the chain
pub kept_within : (c : Chain) (kept : List ℕ) (s : ℕ) → AreKeptIn c kept → s < length kept → slice_index kept s ≤ length c.rest
kept_within c kept s h within = omega (arith, h.last, rising_order kept h.rising s (length kept - 1) (omega arith) (omega arith))
