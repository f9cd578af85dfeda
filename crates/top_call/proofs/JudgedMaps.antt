-- The verdict Yes is of accepted records alone, which keep fewest vertices and thin the chains within the bound.
use Rattle.std.proofs.Common.{◌≡◌, ◌∙◌, ◌+◌, ℕ, List, [], ◌∷◌, inl, inr, drop, length, map, ap, sym, length-set}
use Rattle.grid_exact.specs.Geometry.{Place}
use Rattle.arc_map.specs.Arcs.{map_now}
use Rattle.arc_map.specs.Chains.{Chain, chain_at}
use Rattle.arc_map.specs.Paths.{vertices_at}
use Rattle.arc_map.specs.Records.{Record}
use Rattle.arc_map.specs.Map.{Map}
use Rattle.arc_map.specs.Work.{chain_in, work_of}
use Rattle.arc_map.specs.declared.refs.ChainRef.{ChainRef}
use Rattle.cert_format.specs.Certificate.{Content}
use Rattle.monotone_split.proofs.Named.{arranged_by_names}
use Rattle.cert_checker.specs.Judged.{Demand, demand, AreJudged, IsJudged, replaced}
use Rattle.cert_checker.specs.declared.verdicts.Verdict.TheVariants.{Yes}
use Rattle.cert_checker.proofs.Accepting.{accepted_keep_fewest}
use Rattle.cert_checker.proofs.Sound.{yes_is_sound}
use Rattle.cert_checker.proofs.Keeping.{yes_keeps_chains}
use Rattle.chain_replace.proofs.ThinnedArcs.{chains_thin_arcs}
use Rattle.chain_replace.proofs.ThinnedChains.{IsLeftOf, each_is_left}
use Rattle.top_call.specs.Answers.{IsCompared, IsRefuted, NotCertificate, version_of}
use Rattle.top_call.specs.Maps.{scales_of}
use Rattle.top_call.proofs.Faithful.{arranged_with}
use Rattle.top_call.specs.JudgedLaws.{EachKeepsFewest, YesKeepsFewest, YesKeepsFaces, YesThinsArcs, CheckedYesAreRight, terms_by}

each_fewest : (d : Demand) (points : List Place) (chains : List Chain) (ks : List ℕ) (e : ℕ) (rs : List Record) (after : List Chain)
    → AreJudged d points chains ks e rs Yes after → EachKeepsFewest d points chains ks rs
each_fewest d points chains ks e [] after judged = tt
each_fewest d points chains [] e (r ∷ rs) after judged = absurd judged
each_fewest d points chains (k ∷ ks) e (r ∷ rs) after (inl fault) = absurd fault.0
each_fewest d points chains (k ∷ ks) e (r ∷ rs) after (inr judged) =
    (accepted_keep_fewest d points chains k r judged.0, each_fewest d points (replaced chains k r) ks (e + 1) rs after judged.1)

pub yes_keeps_fewest : YesKeepsFewest
yes_keeps_fewest d held m refs c after (inl mismatch) = absurd mismatch.0
yes_keeps_fewest d held m refs c after (inr judged) = each_fewest d m.points _ _ 0 c.entries after judged.1

pub yes_keeps_faces : YesKeepsFaces
yes_keeps_faces d held m refs c after chains arranged judged =
    let o = yes_is_sound d held m refs c after chains arranged judged in
    record { arranged = (arranged_by_names held _).1 o.arranged; parity = o.parity; inside = o.inside }

-- ---- the arcs

-- the number of the chains stays
count_stays : (d : Demand) (points : List Place) (chains : List Chain) (ks : List ℕ) (e : ℕ) (rs : List Record) (after : List Chain)
    → AreJudged d points chains ks e rs Yes after → length after ≡ length chains
count_stays d points chains ks e [] after judged = ap length (sym judged.1)
count_stays d points chains [] e (r ∷ rs) after judged = absurd judged
count_stays d points chains (k ∷ ks) e (r ∷ rs) after (inl fault) = absurd fault.0
count_stays d points chains (k ∷ ks) e (r ∷ rs) after (inr judged) =
    count_stays d points (replaced chains k r) ks (e + 1) rs after judged.1
    ∙ length-set chains k (record (chain_at chains k) { rest = vertices_at (chain_at chains k) (drop 1 r.kept) })

count_judged : (d : Demand) (held : List ℕ) (m : Map) (refs : List ChainRef) (c : Content) (after : List Chain)
    → IsJudged d held (work_of m refs) c Yes after → length after ≡ length (map (chain_in m) refs)
count_judged d held m refs c after (inl mismatch) = absurd mismatch.0
count_judged d held m refs c after (inr judged) = count_stays d m.points (map (chain_in m) refs) _ 0 c.entries after judged.1

pub yes_thins_arcs : YesThinsArcs
yes_thins_arcs d held m refs c after chains judged =
    let t = terms_by d held in
    let before = map (chain_in m) refs in
    let keeps = yes_keeps_chains d held m refs c after judged in
    let left : (j : ℕ) → IsLeftOf t (chain_at before j) (chain_at after j) = (λ j.
    record { first = (keeps.each j).first_stays; path = (keeps.each j).path; held = λ has. keeps.held_stay j has }) in
    chains_thin_arcs t m refs after chains (each_is_left t before after (count_judged d held m refs c after judged) left)

-- ---- the verdict of `check`

pub checked_yes_are_right : CheckedYesAreRight
checked_yes_are_right options bound read (NotCertificate t held loaded none e) = absurd (cc)
checked_yes_are_right options bound read (IsRefuted t reason after j e) = absurd (cc)
checked_yes_are_right options bound read (IsCompared t after j same) =
    let d = demand (version_of options) bound (scales_of options.weights) in
    record {
      topology = t;
      held = j.held;
      loaded = j.loaded;
      after = map_now t.map after;
      written = same;
      refs = j.refs;
      chains = j.chains;
      thins = yes_thins_arcs d j.held t.map j.refs j.content after j.chains j.judged;
      faces = yes_keeps_faces d j.held t.map j.refs j.content after j.chains
          (arranged_with options.hold t.map j.held j.loaded.beside) j.judged;
      content = j.content;
      is_content = j.is_content;
      fewest = yes_keeps_fewest d j.held t.map j.refs j.content after j.judged;
    }
