-- The chain with a number, as it lies in memory.
use Rattle.std.proofs.Common.{◌≡◌, ◌<◌, ℕ, length, get_or, sym, subst, arith}
use Rattle.std.proofs.lemmas.List.{length-map}
use Rattle.arc_map.specs.Chains.{chain_at, no_chain}
use Rattle.arc_map.specs.Work.{Work}
use Rattle.arc_map.specs.Live.{chain_of, chains_in, live_chain, work_in, IsLive, IsPartOf, AreLive}
use Rattle.arc_map.specs.declared.work.Span.{Span}
use Rattle.arc_map.specs.declared.work.WorkMap.TheInside.{Inside}
use Rattle.arc_map.proofs.Elements.{of_item, mapped-at}

-- what is known of the chain number k, which is the part s
pub record IsFound (w : Inside) (k : ℕ) (s : Span) : Type 0 where
  pub here : k < length w.chains.items
  pub part : IsPartOf w.vertices.items s
  pub live : IsLive w.base (chain_of w.vertices.items s)
  pub chain : chain_at (work_in w).chains k ≡ live_chain w.base (chain_of w.vertices.items s)

pub found : (w : Inside) (now : Work) (k : ℕ) (s : Span) → work_in w ≡ now → AreLive w → k < length now.chains
    → s ≡ get_or w.chains.items k s → IsFound w k s
found w now k s view live within is =
    let inside = subst (λ (v : Work). k < length v.chains) (sym view) within in
    let count = length-map w.chains.items (chain_of w.vertices.items) in
    let there : k < length (chains_in w) = omega (arith, inside, length-map (chains_in w) (live_chain w.base)) in
    let here : k < length w.chains.items = omega (arith, there, count) in
    let c = chain_of w.vertices.items s in
    let stands : c ≡ get_or (chains_in w) k c = sym (mapped-at (chain_of w.vertices.items) w.chains.items k s c here is) in
    record {
      here = here;
      part = of_item (IsPartOf w.vertices.items) w.chains.items k s here is live.within;
      live = of_item (IsLive w.base) (chains_in w) k c there stands live.chains;
      chain = mapped-at (live_chain w.base) (chains_in w) k c no_chain there stands;
    }
