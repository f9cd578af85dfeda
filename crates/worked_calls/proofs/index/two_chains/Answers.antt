-- The arcs are as they were pushed, and each is one chain.
use Rattle.std.proofs.Common.{◌≡◌, ◌<◌, ℕ, [], ◌∷◌, length, refl, rules}
use Rattle.std.proofs.lemmas.Result.{IfOk-weaker}
use Rattle.arc_map.specs.Chains.{chain_at}
use Rattle.arc_map.specs.Work.{Work, work_of}
use Rattle.map_index.specs.MapIndex.{IsAsRead}
use Rattle.map_index.proofs.AsRead.{all_as_read}
use Rattle.worked_calls.proofs.RisingArcs.{IsRising, two_arcs, two_refs, chains_of_map, first_is_long}
use Rattle.worked_calls.proofs.index.two_chains.Goals as goal

pub build-requires : goal.build-requires
build-requires c =
    let x = c.in_ok-to_vec.field-0 in
    let y = c.in_ok-to_vec-2.field-0 in
    let long : x.items ≡ c.args.a ∷ c.args.b ∷ c.args.c ∷ [] = search rules in
    let short : y.items ≡ c.args.d ∷ c.args.e ∷ [] = search rules in
    let both : c.push_reserved-2.new.self.items ≡ x ∷ y ∷ [] = rw
    (c.push_reserved-2.ensures.items, c.push_reserved.ensures.items, c.in_ok-arcs.ensures.items) refl in
    let arcs : c.new-map.result.arcs ≡ two_arcs c.args.a c.args.b c.args.c c.args.d c.args.e =
    rw (c.new-map.ensures.value, both, long, short) refl in
    let refs : c.in_ok-chains.chains.items ≡ two_refs = search rules in
    let first : IsRising c.args.a c.args.b = record { across = c.requires.across.0; up = c.requires.up.0 } in
    let second : IsRising c.args.b c.args.c = record { across = c.requires.across.1; up = c.requires.up.1 } in
    let third : IsRising c.args.d c.args.e = record { across = c.requires.across.2; up = c.requires.up.2 } in
    chains_of_map c.new-map.result c.in_ok-chains.chains.items c.args.a c.args.b c.args.c c.args.d c.args.e arcs refs first second third

pub returns-clause-long : goal.returns-clause-long
returns-clause-long c =
    let m = c.new-map.result in
    let refs = c.in_ok-chains.chains.items in
    let are : refs ≡ two_refs = search rules in
    IfOk-weaker c.build.result (λ (w : Work). w ≡ work_of m refs) (λ (w : Work). length (chain_at w.chains 0).rest ≡ 2) (λ w is.
    first_is_long m refs w are is) c.build.ensures

pub returns-clause-read : goal.returns-clause-read
returns-clause-read c =
    let m = c.new-map.result in
    let refs = c.in_ok-chains.chains.items in
    IfOk-weaker c.build.result (λ (w : Work). w ≡ work_of m refs) (λ (w : Work). (k : ℕ) → k < length w.chains
    → IsAsRead w k) (λ w is. all_as_read m refs w is) c.build.ensures
