use Rattle.std.proofs.Common.{◌≡◌, ◌∙◌, ◌+◌, ◌<◌, ◌++◌, [], ◌∷◌, All, List, ap, length, map, subst, sym, take, arith}
use Rattle.std.proofs.lemmas.List.{length-map, length-take-le, map_push, take_all, take_more}
use Rattle.topo_build.specs.Junctions.{Turn, turns_of, turns_round}
use Rattle.topo_build.specs.Passages.{AreTold}
use Rattle.topo_build.proofs.Passes.{ring-passed}
use Rattle.topo_build.proofs.junctions.Junctions.build.Goals as goal

pub loop-k-preserved : goal.loop-k-preserved
loop-k-preserved c =
    let rings = c.args.rings.now in
    let k = c.loop-k.k in
    let x = c.index-rings-k.result in
    let inside = c.loop-k-test.true in
    let more : take (k + 1) rings ≡ take k rings ++ x ∷ [] = take_more rings k x inside
    ∙ ap (λ z. take k rings ++ z ∷ []) (sym c.index-rings-k.is) in
    let lists = ap (map (λ ring. ring.items)) more ∙ map_push (λ ring. ring.items) (take k rings) x in
    let long = length-map (take k rings) (λ ring. ring.items) in
    let taken = length-take-le k rings (omega arith) in
    let before = map (λ ring. ring.items) (take k rings) in
    let count : length before ≡ k = omega arith in
    subst (λ cs. AreTold (turns_of 0 cs) c.pass.new.self) (sym lists)
    (ring-passed before x.items k c.loop-k.junctions c.pass.new.self count
    (subst (λ ps. (turns : List Turn) → All (λ t. t.ring < k) turns → AreTold turns c.loop-k.junctions
    → AreTold (turns ++ turns_round k ps) c.pass.new.self) c.deref.ensures.value c.in_ok-pass.ensures)
    c.loop-k.invariant)

pub returns : goal.returns
returns c = subst (λ xs. AreTold (turns_of 0 (map (λ ring. ring.items) xs)) c.loop-k.junctions)
    (take_all c.loop-k.k c.args.rings.now c.loop-k-test.false) c.loop-k.invariant
