-- A map that was built of rings that were read can be read, from the text that is written of it.
use Rattle.std.specs.Prelude.{sum}
use Rattle.std.specs.List.{AllByRecursion, AllZip, flat_map}
use Rattle.std.proofs.Common.{◌≡◌, ℕ, suc, ◌+◌, ◌*◌, ◌^◌, ◌<◌, ◌≤◌, List, [], ◌∷◌, ◌++◌, length, get_or, take, drop, map, sum_by, ℤ, refl}
use Rattle.std.proofs.Common.{sym, ap, subst, ◌∙◌, arith}
use Rattle.std.proofs.Common.{append_assoc}
use Rattle.std.proofs.lemmas.List.{drop_more, take_more, length-append, length-map, length-drop}
use Rattle.std.proofs.lemmas.List.Concat.{flat_map-cons}
use Rattle.std.proofs.lemmas.List.Elements.{recursion_from_All}
use Rattle.std.proofs.lemmas.List.Sums.{sum_by-cons, sum_by-take-drop}
use Rattle.grid_exact.specs.Geometry.{Place}
use Rattle.grid_exact.specs.Walks.{end_of}
use Rattle.arc_map.specs.Map.{Map, IsMap, IsArc}
use Rattle.topo_build.specs.Built.{IsPieceTaken, IsRingTaken, AreRingsBuilt, rings_of, geo_turns, IsBuilt}
use Rattle.topo_build.specs.Cyclic.{closed_from, cyclic}
use Rattle.topo_build.specs.Junctions.{IsJunction}
use Rattle.topo_build.specs.References.{arc_of, walk_of, Leads, IsPutTogether, Single, Round, polygons_of}
use Rattle.topo_build.proofs.Joined.{rings-together}
use Rattle.topo_build.proofs.Mapping.{cyclic-shorter}
use Rattle.geo_reader.specs.Geo.{Geo, IsGeo}
use Rattle.geo_text.proofs.Readable.{IsLoop, IsReadable, written_count}
use Rattle.geo_text.proofs.ArcsBuilt.{AreBounded, rings-bounded, cycles-on_grid}
use Rattle.geo_text.proofs.RingsOnGrid.{AreOnGrid}
use Rattle.geo_text.proofs.Loops.{numbers_of}

-- ---- loops

end-push : (v : Place) (us : List Place) (x : Place) → end_of v (us ++ x ∷ []) ≡ x
end-push v [] x = refl
end-push v (u ∷ us) x = end-push u us x

same-first : (v x : Place) (ws us : List Place) → x ∷ us ≡ v ∷ ws → x ≡ v
same-first v x ws us e = cc

same-rest : (v x : Place) (ws us : List Place) → x ∷ us ≡ v ∷ ws → us ≡ ws
same-rest v x ws us e = cc

-- once round a ring one comes back to where one began
round-closed : (ring : List Place) (at : ℕ) (v : Place) (ws : List Place) → at < length ring → closed_from ring at ≡ v ∷ ws
    → end_of v ws ≡ v
round-closed ring at v ws within closed =
    let x = get_or ring at v in
    let ys = drop (at + 1) ring in
    let zs = take at ring in
    let from : drop at ring ≡ x ∷ ys = drop_more ring at v within in
    let upto : take (at + 1) ring ≡ zs ++ x ∷ [] = take_more ring at v within in
    let split : x ∷ (ys ++ (zs ++ x ∷ [])) ≡ v ∷ ws =
    sym (ap (λ (l : List Place). l ++ take (at + 1) ring) from ∙ ap (λ (l : List Place). (x ∷ ys) ++ l) upto) ∙ closed in
    let first : x ≡ v = same-first v x ws (ys ++ (zs ++ x ∷ [])) split in
    let rest : (ys ++ zs) ++ x ∷ [] ≡ ws = append_assoc ys zs (x ∷ []) ∙ same-rest v x ws (ys ++ (zs ++ x ∷ [])) split in
    ap (end_of v) (sym rest) ∙ end-push v (ys ++ zs) x ∙ first

together-loop : (arcs : List (List Place)) (ring : List Place) (refs : List ℤ) → IsPutTogether arcs ring refs → IsLoop arcs refs
together-loop arcs ring refs (Single p r one its walk) =
    subst (IsLoop arcs) (sym its) (record { start = p; along = []; leads = ([], [], refl, walk, refl); closed = refl })
together-loop arcs ring refs (Round at v ws long within closed leads) =
    record { start = v; along = ws; leads = leads; closed = round-closed ring at v ws within closed }

all-loops : (arcs cs : List (List Place)) (rings : List (List ℤ)) → AllZip (IsPutTogether arcs) cs rings
    → AllByRecursion (IsLoop arcs) rings
all-loops arcs [] [] are = tt
all-loops arcs [] (r ∷ rs) are = absurd are
all-loops arcs (c ∷ cs) [] are = absurd are
all-loops arcs (c ∷ cs) (r ∷ rs) are = (together-loop arcs c r are.0, all-loops arcs cs rs are.1)

-- ---- how many references there are

pub built-long : (Junction : Place → Type 0) (rings arcs : List (List Place)) (refs : List (List ℤ)) (after : List (List Place))
    → AreRingsBuilt IsPieceTaken IsRingTaken Junction rings arcs refs after → length refs ≡ length rings
built-long Junction [] arcs [] after are = refl
built-long Junction [] arcs (r ∷ refs) after are = absurd are
built-long Junction (ring ∷ rings) arcs [] after are = absurd are
built-long Junction (ring ∷ rings) arcs (r ∷ refs) after are = ap suc (built-long Junction rings are.0 refs after are.2)

pub rings-long : (geo : Geo) (m : Map) (rings : List (List ℤ)) → IsBuilt geo m rings → length rings ≡ length geo.rings
rings-long geo m rings built = built-long (IsJunction (geo_turns geo)) (rings_of geo) [] rings m.arcs built.arcs
    ∙ length-map geo.rings cyclic

numbers-long : (xs : List (List ℤ)) → length (numbers_of xs) ≡ sum_by length xs
numbers-long [] = refl
numbers-long (x ∷ xs) =
    ap length (flat_map-cons (map arc_of) x xs)
    ∙ omega (arith, length-append (map arc_of x) (numbers_of xs), length-map x arc_of, numbers-long xs, sum_by-cons length x xs)

named-long : (counts : List ℕ) (xs : List (List ℤ)) → sum counts ≡ length xs → sum_by length (polygons_of counts xs) ≡ sum_by length xs
named-long [] [] long = refl
named-long [] (x ∷ xs) long = absurd (omega (arith, long))
named-long (c ∷ cs) xs long =
    let all : sum (c ∷ cs) ≡ c + sum cs = sum_by-cons (λ n. n) c cs in
    let rest : sum cs ≡ length (drop c xs) = omega (arith, all, long, length-drop c xs) in
    omega (
      arith,
      sum_by-cons length (numbers_of (take c xs)) (polygons_of cs (drop c xs)),
      numbers-long (take c xs),
      named-long cs (drop c xs) rest,
      sum_by-take-drop length xs c,
    )

-- ---- the map

pub built-readable : (geo : Geo) (m : Map) (rings : List (List ℤ)) → IsGeo geo → AreOnGrid geo.rings → IsMap m → IsBuilt geo m rings
    → IsReadable m rings
built-readable geo m rings is_geo on is_map built =
    let J = IsJunction (geo_turns geo) in
    let nothing : AreBounded [] 0 = record { few = omega arith; on_grid = tt } in
    let bounded = rings-bounded J (rings_of geo) [] rings m.arcs 0 built.arcs (cycles-on_grid geo.rings on) nothing in
    let long : sum geo.polygons ≡ length rings = is_geo.shared ∙ sym (rings-long geo m rings built) in
    let named : sum_by length m.polygons ≡ sum_by length rings = ap (sum_by length) built.polygons ∙ named-long geo.polygons rings long in
    record {
      arcs = recursion_from_All IsArc m.arcs is_map.arcs;
      on_grid = bounded.on_grid;
      few_arcs = is_map.few_arcs;
      few_positions = omega (arith, bounded.few, cyclic-shorter geo.rings is_geo.rings, is_geo.few_positions);
      loops = all-loops m.arcs (rings_of geo) rings (rings-together J (rings_of geo) rings m.arcs built.arcs);
      few_references = omega (arith, named, is_map.few_references);
    }
