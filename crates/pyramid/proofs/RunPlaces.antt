-- The places that the records of a run keep are those that its outcome leaves.
use Rattle.std.proofs.Common.{◌≡◌, ◌≢◌, ◌∙◌, ◌==◌, ℕ, zero, suc, ◌+◌, ◌-◌, ◌<◌, ◌≤◌, Bool, true, false, cond, filter, List, [], ◌∷◌, ◌++◌}
use Rattle.std.proofs.Common.{All, map, length, get_or, set, drop, inl, inr, refl, sym, ap, subst, arith}
use Rattle.std.specs.Prelude.{Contains}
use Rattle.std.specs.List.{flat_map}
use Rattle.std.proofs.lemmas.List.{length-map, length-set, get_or-map, get_or-set_same, get_or-set_other, map-append}
use Rattle.std.proofs.lemmas.List.Elements.{All-nil, All-cons, All-head, All-tail, All-get_or, All-from_get_or}
use Rattle.std.proofs.lemmas.List.FromFn.{get_or-map-range_with_len, length-map-range_with_len}
use Rattle.grid_exact.specs.declared.frame.Frame.TheVariants.{Plain}
use Rattle.grid_exact.specs.Paths.{LeadsTo}
use Rattle.grid_exact.proofs.Certificates.{LeadsTo-below}
use Rattle.arc_map.specs.Map.{Map}
use Rattle.arc_map.specs.Vertices.{Vertex}
use Rattle.arc_map.specs.Arcs.{joined_rests, arcs_now}
use Rattle.arc_map.specs.Arranged.{arc_at}
use Rattle.arc_map.specs.Chains.{Chain, chain_at, no_chain}
use Rattle.arc_map.specs.Paths.{vertices_at, vertex_at}
use Rattle.arc_map.specs.Records.{Record}
use Rattle.arc_map.specs.Work.{Work, work_of, vertex_in, chain_in, LiesInArc, thinned_work}
use Rattle.arc_map.specs.declared.refs.ChainRef.{ChainRef}
use Rattle.chain_replace.specs.Run.{Terms, NearBy, IsAllowedIn, last_of, AreReplaced, IsOutcome}
use Rattle.chain_replace.specs.Thinned.{IsThinned}
use Rattle.chain_replace.proofs.BestPaths.{path_leads}
use Rattle.chain_replace.proofs.NearPaths.{numbers_of}
use Rattle.chain_replace.proofs.ThinnedChains.{thins_from, each_is_left}
use Rattle.pyramid.specs.Levels.{later_places, kept_of}
use Rattle.pyramid.specs.Laws.{RunKeepsPlaces}
use Rattle.pyramid.proofs.ArcsLeft.{of_arc, arcs_are_left}

-- what stands past the end of a list of records, and of a list of chains' places
abbrev no_record : Record
no_record = record { arc = 0; «from» = 0; kept = []; layers = [] }

abbrev no_ref : ChainRef
no_ref = record { arc = 0; «from» = 0; to = 0; frame = Plain }

-- ---- chain by chain

-- r is the record of the chain c, of which l is left
record IsRecorded (c l : Chain) (r : Record) : Type 0 where
  arc : r.arc ≡ c.first.arc
  start : r.«from» ≡ c.first.at
  first : l.first ≡ c.first
  rest : l.rest ≡ vertices_at c (drop 1 r.kept)
  within : All (λ i. i ≤ length c.rest) (drop 1 r.kept)
  some : 0 < length r.kept

-- from the chain number k on, each has its record
record AreRecorded (k more : ℕ) (before after : List Chain) (records : List Record) : Type 0 where
  count : length records ≡ more
  each : (j : ℕ) → j < more → IsRecorded (chain_at before (k + j)) (chain_at after (k + j)) (get_or records j no_record)

leads_within : (Pair : ℕ → ℕ → Type 0) (m i : ℕ) (rest : List ℕ) → LeadsTo Pair m i rest → All (λ n. n ≤ m) rest
leads_within Pair m i [] leads = All-nil (λ n. n ≤ m)
leads_within Pair m i (next ∷ rest) leads = All-cons (λ n. n ≤ m) next rest (LeadsTo-below Pair m next rest leads.2)
    (leads_within Pair m next rest leads.2)

none_held : (t : Terms) (arc : ℕ) → t.held ≡ [] → Contains t.held arc → ⊥
none_held t arc none held =
    let at = held.1 in
    let few : length t.held ≡ 0 = ap length none in
    absurd (omega arith)

each_more : (k more : ℕ) (before after : List Chain) (x : Chain) (records : List Record) (r : Record) (rest : List Record)
    → k < length before → records ≡ r ∷ rest → chain_at after k ≡ x → IsRecorded (chain_at before k) x r
    → AreRecorded (suc k) more (set before k x) after rest → (j : ℕ) → j < suc more
    → IsRecorded (chain_at before (k + j)) (chain_at after (k + j)) (get_or records j no_record)
each_more k more before after x records r rest below split stays one later zero within =
    let here : k ≡ k + 0 = omega arith in
    subst (λ (n : ℕ). IsRecorded (chain_at before n) (chain_at after n) (get_or records 0 no_record)) here
    (subst (λ (rs : List Record). IsRecorded (chain_at before k) (chain_at after k) (get_or rs 0 no_record)) (sym split)
    (subst (λ (l : Chain). IsRecorded (chain_at before k) l r) (sym stays) one))
each_more k more before after x records r rest below split stays one later (suc j) within =
    let here : suc k + j ≡ k + suc j = omega arith in
    let other : suc k + j ≢ k = omega arith in
    subst (λ (n : ℕ). IsRecorded (chain_at before n) (chain_at after n) (get_or records (suc j) no_record)) here
    (subst (λ (rs : List Record). IsRecorded (chain_at before (suc k + j)) (chain_at after (suc k + j)) (get_or rs (suc j) no_record))
    (sym split)
    (subst (λ (c : Chain). IsRecorded c (chain_at after (suc k + j)) (get_or rest j no_record))
    (get_or-set_other before k (suc k + j) x no_chain other) (later.each j (omega arith))))

are_recorded : (t : Terms) (w : Work) (k more : ℕ) (records : List Record) (after : Work) → t.held ≡ [] → k + more ≤ length w.chains
    → AreReplaced t w k more records after → AreRecorded k more w.chains after.chains records
are_recorded t w k zero records after none within run = record { count = ap length run.0; each = λ j below. absurd (omega arith) }
are_recorded t w k (suc more) records after none within (inl run) = absurd (none_held t (chain_at w.chains k).first.arc none run.0)
are_recorded t w k (suc more) records after none within (inr run) =
    let c = chain_at w.chains k in
    let r = run.1 in
    let x : Chain = record { frame = c.frame; first = c.first; rest = vertices_at c (drop 1 r.kept) } in
    let count = length-set w.chains k x in
    let later = are_recorded t (thinned_work w k r.kept) (suc k) more run.2 after none (omega arith) run.5 in
    let thins = thins_from t (thinned_work w k r.kept) (suc k) more run.2 after (omega arith) run.5 in
    let stays : chain_at after.chains k ≡ x = thins.stay k (omega arith) ∙ get_or-set_same w.chains k x no_chain (omega arith) in
    let path = path_leads (IsAllowedIn t w k) (last_of w k) r.kept run.4.best.leads in
    let size = path.1 in
    let one : IsRecorded c x r = record {
      arc = run.4.arc;
      start = run.4.«from»;
      first = refl;
      rest = refl;
      within = leads_within (IsAllowedIn t w k) (last_of w k) 0 (drop 1 r.kept) path.0;
      some = omega arith;
    } in
    record {
      count = ap length run.3 ∙ ap suc later.count;
      each = each_more k more w.chains after.chains x records r run.2 (omega arith) run.3 stays one later;
    }

-- ---- the numbers of what is left

vertex_number : (m : Map) (r : ChainRef) (i : ℕ) → i ≤ length (chain_in m r).rest → (vertex_at (chain_in m r) i).at ≡ r.«from» + i
vertex_number m r zero within = omega arith
vertex_number m r (suc i) within =
    let long : length (chain_in m r).rest ≡ r.to - r.«from» = length-map-range_with_len (vertex_in m r.arc) (r.«from» + 1) (r.to - r.«from»)
    in
    let below : i < r.to - r.«from» = omega arith in
    let number : r.«from» + 1 + i ≡ r.«from» + suc i = omega arith in
    ap (λ (v : Vertex). v.at) (get_or-map-range_with_len (vertex_in m r.arc) (r.«from» + 1) (r.to - r.«from») i (r.«from» + suc i)
    (chain_in m r).first below number)

numbers_at : (m : Map) (r : ChainRef) (ns : List ℕ) → All (λ i. i ≤ length (chain_in m r).rest) ns
    → numbers_of (vertices_at (chain_in m r) ns) ≡ map (λ i. r.«from» + i) ns
numbers_at m r [] within = refl
numbers_at m r (n ∷ ns) within =
    ap (λ (k : ℕ). k ∷ numbers_of (vertices_at (chain_in m r) ns))
    (vertex_number m r n (All-head (λ i. i ≤ length (chain_in m r).rest) n ns within))
    ∙ ap (λ (ks : List ℕ). (r.«from» + n) ∷ ks) (numbers_at m r ns (All-tail (λ i. i ≤ length (chain_in m r).rest) n ns within))

-- what is left of a chain of the map, with its record
record IsNumbered (l : Chain) (r : Record) : Type 0 where
  arc : l.first.arc ≡ r.arc
  numbers : numbers_of l.rest ≡ later_places r

is_numbered : (m : Map) (ref : ChainRef) (l : Chain) (r : Record) → IsRecorded (chain_in m ref) l r → IsNumbered l r
is_numbered m ref l r is = record {
  arc = ap (λ (v : Vertex). v.arc) is.first ∙ sym is.arc;
  numbers = ap numbers_of is.rest ∙ numbers_at m ref (drop 1 r.kept) is.within
      ∙ ap (λ (n : ℕ). map (λ i. n + i) (drop 1 r.kept)) (sym is.start);
}

chain_or_not : (b : Bool) (l : Chain) (r : Record) (ls : List Chain) (rs : List Record) → numbers_of l.rest ≡ later_places r
    → numbers_of (joined_rests ls) ≡ flat_map later_places rs → numbers_of (joined_rests (cond b (l ∷ ls) ls))
    ≡ flat_map later_places (cond b (r ∷ rs) rs)
chain_or_not true l r ls rs here later =
    map-append (λ (v : Vertex). v.at) l.rest (joined_rests ls)
    ∙ ap (λ (ns : List ℕ). ns ++ numbers_of (joined_rests ls)) here
    ∙ ap (λ (ns : List ℕ). later_places r ++ ns) later
chain_or_not false l r ls rs here later = later

numbers_by_records : (arc : ℕ) (ls : List Chain) (rs : List Record) → length rs ≡ length ls
    → ((j : ℕ) → j < length ls → IsNumbered (chain_at ls j) (get_or rs j no_record))
    → numbers_of (joined_rests (of_arc arc ls)) ≡ flat_map later_places (filter (λ (r : Record). r.arc == arc) rs)
numbers_by_records arc [] [] count each = refl
numbers_by_records arc [] (r ∷ rs) count each = absurd (omega arith)
numbers_by_records arc (l ∷ ls) [] count each = absurd (omega arith)
numbers_by_records arc (l ∷ ls) (r ∷ rs) count each =
    let one = each 0 (omega arith) in
    let later = numbers_by_records arc ls rs (omega arith) (λ j below. each (suc j) (omega arith)) in
    ap (λ (n : ℕ). numbers_of (joined_rests (cond (n == arc) (l ∷ of_arc arc ls) (of_arc arc ls)))) one.arc
    ∙ chain_or_not (r.arc == arc) l r (of_arc arc ls) (filter (λ (s : Record). s.arc == arc) rs) one.numbers later

-- ---- the law

-- the chain number j of the outcome, with its record
recorded_at : (m : Map) (t : Terms) (after : Map) (records : List Record) → t.held ≡ [] → (is : IsOutcome m t after records) → (j : ℕ)
    → j < length is.refs → IsRecorded (chain_in m (get_or is.refs j no_ref)) (chain_at is.last.chains j) (get_or records j no_record)
recorded_at m t after records none is j below =
    let count = length-map is.refs (chain_in m) in
    let number : 0 + j ≡ j = omega arith in
    let told = are_recorded t (work_of m is.refs) 0 (length is.refs) records is.last none (omega arith) is.replaced in
    subst (λ (c : Chain). IsRecorded c (chain_at is.last.chains j) (get_or records j no_record))
    (get_or-map (chain_in m) is.refs j no_ref no_chain below)
    (subst (λ (n : ℕ). IsRecorded (chain_at (map (chain_in m) is.refs) n) (chain_at is.last.chains n) (get_or records j no_record)) number
    (told.each j below))

record_count : (m : Map) (t : Terms) (after : Map) (records : List Record) → t.held ≡ [] → (is : IsOutcome m t after records)
    → length records ≡ length is.refs
record_count m t after records none is =
    let count = length-map is.refs (chain_in m) in
    (are_recorded t (work_of m is.refs) 0 (length is.refs) records is.last none (omega arith) is.replaced).count

pub run_keeps_places : RunKeepsPlaces
run_keeps_places m t after records none is arc below some =
    let refs = is.refs in
    let before = map (chain_in m) refs in
    let ls = is.last.chains in
    let count = length-map refs (chain_in m) in
    let thins = thins_from t (work_of m refs) 0 (length refs) records is.last (omega arith) is.replaced in
    let left = each_is_left t before ls thins.count thins.left in
    let long = thins.count in
    let number : 0 + arc ≡ arc = omega arith in
    let few = record_count m t after records none is in
    let same : numbers_of (joined_rests (of_arc (0 + arc) ls)) ≡ flat_map later_places (filter (λ (r : Record). r.arc == arc) records) =
    ap (λ (n : ℕ). numbers_of (joined_rests (of_arc n ls))) number
    ∙ numbers_by_records arc ls records (omega arith) (λ j under.
    is_numbered m (get_or refs j no_ref) (chain_at ls j) (get_or records j no_record)
    (recorded_at m t after records none is j (omega arith))) in
    subst (λ (n : Map). IsThinned (NearBy t) (arc_at m arc) (arc_at n arc) (kept_of records arc)) (sym is.made)
    (subst (λ (ns : List ℕ). IsThinned (NearBy t) (arc_at m arc) (get_or (arcs_now 0 m.arcs ls) arc []) (0 ∷ ns)) same
    (arcs_are_left t 0 m.arcs before ls is.chains.cut left arc below some))

-- each record is of an arc of the map, and keeps a place
pub record_is_of_arc : (m : Map) (t : Terms) (after : Map) (records : List Record) → t.held ≡ [] → IsOutcome m t after records
    → All (λ r. (r.arc < length m.arcs) × (0 < length r.kept)) records
record_is_of_arc m t after records none is =
    let few = record_count m t after records none is in
    All-from_get_or (λ (r : Record). (r.arc < length m.arcs) × (0 < length r.kept)) records no_record (λ j below.
    let under : j < length is.refs = omega arith in
    let one = recorded_at m t after records none is j under in
    let lies : (get_or is.refs j no_ref).arc < length m.arcs = (All-get_or (LiesInArc m) is.refs j no_ref under is.chains.lie).arc in
    (subst (λ (n : ℕ). n < length m.arcs) (sym one.arc) lies, one.some))
