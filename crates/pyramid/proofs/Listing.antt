-- Lists of numbers in memory, one for each arc.
use Rattle.std.proofs.Common.{◌≡◌, ◌≢◌, ◌∙◌, ◌==◌, ℕ, zero, suc, ◌+◌, ◌<◌, ◌≤◌, Bool, true, false, cond, filter, List, [], ◌∷◌, ◌++◌, All}
use Rattle.std.proofs.Common.{map, length, get_or, set, take, drop, replicate, slice_index, inl, inr, refl, sym, ap, subst, arith}
use Rattle.std.specs.Prelude.{Contains}
use Rattle.std.specs.List.{flat_map}
use Rattle.std.specs.Global.{Vec}
use Rattle.std.proofs.lemmas.Bool.{cases_eq}
use Rattle.std.proofs.lemmas.List.{length-map, length-set, map-set, map_push, map-append, append-nil, get_or-map, get_or-set_same}
use Rattle.std.proofs.lemmas.List.{get_or-set_other, get_or_append_left, get_or_push, take_more}
use Rattle.std.proofs.lemmas.List.Concat.{flat_map-append}
use Rattle.std.proofs.lemmas.List.Elements.{filter_more, Contains-push, Contains-push_cases, Contains-append_left}
use Rattle.arc_map.specs.Records.{Record}
use Rattle.arc_map.proofs.Keyed.{other_key}
use Rattle.pyramid.specs.Levels.{kept_of, later_places}
use Rattle.pyramid.specs.Places.{lists_of, list_of, AreRaised}
use Rattle.pyramid.proofs.ArcsLeft.{same_test}

-- the list that was read
pub list-at : (lists : List (Vec ℕ)) (k : ℕ) (v : Vec ℕ) → k < length lists → v ≡ get_or lists k v → list_of lists k ≡ v.items
list-at lists k v below here = get_or-map (λ (w : Vec ℕ). w.items) lists k v [] below ∙ ap (λ (w : Vec ℕ). w.items) (sym here)

pub list-or : (lists : List (Vec ℕ)) (k : ℕ) (d : Vec ℕ) → k < length lists → list_of lists k ≡ (get_or lists k d).items
list-or lists k d below = get_or-map (λ (w : Vec ℕ). w.items) lists k d [] below

-- ---- a list that is put behind the others, and one that is put for another

pub list-pushed : (lists : List (Vec ℕ)) (v : Vec ℕ) (k : ℕ) → length lists ≡ k → list_of (lists ++ v ∷ []) k ≡ v.items
list-pushed lists v k count =
    let long = length-map lists (λ (w : Vec ℕ). w.items) in
    ap (λ (ls : List (List ℕ)). get_or ls k []) (map_push (λ (w : Vec ℕ). w.items) lists v)
    ∙ get_or_push (lists_of lists) v.items [] k (long ∙ count)

pub list-before : (lists : List (Vec ℕ)) (v : Vec ℕ) (j : ℕ) → j < length lists → list_of (lists ++ v ∷ []) j ≡ list_of lists j
list-before lists v j below =
    let long = length-map lists (λ (w : Vec ℕ). w.items) in
    let under : j < length (lists_of lists) = omega arith in
    ap (λ (ls : List (List ℕ)). get_or ls j []) (map_push (λ (w : Vec ℕ). w.items) lists v)
    ∙ get_or_append_left (lists_of lists) (v.items ∷ []) [] j under

-- what holds of each list so far, and of the next one, holds of each after it is put behind them
pub each-pushed : (P : ℕ → List ℕ → Type 0) (lists now : List (Vec ℕ)) (v : Vec ℕ) (k : ℕ) → length lists ≡ k → now ≡ lists ++ v ∷ []
    → ((j : ℕ) → j < k → P j (list_of lists j)) → P k v.items → (j : ℕ) → j < k + 1 → P j (list_of now j)
each-pushed P lists now v k count is each one j below =
    subst (λ (ls : List (Vec ℕ)). P j (list_of ls j)) (sym is)
    (elim (cases_eq j k) [
      | inl same ↦ subst (λ (n : ℕ). P n (list_of (lists ++ v ∷ []) n)) (sym same) (subst (P k) (sym (list-pushed lists v k count)) one)
      | inr other ↦
          let under : j < k = omega arith in
          subst (P j) (sym (list-before lists v j (omega arith))) (each j under)
    ])

pub list-set : (lists : List (Vec ℕ)) (k : ℕ) (v : Vec ℕ) → k < length lists → list_of (set lists k v) k ≡ v.items
list-set lists k v below =
    let long = length-map lists (λ (w : Vec ℕ). w.items) in
    ap (λ (ls : List (List ℕ)). get_or ls k []) (map-set (λ (w : Vec ℕ). w.items) lists k v)
    ∙ get_or-set_same (lists_of lists) k v.items [] (omega arith)

pub list-other : (lists : List (Vec ℕ)) (k j : ℕ) (v : Vec ℕ) → j ≢ k → list_of (set lists k v) j ≡ list_of lists j
list-other lists k j v other =
    ap (λ (ls : List (List ℕ)). get_or ls j []) (map-set (λ (w : Vec ℕ). w.items) lists k v)
    ∙ get_or-set_other (lists_of lists) k j v.items [] other

-- ---- the places that one record more keeps

later-more : (arc : ℕ) (rs : List Record) (r : Record) (b : Bool)
    → flat_map later_places (filter (λ (s : Record). s.arc == arc) rs ++ cond b (r ∷ []) [])
    ≡ flat_map later_places (filter (λ (s : Record). s.arc == arc) rs) ++ cond b (later_places r) []
later-more arc rs r true =
    flat_map-append later_places (filter (λ (s : Record). s.arc == arc) rs) (r ∷ [])
    ∙ ap (λ (ns : List ℕ). flat_map later_places (filter (λ (s : Record). s.arc == arc) rs) ++ ns) (append-nil (later_places r))
later-more arc rs r false = ap (flat_map later_places) (append-nil (filter (λ (s : Record). s.arc == arc) rs))
    ∙ sym (append-nil (flat_map later_places (filter (λ (s : Record). s.arc == arc) rs)))

kept-next : (records : List Record) (k arc : ℕ) (r : Record) → k < length records → get_or records k r ≡ r
    → kept_of (take (k + 1) records) arc ≡ kept_of (take k records) arc ++ cond (r.arc == arc) (later_places r) []
kept-next records k arc r below here =
    let rs = take k records in
    ap (λ (ss : List Record). 0 ∷ flat_map later_places ss)
    (filter_more (λ (s : Record). s.arc == arc) records k r below
    ∙ ap (λ (s : Record). filter (λ (q : Record). q.arc == arc) rs ++ cond (s.arc == arc) (s ∷ []) []) here)
    ∙ ap (λ (ns : List ℕ). 0 ∷ ns) (later-more arc rs r (r.arc == arc))

kept-here : (records : List Record) (k : ℕ) (r : Record) → k < length records → get_or records k r ≡ r
    → kept_of (take (k + 1) records) r.arc ≡ kept_of (take k records) r.arc ++ later_places r
kept-here records k r below here =
    kept-next records k r.arc r below here ∙ ap (λ (b : Bool). kept_of (take k records) r.arc ++ cond b (later_places r) [])
    (same_test r.arc r.arc refl)

kept-other : (records : List Record) (k arc : ℕ) (r : Record) → k < length records → get_or records k r ≡ r → r.arc ≢ arc
    → kept_of (take (k + 1) records) arc ≡ kept_of (take k records) arc
kept-other records k arc r below here other =
    kept-next records k arc r below here
    ∙ ap (λ (b : Bool). kept_of (take k records) arc ++ cond b (later_places r) []) (other_key r.arc arc other)
    ∙ append-nil (kept_of (take k records) arc)

map-later : (f : ℕ → ℕ) (n : ℕ) (ks : List ℕ) → map f (map (λ i. n + i) ks) ≡ map (λ i. f (n + i)) ks
map-later f n [] = refl
map-later f n (k ∷ ks) = ap (λ (ms : List ℕ). f (n + k) ∷ ms) (map-later f n ks)

-- the places so far of each arc, once those that the record number k keeps are added to those of its arc
pub places-more : (places left now : List (Vec ℕ)) (records : List Record) (k : ℕ) (r : Record) (new : Vec ℕ) → k < length records
    → get_or records k r ≡ r → r.arc < length left → now ≡ set left r.arc new
    → new.items ≡ list_of left r.arc ++ map (λ i. slice_index (list_of places r.arc) (r.«from» + i)) (drop 1 r.kept)
    → ((arc : ℕ) → arc < length places → list_of left arc ≡ map (slice_index (list_of places arc)) (kept_of (take k records) arc))
    → (arc : ℕ) → arc < length places → list_of now arc ≡ map (slice_index (list_of places arc)) (kept_of (take (k + 1) records) arc)
places-more places left now records k r new below here under put wrote each arc within =
    ap (λ (ls : List (Vec ℕ)). list_of ls arc) put
    ∙ elim (cases_eq arc r.arc) [
      | inl same ↦
          subst (λ (n : ℕ). list_of (set left r.arc new) n ≡ map (slice_index (list_of places n)) (kept_of (take (k + 1) records) n))
          (sym same)
          (list-set left r.arc new under
          ∙ wrote
          ∙ ap (λ (ns : List ℕ). ns ++ map (λ i. slice_index (list_of places r.arc) (r.«from» + i)) (drop 1 r.kept))
          (each r.arc (subst (λ (n : ℕ). n < length places) same within))
          ∙ ap (λ (ns : List ℕ). map (slice_index (list_of places r.arc)) (kept_of (take k records) r.arc) ++ ns)
          (sym (map-later (slice_index (list_of places r.arc)) r.«from» (drop 1 r.kept)))
          ∙ sym (map-append (slice_index (list_of places r.arc)) (kept_of (take k records) r.arc) (later_places r))
          ∙ ap (map (slice_index (list_of places r.arc))) (sym (kept-here records k r below here)))
      | inr other ↦
          let apart : r.arc ≢ arc = (λ e. other (sym e)) in
          list-other left r.arc arc new other ∙ each arc within
          ∙ ap (map (slice_index (list_of places arc))) (sym (kept-other records k arc r below here apart))
    ]

-- what was added to the list that was read
pub added-read : (places left : List (Vec ℕ)) (arc start : ℕ) (kept ps : List ℕ) (v p new : Vec ℕ) → arc < length left → arc < length places
    → v ≡ get_or left arc v → p ≡ get_or places arc p → ps ≡ p.items
    → new.items ≡ v.items ++ map (λ i. slice_index ps (start + i)) (drop 1 kept)
    → new.items ≡ list_of left arc ++ map (λ i. slice_index (list_of places arc) (start + i)) (drop 1 kept)
added-read places left arc start kept ps v p new left_in places_in is_v is_p same wrote =
    wrote
    ∙ ap (λ (ns : List ℕ). ns ++ map (λ i. slice_index ps (start + i)) (drop 1 kept)) (sym (list-at left arc v left_in is_v))
    ∙ ap (λ (qs : List ℕ). list_of left arc ++ map (λ i. slice_index qs (start + i)) (drop 1 kept)) (same
    ∙ sym (list-at places arc p places_in is_p))

-- ---- ranks that are raised

pub within-read : (old ranks places : List (Vec ℕ)) (arc : ℕ) (d p : Vec ℕ) (ps : List ℕ) → arc < length ranks → arc < length places
    → list_of ranks arc ≡ list_of old arc → p ≡ get_or places arc p → ps ≡ p.items
    → All (λ at. at < length (list_of old arc)) (list_of places arc) → All (λ at. at < length (get_or ranks arc d).items) ps
within-read old ranks places arc d p ps ranks_in places_in stays is_p same within =
    subst (λ (qs : List ℕ). All (λ at. at < length (get_or ranks arc d).items) qs) (list-at places arc p places_in is_p ∙ sym same)
    (subst (λ (rs : List ℕ). All (λ at. at < length rs) (list_of places arc)) (sym stays ∙ list-or ranks arc d ranks_in) within)

pub raised-more : (before now after places : List ℕ) (rank k at : ℕ) → k < length places → at ≡ slice_index places k → at < length now
    → after ≡ set now at rank → AreRaised before now (take k places) rank → AreRaised before after (take (k + 1) places) rank
raised-more before now after places rank k at below here under put so_far =
    let more : take (k + 1) places ≡ take k places ++ at ∷ [] = take_more places k 0 below
    ∙ ap (λ (n : ℕ). take k places ++ n ∷ []) (sym here) in
    let count = length-set now at rank in
    record {
      long = ap length put ∙ count ∙ so_far.long;
      raised = λ j held. ap (λ (ns : List ℕ). get_or ns j 0) put ∙ elim (cases_eq j at) [
        | inl same ↦ ap (λ (n : ℕ). get_or (set now at rank) n 0) same ∙ get_or-set_same now at rank 0 under
        | inr other ↦ get_or-set_other now at j rank 0 other ∙ so_far.raised j
            (elim (Contains-push_cases (take k places) at j (subst (λ (ns : List ℕ). Contains ns j) more held)) [
              | inl there ↦ there
              | inr same ↦ absurd (other (sym same))
            ])
      ];
      other = λ j free.
          let apart : j ≢ at =
          (λ same. free (subst (λ (ns : List ℕ). Contains ns j) (sym more)
          (subst (Contains (take k places ++ at ∷ [])) (sym same) (Contains-push (take k places) at)))) in
          ap (λ (ns : List ℕ). get_or ns j 0) put
          ∙ get_or-set_other now at j rank 0 apart
          ∙ so_far.other j (λ there. free (subst (λ (ns : List ℕ). Contains ns j) (sym more)
          (Contains-append_left (take k places) (at ∷ []) j there)));
    }

-- the lists before this one are raised, and the later ones stay
pub record AreRaisedTo (before now places : List (Vec ℕ)) (rank k : ℕ) : Type 0 where
  pub long : length now ≡ length before
  pub done : (j : ℕ) → j < k → AreRaised (list_of before j) (list_of now j) (list_of places j) rank
  pub later : (j : ℕ) → k ≤ j → list_of now j ≡ list_of before j

pub all-raised-more : (before now after places : List (Vec ℕ)) (rank k : ℕ) (new : Vec ℕ) → k < length now → after ≡ set now k new
    → AreRaised (list_of now k) new.items (list_of places k) rank → AreRaisedTo before now places rank k
    → AreRaisedTo before after places rank (k + 1)
all-raised-more before now after places rank k new below put one so_far =
    let count = length-set now k new in
    record {
      long = ap length put ∙ count ∙ so_far.long;
      done = λ j under. subst (λ (ls : List (Vec ℕ)). AreRaised (list_of before j) (list_of ls j) (list_of places j) rank) (sym put)
          (elim (cases_eq j k) [
            | inl same ↦ subst (λ (n : ℕ). AreRaised (list_of before n) (list_of (set now k new) n) (list_of places n) rank) (sym same)
                (subst (λ (ns : List ℕ). AreRaised (list_of before k) ns (list_of places k) rank) (sym (list-set now k new below))
                (subst (λ (ns : List ℕ). AreRaised ns new.items (list_of places k) rank) (so_far.later k (omega arith)) one))
            | inr other ↦
                let less : j < k = omega arith in
                subst (λ (ns : List ℕ). AreRaised (list_of before j) ns (list_of places j) rank) (sym (list-other now k j new other))
                (so_far.done j less)
          ]);
      later = λ j past.
          let other : j ≢ k = omega arith in
          ap (λ (ls : List (Vec ℕ)). list_of ls j) put ∙ list-other now k j new other ∙ so_far.later j (omega arith);
    }

-- ---- ranks of 0

pub zeros : (n at : ℕ) → ◌≡◌ {A = ℕ} (get_or (replicate n 0) at 0) 0
zeros zero at = refl
zeros (suc n) zero = refl
zeros (suc n) (suc at) = zeros n at
