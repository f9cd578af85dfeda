-- Strays that are found among items.
use Rattle.std.proofs.Common.{◌≡◌, ◌⊎◌, inl, inr, ℕ, ◌+◌, ◌-◌, ◌<◌, ◌≤◌, Bool, List, [], ◌∷◌, ◌++◌, length, take, drop, Option, None, Some}
use Rattle.std.proofs.Common.{IfSome, option_to_list, sym, ap, ◌∙◌, subst, arith}
use Rattle.std.proofs.Common.{length-append}
use Rattle.std.specs.Prelude.{Contains, All}
use Rattle.std.proofs.lemmas.Bool.{cases_lt}
use Rattle.std.proofs.lemmas.List.{append-nil, append_assoc}
use Rattle.std.proofs.lemmas.List.Elements.{Contains-append_left, Contains-push, Contains-push_cases}
use Rattle.grid_exact.specs.Geometry.{Place}
use Rattle.grid_exact.specs.declared.frame.Frame.{Frame}
use Rattle.lane_kernels.specs.declared.side.Hand.{Hand}
use Rattle.sweep_index.specs.declared.index.Item.{Item}
use Rattle.arc_map.specs.Work.{Work}
use Rattle.map_index.specs.IndexedMap.{AreItemsIn}
use Rattle.chain_reach.specs.Extents.{IsInBox}
use Rattle.chain_reach.specs.Steps.{IsNearSegment, IsNearEdge, IsNearSomeEdge}
use Rattle.chain_reach.specs.Parts.{IsInPart, AreFoundInPart}
use Rattle.chain_reach.proofs.Parting.{part_of}
use Rattle.chain_reach.specs.declared.steps.Steps.{Steps}
use Rattle.chain_reach.specs.declared.extent.Extent.{Extent}
use Rattle.side_wedge.specs.Strays.{RunsAlong, IsOverEdge, IsStrayItem, IsStrayOf, stray}
use Rattle.chain_reach.specs.Blocks.{AreFoundIn}
use Rattle.chain_reach.proofs.Numbered.{near_in_part}
use Rattle.side_wedge.specs.Gathered.{IsFrom, AreStraysOf, AreStraysTo, AreStraysInParts, AreMapStrays}
use Rattle.side_wedge.specs.Flanks.{IsBeyond}
use Rattle.map_index.specs.Items.{Owns}
use Rattle.side_wedge.specs.declared.strays.Stray.{Stray}
use Rattle.chain_side.specs.Along.{vertex_at}
use Rattle.side_wedge.proofs.Closed.{not_itself}
use Rattle.side_wedge.proofs.Spanning.{after_earlier, before_later}
use Rattle.side_wedge.proofs.Boxed.{in_box_or_beyond, in_box_tested}

-- ---- at an end

-- what is at an end of the chain is over no edge
pub at_end_over : (frame : Frame) (rising : Bool) (chain : List Place) (p : Place) (s : ℕ) → RunsAlong frame rising chain
    → IsOverEdge frame rising chain p s → (p ≡ vertex_at chain 0) ⊎ (p ≡ vertex_at chain (length chain - 1)) → ⊥
at_end_over frame rising chain p s runs over (inl e) =
    let inside = over.in_chain in
    not_itself frame rising (vertex_at chain 0) p (sym e) (after_earlier frame rising chain p 0 s runs (omega arith) (omega arith)
    over.start)
at_end_over frame rising chain p s runs over (inr e) =
    let inside = over.in_chain in
    not_itself frame rising p (vertex_at chain (length chain - 1)) e
    (before_later frame rising chain p (s + 1) (length chain - 1) runs (omega arith) (omega arith) over.end)

-- ---- one item more

from_more : (frame : Frame) (rising : Bool) (chain : List Place) (k : ℕ) (seen : List (ℕ × Item)) (e : ℕ × Item) (x : Stray)
    → IsFrom frame rising chain k seen x → IsFrom frame rising chain k (seen ++ e ∷ []) x
from_more frame rising chain k seen e x h = record {
  number = h.number;
  item = h.item;
  found_item =
      Contains-append_left seen (e ∷ []) (h.number, h.item) h.found_item;
  is = h.is;
}

-- what is known of the stray that an item is, if it is one
pub record IsAnswer (frame : Frame) (rising : Bool) (chain : List Place) (k : ℕ) (steps : Steps) (part : List Place) (item : Item) (found :
    Option Stray) : Type 0 where
  pub some : IfSome found (IsStrayOf frame rising chain k item)
  pub all : (s : ℕ) (hand : Hand) → RunsAlong frame rising chain → IsStrayItem frame rising chain k item s hand
      → IsNearSomeEdge steps part item.at → found ≡ Some (stray s hand item.at)

-- the item that is told by a pair
other_item : (e f : ℕ × Item) (P : Item → Type 0) → e ≡ f → P f.1 → P e.1
other_item e f P same h = subst (λ (z : ℕ × Item). P z.1) (sym same) h

pub strays_start : (frame : Frame) (rising : Bool) (chain : List Place) (k : ℕ) (steps : Steps) (part : List Place) (before : List Stray)
    → AreStraysOf frame rising chain k steps part before [] before
strays_start frame rising chain k steps part before = record {
  only = λ x has. inl has;
  kept = λ x has. has;
  all = λ n item s hand has runs is near. absurd (omega (arith, has.1));
}

pub strays_more : (frame : Frame) (rising : Bool) (chain : List Place) (k : ℕ) (steps : Steps) (part : List Place) (before : List Stray)
    (seen : List (ℕ × Item)) (strays new : List Stray) (n : ℕ) (item : Item) (found : Option Stray)
    → AreStraysOf frame rising chain k steps part before seen strays → IsAnswer frame rising chain k steps part item found
    → new ≡ strays ++ option_to_list found → AreStraysOf frame rising chain k steps part before (seen ++ (n, item) ∷ []) new
strays_more frame rising chain k steps part before seen strays new n item None h a e =
    let same : new ≡ strays = e ∙ append-nil strays in
    record {
      only = λ x has.
          elim (h.only x (subst (λ (xs : List Stray). Contains xs x) same has)) [
            | inl early ↦ inl early
            | inr f ↦ inr (from_more frame rising chain k seen (n, item) x f)
          ];
      kept = λ x has. subst (λ (xs : List Stray). Contains xs x) (sym same) (h.kept x has);
      all = λ m other s hand has runs is near.
          elim (Contains-push_cases seen (n, item) (m, other) has) [
            | inl early ↦ subst (λ (xs : List Stray). Contains xs (stray s hand other.at)) (sym same)
                (h.all m other s hand early runs is near)
            | inr now ↦ absurd
                (none (a.all s hand runs (other_item (n, item) (m, other) (λ z. IsStrayItem frame rising chain k z s hand) now is)
                (other_item (n, item) (m, other) (λ z. IsNearSomeEdge steps part z.at) now near)))
          ];
    }
  where
    none : {x : Stray} → None ≡ Some x → ⊥
    none e = cc
strays_more frame rising chain k steps part before seen strays new n item (Some y) h a e =
    record {
      only = λ x has.
          elim (Contains-push_cases strays y x (subst (λ (xs : List Stray). Contains xs x) e has)) [
            | inl early ↦
                elim (h.only x early) [
                  | inl first ↦ inl first
                  | inr f ↦ inr (from_more frame rising chain k seen (n, item) x f)
                ]
            | inr now ↦ inr (record {
              number = n;
              item = item;
              found_item = Contains-push seen (n, item);
              is =
                  subst (IsStrayOf frame rising chain k item) now a.some;
            })
          ];
      kept = λ x has. subst (λ (xs : List Stray). Contains xs x) (sym e) (Contains-append_left strays (y ∷ []) x (h.kept x has));
      all = λ m other s hand has runs is near.
          subst (λ (xs : List Stray). Contains xs (stray s hand other.at)) (sym e)
          (elim (Contains-push_cases seen (n, item) (m, other) has) [
            | inl early ↦ Contains-append_left strays (y ∷ []) (stray s hand other.at) (h.all m other s hand early runs is near)
            | inr now ↦
                let here : y ≡ stray s hand other.at = told (n, item) (m, other) s hand now
                (a.all s hand runs (other_item (n, item) (m, other) (λ z. IsStrayItem frame rising chain k z s hand) now is)
                (other_item (n, item) (m, other) (λ z. IsNearSomeEdge steps part z.at) now near)) in
                subst (λ (x : Stray). Contains (strays ++ y ∷ []) x) here (Contains-push strays y)
          ]);
    }
  where
    told : (e f : ℕ × Item) (s : ℕ) (hand : Hand) → e ≡ f → Some y ≡ Some (stray s hand e.1.at) → y ≡ stray s hand f.1.at
    told e f s hand now some =
        let first : y ≡ stray s hand e.1.at = cc in
        first ∙ ap (λ (z : ℕ × Item). stray s hand z.1.at) now

one_more : (strays new : List Stray) (found : Option Stray) (n : ℕ) → new ≡ strays ++ option_to_list found → length strays ≤ n
    → length new ≤ n + 1
one_more strays new None n e h = let same = ap length e in omega (arith, same, length-append strays (option_to_list {X = Stray} None))
one_more strays new (Some x) n e h = let same = ap length e in omega (arith, same, length-append strays (x ∷ []))

-- what is left of the walk, behind one item more
pub one_behind : (all seen left rest : List (ℕ × Item)) (e : ℕ × Item) → all ≡ seen ++ left → left ≡ e ∷ rest
    → all ≡ (seen ++ e ∷ []) ++ rest
one_behind all seen left rest e so_far step = so_far ∙ ap (λ (xs : List (ℕ × Item)). seen ++ xs) step
    ∙ sym (append_assoc seen (e ∷ []) rest)

pub one_counted : (strays new : List Stray) (found : Option Stray) (seen : List (ℕ × Item)) (e : ℕ × Item) (old : ℕ)
    → new ≡ strays ++ option_to_list found → length strays ≤ old + length seen → length new ≤ old + length (seen ++ e ∷ [])
one_counted strays new found seen e old same h =
    omega (arith, one_more strays new found (old + length seen) same h, length-append seen (e ∷ []))

-- where there is no room for one item more, there was none for all
pub no_room : (all seen left rest : List (ℕ × Item)) (e : ℕ × Item) (old n room : ℕ) → all ≡ seen ++ left → left ≡ e ∷ rest
    → n ≤ old + length seen → room ≤ n → old + length all ≤ room → ⊥
no_room all seen left rest e old n room so_far step few full fits =
    let whole = ap length so_far in
    let more = ap length step in
    omega (arith, whole, more, length-append seen left)

-- ---- block after block

pub none_taken : (frame : Frame) (rising : Bool) (chain : List Place) (k : ℕ) (steps : Steps) (w : Work) (strays : List Stray) → strays ≡ []
    → AreStraysTo frame rising chain k steps w 0 strays
none_taken frame rising chain k steps w strays e = record {
  only = λ x has. let nothing = subst (λ (xs : List Stray). Contains xs x) e has in absurd (omega (arith, nothing.1));
  all = λ edge item s hand below owned runs is near. absurd (omega arith);
}

pub block_taken : (frame : Frame) (rising : Bool) (chain : List Place) (k : ℕ) (steps : Steps) (w : Work) (whole block : Extent)
    (start end : ℕ) (found : List (ℕ × Item)) (old new : List Stray) → AreItemsIn w block.low block.high found
    → AreFoundIn chain start end steps whole block → All (IsInBox whole.low whole.high) chain → end < length chain
    → AreStraysOf frame rising chain k steps (take (end + 1 - start) (drop start chain)) old found new
    → AreStraysTo frame rising chain k steps w start old → AreStraysTo frame rising chain k steps w end new
block_taken frame rising chain k steps w whole block start end found old new items in_block box within taken to = record {
  only = λ x has.
      elim (taken.only x has) [
        | inl early ↦ to.only x early
        | inr f ↦ record { item = f.item; owned = items.only f.number f.item f.found_item; is = f.is }
      ];
  all = λ edge item s hand below owned runs is near.
      elim (cases_lt edge start) [
        | inl less ↦
            elim (to.all edge item s hand less owned runs is near) [
              | inl has ↦ inl (taken.kept (stray s hand item.at) has)
              | inr beyond ↦ inr beyond
            ]
        | inr low ↦
            elim (in_box_or_beyond whole.low whole.high item.at chain box) [
              | inl inside ↦
                  let there = items.all item.owner item.at owned
                  (in_box_tested block.low block.high item.at (in_block edge item.at low below near inside)) in
                  inl (taken.all there.0 item s hand there.1 runs is
                  (near_in_part steps chain item.at start end edge within low below near))
              | inr beyond ↦ inr beyond
            ]
      ];
}

-- ---- part after part of an edge

pub no_parts_taken : (frame : Frame) (rising : Bool) (chain : List Place) (k : ℕ) (steps : Steps) (w : Work) (edge parts : ℕ) (strays :
    List Stray) → AreStraysTo frame rising chain k steps w edge strays → AreStraysInParts frame rising chain k steps w edge parts 0 strays
no_parts_taken frame rising chain k steps w edge parts strays to =
    record { before = to; all = λ part item s hand below owned runs is near at. absurd (omega arith) }

pub part_taken : (frame : Frame) (rising : Bool) (chain : List Place) (k : ℕ) (steps : Steps) (w : Work) (whole block : Extent)
    (edge end parts count : ℕ) (a b : Place) (found : List (ℕ × Item)) (old new : List Stray) → AreItemsIn w block.low block.high found
    → AreFoundInPart a b parts count steps whole block → a ≡ vertex_at chain edge → b ≡ vertex_at chain (edge + 1) → end ≡ edge + 1
    → All (IsInBox whole.low whole.high) chain → end < length chain
    → AreStraysOf frame rising chain k steps (take (end + 1 - edge) (drop edge chain)) old found new
    → AreStraysInParts frame rising chain k steps w edge parts count old
    → AreStraysInParts frame rising chain k steps w edge parts (count + 1) new
part_taken frame rising chain k steps w whole block edge end parts count a b found old new items in_block first second next box
    within taken to =
    record {
      before = record {
        only = λ x has.
            elim (taken.only x has) [
              | inl early ↦ to.before.only x early
              | inr f ↦ record { item = f.item; owned = items.only f.number f.item f.found_item; is = f.is }
            ];
        all = λ e item s hand below owned runs is near. kept item s hand (to.before.all e item s hand below owned runs is near);
      };
      all = λ part item s hand below owned runs is near at.
          elim (cases_lt part count) [
            | inl less ↦ kept item s hand (to.all part item s hand less owned runs is near at)
            | inr low ↦
                let same : part ≡ count = omega arith in
                elim (in_box_or_beyond whole.low whole.high item.at chain box) [
                  | inl inside ↦
                      let at_count = subst (λ (n : ℕ). IsInPart near.denominator near.numerator parts n) same at in
                      let there = items.all item.owner item.at owned
                      (in_box_tested block.low block.high item.at (by_vertices item.at near at_count inside)) in
                      inl (taken.all there.0 item s hand there.1 runs is
                      (near_in_part steps chain item.at edge end edge within (omega arith) (omega arith) near))
                  | inr beyond ↦ inr beyond
                ]
          ];
    }
  where
    kept : (item : Item) (s : ℕ) (hand : Hand) → Contains old (stray s hand item.at) ⊎ IsBeyond chain item.at
        → Contains new (stray s hand item.at) ⊎ IsBeyond chain item.at
    kept item s hand (inl has) = inl (taken.kept (stray s hand item.at) has)
    kept item s hand (inr beyond) = inr beyond

    by_vertices : (p : Place) (near : IsNearEdge steps chain p edge) → IsInPart near.denominator near.numerator parts count
        → IsInBox whole.low whole.high p → IsInBox block.low block.high p
    by_vertices = subst (λ (u : Place). (p : Place) (near : IsNearSegment steps u (vertex_at chain (edge + 1)) p)
        → IsInPart near.denominator near.numerator parts count → IsInBox whole.low whole.high p → IsInBox block.low block.high p) first
        (subst (λ (v : Place). (p : Place) (near : IsNearSegment steps a v p) → IsInPart near.denominator near.numerator parts count
        → IsInBox whole.low whole.high p → IsInBox block.low block.high p) second in_block)

pub parts_taken : (frame : Frame) (rising : Bool) (chain : List Place) (k : ℕ) (steps : Steps) (w : Work) (edge end parts : ℕ) (strays :
    List Stray) → 0 < parts → end ≡ edge + 1 → AreStraysInParts frame rising chain k steps w edge parts parts strays
    → AreStraysTo frame rising chain k steps w end strays
parts_taken frame rising chain k steps w edge end parts strays some next in_parts = record {
  only = in_parts.before.only;
  all = λ e item s hand below owned runs is near.
      elim (cases_lt e edge) [
        | inl less ↦ in_parts.before.all e item s hand less owned runs is near
        | inr low ↦
            let same : e ≡ edge = omega arith in
            at_edge item s hand owned runs is (subst (λ (n : ℕ). IsNearEdge steps chain item.at n) same near)
      ];
}
  where
    at_edge : (item : Item) (s : ℕ) (hand : Hand) → Owns w.chains w.read.points item.owner item.at → RunsAlong frame rising chain
        → IsStrayItem frame rising chain k item s hand → IsNearEdge steps chain item.at edge
        → Contains strays (stray s hand item.at) ⊎ IsBeyond chain item.at
    at_edge item s hand owned runs is near =
        let part = part_of near.denominator near.numerator parts near.whole near.from_start near.to_end some in
        in_parts.all part.0 item s hand part.1 owned runs is near part.2

pub all_taken : (frame : Frame) (rising : Bool) (chain : List Place) (k : ℕ) (steps : Steps) (w : Work) (upto : ℕ) (strays : List Stray)
    → length chain ≤ upto + 1 → AreStraysTo frame rising chain k steps w upto strays → AreMapStrays frame rising chain k steps w strays
all_taken frame rising chain k steps w upto strays last to = record {
  only = to.only;
  all = λ item s hand owned runs is near. let within = near.within in to.all near.edge item s hand (omega arith) owned runs is near.near;
}

-- ---- the whole chain at once

pub whole_taken : (frame : Frame) (rising : Bool) (chain : List Place) (k : ℕ) (steps : Steps) (w : Work) (whole : Extent) (found :
    List (ℕ × Item)) (before strays : List Stray) → AreItemsIn w whole.low whole.high found → All (IsInBox whole.low whole.high) chain
    → before ≡ [] → AreStraysOf frame rising chain k steps chain before found strays → AreMapStrays frame rising chain k steps w strays
whole_taken frame rising chain k steps w whole found before strays items box empty h = record {
  only = λ x has.
      elim (h.only x has) [
        | inl early ↦ let nothing = subst (λ (xs : List Stray). Contains xs x) empty early in absurd (omega (arith, nothing.1))
        | inr f ↦ record { item = f.item; owned = items.only f.number f.item f.found_item; is = f.is }
      ];
  all = λ item s hand owned runs is near.
      elim (in_box_or_beyond whole.low whole.high item.at chain box) [
        | inl inside ↦
            let there = items.all item.owner item.at owned (in_box_tested whole.low whole.high item.at inside) in
            inl (h.all there.0 item s hand there.1 runs is near)
        | inr beyond ↦ inr beyond
      ];
}

-- ---- in another order

pub strays_sorted : (frame : Frame) (rising : Bool) (chain : List Place) (k : ℕ) (steps : Steps) (w : Work) (old new : List Stray)
    → AreMapStrays frame rising chain k steps w old → ((x : Stray) → Contains old x → Contains new x)
    → ((x : Stray) → Contains new x → Contains old x) → AreMapStrays frame rising chain k steps w new
strays_sorted frame rising chain k steps w old new h to back = record {
  only = λ x has. h.only x (back x has);
  all = λ item s hand owned runs is near.
      elim (h.all item s hand owned runs is near) [
        | inl has ↦ inl (to (stray s hand item.at) has)
        | inr beyond ↦ inr beyond
      ];
}
