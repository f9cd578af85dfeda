-- Records that are read one after the other from a text.
use Rattle.std.proofs.Common.{◌≡◌, ◌+◌, ◌≤◌, ◌^◌, ◌==◌, ℕ, true≢false, min, List, [], ◌∷◌, ◌++◌, map, drop, length, All, Some, slice_get}
use Rattle.std.proofs.Common.{refl, sym, ap, ◌∙◌, subst, arith, append_assoc, append-nil}
use Rattle.std.proofs.lemmas.List.Elements.{All-head, All-tail}
use Rattle.json.proofs.Found.{Some_inj}
use Rattle.arc_map.specs.Records.{Record, Records, Fits, pushed}
use Rattle.cert_format.specs.Certificate.{IsRecord, further, record_text}
use Rattle.cert_format.specs.Parts.{joined, count, behind_comma}
use Rattle.cert_format.proofs.Framing.{record_body, count_both, count_one, commas_record}

-- the kept places, and the layers, of all records together
abbrev pub kept_sum : List Record → ℕ
kept_sum [] = 0
kept_sum (r ∷ rs) = length r.kept + kept_sum rs

abbrev pub layers_sum : List Record → ℕ
layers_sum [] = 0
layers_sum (r ∷ rs) = length r.layers + layers_sum rs

-- what is left of a text are records, with which those so far are all, and there is room for them
pub record AreLeft (left : List ℕ) (now : Records) (rs : List Record) (rest : List ℕ) : Type 0 where
  pub more : List Record
  pub is : left ≡ joined (map record_text more) ++ 93 ∷ rest
  pub fit : All IsRecord more
  pub all : now.entries ++ more ≡ rs
  pub room : length more ≤ now.room
  pub kept : kept_sum more ≤ now.kept_room
  pub layers : layers_sum more ≤ now.layers_room

-- ---- at the start

record Counted (text : List ℕ) (rs : List Record) : Type 0 where
  room : length rs ≤ count 123 text
  kept : kept_sum rs ≤ count 44 text
  layers : layers_sum rs ≤ count 44 text

braces_record : (r : Record) → 1 ≤ count 123 (record_text r)
braces_record r =
    let first : count 123 (record_text r) ≡ 1 + count 123 (drop 1 (record_text r)) = count_one 123 123 (drop 1 (record_text r)) refl in
    omega arith

counted_further : (rs : List Record) → Counted (further (map record_text rs)) rs
counted_further [] = record { room = omega arith; kept = omega arith; layers = omega arith }
counted_further (r ∷ rs) =
    let more = counted_further rs in
    let room = more.room in
    let kept = more.kept in
    let layers = more.layers in
    let own = commas_record r in
    let own_kept = own.0 in
    let own_layers = own.1 in
    let brace = braces_record r in
    let a = count_both 123 (44 ∷ record_text r) (further (map record_text rs)) in
    let b = count_both 44 (44 ∷ record_text r) (further (map record_text rs)) in
    let c = count_both 123 (44 ∷ []) (record_text r) in
    let d = count_both 44 (44 ∷ []) (record_text r) in
    record { room = omega arith; kept = omega arith; layers = omega arith }

counted : (rs : List Record) (rest : List ℕ) → Counted (joined (map record_text rs) ++ rest) rs
counted [] rest = record { room = omega arith; kept = omega arith; layers = omega arith }
counted (r ∷ rs) rest =
    let more = counted_further rs in
    let room = more.room in
    let kept = more.kept in
    let layers = more.layers in
    let own = commas_record r in
    let own_kept = own.0 in
    let own_layers = own.1 in
    let brace = braces_record r in
    let a = count_both 123 (record_text r) (further (map record_text rs)) in
    let b = count_both 44 (record_text r) (further (map record_text rs)) in
    let c = count_both 123 (record_text r ++ further (map record_text rs)) rest in
    let d = count_both 44 (record_text r ++ further (map record_text rs)) rest in
    record { room = omega arith; kept = omega arith; layers = omega arith }

pub starts : (text : List ℕ) (now : Records) (rs : List Record) (rest : List ℕ) → length rs ≤ 2 ^ 20 → All IsRecord rs
    → text ≡ joined (map record_text rs) ++ 93 ∷ rest
    → now.entries ≡ [] → now.room ≡ min (count 123 text) (2 ^ 20) → now.kept_room ≡ count 44 text → now.layers_room ≡ count 44 text
    → AreLeft text now rs rest
starts text now rs rest few fit is none r k l =
    let enough : Counted text rs = subst (λ t. Counted t rs) (sym is) (counted rs (93 ∷ rest)) in
    let room = enough.room in
    let kept = enough.kept in
    let layers = enough.layers in
    record {
      more = rs;
      is = is;
      fit = fit;
      all = ap (λ (es : List Record). es ++ rs) none;
      room = omega arith;
      kept = omega arith;
      layers =
          omega arith;
    }

pub same_left : (left other : List ℕ) (now then : Records) (rs : List Record) (rest : List ℕ) → other ≡ left → then ≡ now
    → AreLeft left now rs rest → AreLeft other then rs rest
same_left left other now then rs rest e f l = subst (λ t. AreLeft t then rs rest) (sym e) (subst (λ n. AreLeft left n rs rest) (sym f) l)

-- ---- one after the other

-- a record stands at the front, and then the others
pub record Next (left : List ℕ) (now : Records) (rs : List Record) (rest : List ℕ) : Type 0 where
  pub item : Record
  pub fits : IsRecord item
  pub room : Fits now item
  pub after : List ℕ
  pub is : left ≡ record_body item ++ 125 ∷ after
  pub goes : AreLeft (behind_comma after) (pushed now item) rs rest

uncomma : (rs : List Record) (rest : List ℕ)
    → behind_comma (further (map record_text rs) ++ 93 ∷ rest) ≡ joined (map record_text rs) ++ 93 ∷ rest
uncomma [] rest = refl
uncomma (r ∷ rs) rest = refl

pub next : (left : List ℕ) (now : Records) (rs : List Record) (rest : List ℕ) → slice_get left 0 ≡ Some 123 → AreLeft left now rs rest
    → Next left now rs rest
next left now rs rest begins l = at l.more l.is l.fit l.all l.room l.kept l.layers
  where
    at : (more : List Record) → left ≡ joined (map record_text more) ++ 93 ∷ rest → All IsRecord more → now.entries ++ more ≡ rs
        → length more ≤ now.room → kept_sum more ≤ now.kept_room → layers_sum more ≤ now.layers_room → Next left now rs rest
    at [] is fit all room kept layers = let e : 93 ≡ 123 = Some_inj 93 123 (sym (ap (λ t. slice_get t 0) is) ∙ begins) in
        absurd (true≢false (ap (λ n. n == 93) e))
    at (r ∷ more) is fit all room kept layers = record {
      item = r;
      fits = All-head IsRecord r more fit;
      room = record { entry = omega arith; kept = omega arith; layers = omega arith };
      after = further (map record_text more) ++ 93 ∷ rest;
      is = is ∙ append_assoc (record_text r) (further (map record_text more)) (93 ∷ rest)
          ∙ append_assoc (record_body r) (125 ∷ []) (further (map record_text more) ++ 93 ∷ rest);
      goes = record {
        more = more;
        is = uncomma more rest;
        fit = All-tail IsRecord r more fit;
        all = append_assoc now.entries (r ∷ []) more ∙ all;
        room = omega arith;
        kept = omega arith;
        layers = omega arith;
      };
    }

-- no record stands at the front, so all are read
pub record Ended (left : List ℕ) (now : Records) (rs : List Record) (rest : List ℕ) : Type 0 where
  pub all : now.entries ≡ rs
  pub is : left ≡ 93 ∷ rest

pub at_end : (left : List ℕ) (now : Records) (rs : List Record) (rest : List ℕ) → ¬ (slice_get left 0 ≡ Some 123) → AreLeft left now rs rest
    → Ended left now rs rest
at_end left now rs rest ends l = at l.more l.is l.all
  where
    at : (more : List Record) → left ≡ joined (map record_text more) ++ 93 ∷ rest → now.entries ++ more ≡ rs → Ended left now rs rest
    at [] is all = record { all = sym (append-nil now.entries) ∙ all; is = is }
    at (r ∷ more) is all = absurd (ends (ap (λ t. slice_get t 0) is))
