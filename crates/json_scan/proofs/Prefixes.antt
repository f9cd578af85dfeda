-- Where the machine stops is the longest viable prefix of the text, and the first bracket in it that is too deep.
use Rattle.std.proofs.Common.{◌≡◌, ℕ, zero, suc, ◌+◌, ◌<◌, ◌≤◌, max, inl, inr, Bool, true, false, cond, List, [], ◌∷◌, ◌++◌, length, get_or}
use Rattle.std.proofs.Common.{take, drop, refl, sym, ap, subst, ◌∙◌, arith, lit<, length-drop, length-take, length-append, take-append-drop}
use Rattle.std.proofs.Common.{take_all, take_at, append-nil, IsCharBoundary}
use Rattle.std.specs.Str.{IsUtf8, is_utf8, chars}
use Rattle.std.proofs.lemmas.Bool.{cases_lt, cases_Bool}
use lib.Utf8.{encode}
use Rattle.std.proofs.lemmas.Str.{is_utf8-from_IsUtf8, IsUtf8-from_is_utf8, IsUtf8-append, IsUtf8-take, IsUtf8-past_char, IsUtf8-from_ascii}
use Rattle.std.proofs.lemmas.Str.{IsCharBoundary-start, IsCharBoundary-after_ascii}
use Rattle.json_scan.specs.declared.node.Node.{Node}
use Rattle.json_scan.specs.Machine.{State, before_value, run, Outcome, Whole, Broken, has_mark, text_start}
use Rattle.json_scan.specs.Walks.{IsTooDeep}
use Rattle.json_scan.specs.Grammar.{Value, Document, IsDocument, IsGap, IsValue, value_then, value_depth, mark_then, document_text}
use Rattle.json_scan.specs.Grammar.{document_nodes}
use Rattle.json_scan.specs.Places.{BeginsWith, IsViable, IsLongestViable, IsDeepBracket, brackets_of_depth}
use Rattle.json_scan.specs.Stops.{outcome_of}
use Rattle.json_scan.proofs.Completed.{completes}
use Rattle.json_scan.proofs.Documents.{no_mark, marked, document-read, document-found}
use Rattle.json_scan.proofs.Viable.{AreAscii, BreaksBehind, breaks, next-finishes, same_place, whole_not_broken}
use Rattle.json_scan.proofs.Limits.{run-same_limits, broken-past, whole-within}
use Rattle.json_scan.proofs.TooDeep.{document-breaks, document-shallow}

-- ---- whole characters

false_is : false ≡ true → ⊥
false_is e = cc

-- a byte order mark that is cut short is not UTF-8
one-not_text : IsUtf8 (239 ∷ []) → ⊥
unfolding is_utf8 chars
one-not_text u = false_is (is_utf8-from_IsUtf8 (239 ∷ []) u)

two-not_text : (b : ℕ) → IsUtf8 (239 ∷ b ∷ []) → ⊥
unfolding is_utf8 chars
two-not_text b u = false_is (is_utf8-from_IsUtf8 (239 ∷ b ∷ []) u)

mark_is-text : IsUtf8 (239 ∷ 187 ∷ 191 ∷ [])
unfolding is_utf8 chars encode
mark_is-text = IsUtf8-from_is_utf8 (239 ∷ 187 ∷ 191 ∷ []) refl

ascii-at : (bytes : List ℕ) → AreAscii bytes → (i : ℕ) → get_or bytes i 0 < 128
ascii-at [] h i = lit< tt
ascii-at (b ∷ bytes) h zero = h.0
ascii-at (b ∷ bytes) h (suc i) = ascii-at bytes h.1 i

-- the machine never stops inside a character
stops-whole : (limit : ℕ) (s : State) (bytes : List ℕ) (at n : ℕ) (t : State) → IsUtf8 bytes → BreaksBehind limit s bytes at n t
    → IsCharBoundary bytes n
stops-whole limit s bytes at zero t u r = IsCharBoundary-start bytes u
stops-whole limit s bytes at (suc k) t u r =
    elim (cases_lt (get_or bytes k 0) 128) [
      | inl low ↦ let place : k + 1 ≡ suc k = omega arith in
          subst (IsCharBoundary bytes) place (IsCharBoundary-after_ascii bytes k u (omega (arith, r.within)) low)
      | inr high ↦ (r.within, λ lt h. absurd (r.high k refl high (get_or bytes (suc k) 0) h (r.stops lt)))
    ]

-- ---- the byte order mark

start-within : (text : List ℕ) → text_start text ≤ length text
start-within text = go (has_mark text) refl
  where
    go : (m : Bool) → has_mark text ≡ m → cond m 3 0 ≤ length text
    go true h = let e : length text ≡ suc (suc (suc (length (drop 3 text)))) = ap length (marked text h) in omega (arith, e)
    go false h = omega arith

-- the front of a text, and the front of what follows its mark
front-marked : (text : List ℕ) (n : ℕ) → mark_then (has_mark text) (take n (drop (text_start text) text)) ≡ take (text_start text + n) text
front-marked text n = go (has_mark text) refl
  where
    go : (m : Bool) → has_mark text ≡ m → mark_then m (take n (drop (cond m 3 0) text)) ≡ take (cond m 3 0 + n) text
    go true h =
        let e : suc (suc (suc n)) ≡ 3 + n = omega arith in
        ap (take (suc (suc (suc n)))) (sym (marked text h)) ∙ ap (λ (k : ℕ). take k text) e
    go false h = let e : n ≡ 0 + n = omega arith in ap (λ (k : ℕ). take k text) e

mark-then_more : (m : Bool) (xs ys : List ℕ) → mark_then m (xs ++ ys) ≡ mark_then m xs ++ ys
mark-then_more true xs ys = refl
mark-then_more false xs ys = refl

body-text : (text : List ℕ) → IsUtf8 text → IsUtf8 (drop (text_start text) text)
unfolding encode
body-text text u = go (has_mark text) refl
  where
    go : (m : Bool) → has_mark text ≡ m → IsUtf8 (drop (cond m 3 0) text)
    go true h = IsUtf8-past_char text (drop 3 text) 65279 u (marked text h)
    go false h = u

mark-then_text : (m : Bool) (bytes : List ℕ) → IsUtf8 bytes → IsUtf8 (mark_then m bytes)
mark-then_text true bytes u = IsUtf8-append (239 ∷ 187 ∷ 191 ∷ []) bytes mark_is-text u
mark-then_text false bytes u = u

-- a text that begins with the first n bytes of another has the same mark
pub record SharesMark (text : List ℕ) (n : ℕ) (other rest : List ℕ) : Type 0 where
  pub start : text_start other ≡ text_start text
  pub size : ℕ
  pub place : n ≡ text_start text + size
  pub body : drop (text_start text) other ≡ take size (drop (text_start text) text) ++ rest

no_mark-shares : (a : ℕ) (bs : List ℕ) (k : ℕ) (rest : List ℕ) → (a ≡ 239 → ⊥) → SharesMark (a ∷ bs) (suc k) (a ∷ take k bs ++ rest) rest
no_mark-shares a bs k rest h =
    let none : text_start (a ∷ bs) ≡ 0 = ap (λ (m : Bool). cond m 3 0) (no_mark a bs h) in
    let none_there : text_start (a ∷ take k bs ++ rest) ≡ 0 = ap (λ (m : Bool). cond m 3 0) (no_mark a (take k bs ++ rest) h) in
    record {
      start = none_there ∙ sym none;
      size = suc k;
      place = omega (arith, none);
      body = subst (λ (s : ℕ). drop s (a ∷ take k bs ++ rest) ≡ take (suc k) (drop s (a ∷ bs)) ++ rest) (sym none) refl;
    }

three-share : (a b c : ℕ) (more : List ℕ) (k : ℕ) (rest : List ℕ)
    → SharesMark (a ∷ b ∷ c ∷ more) (suc (suc (suc k))) (a ∷ b ∷ c ∷ take k more ++ rest) rest
three-share a b c more k rest =
    elim (cases_Bool (has_mark (a ∷ b ∷ c ∷ more))) [
      | inl h ↦
          let three : text_start (a ∷ b ∷ c ∷ more) ≡ 3 = ap (λ (m : Bool). cond m 3 0) h in
          record {
            start = refl;
            size = k;
            place = omega (arith, three);
            body = subst (λ (s : ℕ). drop s (a ∷ b ∷ c ∷ take k more ++ rest) ≡ take k (drop s (a ∷ b ∷ c ∷ more)) ++ rest)
                (sym three) refl;
          }
      | inr h ↦
          let none : text_start (a ∷ b ∷ c ∷ more) ≡ 0 = ap (λ (m : Bool). cond m 3 0) h in
          record {
            start = refl;
            size = suc (suc (suc k));
            place = omega (arith, none);
            body = subst
                (λ (s : ℕ). drop s (a ∷ b ∷ c ∷ take k more ++ rest) ≡ take (suc (suc (suc k))) (drop s (a ∷ b ∷ c ∷ more)) ++ rest)
                (sym none) refl;
          }
    ]

front-shares : (text : List ℕ) (n : ℕ) (rest : List ℕ) → 0 < n → n ≤ length text → IsUtf8 (take n text)
    → SharesMark text n (take n text ++ rest) rest
front-shares [] n rest some le u = absurd (omega arith)
front-shares (a ∷ bs) zero rest some le u = absurd (omega arith)
front-shares (a ∷ bs) (suc zero) rest some le u = no_mark-shares a bs zero rest (λ e. one-not_text (subst (λ (x : ℕ). IsUtf8 (x ∷ [])) e u))
front-shares (a ∷ []) (suc (suc k)) rest some le u = absurd (omega arith)
front-shares (a ∷ b ∷ bs) (suc (suc zero)) rest some le u =
    no_mark-shares a (b ∷ bs) (suc zero) rest (λ e. two-not_text b (subst (λ (x : ℕ). IsUtf8 (x ∷ b ∷ [])) e u))
front-shares (a ∷ b ∷ []) (suc (suc (suc k))) rest some le u = absurd (omega arith)
front-shares (a ∷ b ∷ c ∷ more) (suc (suc (suc k))) rest some le u = three-share a b c more k rest

shares : (text : List ℕ) (n : ℕ) (w : IsViable text n) (d : Document) (begins : BeginsWith text n d) → 0 < n
    → SharesMark text n (document_text d) begins.rest
shares text n w d begins some = subst (λ (other : List ℕ). SharesMark text n other begins.rest) (sym begins.spelled)
    (front-shares text n begins.rest some w.within w.whole)

-- what comes of a text that shares a front
shared-outcome : (limit : ℕ) (text : List ℕ) (n : ℕ) (other rest : List ℕ) (share : SharesMark text n other rest)
    → outcome_of limit other ≡ run limit (before_value (text_start text)) (take share.size (drop (text_start text) text) ++ rest)
shared-outcome limit text n other rest share =
    ap (λ (s : ℕ). run limit (before_value s) (drop s other)) share.start ∙ ap (run limit (before_value (text_start text))) share.body

size-within : (text : List ℕ) (n : ℕ) (other rest : List ℕ) (share : SharesMark text n other rest) → n ≤ length text
    → share.size ≤ length (drop (text_start text) text)
size-within text n other rest share le = omega (arith, share.place, length-drop (text_start text) text)

-- ---- the longest viable prefix

-- where the machine stops, a document can be finished
stopped-viable : (limit : ℕ) (text : List ℕ) (at : ℕ) → IsUtf8 text → outcome_of limit text ≡ Broken at → IsViable text at
stopped-viable limit text at u broken = build (breaks limit (drop (text_start text) text) (before_value (text_start text)) at tt broken)
  where
    start : ℕ
    start = text_start text

    body : List ℕ
    body = drop start text

    finish : (n : ℕ) (tail : List ℕ) → IsCharBoundary body n → n ≤ length body → at ≡ start + n → AreAscii tail
        → ((before : List ℕ) × (v : Value) × (after : List ℕ) × IsGap before × IsValue v × (0 + value_depth v ≤ max 0 limit)
        × (take n body ++ tail ≡ before ++ value_then v after) × IsGap after) → IsViable text at
    finish n tail cut le place ascii (before, v, after, gap, fits, deep, e, behind) =
        let d : Document = record { mark = has_mark text; before = before; value = v; after = after } in
        let front : mark_then (has_mark text) (take n body) ≡ take at text = front-marked text n
        ∙ ap (λ (k : ℕ). take k text) (sym place) in
        let spelled : document_text d ≡ take at text ++ tail = ap (mark_then (has_mark text)) (sym e)
        ∙ mark-then_more (has_mark text) (take n body) tail ∙ ap (λ (l : List ℕ). l ++ tail) front in
        let whole : IsUtf8 (take at text) = subst IsUtf8 front
        (mark-then_text (has_mark text) (take n body) (IsUtf8-take body n (body-text text u) cut)) in
        record {
          within = omega (arith, place, le, length-drop start text, start-within text);
          whole = whole;
          document = d;
          begins = record {
            is_document = record { before = gap; value = fits; after = behind };
            utf8 = subst IsUtf8 (sym spelled) (IsUtf8-append (take at text) tail whole (IsUtf8-from_ascii tail (ascii-at tail ascii)));
            rest = tail;
            spelled = spelled;
          };
        }

    build : ((n : ℕ) × (t : State) × BreaksBehind limit (before_value start) body at n t) → IsViable text at
    build (n, t, r) =
        let f = next-finishes limit t.next t.opened t.nodes t.place r.live in
        finish n f.0 (stops-whole limit (before_value start) body at n t (body-text text u) r) r.within r.place f.3
        (completes limit (take n body ++ f.0) (before_value start) f.1 (r.front f.0 ∙ f.2))

-- a document that begins with more than the machine takes
no_longer : (least : ℕ) (text : List ℕ) (at m : ℕ) → ((limit : ℕ) → least ≤ limit → outcome_of limit text ≡ Broken at) → IsViable text m
    → at < m → ⊥
no_longer least text at m broken w lt =
    let d = w.document in
    let share = shares text m w d w.begins (omega arith) in
    let limit = max least (value_depth d.value) in
    let c = breaks limit (drop (text_start text) text) (before_value (text_start text)) at tt (broken limit (omega arith)) in
    let stopped = c.2.longer share.size w.begins.rest (omega (arith, c.2.place, share.place))
    (size-within text m (document_text d) w.begins.rest share w.within) in
    let ran = document-read limit d w.begins.is_document (omega arith) in
    whole_not_broken (document_nodes d) at (sym ran ∙ shared-outcome limit text m (document_text d) w.begins.rest share ∙ stopped)

pub stops-longest : (least : ℕ) (text : List ℕ) (at : ℕ) → IsUtf8 text → ((limit : ℕ) → least ≤ limit → outcome_of limit text ≡ Broken at)
    → IsLongestViable text at
stops-longest least text at u broken = record {
  viable = stopped-viable least text at u (broken least (omega arith));
  longest = λ m w. elim (cases_lt at m) [ inl lt ↦ absurd (no_longer least text at m broken w lt) | inr le ↦ le ];
}

-- a JSON text is viable to its end
pub json-viable : (text : List ℕ) (d : Document) → IsUtf8 text → IsDocument d → text ≡ document_text d → IsViable text (length text)
json-viable text d u is spelled =
    let all : take (length text) text ≡ text = take_all (length text) text (omega arith) in
    record {
      within = omega arith;
      whole = subst IsUtf8 (sym all) u;
      document = d;
      begins = record {
        is_document = is;
        utf8 = subst IsUtf8 spelled u;
        rest = [];
        spelled = sym spelled ∙ sym all ∙ sym (append-nil (take (length text) text));
      };
    }

-- of a JSON text the longest viable prefix is all of it
whole-longest : (limit : ℕ) (text : List ℕ) (nodes : List Node) → IsUtf8 text → outcome_of limit text ≡ Whole nodes
    → IsLongestViable text (length text)
whole-longest limit text nodes u ran =
    let found = document-found limit text nodes ran in
    record { viable = json-viable text found.0 u found.1.document found.1.spelled; longest = λ m w. w.within }

-- no more can be open than there are bytes
abbrev pub deepest : List ℕ → ℕ
deepest text = 65 + length text

-- the machine that is never stopped by a limit stops at the end of a JSON text, or behind its longest viable prefix
pub data Stop (text : List ℕ) (n : ℕ) : Type 0 where
  AtEnd : (nodes : List Node) → n ≡ length text → outcome_of (deepest text) text ≡ Whole nodes → Stop text n
  Inside : outcome_of (deepest text) text ≡ Broken n → Stop text n

pub longest-found : (text : List ℕ) → IsUtf8 text → (n : ℕ) × IsLongestViable text n × Stop text n
longest-found text u = go (outcome_of (deepest text) text) refl
  where
    go : (o : Outcome) → outcome_of (deepest text) text ≡ o → (n : ℕ) × IsLongestViable text n × Stop text n
    go (Whole nodes) e = (length text, whole-longest (deepest text) text nodes u e, AtEnd nodes refl e)
    go (Broken n) e = (
      n,
      stops-longest (deepest text) text n u
          (λ limit le. run-same_limits limit (deepest text) (drop (text_start text) text) (before_value (text_start text))
          (omega (arith, le, length-drop (text_start text) text)) (omega (arith, length-drop (text_start text) text)) ∙ e),
      Inside e,
    )

pub longest-unique : (text : List ℕ) (n m : ℕ) → IsLongestViable text n → IsLongestViable text m → n ≡ m
longest-unique text n m a b = let le = b.longest n a.viable in let ge = a.longest m b.viable in omega (arith, le, ge)

-- ---- the first bracket that is too deep

taken-front : (size : ℕ) (bytes rest : List ℕ) → size ≤ length bytes → take size (take size bytes ++ rest) ≡ take size bytes
taken-front size bytes rest le = take_at (take size bytes) rest size (omega (arith, le, length-take size bytes))

-- the machine with limit 64 stops at it
pub deep-stops : (text : List ℕ) (n at : ℕ) → IsLongestViable text n → IsDeepBracket text n at → outcome_of 64 text ≡ Broken at
deep-stops text n at long deep =
    let d = deep.document in
    let rest = deep.begins.rest in
    let start = text_start text in
    let body = drop start text in
    let share = shares text n long.viable d deep.begins (omega (arith, deep.before)) in
    let le = size-within text n (document_text d) rest share long.viable.within in
    let there = sym (shared-outcome 64 text n (document_text d) rest share)
    ∙ document-breaks d at deep.others deep.begins.is_document deep.brackets in
    let c = breaks 64 (take share.size body ++ rest) (before_value start) at tt there in
    let fits : share.size ≤ length (take share.size body ++ rest) =
    omega (arith, le, length-append (take share.size body) rest, length-take share.size body) in
    let stopped = c.2.longer share.size (drop share.size body) (omega (arith, c.2.place, share.place, deep.before)) fits in
    let front : take share.size (take share.size body ++ rest) ≡ take share.size body = taken-front share.size body rest le in
    ap (run 64 (before_value start)) (sym (take-append-drop share.size body) ∙ ap (λ (l : List ℕ). l ++ drop share.size body) (sym front))
    ∙ stopped

-- where the machine with limit 64 stops before the end of the longest viable prefix
pub stops-deep : (text : List ℕ) (n at : ℕ) → IsLongestViable text n → at < n → outcome_of 64 text ≡ Broken at → IsDeepBracket text n at
stops-deep text n at long lt broken = go (brackets_of_depth 65 d) refl
  where
    d : Document
    d = long.viable.document

    there : outcome_of 64 (document_text d) ≡ Broken at
    there =
        let share = shares text n long.viable d long.viable.begins (omega arith) in
        let c = breaks 64 (drop (text_start text) text) (before_value (text_start text)) at tt broken in
        let le = size-within text n (document_text d) long.viable.begins.rest share long.viable.within in
        shared-outcome 64 text n (document_text d) long.viable.begins.rest share
        ∙ c.2.longer share.size long.viable.begins.rest (omega (arith, c.2.place, share.place)) le

    go : (brackets : List ℕ) → brackets_of_depth 65 d ≡ brackets → IsDeepBracket text n at
    go [] e =
        absurd (whole_not_broken (document_nodes d) at
        (sym (document-read 64 d long.viable.begins.is_document (document-shallow d e)) ∙ there))
    go (x ∷ others) e =
        let same : at ≡ x = same_place x at (sym (document-breaks d x others long.viable.begins.is_document e) ∙ there) in
        record {
          before = lt;
          document = d;
          begins = long.viable.begins;
          others = others;
          brackets = e ∙ ap (λ (k : ℕ). k ∷ others) (sym same);
        }

-- what the code says of a bracket that is too deep
pub too_deep-found : (text : List ℕ) (at : ℕ) → IsUtf8 text → IsTooDeep text (before_value (text_start text)) at
    → (n : ℕ) × IsLongestViable text n × IsDeepBracket text n at
too_deep-found text at u deep = build (longest-found text u) (deep.deeper (deepest text) (omega arith))
  where
    past : (n : ℕ) → Stop text n
        → ((new : State) × (new.place ≡ at + 1) × (length new.opened ≡ 65)
        × (outcome_of (deepest text) text ≡ run (deepest text) new (drop new.place text))) → at < n
    past n (AtEnd nodes e ran) (new, place, many, same) =
        let inside = whole-within (deepest text) text new nodes (sym same ∙ ran) (omega (arith, many)) in
        omega (arith, place, e, inside)
    past n (Inside ran) (new, place, many, same) =
        let behind = broken-past (deepest text) (drop new.place text) new n (sym same ∙ ran) in
        omega (arith, place, behind)

    build : ((n : ℕ) × IsLongestViable text n × Stop text n)
        → ((new : State) × (new.place ≡ at + 1) × (length new.opened ≡ 65)
        × (outcome_of (deepest text) text ≡ run (deepest text) new (drop new.place text)))
        → (n : ℕ) × IsLongestViable text n × IsDeepBracket text n at
    build (n, long, stop) goes_on = (n, long, stops-deep text n at long (past n stop goes_on) deep.stops)
